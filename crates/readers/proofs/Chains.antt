-- What chains over the first n of a list say of its places.
use Rattle.std.proofs.Common.{◌≡◌, ℕ, zero, suc, ◌+◌, ◌*◌, ◌^◌, ◌<◌, ◌≤◌, Bool, ◌&&◌, List, get_or, length, take, sum_by, refl, ap, sym, ◌∙◌, arith, add-one, zero-add}
use Rattle.std.proofs.Math.Bool.{and_comm}
use Rattle.std.proofs.Math.Path.{ap₂}
use Rattle.std.specs.List.{enumerate_from, list_all, range_with_len, zip}
use Rattle.std.proofs.lemmas.List.{take_all}
use Rattle.std.proofs.lemmas.List.Folds.{list_all_more}
use Rattle.std.proofs.lemmas.List.Sums.{sum_by_more}
use Rattle.std.proofs.lemmas.List.FromFn.{get_or-enumerate_from, get_or-range_with_len, length-enumerate_from, length-range_with_len}
use Rattle.std.proofs.lemmas.Slice.Zip.{get_or-zip, length-zip}
use Rattle.banks.proofs.Below.{sum_capped}
use Rattle.banks.specs.Places.{age_at, every_below, sum_below}

module _ {X : Type 0} (xs : List X) (d : X) where
  -- a test of each of them
  pub list_all_below : (test : X → Bool) (p : ℕ → Bool) (n : ℕ) → n ≤ length xs → ((i : ℕ) → i < n → test (get_or xs i d) ≡ p i) → list_all test (take n xs) ≡ every_below n p
  unfolding every_below
  list_all_below test p zero long at = refl
  list_all_below test p (suc n) long at =
      ap (λ (k : ℕ). list_all test (take k xs)) (sym (add-one n)) ∙ list_all_more test xs n d (omega arith)
      ∙ and_comm (list_all test (take n xs)) (test (get_or xs n d))
      ∙ ap₂ (λ (a b : Bool). a && b) (at n (omega arith)) (list_all_below test p n (omega arith) (λ i h. at i (omega arith)))

  -- their sum
  pub sum_by_below : (f : X → ℕ) (g : ℕ → ℕ) (n : ℕ) → n ≤ length xs → ((i : ℕ) → i < n → f (get_or xs i d) ≡ g i) → sum_by f (take n xs) ≡ sum_below n g
  unfolding sum_below
  sum_by_below f g zero long at = refl
  sum_by_below f g (suc n) long at =
      ap (λ (k : ℕ). sum_by f (take k xs)) (sym (add-one n)) ∙ sum_by_more f xs n d (omega arith)
      ∙ ap₂ (λ (a b : ℕ). a + b) (sum_by_below f g n (omega arith) (λ i h. at i (omega arith))) (at n (omega arith))

-- the first n of a list with their numbers
enumerated_at : (xs : List ℕ) (i : ℕ) → i < length xs → get_or (enumerate_from 0 xs) i (0, 0) ≡ (i, get_or xs i 0)
enumerated_at xs i h = get_or-enumerate_from 0 xs i (0, 0) h ∙ ap (λ (k : ℕ). (k, get_or xs i 0)) (zero-add i)

pub list_all_enumerated : (test : ℕ × ℕ → Bool) (xs : List ℕ) (n : ℕ) → n ≤ length xs → list_all test (take n (enumerate_from 0 xs)) ≡ every_below n (λ i. test (i, age_at xs i))
list_all_enumerated test xs n long =
    list_all_below (enumerate_from 0 xs) (0, 0) test (λ i. test (i, age_at xs i)) n (omega (arith, long, length-enumerate_from 0 xs))
    (λ i h. ap test (enumerated_at xs i (omega arith)))

-- the numbers below n
pub list_all_ranged : (test : ℕ → Bool) (n : ℕ) → list_all test (range_with_len 0 n) ≡ every_below n test
list_all_ranged test n =
    ap (list_all test) (sym (take_all n (range_with_len 0 n) (omega (arith, length-range_with_len 0 n))))
    ∙ list_all_below (range_with_len 0 n) 0 test test n (omega (arith, length-range_with_len 0 n))
    (λ i h. ap test (get_or-range_with_len 0 n i 0 h ∙ zero-add i))

-- the first n of two lists side by side
pub list_all_zipped : (test : ℕ × ℕ → Bool) (xs ys : List ℕ) (n : ℕ) → n ≤ length xs → n ≤ length ys → list_all test (take n (zip xs ys)) ≡ every_below n (λ i. test (age_at xs i, age_at ys i))
list_all_zipped test xs ys n long also =
    list_all_below (zip xs ys) (0, 0) test (λ i. test (age_at xs i, age_at ys i)) n (omega (arith, long, also, length-zip xs ys))
    (λ i h. ap test (get_or-zip xs ys i (0, 0) (omega arith) (omega arith)))

-- numbers of 16 bits add up to so much at most
pub sum_small : (xs : List ℕ) (n : ℕ) → n ≤ length xs → ((i : ℕ) → age_at xs i < 2 ^ 16) → (sum_by (λ x. x) (take n xs) ≡ sum_below n (age_at xs)) × (sum_below n (age_at xs) ≤ 65535 * n)
sum_small xs n long small =
    (sum_by_below xs 0 (λ x. x) (age_at xs) n long (λ i h. refl), sum_capped (age_at xs) n 65535 (λ i h. let s = small i in omega arith))
