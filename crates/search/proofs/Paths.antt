-- The rows on the path, as a list.
use Rattle.std.proofs.Common.{◌≡◌, ℕ, suc, ◌+◌, ◌-◌, ◌<◌, ◌≤◌, Bool, true, false, cond, List, [], ◌∷◌, ◌++◌, length, get_or, take, drop, set, All, filter, sym, refl, ap, ◌∙◌, subst, ap₂, arith}
use lib.Seq.{take-set-lt}
use Rattle.std.specs.List.{HoldsAt, AllWithin}
use Rattle.std.proofs.lemmas.List.Elements.{All-from_get_or, All-head, All-tail, filter-append}
use Rattle.std.proofs.lemmas.List.{drop-drop, drop_more, get_or-drop, get_or-take, length-drop, length-take-le, set_split, take-append-drop}
use Rattle.std.proofs.lemmas.Bool.{cond-false, cond-true}

pub kept_none : {X : Type 0} (test : X → Bool) (xs : List X) → All (λ x. test x ≡ false) xs → filter test xs ≡ []
kept_none test [] h = refl
kept_none test (x ∷ xs) h = cond-false (test x) (x ∷ filter test xs) (filter test xs) (All-head (λ y. test y ≡ false) x xs h) ∙ kept_none test xs (All-tail (λ y. test y ≡ false) x xs h)

-- a list around one place
pub split_at : {X : Type 0} (xs : List X) (i : ℕ) (d : X) → i < length xs → xs ≡ take i xs ++ get_or xs i d ∷ drop (i + 1) xs
split_at xs i d h = sym (take-append-drop i xs) ∙ ap (λ ys. take i xs ++ ys) (drop_more xs i d h)

-- Row `at` is the latest of the first n that passes.
module _ {X : Type 0} (test : X → Bool) (rows : List X) (n at : ℕ) (d : X) (within : n ≤ length rows) (low : at < n) (later : AllWithin (λ x. test x ≡ false) rows (at + 1) n) where
  long : length (take n rows) ≡ n
  long = length-take-le n rows within

  later_none : (i : ℕ) → at + 1 ≤ i → filter test (drop i (take n rows)) ≡ []
  later_none i h =
      kept_none test (drop i (take n rows)) (All-from_get_or (λ x. test x ≡ false) (drop i (take n rows)) d (λ k l.
      let shorter = length-drop i (take n rows) in
      let inside : i + k < n = omega (arith, long, shorter) in
      subst (λ x. test x ≡ false) (sym (get_or-drop i (take n rows) k d ∙ get_or-take n rows (i + k) d inside)) (later (i + k) d (omega arith) inside)))

  -- so it is the last that passes, from any place on
  pub kept_from : HoldsAt (λ x. test x ≡ true) rows at → (i : ℕ) → i ≤ at → filter test (drop i (take n rows)) ≡ filter test (take (at - i) (drop i (take n rows))) ++ get_or rows at d ∷ []
  kept_from passes i h =
      let ys = drop i (take n rows) in
      let k = at - i in
      let inside : k < length ys = omega (arith, length-drop i (take n rows), long) in
      let there : i + k ≡ at = omega arith in
      let read : get_or ys k d ≡ get_or rows at d = get_or-drop i (take n rows) k d ∙ ap (λ j. get_or (take n rows) j d) there ∙ get_or-take n rows at d low in
      let none : filter test (drop (k + 1) ys) ≡ [] = ap (filter test) (drop-drop (k + 1) i (take n rows)) ∙ later_none (i + (k + 1)) (omega arith) in
      ap (filter test) (split_at ys k d inside)
      ∙ filter-append test (take k ys) (get_or ys k d ∷ drop (k + 1) ys)
      ∙ ap (λ zs. filter test (take k ys) ++ zs) (cond-true (test (get_or ys k d)) _ _ (ap test read ∙ passes d) ∙ ap₂ (λ x xs. x ∷ xs) read none)

  -- another row in its place
  pub kept_set : (x : X) → filter test (take n (set rows at x)) ≡ filter test (take at (take n rows)) ++ cond (test x) (x ∷ []) []
  kept_set x =
      let xs = take n rows in
      let none : filter test (drop (suc at) xs) ≡ [] = later_none (suc at) (omega arith) in
      ap (filter test) (take-set-lt n rows at x low ∙ set_split xs at x (omega (arith, long)))
      ∙ filter-append test (take at xs) (x ∷ drop (suc at) xs)
      ∙ ap (λ zs. filter test (take at xs) ++ cond (test x) (x ∷ zs) zs) none
