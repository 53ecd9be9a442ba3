-- Tests and sums over the numbers below n.
use Rattle.std.proofs.Common.{◌≡◌, ℕ, zero, suc, ◌+◌, ◌*◌, ◌<◌, ◌≤◌, Bool, true, false, leb, Decides, refl, subst, ⊎_elim, mul-suc, add-one, arith}
use Rattle.std.proofs.lemmas.Bool.{leb-true, le-leb, cases_Bool, cases_lt}
use Rattle.std.proofs.lemmas.Bool.Decides.{Decides-below_and}
use Rattle.banks.specs.Places.{every_below, sum_below}

pub leb_decides : (a b : ℕ) → Decides (leb a b) (a ≤ b)
leb_decides a b = (leb-true a b, le-leb a b)

-- a test that passes at every number below n passes at each
pub every_true : (p : ℕ → Bool) (n : ℕ) → every_below n p ≡ true → (i : ℕ) → i < n → p i ≡ true
unfolding every_below
every_true p n = (Decides-below_and p (λ i. p i ≡ true) (λ k. every_below k p) (λ i. (λ h. h, λ h. h)) refl (λ _. refl) n).0

module _ (f g : ℕ → ℕ) where
  -- a test of f against g passes at every number below n exactly when f is at most g there
  pub every_decides : (n : ℕ) → Decides (every_below n (λ i. leb (f i) (g i))) ((i : ℕ) → i < n → f i ≤ g i)
  unfolding every_below
  every_decides n =
      Decides-below_and (λ i. leb (f i) (g i)) (λ i. f i ≤ g i) (λ k. every_below k (λ i. leb (f i) (g i)))
      (λ i. leb_decides (f i) (g i)) refl (λ _. refl) n

  pub every_fails : (n i : ℕ) → i < n → g i < f i → every_below n (λ k. leb (f k) (g k)) ≡ false
  every_fails n i h less =
      ⊎_elim
      (λ e. let le : f i ≤ g i = (every_decides n).0 e i h in absurd (omega arith))
      (λ e. e)
      (cases_Bool (every_below n (λ k. leb (f k) (g k))))

  -- sums keep the order, and equal sums leave no strict place
  pub sum_le : (n : ℕ) → ((i : ℕ) → i < n → f i ≤ g i) → sum_below n f ≤ sum_below n g
  unfolding sum_below
  sum_le zero h = omega arith
  sum_le (suc n) h = omega (arith, sum_le n (λ i k. h i (omega arith)), h n (omega arith))

  pub sum_tight : (n : ℕ) → ((i : ℕ) → i < n → f i ≤ g i) → sum_below n g ≤ sum_below n f → (i : ℕ) → i < n → g i ≤ f i
  unfolding sum_below
  sum_tight zero h s i k = absurd (omega arith)
  sum_tight (suc n) h s i k =
      let lower : (m : ℕ) → m < n → f m ≤ g m = λ m b. h m (omega arith) in
      let less = sum_le n lower in
      let top = h n (omega arith) in
      ⊎_elim
      (λ b. sum_tight n lower (omega arith) i b)
      (λ b. let e : n ≡ i = omega arith in subst (λ m. g m ≤ f m) e (omega arith))
      (cases_lt i n)

module _ (f : ℕ → ℕ) where
  pub sum_capped : (n c : ℕ) → ((i : ℕ) → i < n → f i ≤ c) → sum_below n f ≤ c * n
  unfolding sum_below
  sum_capped zero c h = omega arith
  sum_capped (suc n) c h = omega (arith, mul-suc c n, sum_capped n c (λ i k. h i (omega arith)), h n (omega arith))

  pub sum_none : sum_below 0 f ≡ 0
  unfolding sum_below
  sum_none = refl

  pub sum_more : (n : ℕ) → sum_below (n + 1) f ≡ sum_below n f + f n
  unfolding sum_below
  sum_more n = rw add-one refl
