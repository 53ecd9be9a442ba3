-- Sums over the members, below n, of a set of numbers.
use Rattle.std.proofs.Common.{◌≡◌, ℕ, zero, suc, ◌+◌, ◌<◌, ◌≤◌, Bool, true, false, cond, not, ◌&&◌, eqb, sym, refl, ap, ◌∙◌, ⊎_elim, arith}
use Rattle.std.proofs.lemmas.Bool.{and_parts, and_from, cases_Bool, cases_lt, cond-true, cond-false, cond_both, ne_eqb, eqb-false, not-true, not_from_false, both_ways}
use Rattle.banks.specs.Places.{sum_below}
use Rattle.banks.proofs.Below.{sum_capped}

-- sums of functions that agree below n
pub sum_agree : (f g : ℕ → ℕ) (n : ℕ) → ((i : ℕ) → i < n → f i ≡ g i) → sum_below n f ≡ sum_below n g
unfolding sum_below
sum_agree f g zero h = refl
sum_agree f g (suc n) h = omega (arith, sum_agree f g n (λ i k. h i (omega arith)), h n (omega arith))

-- sums of functions that differ at b alone
pub sum_differ : (f g : ℕ → ℕ) (b n : ℕ) → ((i : ℕ) → (i ≡ b → ⊥) → f i ≡ g i) → b < n → sum_below n f + g b ≡ sum_below n g + f b
unfolding sum_below
sum_differ f g b zero same h = absurd (omega arith)
sum_differ f g b (suc n) same h =
    ⊎_elim
    (λ l. omega (arith, sum_differ f g b n same l, same n (λ e. omega arith)))
    (λ l.
    let e : n ≡ b = omega arith in
    omega (arith, sum_agree f g n (λ i k. same i (λ x. omega arith)), ap f e, ap g e))
    (cases_lt b n)

-- one more place
pub sum_next : (f : ℕ → ℕ) (n : ℕ) → sum_below (suc n) f ≡ sum_below n f + f n
unfolding sum_below
sum_next f n = refl

-- as many ones as places
pub sum_ones : (n : ℕ) → sum_below n (λ _. 1) ≡ n
unfolding sum_below
sum_ones zero = refl
sum_ones (suc n) = omega (arith, sum_ones n)

-- one place is no more than the sum
pub place_le_sum : (f : ℕ → ℕ) (n i : ℕ) → i < n → f i ≤ sum_below n f
unfolding sum_below
place_le_sum f zero i h = absurd (omega arith)
place_le_sum f (suc n) i h =
    ⊎_elim (λ l. omega (arith, place_le_sum f n i l)) (λ l. let e : n ≡ i = omega arith in omega (arith, ap f e)) (cases_lt i n)

-- places that hold 0 add nothing
pub sum_unused : (f : ℕ → ℕ) (n m : ℕ) → n ≤ m → ((i : ℕ) → n ≤ i → f i ≡ 0) → sum_below m f ≡ sum_below n f
unfolding sum_below
sum_unused f n zero h none = let e : n ≡ 0 = omega arith in sym (ap (λ (k : ℕ). sum_below k f) e)
sum_unused f n (suc m) h none =
    ⊎_elim
    (λ l. omega (arith, sum_unused f n m (omega arith) none, none m (omega arith)))
    (λ l. let e : n ≡ suc m = omega arith in sym (ap (λ (k : ℕ). sum_below k f) e))
    (cases_lt n (suc m))

-- the sum over a set
abbrev pub sum_of : ℕ → (ℕ → Bool) → (ℕ → ℕ) → ℕ
sum_of n s g = sum_below n (λ i. cond (s i) (g i) 0)

-- the set without b
abbrev pub without : (ℕ → Bool) → ℕ → ℕ → Bool
without s b i = s i && not (eqb i b)

module _ (s : ℕ → Bool) (b : ℕ) where
  pub without_parts : (i : ℕ) → without s b i ≡ true → (s i ≡ true) × (i ≡ b → ⊥)
  without_parts i h =
      let both = and_parts (s i) (not (eqb i b)) h in
      (both.0, eqb-false i b (not-true (eqb i b) both.1))

  pub without_from : (i : ℕ) → s i ≡ true → (i ≡ b → ⊥) → without s b i ≡ true
  without_from i h ne = and_from (s i) (not (eqb i b)) h (not_from_false (eqb i b) (ne_eqb i b ne))

  without_other : (i : ℕ) → (i ≡ b → ⊥) → without s b i ≡ s i
  without_other i ne =
      ⊎_elim
      (λ h. without_from i h ne ∙ sym h)
      (λ h. ⊎_elim (λ x. absurd (both_ways (s i) h (without_parts i x).0)) (λ x. x ∙ sym h) (cases_Bool (without s b i)))
      (cases_Bool (s i))

  without_own : without s b b ≡ false
  without_own = ⊎_elim (λ x. absurd ((without_parts b x).1 refl)) (λ x. x) (cases_Bool (without s b b))

  -- taking a number out takes its part off the sum, if it is a member
  sum_part : (g : ℕ → ℕ) (n : ℕ) → b < n → sum_of n s g ≡ sum_of n (without s b) g + cond (s b) (g b) 0
  sum_part g n h =
      omega (
        arith,
        sum_differ (λ i. cond (s i) (g i) 0) (λ i. cond (without s b i) (g i) 0) b n
            (λ i ne. ap (λ (x : Bool). cond x (g i) 0) (sym (without_other i ne))) h,
        cond-false (without s b b) (g b) 0 without_own,
      )

  pub sum_without : (g : ℕ → ℕ) (n : ℕ) → b < n → s b ≡ true → sum_of n s g ≡ sum_of n (without s b) g + g b
  sum_without g n h member = omega (arith, sum_part g n h, cond-true (s b) (g b) 0 member)

  pub sum_without_le : (g : ℕ → ℕ) (n : ℕ) → b < n → sum_of n s g ≤ sum_of n (without s b) g + g b
  sum_without_le g n h = omega (arith, sum_part g n h, cond_both (s b) (g b) 0 (λ x. x ≤ g b) (λ _. omega arith) (λ _. omega arith))

module _ (n : ℕ) (s : ℕ → Bool) where
  -- a set without members
  pub sum_none_of : (g : ℕ → ℕ) → ((i : ℕ) → i < n → s i ≡ true → ⊥) → sum_of n s g ≡ 0
  sum_none_of g none =
      let zero-each : (i : ℕ) → i < n → cond (s i) (g i) 0 ≤ 0 =
      λ i h. ⊎_elim (λ x. absurd (none i h x)) (λ x. omega (arith, cond-false (s i) (g i) 0 x)) (cases_Bool (s i)) in
      omega (arith, sum_capped (λ i. cond (s i) (g i) 0) n 0 zero-each)

  -- a set that counts 0 has none
  pub counts_none : sum_of n s (λ _. 1) ≡ 0 → (i : ℕ) → i < n → s i ≡ true → ⊥
  counts_none e i h x = omega (arith, place_le_sum (λ k. cond (s k) 1 0) n i h, cond-true {A = ℕ} (s i) 1 0 x)

-- an order whose first m places have all members of a set leaves out none of the sum
module _ (n : ℕ) (o g : ℕ → ℕ) where
  pub sum_visited : (m : ℕ) (s : ℕ → Bool) → ((k : ℕ) → k < m → o k < n) → ((i : ℕ) → i < n → s i ≡ true → (k : ℕ) × (k < m) × (o k ≡ i)) → sum_of n s g ≤ sum_below m (λ k. g (o k))
  sum_visited zero s bank visit = omega (arith, sum_none_of n s g (λ i h x. let v = visit i h x in omega (arith, v.1)))
  sum_visited (suc m) s bank visit =
      let visit-rest : (i : ℕ) → i < n → without s (o m) i ≡ true → (k : ℕ) × (k < m) × (o k ≡ i) =
      λ i h x.
      let member = without_parts s (o m) i x in
      let v = visit i h member.0 in
      let before = v.1 in
      (v.0, ⊎_elim (λ l. l) (λ l. let e : v.0 ≡ m = omega arith in absurd (member.1 (sym v.2 ∙ ap o e))) (cases_lt v.0 m), v.2) in
      omega (
        arith,
        sum_visited m (without s (o m)) (λ k h. bank k (omega arith)) visit-rest,
        sum_without_le s (o m) g n (bank m (omega arith)),
        sum_next (λ k. g (o k)) m,
      )
