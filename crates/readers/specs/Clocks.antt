-- The clock of an order of dwells, and the dwells on one bank.
use Rattle.std.specs.Prelude.{◌≡◌, ℕ, zero, suc, ◌+◌, ◌-◌, ◌<◌, ◌≤◌, ◌⊎◌, ◌≢◌}
use Rattle.std.proofs.Math.Path.{ap}
use Rattle.std.proofs.Common.{◌∙◌, inl, inr, ⊎_elim, add-zero, add-one, arith}
use Rattle.std.proofs.lemmas.Bool.{cases_lt, cases_eq, cases_order}
use Rattle.rig.specs.Orders.{Order}
use Rattle.banks.specs.declared.table.BankTable.{BankTable}
use Rattle.readers.specs.Ticks.{clock, begins, ends, NextDwell, Waits}

module _ (t : BankTable) (o : Order) where
  -- the clock after one more dwell
  pub clock_next : (n : ℕ) → clock t o (n + 1) ≡ ends t o n
  unfolding clock
  clock_next n = ap (clock t o) (add-one n)

  -- the clock never runs back
  clock_on : (p d : ℕ) → ends t o p ≤ clock t o (p + 1 + d)
  clock_on p zero = omega (arith, clock_next p, ap (clock t o) (add-zero (p + 1)))
  clock_on p (suc d) =
      let e : p + 1 + suc d ≡ (p + 1 + d) + 1 = omega arith in
      omega (arith, clock_on p d, clock_next (p + 1 + d), ap (clock t o) e)

  -- so a later dwell begins no earlier than an earlier one ends
  pub clock_later : (p q : ℕ) → p < q → ends t o p ≤ begins t o q
  clock_later p q l =
      let e : q ≡ p + 1 + (q - (p + 1)) = omega arith in
      omega (arith, clock_on p (q - (p + 1)), ap (clock t o) e)

  -- and each wait is so many ticks
  pub wait_some : (p q : ℕ) → p < q → (w : ℕ) × Waits t o p q w
  wait_some p q l = (begins t o q - ends t o p, omega (arith, clock_later p q l))

-- among the n dwells from a on there is a first one on the bank, or there is none
pub record Soonest (o : Order) (b a n : ℕ) : Type 0 where
  pub at : ℕ
  pub from : a ≤ at
  pub below : at < a + n
  pub here : o at ≡ b
  pub before : (k : ℕ) → a ≤ k → k < at → o k ≢ b

pub soonest : (o : Order) (b a n : ℕ) → Soonest o b a n ⊎ ((k : ℕ) → a ≤ k → k < a + n → o k ≢ b)
soonest o b a zero = inr (λ k l m e. omega arith)
soonest o b a (suc n) =
    ⊎_elim (λ x. inl (record { at = x.at; from = x.from; below = omega (arith, x.below); here = x.here; before = x.before }))
    (λ none.
    ⊎_elim (λ e. inl (record { at = a + n; from = omega arith; below = omega arith; here = e; before = none }))
    (λ ne. inr (λ k l m e. ⊎_elim (λ below. none k l below e) (λ above. ne (ap o (let same : a + n ≡ k = omega arith in same) ∙ e)) (cases_lt k (a + n))))
    (cases_eq (o (a + n)) b))
    (soonest o b a n)

-- among the first n dwells there is a last one on the bank, or there is none
pub record Latest (o : Order) (b n : ℕ) : Type 0 where
  pub at : ℕ
  pub below : at < n
  pub here : o at ≡ b
  pub after : (k : ℕ) → at < k → k < n → o k ≢ b

pub latest : (o : Order) (b n : ℕ) → Latest o b n ⊎ ((k : ℕ) → k < n → o k ≢ b)
latest o b zero = inr (λ k l e. omega arith)
latest o b (suc n) =
    ⊎_elim (λ e. inl (record { at = n; below = omega arith; here = e; after = λ k l m x. omega arith }))
    (λ ne.
    let other : (k : ℕ) → n ≤ k → k < suc n → o k ≡ b → ⊥ = λ k l m e. ne (ap o (let same : n ≡ k = omega arith in same) ∙ e) in
    ⊎_elim
    (λ x. inl (record {
      at = x.at;
      below = omega (arith, x.below);
      here = x.here;
      after = λ k l m e. ⊎_elim (λ below. x.after k l below e) (λ above. other k above m e) (cases_lt k n);
    }))
    (λ none. inr (λ k l e. ⊎_elim (λ below. none k below e) (λ above. other k above l e) (cases_lt k n)))
    (latest o b n))
    (cases_eq (o n) b)

-- a dwell has one next dwell
pub next_one : (o : Order) (b p q r : ℕ) → NextDwell o b p q → NextDwell o b p r → q ≡ r
next_one o b p q r x y =
    ⊎_elim (λ e. e)
    (λ c. absurd (⊎_elim (λ l. y.between q x.later l x.to) (λ l. x.between r y.later l y.to) c))
    (cases_order q r)
