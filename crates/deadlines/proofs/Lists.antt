-- Deadlines and dwells in lists with all places.
use Rattle.std.proofs.Common.{◌≡◌, ℕ, zero, suc, ◌+◌, ◌<◌, ◌≤◌, List, cond, leb, refl, ◌∙◌, subst, ⊎_elim, arith}
use Rattle.std.specs.Array.{IsFromFnResult, IsFromFnResultFrom}
use denote.Param.Members.{Mut, Called}
use Rattle.std.proofs.lemmas.Bool.{cases_lt, le-leb, lt-leb, cond-true, cond-false, cond_both}
use Rattle.banks.specs.declared.table.BankTable.{BankTable}
use Rattle.banks.specs.Places.{age_at, spread, sum_below}
use Rattle.sheets.specs.Limits.{most_banks}
use Rattle.banks.specs.Table.{dwell}
use Rattle.banks.proofs.Below.{sum_more}
use Rattle.banks.proofs.Spread.{spread_filled, spread_whole}
use Rattle.deadlines.specs.Deadlines.{deadline, due_sum}
use Rattle.deadlines.proofs.Subsets.{sum_unused}

-- a list worked out place by place, by a closure that answers h of the place
module _ {F : Type 0} (g : Mut F (ℕ × Unit {0}) ℕ) (f : F) (h : ℕ → ℕ) (answers : (i y : ℕ) (q : F) → Called g f (i, tt) y q → (q ≡ f) × (y ≡ h i)) (ys : List ℕ) where
  filled_from : (i n : ℕ) → IsFromFnResultFrom g f ys i n → (k : ℕ) → i ≤ k → k < i + n → age_at ys k ≡ h k
  filled_from i zero each k from below = absurd (omega arith)
  filled_from i (suc n) each k from below =
      let here = answers i each.1 each.0 each.3 in
      ⊎_elim
      (λ l. filled_from (i + 1) n (subst (λ (q : F). IsFromFnResultFrom g q ys (i + 1) n) here.0 each.4) k (omega arith) (omega arith))
      (λ l. let e : i ≡ k = omega arith in subst (λ (j : ℕ). age_at ys j ≡ h j) e (each.2.1 0 ∙ here.1))
      (cases_lt i k)

  pub filled : IsFromFnResult g f ys most_banks → ys ≡ spread h
  filled made = spread_filled h ys made.long (λ k l. filled_from 0 most_banks made.each k (omega arith) (omega arith))

module _ (t : BankTable) where
  pub deadlines_whole : (ages : ℕ → ℕ) → age_at (spread (deadline t ages)) ≡ deadline t ages
  deadlines_whole ages =
      spread_whole (deadline t ages) (λ i h. let u = t.unused i (omega (arith, t.few)) in omega (arith, u.1, u.2))

  -- places without a bank have nothing due
  pub due_sum_all : (d : ℕ → ℕ) (by : ℕ) → sum_below most_banks (λ i. cond (leb (d i) by) (dwell t i) 0) ≡ due_sum t d by
  due_sum_all d by =
      sum_unused (λ i. cond (leb (d i) by) (dwell t i) 0) t.count most_banks t.few
      (λ i h. cond_both (leb (d i) by) (dwell t i) 0 (λ x. x ≡ 0) (λ _. (t.unused i h).1) (λ _. refl))

  pub dwell_small : (i : ℕ) → dwell t i ≤ 1000
  dwell_small i = ⊎_elim (λ h. (t.dwells i h).1) (λ h. omega (arith, (t.unused i h).1)) (cases_lt i t.count)

  -- the sum so far at the next place
  module _ (d : ℕ → ℕ) (by i old new : ℕ) (so_far : old ≡ sum_below i (λ k. cond (leb (d k) by) (dwell t k) 0)) where
    pub due_adds : d i ≤ by → new ≡ old + dwell t i → new ≡ sum_below (i + 1) (λ k. cond (leb (d k) by) (dwell t k) 0)
    due_adds soon e =
        omega (arith, so_far, e, sum_more (λ k. cond (leb (d k) by) (dwell t k) 0) i, cond-true (leb (d i) by) (dwell t i) 0 (le-leb (d i) by soon))

    pub due_skips : by < d i → new ≡ old → new ≡ sum_below (i + 1) (λ k. cond (leb (d k) by) (dwell t k) 0)
    due_skips late e =
        omega (arith, so_far, e, sum_more (λ k. cond (leb (d k) by) (dwell t k) 0) i, cond-false (leb (d i) by) (dwell t i) 0 (lt-leb (d i) by late))
