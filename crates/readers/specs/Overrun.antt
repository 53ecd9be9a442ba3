-- From a state whose deadlines are overrun no endless lawful order begins, whatever settles between the dwells:
-- the first dwell on each bank ends by its deadline, so those due by one deadline fit before it.
use Rattle.std.specs.Prelude.{◌≡◌, ℕ, zero, suc, ◌+◌, ◌<◌, ◌≤◌, true, leb, ◌≢◌, nat_le}
use Rattle.std.proofs.Common.{sym, ap, subst, ⊎_elim}
use native.Mathlib.Omega.{arith}
use Rattle.std.proofs.lemmas.Bool.{cases_lt, leb-true}
use Rattle.rig.specs.Meaning.{Meaning, after, lawful}
use Rattle.rig.specs.Orders.{Order, Endless, reached}
use Rattle.banks.specs.declared.table.BankTable.{BankTable}
use Rattle.banks.specs.Places.{sum_below}
use Rattle.banks.specs.Table.{dwell, gap}
use Rattle.deadlines.specs.Deadlines.{deadline, due_sum, some_overrun}
use Rattle.deadlines.proofs.Schedules.{overrun_decides}
use Rattle.banks.proofs.Below.{sum_none}
use Rattle.deadlines.proofs.Subsets.{sum_next, sum_visited}
use Rattle.readers.specs.Ages.{Aged, AgesProper, InTime}
use Rattle.readers.specs.Clocks.{Soonest, soonest}

-- what both readers share: a lawful move is a dwell on a bank, in time, after some settling
pub record Dwelt {S : Type 0} (t : BankTable) (m : Meaning S) (ages settles : S → ℕ → ℕ) (s : S) (j : ℕ) : Type 0 where
  pub bank : j < t.count
  pub proper : AgesProper t (ages s)
  pub in_time : InTime t (ages s) j (settles s j)
  pub aged : Aged t (ages s) j (settles s j) (ages (after m s j))

module _ {S : Type 0} (t : BankTable) (m : Meaning S) (ages settles : S → ℕ → ℕ) (dwelt : (s : S) (j : ℕ) → lawful m s j ≡ true → Dwelt t m ages settles s j) (s : S) where
  -- an endless lawful order
  module _ (o : Order) (run : Endless m s o) where
    each : (n : ℕ) → Dwelt t m ages settles (reached m s o n) (o n)
    each n = dwelt (reached m s o n) (o n) (run n)

    -- the ticks that the first n dwells take, with their settling
    abbrev gone : ℕ → ℕ
    gone zero = 0
    gone (suc n) = gone n + settles (reached m s o n) (o n) + dwell t (o n)

    gone_far : (n : ℕ) → n ≤ gone n
    gone_far zero = omega arith
    gone_far (suc n) = omega (arith, gone_far n, (t.dwells (o n) (each n).bank).0)

    gone_later : (p q : ℕ) → p ≤ q → gone p ≤ gone q
    gone_later p zero l = let e : p ≡ 0 = omega arith in omega (arith, ap gone e)
    gone_later p (suc q) l =
        ⊎_elim
        (λ h. omega (arith, gone_later p q (omega arith)))
        (λ h. let e : p ≡ suc q = omega arith in omega (arith, ap gone e))
        (cases_lt p (suc q))

    dwells_gone : (n : ℕ) → sum_below n (λ k. dwell t (o k)) ≤ gone n
    dwells_gone zero = omega (arith, sum_none (λ k. dwell t (o k)))
    dwells_gone (suc n) = omega (arith, dwells_gone n, sum_next (λ k. dwell t (o k)) n)

    -- how many dwells have ended by a tick
    ended : (by n : ℕ) → by < gone n → (k : ℕ) × (gone k ≤ by) × (by < gone (suc k))
    ended by zero h = absurd (omega arith)
    ended by (suc n) h = ⊎_elim (λ l. ended by n l) (λ l. (n, l, h)) (cases_lt by (gone n))

    module _ (b : ℕ) (bank : b < t.count) where
      -- before its first dwell a bank waits all the time
      waits : (n : ℕ) → ((k : ℕ) → k < n → o k ≢ b) → ages (reached m s o n) b ≡ ages s b + gone n
      unfolding reached
      waits zero none = omega arith
      waits (suc n) none =
          omega (arith, waits n (λ k l. none k (omega arith)), (each n).aged.others b bank (λ e. none n (omega arith) (sym e)))

      -- its age does not pass its gap, so it has a first dwell
      quiet_short : (n : ℕ) → ((k : ℕ) → k < n → o k ≢ b) → n ≤ gap t b
      quiet_short n none = omega (arith, waits n none, gone_far n, (each n).proper.banks b bank)

      has_first : Soonest o b 0 (gap t b + 1)
      has_first =
          ⊎_elim (λ f. f)
          (λ none. absurd (omega (arith, quiet_short (gap t b + 1) (λ k l. none k (omega arith) (omega arith)))))
          (soonest o b 0 (gap t b + 1))

      -- which ends by its deadline
      ends_by : (f : Soonest o b 0 (gap t b + 1)) → gone (suc f.at) ≤ deadline t (ages s) b
      ends_by f =
          let q = f.at in
          let own = subst (λ (i : ℕ). ages (reached m s o q) i + settles (reached m s o q) (o q) ≤ gap t i) f.here (each q).in_time.own in
          omega (arith, own, waits q (λ k l. f.before k (omega arith) l), ap (dwell t) f.here)

    -- so what is due by a tick fits before it
    due_fit : (by : ℕ) → due_sum t (deadline t (ages s)) by ≤ by
    due_fit by =
        let last = ended by (suc by) (gone_far (suc by)) in
        let among : (i : ℕ) → i < t.count → nat_le (deadline t (ages s) i) by ≡ true → (k : ℕ) × (k < last.0) × (o k ≡ i) =
        λ i h x.
        let f = has_first i h in
        let soon = ends_by i h f in
        let due = leb-true (deadline t (ages s) i) by x in
        (f.at, ⊎_elim (λ l. l) (λ l. absurd (omega (arith, last.2, gone_later (suc last.0) (suc f.at) (omega arith)))) (cases_lt f.at last.0), f.here) in
        omega (
          arith,
          sum_visited t.count o (dwell t) last.0 (λ i. leb (deadline t (ages s) i) by) (λ k _. (each k).bank) among,
          dwells_gone last.0,
          last.1,
        )

  pub overrun_ends : some_overrun t (deadline t (ages s)) ≡ true → (o : Order) → Endless m s o → ⊥
  overrun_ends e o run =
      let h = (overrun_decides t (deadline t (ages s))).0 e in
      omega (arith, h.over, due_fit o run (deadline t (ages s) h.bank))
