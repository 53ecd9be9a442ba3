use Rattle.std.proofs.Common.{◌≡◌, ℕ, cond, leb, get_or, sym, ap, ◌∙◌, arith}
use Rattle.banks.specs.declared.table.BankTable.{BankTable}
use Rattle.banks.specs.Places.{age_at, spread, sum_below}
use Rattle.banks.specs.Table.{dwell}
use Rattle.banks.proofs.Below.{sum_none}
use Rattle.banks.proofs.Spread.{spread_at}
use Rattle.deadlines.proofs.Lists.{due_adds, due_skips, due_sum_all}
use Rattle.deadlines.proofs.deadline.due_of.Goals as goal
use Rattle.deadlines.proofs.deadline.due_of.Goals.{then-deadline-by, else-deadline-by}

pub loop-i-init : goal.loop-i-init
loop-i-init c = ((λ t e. sym (sum_none (λ k. cond (leb (age_at c.args.deadlines k) c.args.by) (dwell t k) 0))), omega arith)

pub loop-i-preserved : goal.loop-i-preserved
loop-i-preserved c =
    let d = age_at c.args.deadlines in
    let i = c.loop-i.i in
    let here : (t : BankTable) → c.args.dwells ≡ spread (dwell t) → get_or c.args.dwells i 0 ≡ dwell t i = λ t e. ap (λ xs. age_at xs i) e ∙ spread_at (dwell t) i c.loop-i-test.true in
    elim c.if-deadline-by.branch [
      | then-deadline-by w ↦ (
        (λ t e. due_adds t d c.args.by i c.loop-i.sum c.if-deadline-by.sum (c.loop-i.invariant.0 t e) (omega (arith, w.if-deadline-by.true)) (omega (arith, w.sum-is, here t e))),
        omega (arith, w.sum-is, c.loop-i.invariant.1),
      )
      | else-deadline-by w ↦ (
        (λ t e. due_skips t d c.args.by i c.loop-i.sum c.if-deadline-by.sum (c.loop-i.invariant.0 t e) (omega (arith, w.if-deadline-by.false)) w.sum-is),
        omega (arith, w.sum-is, c.loop-i.invariant.1),
      )
    ]

pub returns : goal.returns
returns c = λ t e.
    let d = age_at c.args.deadlines in
    let end : c.loop-i.i ≡ 16 = omega arith in
    c.loop-i.invariant.0 t e
    ∙ ap (λ (n : ℕ). sum_below n (λ k. cond (leb (d k) c.args.by) (dwell t k) 0)) end
    ∙ due_sum_all t d c.args.by
