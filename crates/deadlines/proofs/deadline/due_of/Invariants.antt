use Rattle.std.proofs.Common.{◌≡◌, ◌*◌, ◌≤◌, cond, leb}
use Rattle.banks.specs.declared.table.BankTable.{BankTable}
use Rattle.banks.specs.Places.{age_at, spread, sum_below}
use Rattle.banks.specs.Table.{dwell}
use Rattle.deadlines.proofs.deadline.due_of.Given as goal

abbrev pub invariant-loop-i : goal.invariant-loop-i
invariant-loop-i l = ((t : BankTable) → l.fn.dwells ≡ spread (dwell t) → l.sum ≡ sum_below l.i (λ k. cond (leb (age_at l.deadlines k) l.by) (dwell t k) 0)) × (l.sum ≤ 65535 * l.i)
