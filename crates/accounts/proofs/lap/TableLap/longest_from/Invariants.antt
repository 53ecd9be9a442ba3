use Rattle.std.proofs.Common.{◌+◌, ◌*◌, ◌≤◌}
use Rattle.rig.specs.Orders.{again}
use Rattle.accounts.proofs.Watch.{Watched}
use Rattle.accounts.proofs.lap.TableLap.longest_from.Given as goal

abbrev pub invariant-loop-n : goal.invariant-loop-n
invariant-loop-n l =
    Watched l.self.table.now (again l.self.list.now) l.bank l.first l.n l.since l.longest
    × (l.since + 2000 * (l.first + 1) ≤ 2000 * l.n)
