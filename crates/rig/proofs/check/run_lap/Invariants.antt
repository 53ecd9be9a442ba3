use Rattle.std.proofs.Common.{◌≡◌}
use Rattle.rig.specs.Orders.{LawfulTo, reached}
use Rattle.rig.specs.Checks.{list_order}
use Rattle.rig.proofs.check.run_lap.Given as goal

abbrev pub invariant-loop-k : goal.invariant-loop-k
invariant-loop-k g l =
    let m = g.R.Rig.means l.rig in
    LawfulTo m l.initial.s (list_order l.list) l.k × (l.s ≡ reached m l.initial.s (list_order l.list) l.k)
