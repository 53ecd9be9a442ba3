use Rattle.std.proofs.Common.{◌-◌}
use Rattle.rig.proofs.Laps.{Going}
use Rattle.rig.proofs.check.check_list.Given as goal

abbrev pub invariant-loop-last : goal.invariant-loop-last
invariant-loop-last g l = Going (g.R.Rig.means l.rig) l.list l.lap l.first

abbrev pub decreases-loop-last : goal.decreases-loop-last
decreases-loop-last g l = let m = g.R.Rig.means l.rig in m.ceiling - m.staleness l.first
