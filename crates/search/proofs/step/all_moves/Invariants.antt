use Rattle.std.proofs.Common.{◌≡◌, ℕ, ltb}
use Rattle.rig.specs.Sets.{in_set}
use Rattle.search.proofs.step.all_moves.Given as goal

abbrev pub invariant-loop-j : goal.invariant-loop-j
invariant-loop-j g l = (k : ℕ) → in_set l.all.held k ≡ ltb k l.j
