use Rattle.std.proofs.Common.{◌≡◌, ◌++◌, length, take, drop}
use Rattle.search.specs.Kept.{path_moves}
use Rattle.search.proofs.round.write_round.Given as goal

abbrev pub invariant-loop-row : goal.invariant-loop-row
invariant-loop-row g l =
    let moves = path_moves (take l.row-index l.rows) in
    (l.at ≡ length moves) × (l.out ≡ moves ++ drop l.at l.initial.out)
