use Rattle.std.specs.Cmp.{booleans_Decides}
use Rattle.std.proofs.lemmas.Slice.Eq.{slice_eq-Decides}
use Rattle.rig.proofs.Members.{empty_told}
use Rattle.rig.proofs.moves.Moves.is_empty.Goals as goal

pub returns : goal.returns
returns c = empty_told c.args.self.now c.none.result c.none.ensures c.eq.result (slice_eq-Decides booleans_Decides _ _ _ c.eq.ensures)
