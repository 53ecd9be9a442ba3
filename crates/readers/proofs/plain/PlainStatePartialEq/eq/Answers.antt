use Rattle.std.proofs.lemmas.Slice.Eq.{slice_eq-Decides}
use Rattle.readers.proofs.Identical.{plain_state_decides}
use Rattle.readers.proofs.plain.PlainStatePartialEq.eq.Goals as goal
use Rattle.std.proofs.lemmas.Bool.Decides.{Decides-eqb}

pub returns-clause-identical : goal.returns-clause-identical
returns-clause-identical c = plain_state_decides c.args.self.now c.args.other.now c.eq.result (slice_eq-Decides Decides-eqb _ _ _ c.eq.ensures)
