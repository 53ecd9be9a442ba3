use Rattle.std.proofs.Common.{sym, ◌∙◌}
use Rattle.std.proofs.lemmas.Slice.Eq.{slice_eq-Decides}
use Rattle.readers.proofs.Identical.{state_decides}
use Rattle.readers.specs.Panels.{same_last_decides}
use Rattle.readers.proofs.panelled.ReaderStatePartialEq.eq.Goals as goal
use Rattle.std.proofs.lemmas.Bool.Decides.{Decides-eqb}

pub returns-then-eq-clause-identical : goal.returns-then-eq-clause-identical
returns-then-eq-clause-identical c =
    state_decides c.args.self.now c.args.other.now c.eq-then-eq.result (slice_eq-Decides Decides-eqb _ _ _ c.eq-then-eq.ensures)
    ((same_last_decides c.args.self.now.last c.args.other.now.last).0 (sym c.eq.ensures ∙ c.if-eq.true))
