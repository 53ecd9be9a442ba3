use Rattle.std.proofs.Common.{sym, ◌∙◌}
use Rattle.readers.specs.Meanings.{proper_decides}
use Rattle.readers.specs.RigLaws.{guide_laws}
use Rattle.readers.proofs.panelled.PanelledReaderGuidedRig.hopeless.Goals as goal

pub returns-clause-ends : goal.returns-clause-ends
returns-clause-ends c =
    let t = c.args.self.now.table in
    let s = c.args.s.now in
    λ p e. (guide_laws t).hopeless_ends s ((proper_decides t s).1 p) (sym c.is_hopeless.ensures.value ∙ e)
