use Rattle.std.proofs.Common.{sym, ◌∙◌}
use Rattle.readers.specs.Plain.{plain_age}
use Rattle.readers.specs.AgeLaws.{ages_proper_decides}
use Rattle.readers.specs.PlainLaws.{plain_guide_laws}
use Rattle.readers.proofs.plain.PlainReaderGuidedRig.hopeless.Goals as goal

pub returns-clause-ends : goal.returns-clause-ends
returns-clause-ends c =
    let t = c.args.self.now.table in
    let s = c.args.s.now in
    λ p e. (plain_guide_laws t).hopeless_ends s ((ages_proper_decides t (plain_age s)).1 p) (sym c.is_hopeless.ensures.value ∙ e)
