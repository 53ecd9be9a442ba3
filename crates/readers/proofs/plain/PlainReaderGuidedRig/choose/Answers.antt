use Rattle.std.proofs.Common.{sym, refl, ◌∙◌}
use Rattle.rig.specs.Sets.{in_set}
use Rattle.deadlines.specs.Deadlines.{deadline}
use Rattle.readers.specs.Plain.{guided_plain, plain_age}
use Rattle.readers.specs.DueChoice.{choice_due}
use Rattle.readers.proofs.plain.PlainReaderGuidedRig.choose.Goals as goal

pub returns-clause-value : goal.returns-clause-value
returns-clause-value c =
    let t = c.args.self.now.table in
    let s = c.args.s.now in
    c.choose.ensures.value ∙ sym (choice_due (guided_plain t) s (deadline t (plain_age s)) (in_set c.args.untried.now.held) refl)
