use Rattle.std.proofs.Common.{sym, refl, ◌∙◌}
use Rattle.rig.specs.Sets.{in_set}
use Rattle.deadlines.specs.Deadlines.{deadline}
use Rattle.readers.specs.Panelled.{age, guided_panelled}
use Rattle.readers.specs.DueChoice.{choice_due}
use Rattle.readers.proofs.panelled.PanelledReaderGuidedRig.choose.Goals as goal

pub returns-clause-value : goal.returns-clause-value
returns-clause-value c =
    let t = c.args.self.now.table in
    let s = c.args.s.now in
    c.choose.ensures.value ∙ sym (choice_due (guided_panelled t) s (deadline t (age s)) (in_set c.args.untried.now.held) refl)
