use Rattle.std.proofs.Common.{ℕ}
use lib.ListN.{length-replicate}
use Rattle.rig.specs.Guides.{guided}
use Rattle.planner.proofs.OneGrants.{answers_from}
use Rattle.planner.proofs.answer.answer_on.Goals as goal

pub returns : goal.returns
returns g c = λ rig one serves.
    let p = c.plan-outcome in
    let stock = c.stock-stock in
    answers_from (λ r. guided (g.R.Rig.means r) (g.R.GuidedRig.guide r)) rig c.args.calls.now c.args.rows.now _ _ p.new.rows p.new.replies p.new.room p.result.outcome c.args.sheet.now stock.result p.result.reader.round c.stop.result c.in-Ok.done c.found.result c.requires.many (length-replicate {A = ℕ} 1024 0) p.auto.rows p.auto.room one serves c.in-Ok.is c.stop.ensures p.ensures.searched p.ensures.runs c.found.ensures
