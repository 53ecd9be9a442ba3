use Rattle.std.proofs.Common.{◌≡◌, sym, refl, ◌∙◌, subst}
use Rattle.banks.specs.FromSheet.{TableOf}
use Rattle.planner.proofs.Answered.{answered_panelled, answered_plain, panelled_serves, plain_serves}
use Rattle.planner.proofs.answer.answer_sheet.Goals as goal

pub answer_on-requires : goal.answer_on-requires
answer_on-requires c = record { many = refl; one = (c.new-rig.result, refl) }

pub answer_on-requires-else-settle-eq0 : goal.answer_on-requires-else-settle-eq0
answer_on-requires-else-settle-eq0 c = record { many = refl; one = (c.new-rig-else-settle-eq0.result, refl) }

pub returns-then-settle-eq0 : goal.returns-then-settle-eq0
returns-then-settle-eq0 c =
    let s = c.args.sheet.now in
    let rig = c.new-rig.result in
    let own = subst (TableOf s) (sym c.new-rig.ensures) c.of_sheet-table.ensures in
    let unsettled : s.settle ≡ 0 = sym c.settle.ensures ∙ c.if-settle-eq0.true in
    let a = c.answer_on.result in
    answered_plain s rig.table own a.finding a.visits unsettled (c.answer_on.ensures rig refl (plain_serves s rig.table own unsettled))

pub returns-else-settle-eq0 : goal.returns-else-settle-eq0
returns-else-settle-eq0 c =
    let s = c.args.sheet.now in
    let rig = c.new-rig-else-settle-eq0.result in
    let own = subst (TableOf s) (sym c.new-rig-else-settle-eq0.ensures) c.of_sheet-table.ensures in
    let a = c.answer_on-else-settle-eq0.result in
    answered_panelled s rig.table own a.finding a.visits (λ is. c.if-settle-eq0.false (c.settle.ensures ∙ is)) (c.answer_on-else-settle-eq0.ensures rig refl (panelled_serves s rig.table own))
