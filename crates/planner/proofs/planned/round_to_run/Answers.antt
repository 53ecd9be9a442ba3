use Rattle.std.proofs.Common.{refl}
use Rattle.planner.specs.Plans.RunsOn.{no_round, not_run}
use Rattle.planner.proofs.Runs.{filled_part}
use Rattle.planner.proofs.planned.round_to_run.Goals as goal

pub returns : goal.returns
returns c =
    let e = c.fill.ensures in
    filled_part c.args.sheet.now c.args.room.now c.args.outcome.now c.args.handed c.fill.new.self c.of_sheet-table.result c.in-Ok.done c.in-Some.length c.of_sheet-table.ensures c.in-Ok.is c.in-Some.is c.fill.result e.reply e.exact

pub returns-in_default-round : goal.returns-in_default-round
returns-in_default-round c = no_round c.in-Ok.done c.in-Ok.is c.in_default-round.is refl

pub returns-in_default : goal.returns-in_default
returns-in_default c = not_run c.in_default.field-0 c.in_default.is refl
