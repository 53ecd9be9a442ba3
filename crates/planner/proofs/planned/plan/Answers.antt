use Rattle.std.proofs.Common.{sym, ap, ◌∙◌, subst}
use Rattle.rig.specs.Guides.{guided}
use Rattle.banks.specs.FromSheet.{TableOf}
use Rattle.running.specs.Told.{reply_at}
use Rattle.planner.specs.Plans.{RunsOn}
use Rattle.planner.proofs.Runs.{round_fits}
use Rattle.planner.proofs.planned.plan.Goals as goal

pub round_to_run-round-requires : goal.round_to_run-round-requires
round_to_run-round-requires g c =
    let run = c.run_calls-outcome in
    round_fits (λ r. guided (g.R.Rig.means r) (g.R.GuidedRig.guide r)) c.args.rows.now c.args.calls.now c.args.replies.now c.args.room.now run.new.rows run.new.replies run.new.room run.auto.room run.result run.ensures

pub returns : goal.returns
returns g c =
    let run = c.run_calls-outcome in
    let same = c.start.ensures.round in
    record {
      searched = run.ensures;
      runs = subst (RunsOn c.args.sheet.now run.new.room run.result c.args.handed) (sym same) c.round_to_run-round.ensures;
      starts = λ n. c.start.ensures.told n ∙ ap (λ r. reply_at r n) (sym same);
      swaps = λ s own. c.start.ensures.swaps s (subst (λ r. TableOf s r.table) same own);
    }
