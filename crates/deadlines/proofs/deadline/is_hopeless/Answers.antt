use Rattle.std.proofs.Common.{ℕ, Decides, ap, ◌∙◌, subst}
use Rattle.std.proofs.lemmas.Bool.{both_ways}
use Rattle.std.proofs.lemmas.Bool.Decides.{same_from_decides}
use Rattle.banks.specs.Places.{age_at}
use Rattle.deadlines.specs.Deadlines.{deadline, some_overrun, Hopeless}
use Rattle.deadlines.proofs.Lists.{deadlines_whole}
use Rattle.deadlines.proofs.Schedules.{hopeful_meets, never_decides, overrun_decides}
use Rattle.deadlines.proofs.deadline.is_hopeless.Goals as goal

pub returns : goal.returns
returns c =
    let t = c.args.table.now in
    let d = deadline t (age_at c.args.ages.now) in
    let r = c.some_overdue.result in
    let same = ap age_at c.deadlines.ensures ∙ deadlines_whole t (age_at c.args.ages.now) in
    let over = subst (λ (f : ℕ → ℕ). Decides r (Hopeless t f)) same c.some_overdue.ensures in
    record {
      value = same_from_decides r (some_overrun t d) over (overrun_decides t d);
      over = over;
      never = never_decides t d r over;
      order = λ e. hopeful_meets t d (λ h. both_ways r e (over.1 h));
    }
