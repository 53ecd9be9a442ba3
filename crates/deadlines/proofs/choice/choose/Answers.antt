use Rattle.std.proofs.Common.{ℕ, ap, ◌∙◌, subst, MatchOption}
use Rattle.banks.specs.Places.{age_at}
use Rattle.rig.specs.Sets.{in_set}
use Rattle.deadlines.specs.Deadlines.{deadline, DueFirst, NoneUntried}
use Rattle.deadlines.proofs.Chosen.{chosen_value, chosen_some, chosen_none}
use Rattle.deadlines.proofs.Lists.{deadlines_whole}
use Rattle.deadlines.proofs.choice.choose.Goals as goal

pub returns : goal.returns
returns c =
    let t = c.args.table.now in
    let n = t.count in
    let d = deadline t (age_at c.args.ages.now) in
    let u = in_set c.args.untried.now.held in
    let o = c.due_first.result in
    let r = c.unwrap_or.result in
    let same = ap age_at c.deadlines.ensures ∙ deadlines_whole t (age_at c.args.ages.now) in
    let first =
    subst (λ (f : ℕ → ℕ). MatchOption o (NoneUntried n u) (DueFirst n f u)) same
    (subst (λ (m : ℕ). MatchOption o (NoneUntried m u) (DueFirst m (age_at c.deadlines.result) u)) c.count.ensures c.due_first.ensures) in
    record {
      value = chosen_value n d u o r c.unwrap_or.ensures first;
      some = chosen_some n d u o r c.unwrap_or.ensures first;
      none = chosen_none n d u o r c.unwrap_or.ensures first;
    }
