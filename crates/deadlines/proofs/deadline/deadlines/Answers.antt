use Rattle.std.proofs.Common.{rules}
use Rattle.banks.specs.Places.{age_at}
use Rattle.deadlines.specs.Deadlines.{deadline}
use Rattle.deadlines.proofs.Lists.{filled}
use Rattle.deadlines.proofs.deadline.deadlines.Goals as goal

pub returns : goal.returns
returns c = filled _ _ (deadline c.args.table.now (age_at c.args.ages.now)) (λ i y q k. search rules) _ c.from_fn.ensures.items
