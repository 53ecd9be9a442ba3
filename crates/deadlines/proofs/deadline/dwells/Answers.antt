use Rattle.std.proofs.Common.{rules}
use Rattle.banks.specs.Table.{dwell}
use Rattle.deadlines.proofs.Lists.{filled}
use Rattle.deadlines.proofs.deadline.dwells.Goals as goal

pub returns : goal.returns
returns c = filled _ _ (dwell c.args.table.now) (λ i y q k. search rules) _ c.from_fn.ensures.items
