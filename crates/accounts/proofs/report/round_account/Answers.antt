use Rattle.std.proofs.Common.{arith, rules}
use Rattle.std.proofs.lemmas.Bool.{some_since}
use Rattle.std.proofs.lemmas.Grind.{common_steps}
use Rattle.accounts.proofs.Served.{round_lap}
use Rattle.accounts.proofs.report.round_account.Goals as goal

pub unwrap-ticks-requires : goal.unwrap-ticks-requires
unwrap-ticks-requires c =
    some_since c.lap_ticks.result _ _ c.lap_ticks.ensures
    (λ none. none (round_lap c.table-table.result c.list-list.result.now (search rules) (grind (arith, common_steps))))
