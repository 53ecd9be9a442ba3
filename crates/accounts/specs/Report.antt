-- What the account of a round record tells.
use Rattle.std.specs.Prelude.{◌≡◌, ℕ, ◌+◌, ◌<◌, length, count_by, nat_eq}
use Rattle.rig.specs.Orders.{again}
use Rattle.rig.specs.Checks.{FirstClosing}
use Rattle.banks.specs.Table.{panel, dwell, gap}
use Rattle.readers.specs.Panelled.{panelled}
use Rattle.readers.specs.Ticks.{LapTicks, LongestWait}
use Rattle.rounds.specs.declared.record.RoundRecord.{RoundRecord}
use Rattle.rounds.specs.Record.{list_of}
use Rattle.accounts.specs.declared.report.RoundAccount.{RoundAccount}
use Rattle.accounts.specs.declared.report.BankAccount.{BankAccount}

-- The account tells of the round: every lap but the first takes so many ticks, and `certain` is the first lap whose last state covers its first.
pub record RoundTold (r : RoundRecord) (a : RoundAccount) : Type 0 where
  pub banks : a.banks ≡ r.table.count
  pub settle : a.settle ≡ r.table.settle
  pub dwells : a.dwells ≡ length (list_of r)
  pub ticks : LapTicks r.table (list_of r) a.ticks
  pub certain : FirstClosing (panelled r.table) (list_of r) a.certain

-- The account tells of bank b: the longest wait occurs and none is longer, and the gap is longer by the slack.
pub record BankTold (r : RoundRecord) (b : ℕ) (a : BankAccount) : Type 0 where
  pub bank : b < r.table.count
  pub panel_told : a.panel ≡ panel r.table b
  pub dwell_told : a.dwell ≡ dwell r.table b
  pub gap_told : a.gap ≡ gap r.table b
  pub dwells_told : a.dwells ≡ count_by (λ x. nat_eq x b) (list_of r)
  pub longest_told : LongestWait r.table (again (list_of r)) b a.longest
  pub slack_told : a.longest + a.slack ≡ gap r.table b
