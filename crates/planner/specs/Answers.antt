-- What a planner answers to a sheet.
use Rattle.std.specs.Prelude.{◌≡◌, ℕ, ◌-◌, ◌≤◌, List, [], ◌∷◌, length, replicate, take, drop, IfOk, Some, Result, ◌≢◌}
use Rattle.refusals.specs.declared.Refusal.{Refusal}
use Rattle.rig.specs.Meaning.{Meaning}
use Rattle.rig.specs.Guides.{Guided}
use Rattle.rig.specs.Orders.{LawfulForEver, Order}
use Rattle.sheets.specs.declared.sheet.Sheet.{Sheet}
use Rattle.sheets.specs.SheetText.{FirstFault, sheet_text}
use Rattle.banks.specs.declared.table.BankTable.{BankTable}
use Rattle.sheets.specs.Limits.{most_banks}
use Rattle.banks.specs.Limits.{no_bank, stock_bank}
use Rattle.banks.specs.FromSheet.{TableOf}
use Rattle.readers.specs.Panelled.{guided_panelled, panelled}
use Rattle.readers.specs.Plain.{guided_plain}
use Rattle.readers.specs.Ticks.{Regular}
use Rattle.rounds.specs.declared.record.RoundRecord.{RoundRecord}
use Rattle.rounds.specs.Record.{list_of}
use Rattle.running.specs.Told.{order_of, reply_at}
use Rattle.running.specs.Swaps.{NoSwapMissed}
use Rattle.listings.specs.declared.finding.Finding.{Finding}
use Rattle.listings.specs.declared.finding.Finding.TheVariants.{NoRound, Round, Open, Full}
use Rattle.listings.specs.declared.short.TooShort.{TooShort}
use Rattle.listings.specs.Answers.{StandsBehind, answer_text}
use Rattle.listings.specs.Findings.{verdict_of}
use Rattle.listings.specs.Texts.{refused_line}
use Rattle.listings.specs.Writing.{Wrote}
use Rattle.search.specs.declared.calls.Call.{Call}
use Rattle.search.specs.declared.calls.Call.TheVariants.{Grant}
use Rattle.search.specs.declared.calls.Outcome.{Outcome}
use Rattle.search.specs.declared.row.Row.{Row}
use Rattle.search.specs.Promised.{Promised}

-- the rows that the planner searches in, and the visits that it grants
abbrev pub plan_rows : ℕ
plan_rows = 1024

abbrev pub plan_visits : ℕ
plan_visits = 4096

-- The record of the stock round.
pub record Stock (r : RoundRecord) : Type 0 where
  pub count : r.table.count ≡ 2
  pub settle : r.table.settle ≡ 0
  pub banks : r.table.banks ≡ stock_bank ∷ stock_bank ∷ replicate (most_banks - 2) no_bank
  pub list : list_of r ≡ 0 ∷ 1 ∷ []

-- The record of the round that was found, and where none was found that of the stock round.
abbrev pub RecordOf : Finding RoundRecord → RoundRecord → Type 0
RecordOf (Round r) q = q ≡ r
RecordOf NoRound q = Stock q
RecordOf Open q = Stock q
RecordOf Full q = Stock q

-- A search of one grant over the planner's rows, on a rig of this meaning, came to this after so many visits, with everything
-- that is promised of it; a record has the round that it found. Full: every row is taken. It is never open.
pub record OneGrant {S : Type 0} (m : Guided S) (f : Finding RoundRecord) (visits : ℕ) : Type 0 where
  pub rows : List (Row S)
  pub many : length rows ≡ plan_rows
  pub bytes : List ℕ
  pub outcome : Outcome
  pub promised : Promised m plan_visits rows bytes outcome
  pub verdict : outcome.verdict ≡ verdict_of f
  pub taken : outcome.taken ≡ visits
  pub found : (r : RoundRecord) → f ≡ Round r → (n : ℕ) × (outcome.round ≡ Some n) × (list_of r ≡ take n bytes)
  pub full : f ≡ Full → visits ≡ plan_rows
  pub decided : f ≡ Open → ⊥
  pub few : visits ≤ plan_rows

-- one grant of all visits, with this rig
abbrev pub one_grant_of : {R : Type 0} → R → List (Call R)
one_grant_of rig = Grant rig plan_visits ∷ []

-- What the rig finds lawful for ever is so on the panelled reader of the sheet's table.
abbrev pub ServesSheet : {S : Type 0} → Sheet → Meaning S → Type 0
ServesSheet s m = (t : BankTable) → TableOf s t → (xs : List ℕ) → LawfulForEver m xs → LawfulForEver (panelled t) xs

-- What such a search for a sheet answers: a record has the sheet's table.
pub record AnswersOn {S : Type 0} (s : Sheet) (m : Guided S) (f : Finding RoundRecord) (visits : ℕ) : Type 0 where
  pub search : OneGrant m f visits
  pub for_sheet : (r : RoundRecord) → f ≡ Round r → TableOf s r.table

-- What is found for a sheet, after so many visits, with the record of the round where there is one.
-- The search is on the plain reader of the sheet's table where its settle time is 0, and else on the panelled one.
-- None: no order of dwells keeps every gap of the table, in ticks. Round: the record has the sheet's table, its round keeps every gap,
-- and a reader started on it misses no swap of the sheet.
pub record Answers (s : Sheet) (f : Finding RoundRecord) (visits : ℕ) : Type 0 where
  pub table : BankTable
  pub of_sheet : TableOf s table
  pub unsettled : s.settle ≡ 0 → AnswersOn s (guided_plain table) f visits
  pub settling : (s.settle ≢ 0) → AnswersOn s (guided_panelled table) f visits
  pub none : f ≡ NoRound → (o : Order) → Regular table o → ⊥
  pub for_sheet : (r : RoundRecord) → f ≡ Round r → r.table ≡ table
  pub regular : (r : RoundRecord) → f ≡ Round r → Regular table (order_of r)
  pub swaps : (r : RoundRecord) → f ≡ Round r → NoSwapMissed s (reply_at r)

-- every answer has at most so many bytes
abbrev pub most_text : ℕ
most_text = 9738

-- What is written for these bytes: the answer to the sheet that they are the text of, in which the stored round reads back; or the
-- refusal that tells their first fault.
pub data PlanWritten (bytes before after : List ℕ) (reply : Result ℕ TooShort) : Type 0 where
  answered : (s : Sheet) (f : Finding RoundRecord) (visits : ℕ) → bytes ≡ sheet_text s → Answers s f visits
      → Wrote (answer_text f visits) before after reply → IfOk reply (λ n. StandsBehind f (drop 13 (take n after))) → PlanWritten bytes before after reply
  refused : (r : Refusal) → FirstFault bytes r → Wrote (refused_line r) before after reply → PlanWritten bytes before after reply
