-- What a planner prints of a search, and that the round in it reads back.
use Rattle.std.specs.Prelude.{◌≡◌, ℕ, List, [], ◌++◌}
use Rattle.rounds.specs.declared.record.RoundRecord.{RoundRecord}
use Rattle.rounds.specs.Record.{Holds, list_of}
use Rattle.rounds.specs.Stored.{round_text, IsStored}
use Rattle.listings.specs.declared.finding.Finding.{Finding}
use Rattle.listings.specs.declared.finding.Finding.TheVariants.{NoRound, Round, Open, Full}
use Rattle.listings.specs.Findings.{verdict_of}
use Rattle.listings.specs.Texts.{verdict_line}

-- the stored round of a record
abbrev pub stored_text : RoundRecord → List ℕ
stored_text r = round_text r.table (list_of r)

-- what stands behind the line of a verdict: the stored round where there is a round, and else nothing
abbrev pub text_behind : Finding RoundRecord → List ℕ
text_behind NoRound = []
text_behind (Round r) = stored_text r
text_behind Open = []
text_behind Full = []

-- the line of the verdict, and what stands behind it
abbrev pub answer_text : Finding RoundRecord → ℕ → List ℕ
answer_text f visits = verdict_line (verdict_of f) visits ++ text_behind f

-- The bytes are the stored round of this record, so that they can be read; and any record that they are the stored round of
-- holds the same table and list.
pub record ReadsBack (bytes : List ℕ) (r : RoundRecord) : Type 0 where
  pub stored : IsStored bytes r.table (list_of r)
  pub same : (s : RoundRecord) → IsStored bytes s.table (list_of s) → Holds s r.table (list_of r)

-- What stands behind the line of the verdict that there is a round reads back as this record; behind any other, nothing stands.
abbrev pub StandsBehind : Finding RoundRecord → List ℕ → Type 0
StandsBehind NoRound bytes = bytes ≡ []
StandsBehind (Round r) bytes = ReadsBack bytes r
StandsBehind Open bytes = bytes ≡ []
StandsBehind Full bytes = bytes ≡ []
