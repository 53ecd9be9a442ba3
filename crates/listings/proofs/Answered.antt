-- What is written of a finding.
use Rattle.std.proofs.Common.{◌≡◌, ℕ, ◌<◌, ◌≤◌, List, ◌++◌, length, take, drop, sym, refl, ap, ◌∙◌, Result, Ok, Err, IfOk}
use denote.Ref.{Bor}
use Rattle.rig.specs.declared.verdict.Verdict.{Verdict}
use Rattle.banks.specs.Stored.{most_dwells}
use Rattle.banks.specs.declared.table.BankTable.{BankTable}
use Rattle.rounds.specs.declared.record.RoundRecord.{RoundRecord}
use Rattle.rounds.specs.Record.{list_of}
use Rattle.rounds.specs.Stored.{round_text}
use Rattle.listings.specs.declared.finding.Finding.{Finding}
use Rattle.listings.specs.declared.finding.Finding.TheVariants.{NoRound, Round, Open, Full}
use Rattle.listings.specs.declared.short.TooShort.{TooShort}
use Rattle.listings.specs.Answers.{StandsBehind, answer_text, text_behind}
use Rattle.listings.specs.Findings.{finding_copied, verdict_of}
use Rattle.listings.specs.Texts.{verdict_line}
use Rattle.listings.specs.Writing.{Wrote}
use Rattle.listings.proofs.Readings.{front, reads_back, round_is}

-- the round of a finding, if it has one, has some dwells and not too many
abbrev pub HasDwells : Finding RoundRecord → Type 0
HasDwells NoRound = Unit {0}
HasDwells (Round r) = (0 < length (list_of r)) × (length (list_of r) ≤ most_dwells)
HasDwells Open = Unit {0}
HasDwells Full = Unit {0}

stands : (f : Finding RoundRecord) (bytes : List ℕ) → HasDwells f → bytes ≡ text_behind f → StandsBehind f bytes
stands NoRound bytes some e = e
stands (Round r) bytes some e = reads_back r bytes some.0 some.1 e
stands Open bytes some e = e
stands Full bytes some e = e

-- what stands behind the line of the verdict
pub answer_read : (f : Finding RoundRecord) (visits : ℕ) (before after : List ℕ) (reply : Result ℕ TooShort) → HasDwells f → Wrote (answer_text f visits) before after reply → IfOk reply (λ n. StandsBehind f (drop 13 (take n after)))
answer_read f visits before after (Ok n) some w = stands f (drop 13 (take n after)) some (ap (drop 13) (front (answer_text f visits) before after n w))
answer_read f visits before after (Err e) some w = tt

-- the line of a verdict with a round behind it
pub found_text : (g : Finding (Bor RoundRecord)) (r : Bor RoundRecord) (v : Verdict) (visits : ℕ) (t : BankTable) (xs : List ℕ) → g ≡ Round r → v ≡ verdict_of g → t ≡ r.now.table → xs ≡ list_of r.now → verdict_line v visits ++ round_text t xs ≡ answer_text (finding_copied g) visits
found_text g r v visits t xs is e table list =
    ap (λ (u : Verdict). verdict_line u visits ++ round_text t xs) (e ∙ ap verdict_of is)
    ∙ ap (λ (ys : List ℕ). verdict_line (verdict_of (Round r)) visits ++ ys) (round_is r.now t xs table list)
    ∙ ap (λ h. answer_text (finding_copied h) visits) (sym is)

-- the line alone, where there is no round
pub plain_text : (g : Finding (Bor RoundRecord)) (visits : ℕ) → ((r : Bor RoundRecord) → g ≡ Round r → ⊥) → (verdict_line (verdict_of g) visits ≡ answer_text (finding_copied g) visits) × HasDwells (finding_copied g)
plain_text NoRound visits none = (refl, tt)
plain_text (Round r) visits none = absurd (none r refl)
plain_text Open visits none = (refl, tt)
plain_text Full visits none = (refl, tt)
