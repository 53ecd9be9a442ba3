-- The lengths of what the planner prints.
use Rattle.std.proofs.Common.{◌≡◌, ℕ, ◌≤◌, true, List, length, is_ok, Ok, Err, Result, refl, arith}
use Rattle.std.proofs.lemmas.List.{length-append}
use Rattle.refusals.specs.declared.Refusal.{Refusal}
use Rattle.rounds.specs.declared.record.RoundRecord.{RoundRecord}
use Rattle.rounds.specs.Record.{list_of}
use Rattle.listings.specs.declared.finding.Finding.{Finding}
use Rattle.listings.specs.declared.finding.Finding.TheVariants.{NoRound, Round, Open, Full}
use Rattle.listings.specs.declared.short.TooShort.{TooShort}
use Rattle.listings.specs.Answers.{answer_text, text_behind}
use Rattle.listings.specs.Findings.{verdict_of}
use Rattle.listings.specs.Texts.{refused_line, verdict_line}
use Rattle.listings.specs.Writing.{Wrote}
use Rattle.listings.proofs.RoundLines.{length_round}
use Rattle.planner.specs.Answers.{most_text}

-- a buffer of that length has room
pub room_enough : (text before after : List ℕ) (reply : Result ℕ TooShort) → Wrote text before after reply → length text ≤ most_text → most_text ≤ length before → is_ok reply ≡ true
room_enough text before after (Ok n) w few long = refl
room_enough text before after (Err e) w few long = absurd (omega (arith, w.short))

behind_length : (f : Finding RoundRecord) → length (text_behind f) ≤ 9725
behind_length NoRound = omega arith
behind_length (Round r) = omega (arith, length_round r.table (list_of r), r.few, r.table.few)
behind_length Open = omega arith
behind_length Full = omega arith

pub answer_length : (f : Finding RoundRecord) (visits : ℕ) → length (answer_text f visits) ≤ most_text
answer_length f visits =
    let line : length (verdict_line (verdict_of f) visits) ≡ 13 = refl in
    omega (arith, length-append (verdict_line (verdict_of f) visits) (text_behind f), behind_length f, line)

pub refused_length : (r : Refusal) → length (refused_line r) ≤ most_text
refused_length r = let line : length (refused_line r) ≡ 21 = refl in omega (arith, line)
