-- What is written reads back.
use Rattle.std.proofs.Common.{◌≡◌, ℕ, ◌<◌, ◌≤◌, List, length, take, drop, sym, ap, ◌∙◌, Result, Ok, Err, IfOk}
use Rattle.std.proofs.lemmas.List.{take_at}
use Rattle.banks.specs.declared.table.BankTable.{BankTable}
use Rattle.banks.specs.Stored.{most_dwells}
use Rattle.rounds.specs.declared.record.RoundRecord.{RoundRecord}
use Rattle.rounds.specs.Record.{list_of}
use Rattle.rounds.specs.Stored.{round_text, IsStored}
use Rattle.rounds.proofs.OneRound.{one_round}
use Rattle.listings.specs.declared.short.TooShort.{TooShort}
use Rattle.listings.specs.Writing.{Put, Wrote}
use Rattle.listings.specs.Answers.{stored_text, ReadsBack}

-- the front of the buffer is the text
pub front : (text before after : List ℕ) (n : ℕ) → Put text before after n → take n after ≡ text
front text before after n p = ap (take n) p.bytes ∙ take_at text (drop n before) n (sym p.told)

-- the round of a record, by its table and its list
pub round_is : (r : RoundRecord) (t : BankTable) (xs : List ℕ) → t ≡ r.table → xs ≡ list_of r → round_text t xs ≡ stored_text r
round_is r t xs e f = ap (λ (u : BankTable). round_text u xs) e ∙ ap (round_text r.table) f

-- the text of a record's round reads back
pub reads_back : (r : RoundRecord) (bytes : List ℕ) → 0 < length (list_of r) → length (list_of r) ≤ most_dwells → bytes ≡ stored_text r → ReadsBack bytes r
reads_back r bytes some few e =
    let stored : IsStored bytes r.table (list_of r) = record {
      few = few;
      kept = record { some_move = some; endless = r.kept };
      text = e;
    } in
    record {
      stored = stored;
      same = λ s k. let q = one_round bytes s.table (list_of s) k r.table (list_of r) stored in record { table = q.0; list = q.1 };
    }

-- what is written of a record reads back
pub read_back : (r : RoundRecord) (before after : List ℕ) (reply : Result ℕ TooShort) → 0 < length (list_of r) → length (list_of r) ≤ most_dwells → Wrote (stored_text r) before after reply → IfOk reply (λ n. ReadsBack (take n after) r)
read_back r before after (Ok n) some few w = reads_back r (take n after) some few (front (stored_text r) before after n w)
read_back r before after (Err e) some few w = tt
