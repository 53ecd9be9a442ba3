-- The round that a planner runs.
use Rattle.std.proofs.Common.{◌≡◌, ℕ, ◌+◌, ◌-◌, ◌≤◌, false, List, length, take, drop, is_ok, IfOk, Some, None, Ok, Err, Decides, Option, Result, refl, ap, subst, arith, MatchResult}
use Rattle.std.specs.List.{between}
use Rattle.std.proofs.lemmas.List.{length-drop}
use Rattle.std.proofs.lemmas.Bool.{both_ways}
use Rattle.rig.specs.Checks.{told}
use Rattle.rig.specs.Guides.{Guided}
use Rattle.rig.specs.declared.check.Unfit.{Unfit}
use Rattle.sheets.specs.declared.sheet.Sheet.{Sheet}
use Rattle.banks.specs.declared.table.BankTable.{BankTable}
use Rattle.banks.specs.FromSheet.{TableOf}
use Rattle.rounds.specs.declared.record.RoundRecord.{RoundRecord}
use Rattle.rounds.specs.Record.{Holds, MakesRecord, RecordFault}
use Rattle.search.specs.declared.calls.Call.{Call}
use Rattle.search.specs.declared.calls.Outcome.{Outcome}
use Rattle.search.specs.declared.calls.Reply.{Reply}
use Rattle.search.specs.declared.calls.Short.{Short}
use Rattle.search.specs.declared.row.Row.{Row}
use Rattle.search.specs.declared.step.Standing.{Standing}
use Rattle.search.specs.declared.step.Standing.TheVariants.{Open, NoRound, Full, Round}
use Rattle.search.specs.Calls.{LastCopied, book_state, buffers}
use Rattle.search.specs.Promised.{Searched}
use Rattle.planner.specs.Plans.{RunsOn, round_in}
use Rattle.planner.specs.Plans.RunsOn.{found, unfit}

module _ (s : Sheet) (room : List ℕ) (outcome : Result Outcome Short) (handed runs : RoundRecord) (t : BankTable) (x : Outcome) (n : ℕ) (own : TableOf s t) (done : outcome ≡ Ok x) (round : x.round ≡ Some n) where
  filled : {U : Type 0} (r : Result U Unfit) → MatchResult r (λ _. Holds runs t (round_in room x n)) (λ e. RecordFault t (round_in room x n) (told e) × (runs ≡ handed)) → Decides (is_ok r) (MakesRecord t (round_in room x n)) → RunsOn s room outcome handed runs
  filled (Ok u) h d = found t x n own done round h
  filled (Err e) h d = unfit t x n own done round (λ makes. both_ways false refl (d.1 makes)) h.1

  -- the record was filled with the part of the bytes that the round takes, or stayed as it was
  pub filled_part : {U : Type 0} (r : Result U Unfit) → MatchResult r (λ _. Holds runs t (between x.from (x.from + n) room)) (λ e. RecordFault t (between x.from (x.from + n) room) (told e) × (runs ≡ handed)) → Decides (is_ok r) (MakesRecord t (between x.from (x.from + n) room)) → RunsOn s room outcome handed runs
  filled_part {U} r h d =
      let part : between x.from (x.from + n) room ≡ round_in room x n = let long : (x.from + n) - x.from ≡ n = omega arith in ap (λ k. take k (drop x.from room)) long in
      filled r (subst (λ xs. MatchResult r (λ _. Holds runs t xs) (λ e. RecordFault t xs (told e) × (runs ≡ handed))) part h) (subst (λ xs. Decides (is_ok r) (MakesRecord t xs)) part d)

-- the round that was copied at the end stands within the bytes
module _ {S : Type 0} (rows : List (Row S)) (taken : ℕ) (out out' : List ℕ) where
  copied_fits : (standing : Standing) (o : Option ℕ) → LastCopied (book_state rows taken standing) out o out' → (n : ℕ) → o ≡ Some n → n ≤ length out
  copied_fits standing None h n is = let z : ◌≡◌ {A = ℕ} 0 1 = cc in absurd (omega arith)
  copied_fits (Round p last) (Some k) h n is = let same : k ≡ n = cc in omega (arith, h.1)
  copied_fits Open (Some k) h n is = let z : ◌≡◌ {A = ℕ} 0 1 = cc h.0 in absurd (omega arith)
  copied_fits NoRound (Some k) h n is = let z : ◌≡◌ {A = ℕ} 0 1 = cc h.0 in absurd (omega arith)
  copied_fits Full (Some k) h n is = let z : ◌≡◌ {A = ℕ} 0 1 = cc h.0 in absurd (omega arith)

module _ {R S : Type 0} (means : R → Guided S) (rows : List (Row S)) (calls : List (Call R)) (replies : List Reply) (room : List ℕ) (rows' : List (Row S)) (replies' : List Reply) (room' : List ℕ) (long : length room' ≡ length room) where
  pub round_fits : (r : Result Outcome Short) → Searched means rows calls replies room rows' replies' room' r → IfOk r (λ x. (n : ℕ) → x.round ≡ Some n → x.from + n ≤ length room')
  round_fits (Ok x) h = λ n is.
      let ran = h.ran in
      let end = ran.end in
      let fits = copied_fits end.rows end.taken (drop (buffers calls) room) (drop (buffers calls) room') end.standing x.round ran.copied n is in
      omega (arith, fits, length-drop (buffers calls) room, ran.bytes_enough, ran.from)
  round_fits (Err e) h = tt
