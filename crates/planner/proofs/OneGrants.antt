-- One grant over the planner's rows.
use Rattle.std.proofs.Common.{◌≡◌, ℕ, List, [], length, take, drop, Some, None, Ok, Option, Result, sym, refl, ap, ◌∙◌, subst, arith}
use Rattle.std.proofs.lemmas.List.{length-drop, length-take}
use Rattle.std.proofs.lemmas.List.Elements.{All-cons, All-nil}
use Rattle.rig.specs.Guides.{Guided}
use Rattle.rig.specs.Orders.{LawfulForEver}
use Rattle.rig.specs.declared.verdict.Verdict.{Verdict}
use Rattle.rig.specs.declared.verdict.Verdict.TheVariants as verdict
use Rattle.sheets.specs.declared.sheet.Sheet.{Sheet}
use Rattle.banks.specs.declared.table.BankTable.{BankTable}
use Rattle.banks.specs.FromSheet.{TableOf}
use Rattle.rounds.specs.declared.record.RoundRecord.{RoundRecord}
use Rattle.rounds.specs.Record.{MakesRecord, list_of}
use Rattle.listings.specs.declared.finding.Finding.{Finding}
use Rattle.listings.specs.declared.finding.Finding.TheVariants.{NoRound, Round, Open, Full}
use Rattle.listings.specs.Findings.{finding_of, verdict_of}
use Rattle.search.specs.declared.calls.Call.{Call}
use Rattle.search.specs.declared.calls.Outcome.{Outcome}
use Rattle.search.specs.declared.calls.Reply.{Reply}
use Rattle.search.specs.declared.calls.Short.{Short}
use Rattle.search.specs.declared.row.Row.{Row}
use Rattle.search.specs.declared.step.Standing.{Standing}
use Rattle.search.specs.declared.step.Standing.TheVariants as standings
use Rattle.search.specs.Calls.{Brings, LastCopied, book_state}
use Rattle.search.specs.Grants.{verdict_of as standing_verdict}
use Rattle.search.specs.Promised.{Completed, Promised, Searched}
use Rattle.planner.specs.Plans.{RunsOn, round_in}
use Rattle.planner.specs.Plans.RunsOn.{found, unfit, no_round, not_run}
use Rattle.planner.specs.Answers.{AnswersOn, ServesSheet, one_grant_of, plan_rows, plan_visits}

-- a finding has the verdict that it is made of, and a round only with verdict round
verdict_kept : (v : Verdict) (r : RoundRecord) → verdict_of (finding_of v r) ≡ v
verdict_kept verdict.NoRound r = refl
verdict_kept verdict.Round r = refl
verdict_kept verdict.Open r = refl
verdict_kept verdict.Full r = refl

round_or : RoundRecord → Finding RoundRecord → RoundRecord
round_or d NoRound = d
round_or d (Round r) = r
round_or d Open = d
round_or d Full = d

found_with : (v : Verdict) (r q : RoundRecord) → finding_of v r ≡ Round q → (v ≡ verdict.Round) × (q ≡ r)
unfolding round_or
found_with v r q is =
    let e : v ≡ verdict.Round = sym (verdict_kept v r) ∙ ap verdict_of is in
    (e, sym (ap (round_or r) (subst (λ u. finding_of u r ≡ Round q) e is)))

-- a round is copied only with verdict round
module _ {S : Type 0} (rows : List (Row S)) (taken : ℕ) (out out' : List ℕ) where
  copied_round : (standing : Standing) (o : Option ℕ) → LastCopied (book_state rows taken standing) out o out' → (n : ℕ) → o ≡ Some n → standing_verdict standing ≡ verdict.Round
  copied_round standing None h n is = let z : ◌≡◌ {A = ℕ} 0 1 = cc in absurd (omega arith)
  copied_round (standings.Round p last) (Some k) h n is = refl
  copied_round standings.Open (Some k) h n is = let z : ◌≡◌ {A = ℕ} 0 1 = cc h.0 in absurd (omega arith)
  copied_round standings.NoRound (Some k) h n is = let z : ◌≡◌ {A = ℕ} 0 1 = cc h.0 in absurd (omega arith)
  copied_round standings.Full (Some k) h n is = let z : ◌≡◌ {A = ℕ} 0 1 = cc h.0 in absurd (omega arith)

module _ {R S : Type 0} (means : R → Guided S) (rig : R) (rows : List (Row S)) (replies : List Reply) (room : List ℕ) (rows' : List (Row S)) (replies' : List Reply) (room' : List ℕ) (many : length rows ≡ plan_rows) (room-is : length room ≡ plan_rows) where
  module _ (s : Sheet) (stock r : RoundRecord) (x : Outcome) (kept : length rows' ≡ length rows) (long : length room' ≡ length room) (serves : ServesSheet s (means rig).rig) (h : Completed means rows (one_grant_of rig) replies room rows' replies' room' x) where
    promised : Promised (means rig) plan_visits rows' (drop 0 room') x
    promised = h.promised (means rig) (All-cons (Brings means (means rig)) _ [] refl (All-nil (Brings means (means rig))))

    -- the round that the search found makes a record
    makes : (t : BankTable) (n : ℕ) → TableOf s t → x.round ≡ Some n → MakesRecord t (round_in room' x n)
    makes t n own is =
        record {
          few = omega (arith, length-take n (drop x.from room'), length-drop x.from room', long, room-is);
          kept = serves t own (round_in room' x n) (subst (λ k. LawfulForEver (means rig).rig (take n (drop k room'))) (sym h.ran.from) (promised.round_is_good n is));
        }

    grant_sheet : RunsOn s room' (Ok x) stock r → x.verdict ≡ verdict.Round → TableOf s r.table
    grant_sheet (found t y n own done is holds) v = subst (TableOf s) (sym holds.table) own
    grant_sheet (unfit t y n own done is bad same) v = let e : y ≡ x = cc in absurd (bad (subst (λ z. MakesRecord t (round_in room' z n)) (sym e) (makes t n own (sym (ap (λ z. z.round) e) ∙ is))))
    grant_sheet (no_round y done is same) v = let some = h.always.copied v in let e : y ≡ x = cc in let z : ◌≡◌ {A = ℕ} 0 1 = cc (some.1, ap (λ z. z.round) e) in absurd (omega arith)
    grant_sheet (not_run e done same) v = let z : ◌≡◌ {A = ℕ} 0 1 = cc in absurd (omega arith)

    grant_list : RunsOn s room' (Ok x) stock r → x.verdict ≡ verdict.Round → (n : ℕ) × (x.round ≡ Some n) × (list_of r ≡ take n (drop 0 room'))
    grant_list (found t y n own done is holds) v =
        let e : y ≡ x = cc in
        (n, sym (ap (λ z. z.round) e) ∙ is, holds.list ∙ ap (λ k. take n (drop k room')) (ap (λ z. z.from) e ∙ h.ran.from))
    grant_list (unfit t y n own done is bad same) v = let e : y ≡ x = cc in absurd (bad (subst (λ z. MakesRecord t (round_in room' z n)) (sym e) (makes t n own (sym (ap (λ z. z.round) e) ∙ is))))
    grant_list (no_round y done is same) v = let some = h.always.copied v in let e : y ≡ x = cc in let z : ◌≡◌ {A = ℕ} 0 1 = cc (some.1, ap (λ z. z.round) e) in absurd (omega arith)
    grant_list (not_run e done same) v = let z : ◌≡◌ {A = ℕ} 0 1 = cc in absurd (omega arith)

    round_says : (n : ℕ) → x.round ≡ Some n → x.verdict ≡ verdict.Round
    round_says n is =
        let end = h.ran.end in
        h.ran.verdict ∙ copied_round end.rows end.taken (drop 0 room) (drop 0 room') end.standing x.round h.ran.copied n is

    pub answers_on : RunsOn s room' (Ok x) stock r → AnswersOn s (means rig) (finding_of x.verdict r) x.taken
    answers_on runs = record {
      search = record {
        rows = rows';
        many = kept ∙ many;
        bytes = drop 0 room';
        outcome = x;
        promised = promised;
        verdict = sym (verdict_kept x.verdict r);
        taken = refl;
        found = λ q is. let same = found_with x.verdict r q is in let list = grant_list runs same.0 in (list.0, list.1, ap list_of same.1 ∙ list.2);
        full = λ is. omega (arith, h.always.full (sym (verdict_kept x.verdict r) ∙ ap verdict_of is), kept, many);
        decided = λ is. omega (arith, h.always.used (sym (verdict_kept x.verdict r) ∙ ap verdict_of is), h.always.within, kept, many);
        few = omega (arith, h.always.within, kept, many);
      };
      for_sheet = λ q is. let same = found_with x.verdict r q is in subst (λ z. TableOf s z.table) (sym same.1) (grant_sheet runs same.0);
    }

-- as it comes from a plan
pub answers_from : {R S : Type 0} (means : R → Guided S) (rig : R) (calls : List (Call R)) (rows : List (Row S)) (replies : List Reply) (room : List ℕ) (rows' : List (Row S)) (replies' : List Reply) (room' : List ℕ) (outcome : Result Outcome Short) (s : Sheet) (stock started r : RoundRecord) (x : Outcome) (f : Finding RoundRecord) → length rows ≡ plan_rows → length room ≡ plan_rows → length rows' ≡ length rows → length room' ≡ length room → calls ≡ one_grant_of rig → ServesSheet s (means rig).rig → outcome ≡ Ok x → r ≡ started → Searched means rows calls replies room rows' replies' room' outcome → RunsOn s room' outcome stock started → f ≡ finding_of x.verdict r → AnswersOn s (means rig) f x.taken
answers_from means rig calls rows replies room rows' replies' room' outcome s stock started r x f many room-is kept long one serves done same searched runs made =
    subst (λ h. AnswersOn s (means rig) h x.taken) (sym made)
    (answers_on means rig rows replies room rows' replies' room' many room-is s stock r x kept long serves
    (subst (λ cs. Completed means rows cs replies room rows' replies' room' x) one (subst (λ o. Searched means rows calls replies room rows' replies' room' o) done searched))
    (subst (RunsOn s room' (Ok x) stock) (sym same) (subst (λ o. RunsOn s room' o stock started) done runs)))
