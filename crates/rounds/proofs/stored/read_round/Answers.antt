use Rattle.std.proofs.Common.{ℕ, false, List, is_ok, Ok, Err, Decides, Result, refl, ◌∙◌, MatchResult}
use Rattle.std.proofs.lemmas.Result.{err_from_is_err_and, MatchResult-weaker}
use Rattle.std.proofs.lemmas.Bool.{false≢true}
use Rattle.refusals.specs.declared.Refusal.{Refusal}
use Rattle.frames.specs.declared.faults.FileFault.{FileFault}
use Rattle.frames.specs.Faults.{file_told}
use Rattle.banks.specs.declared.table.BankTable.{BankTable}
use Rattle.rounds.specs.declared.record.RoundRecord.{RoundRecord}
use Rattle.rounds.specs.Record.{Holds}
use Rattle.rounds.specs.Stored.{IsStored, SomeStored, OnlyRound, FirstFault, OnlyFault}
use Rattle.rounds.specs.Stored.FirstFault.{in_table, at_end}
use Rattle.rounds.proofs.Gaps.{decides_regular}
use Rattle.rounds.proofs.Ends.{lines_read, list_fault, stored_whole, stored_held}
use Rattle.rounds.proofs.OneRound.{stored_no_fault, one_round, one_first_fault}
use Rattle.rounds.proofs.stored.read_round.Goals as goal

-- a fault leaves no round that the bytes could be the text of
refuted : (bytes : List ℕ) (r : Refusal) → FirstFault bytes r → Decides false (SomeStored bytes)
refuted bytes r f = (λ e. absurd (false≢true e), λ s. absurd (stored_no_fault bytes s.table s.list s.stored r f))

decided : {X : Type 0} (bytes : List ℕ) (r : Result X FileFault) → MatchResult r (λ x. SomeStored bytes) (λ e. FirstFault bytes (file_told e)) → Decides (is_ok r) (SomeStored bytes)
decided bytes (Ok x) s = (λ e. s, λ h. refl)
decided bytes (Err e) f = refuted bytes (file_told e) f

-- the answer is the only one
only_round : (bytes : List ℕ) (t : BankTable) (xs : List ℕ) (r : RoundRecord) → IsStored bytes t xs → Holds r t xs → OnlyRound bytes r
only_round bytes t xs r s h = record {
  one = λ u ys k. let same = one_round bytes t xs s u ys k in record { table = h.table ∙ same.0; list = h.list ∙ same.1 };
  faultless = stored_no_fault bytes t xs s;
}

only_fault : (bytes : List ℕ) (r : Refusal) → FirstFault bytes r → OnlyFault bytes r
only_fault bytes r f s g = one_first_fault bytes s r g f

pub returns-in_err-front : goal.returns-in_err-front
returns-in_err-front c =
    let p = err_from_is_err_and c.from_residual.result c.from_residual.ensures.1 in
    let fault = in_table c.in_err-front.ensures in
    let no = refuted c.args.bytes.now _ fault in
    rw (p.1, p.2) (record { reply = (fault, refl); exact = no; regular = decides_regular c.args.bytes.now false no; only = only_fault c.args.bytes.now _ fault })

pub returns-in_err-list : goal.returns-in_err-list
returns-in_err-list c =
    let p = err_from_is_err_and c.from_residual-in_err-list.result c.from_residual-in_err-list.ensures.1 in
    let fault = list_fault c.args.bytes.now _ _ _ c.in_ok-front.ensures.0 _ _ c.count.ensures c.from.ensures _ c.in_err-list.ensures in
    let no = refuted c.args.bytes.now _ fault in
    rw (p.1, p.2) (record { reply = (fault, refl); exact = no; regular = decides_regular c.args.bytes.now false no; only = only_fault c.args.bytes.now _ fault })

pub returns : goal.returns
returns c =
    let bytes = c.args.bytes.now in
    let t = c.in_ok-front.front.table in
    let list = c.in_ok-list.ensures in
    let lines = lines_read bytes _ _ _ c.in_ok-front.ensures.0 _ _ (list.0 ∙ c.from.ensures) list.1.text in
    let exact : Decides (is_ok c.finish.result) (SomeStored bytes) = decided bytes c.finish.result (MatchResult-weaker c.finish.result c.finish.ensures
    (λ x h. record { table = t; list = _; stored = stored_whole bytes t _ _ lines h.0 })
    (λ e h. at_end t _ _ lines h.0)) in
    record {
      reply = MatchResult-weaker c.finish.result c.finish.ensures
          (λ x h. stored_held bytes t _ _ (stored_whole bytes t _ _ lines h.0) h.1)
          (λ e h. (at_end t _ _ lines h.0, h.1));
      exact = exact;
      regular = decides_regular bytes (is_ok c.finish.result) exact;
      only = MatchResult-weaker c.finish.result c.finish.ensures
          (λ x h. only_round bytes t _ _ (stored_whole bytes t _ _ lines h.0) h.1)
          (λ e h. only_fault bytes _ (at_end t _ _ lines h.0));
    }
