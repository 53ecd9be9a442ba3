-- Where every line of a stored round is good: what the checker's reply says of its end.
use Rattle.std.proofs.Common.{refl, ◌≡◌, ℕ, List, ◌++◌, length, Result, Ok, Err, MatchResult, sym, ap, ap₂, ◌∙◌, subst, ⊎_elim, append_assoc, arith}
use Rattle.std.specs.Result.{IsErrAnd}
use Rattle.std.proofs.lemmas.List.{append-nil, nil_from_length}
use Rattle.refusals.specs.declared.Refusal.{Refusal}
use Rattle.refusals.specs.Numbers.{not_lawful_in_file}
use Rattle.rig.specs.declared.check.Unfit.{Unfit}
use Rattle.rig.specs.declared.check.Unfit.TheVariants.{NoMove, Unlawful}
use Rattle.rig.specs.Checks.{OnlyMoves, Checked, told}
use Rattle.rig.proofs.Laps.{Says, list_says}
use Rattle.frames.specs.declared.faults.FileFault.{FileFault}
use Rattle.frames.specs.Faults.{file_told}
use Rattle.banks.specs.declared.table.BankTable.{BankTable}
use Rattle.readers.specs.Panelled.{panelled}
use Rattle.banks.specs.Stored.{head_line, bank_lines, TableRead}
use Rattle.rounds.specs.declared.record.RoundRecord.{RoundRecord}
use Rattle.rounds.specs.Record.{Holds, list_of}
use Rattle.rounds.specs.Parts.{part_lines, parts_of, PartsFault}
use Rattle.rounds.proofs.PartLines.{fault_along}
use Rattle.rounds.specs.Stored.{round_text, last_line, in_file_at, Ended, EndFault, IsStored, LinesRead, FirstFault}
use Rattle.rounds.specs.Stored.EndFault.{unlawful}
use Rattle.rounds.specs.Stored.FirstFault.{in_list}

-- A list of banks of the table that the checker refuses has an unlawful move.
module _ (t : BankTable) (xs rest : List ℕ) (only : OnlyMoves t.count xs) where
  unlawful_told : (line : ℕ) (u : Unfit) (f : FileFault) → Says (panelled t) xs u → f ≡ in_file_at line (told u) → line ≡ last_line t (length xs) → EndFault t xs rest (file_told f)
  unlawful_told line (NoMove p) f bad is last =
      absurd (⊎_elim (λ e. omega (arith, only.some_move)) (λ h. omega (arith, only.each p h.0, h.1)) bad)
  unlawful_told line (Unlawful lap p) f bad is last = unlawful lap p bad (ap file_told is ∙ ap (λ n. not_lawful_in_file n lap p) last)

  pub end_told : (Told : Unfit → FileFault → Type 0) (line : ℕ) (checked : Result ℕ Unfit) (r : Result ℕ FileFault) (f : FileFault) → Checked (panelled t) xs checked
      → MatchResult checked (λ n. r ≡ Ok n) (λ u. IsErrAnd r (Told u)) → r ≡ Err f → ((u : Unfit) → Told u f → f ≡ in_file_at line (told u)) → line ≡ last_line t (length xs) → EndFault t xs rest (file_told f)
  end_told Told line (Ok n) r f c m was is last = absurd (cc)
  end_told Told line (Err u) r f c m was is last =
      unlawful_told line u f (list_says (panelled t) xs u c) (is u (subst (λ (s : Result ℕ FileFault). IsErrAnd s (Told u)) was m)) last

module _ (bytes : List ℕ) (t : BankTable) (dwells : ℕ) (behind : List ℕ) (table : TableRead bytes t dwells behind) where
  -- The lines of the table and of the list that were read, one behind the other.
  pub lines_read : (xs rest : List ℕ) → length xs ≡ dwells → behind ≡ part_lines xs (parts_of (length xs)) ++ rest → LinesRead bytes t xs rest
  lines_read xs rest long text =
      let head = head_line t.count t.settle (length xs) in
      let banks = bank_lines t.banks t.count in
      let parts = part_lines xs (parts_of (length xs)) in
      record {
        size = table.size;
        few = omega (arith, table.few_dwells);
        text = table.text ∙ ap₂ (λ (n : ℕ) (ys : List ℕ). head_line t.count t.settle n ++ (banks ++ ys)) (sym long) text
            ∙ ap (λ ys. head ++ ys) (sym (append_assoc banks parts rest)) ∙ sym (append_assoc head (banks ++ parts) rest);
      }

  -- A bad line of the list.
  pub list_fault : (count long : ℕ) → count ≡ t.count → long ≡ dwells → (r : Refusal) → PartsFault count long behind r → FirstFault bytes r
  list_fault count long is due r bad = in_list t dwells behind table (fault_along is due refl bad)

-- A round whose end is good.
pub stored_whole : (bytes : List ℕ) (t : BankTable) (xs rest : List ℕ) → LinesRead bytes t xs rest → Ended t xs rest → IsStored bytes t xs
stored_whole bytes t xs rest lines ended = record {
  few = lines.few;
  kept = ended.kept;
  text = lines.text ∙ ap (λ ys. round_text t xs ++ ys) (nil_from_length rest ended.nothing) ∙ append-nil (round_text t xs);
}

pub stored_held : (bytes : List ℕ) (t : BankTable) (xs : List ℕ) (r : RoundRecord) → IsStored bytes t xs → Holds r t xs → IsStored bytes r.table (list_of r)
stored_held bytes t xs r s h =
    subst (λ (u : BankTable). IsStored bytes u (list_of r)) (sym h.table) (subst (IsStored bytes t) (sym h.list) s)
