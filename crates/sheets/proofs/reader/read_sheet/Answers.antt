use Rattle.std.proofs.Common.{◌≡◌, ℕ, false, List, ◌++◌, Decides, refl, sym, ap, ◌∙◌, subst, rules, Result, Err, MatchResult}
use Rattle.std.specs.Result.{is_ok}
use Rattle.frames.specs.Faults.{file_told}
use Rattle.sheets.specs.declared.faults.SheetFault.{SheetFault}
use Rattle.sheets.specs.Faults.{sheet_told}
use Rattle.std.proofs.lemmas.Result.{err_from_is_err_and}
use Rattle.std.proofs.lemmas.Bool.{false≢true}
use Rattle.refusals.specs.declared.Refusal.{Refusal}
use Rattle.sheets.specs.declared.sheet.Sheet.{Sheet}
use Rattle.frames.specs.BadLines.{BadLine}
use Rattle.sheets.specs.SheetLines.{head_line, head_column}
use Rattle.sheets.specs.SheetText.{sheet_text, SomeSheet, FrontRead, FirstFault, OnlySheet, OnlyFault}
use Rattle.sheets.specs.SheetText.FirstFault.{too_long, in_head, in_bank, in_feeders}
use Rattle.sheets.proofs.OneSheet.{one_first_fault, sheet_no_fault, one_sheet}
use Rattle.sheets.proofs.reader.read_sheet.Goals as goal

-- a fault leaves no sheet that the bytes could be the text of, and no other fault
refuted : (bytes : List ℕ) (r : Refusal) → FirstFault bytes r → Decides false (SomeSheet bytes)
refuted bytes r f = (λ e. absurd (false≢true e), λ s. absurd (sheet_no_fault bytes s.0 s.1 r f))

only_fault : (bytes : List ℕ) (r : Refusal) → FirstFault bytes r → OnlyFault bytes r
only_fault bytes r f s g = one_first_fault bytes s r g f

only_sheet : (bytes : List ℕ) (s : Sheet) → bytes ≡ sheet_text s → OnlySheet bytes s
only_sheet bytes s e = record { one = λ t d. one_sheet bytes s t e d; faultless = sheet_no_fault bytes s e }

-- what follows where a refusal tells the first fault
record Refused (bytes : List ℕ) (o : Result Sheet SheetFault) : Type 0 where
  reply : MatchResult o (λ s. bytes ≡ sheet_text s) (λ e. FirstFault bytes (sheet_told e))
  exact : Decides (is_ok o) (SomeSheet bytes)
  only : MatchResult o (λ s. OnlySheet bytes s) (λ e. OnlyFault bytes (sheet_told e))

refused : (bytes : List ℕ) (o : Result Sheet SheetFault) (e : SheetFault) → o ≡ Err e → FirstFault bytes (sheet_told e) → Refused bytes o
refused bytes o e is f = rw is (record { reply = f; exact = refuted bytes _ f; only = only_fault bytes _ f })

pub returns-in_err-lines : goal.returns-in_err-lines
returns-in_err-lines c =
    let p = err_from_is_err_and c.from_residual.result c.from_residual.ensures.1 in
    let e = c.in_err-lines.ensures in
    let r = refused c.args.bytes.now _ _ p.1 (subst (λ f. FirstFault c.args.bytes.now (sheet_told f)) (sym p.2) (too_long e.0 (ap file_told e.1))) in
    record { reply = r.reply; exact = r.exact; only = r.only }

pub returns-in_err-head : goal.returns-in_err-head
returns-in_err-head c =
    let p = err_from_is_err_and c.from_residual-in_err-head.result c.from_residual-in_err-head.ensures.1 in
    let l = c.in_ok-lines.ensures in
    let bad = subst (λ (xs : List ℕ). BadLine 1 head_column xs 1 (file_told c.in_err-head.field-0.0)) l.1 (subst (λ (n : ℕ). BadLine 1 head_column c.in_ok-lines.lines.rest.now n (file_told c.in_err-head.field-0.0)) l.2 c.in_err-head.ensures) in
    let r = refused c.args.bytes.now _ _ p.1 (subst (λ f. FirstFault c.args.bytes.now (sheet_told f)) (sym p.2) (in_head l.0 bad)) in
    record { reply = r.reply; exact = r.exact; only = r.only }

pub returns-in_err-panels : goal.returns-in_err-panels
returns-in_err-panels c =
    let p = err_from_is_err_and c.from_residual-in_err-panels.result c.from_residual-in_err-panels.ensures.1 in
    let l = c.in_ok-lines.ensures in
    let h = c.in_ok-head.head in
    let fault = in_bank h.banks h.settle _ l.0 (record { enough = h.enough; few = h.few; settles = h.settles }) (sym l.1 ∙ c.in_ok-head.ensures.0) c.in_err-panels.ensures in
    let r = refused c.args.bytes.now _ _ p.1 (subst (λ f. FirstFault c.args.bytes.now (sheet_told f)) (sym p.2) fault) in
    record { reply = r.reply; exact = r.exact; only = r.only }

pub returns-in_err-list : goal.returns-in_err-list
returns-in_err-list c =
    let p = err_from_is_err_and c.from_residual-in_err-list.result c.from_residual-in_err-list.ensures.1 in
    let l = c.in_ok-lines.ensures in
    let h = c.in_ok-head.head in
    let read = c.in_ok-panels.ensures.0 in
    let front : FrontRead c.args.bytes.now h.banks h.settle c.in_ok-panels.panels c.read_banks.new.lines.rest.now = record {
      size = l.0;
      head = record { enough = h.enough; few = h.few; settles = h.settles };
      each = read.within;
      text = sym l.1 ∙ c.in_ok-head.ensures.0 ∙ ap (λ (xs : List ℕ). head_line h.banks h.settle ++ xs) read.text;
    } in
    let fault = in_feeders h.banks h.settle c.in_ok-panels.panels _ front c.in_err-list.ensures in
    let r = refused c.args.bytes.now _ _ p.1 (subst (λ f. FirstFault c.args.bytes.now (sheet_told f)) (sym p.2) fault) in
    record { reply = r.reply; exact = r.exact; only = r.only }

pub returns : goal.returns
returns c =
    let bytes = c.args.bytes.now in
    let s = c.of-2.result in
    let text : bytes ≡ sheet_text s = search rules in
    record { reply = text; exact = (λ _. (s, text), λ _. refl); only = only_sheet bytes s text }
