-- What the reading of a line of a sheet says of the line, and the step from line to line.
use Rattle.std.proofs.Common.{◌≡◌, ℕ, ◌+◌, ◌<◌, ◌≤◌, ◌≢◌, List, [], ◌∷◌, ◌++◌, length, get_or, set, sym, ap, ◌∙◌, subst, not-suc-le-zero, arith, below_more, refl, Bor}
use Rattle.std.proofs.lemmas.List.{get_or_append_left, get_or-set_same, get_or-set_other}
use Rattle.std.proofs.lemmas.Bool.Decides.{nat_tests}
use Rattle.frames.specs.declared.fields.Field.{Field}
use Rattle.frames.specs.declared.frame.Frame.TheVariants.{SheetBank}
use Rattle.frames.specs.Frames.{FrameRead}
use Rattle.frames.specs.Fields.{numbers_in, bad_column, number_in}
use Rattle.frames.proofs.FieldsRead.{frame_of_numbers}
use Rattle.frames.proofs.LinesTo.{lines_none, lines_same, one_line_more}
use Rattle.sheets.specs.Limits.{most_panel}
use Rattle.sheets.specs.SheetLines.{bank_line, BanksRead}

-- The fields of a head line, and of the line that is due for bank i.
abbrev pub head_fields : List Field
head_fields = record { place = 0; width = 2; low = 2; high = 16 } ∷ record { place = 2; width = 4; low = 0; high = 1000 } ∷ []

abbrev pub bank_fields : ℕ → List Field
bank_fields i = record { place = 0; width = 2; low = i; high = i } ∷ record { place = 2; width = 2; low = 0; high = 3 } ∷ []

-- The line of bank i that was read.
pub bank_read : (i : ℕ) (bytes : List ℕ) (b : Bor (List ℕ)) (after ns : List ℕ) → FrameRead bytes (SheetBank b) after → ns ≡ numbers_in (bank_fields i) b.now → bad_column (bank_fields i) b.now ≡ 0 → (get_or ns 1 0 ≤ most_panel) × (bytes ≡ bank_line i (get_or ns 1 0) ++ after)
bank_read i bytes b after ns read is good =
    let n : get_or ns 0 0 ≡ number_in 0 2 b.now = ap (λ (xs : List ℕ). get_or xs 0 0) is in
    let p : get_or ns 1 0 ≡ number_in 2 2 b.now = ap (λ (xs : List ℕ). get_or xs 1 0) is in
    let own : get_or ns 0 0 ≡ i = grind (arith, nat_tests) in
    (grind (arith, nat_tests), frame_of_numbers bytes (SheetBank b) after read (bank_fields i) refl ns is ∙ ap (λ (k : ℕ). bank_line k (get_or ns 1 0) ++ after) own)

-- No bank is read yet, and one bank more.
pub no_banks : (bytes panels : List ℕ) → BanksRead bytes panels 0 bytes
no_banks bytes panels = record { within = λ i h. absurd (not-suc-le-zero h); text = lines_none _ bytes }

pub one_bank_more : (bytes panels : List ℕ) (i : ℕ) (rest : List ℕ) (p : ℕ) (next : List ℕ) → BanksRead bytes panels i rest → i < length panels → p ≤ most_panel → rest ≡ bank_line i p ++ next → BanksRead bytes (set panels i p) (i + 1) next
one_bank_more bytes panels i rest p next r s w e =
    let same = get_or-set_same panels i p 0 s in
    let other : (k : ℕ) → k < i → get_or (set panels i p) k 0 ≡ get_or panels k 0 = λ k h. get_or-set_other panels i k p 0 (let n : k ≢ i = omega arith in n) in
    record {
      within = below_more (λ k. get_or (set panels i p) k 0 ≤ most_panel) i (λ k h. subst (λ (n : ℕ). n ≤ most_panel) (sym (other k h)) (r.within k h)) (subst (λ (n : ℕ). n ≤ most_panel) (sym same) w);
      text = one_line_more (λ k. bank_line k (get_or panels k 0)) (λ k. bank_line k (get_or (set panels i p) k 0)) i bytes rest next
          (λ k h. ap (bank_line k) (other k h)) r.text (e ∙ ap (λ (n : ℕ). bank_line i n ++ next) (sym same));
    }

-- What stands behind the banks that were read does not count.
pub banks_front : (bytes panels more : List ℕ) (n : ℕ) (rest : List ℕ) → length panels ≡ n → BanksRead bytes panels n rest → BanksRead bytes (panels ++ more) n rest
banks_front bytes panels more n rest l r =
    let same : (k : ℕ) → k < n → get_or panels k 0 ≡ get_or (panels ++ more) k 0 = λ k h. sym (get_or_append_left panels more 0 k (omega arith)) in
    record {
      within = λ k h. subst (λ (m : ℕ). m ≤ most_panel) (same k h) (r.within k h);
      text = r.text ∙ ap (λ (ls : List ℕ). ls ++ rest) (lines_same _ _ n (λ k h. ap (bank_line k) (same k h)));
    }
