-- What is read of a frame whose digits fall into fields.
use Rattle.std.proofs.Common.{◌≡◌, ℕ, suc, ◌+◌, ◌≤◌, Bool, true, ◌&&◌, cond, leb, eqb, List, [], ◌∷◌, ◌++◌, length, get_or, drop, refl, sym, ap, ap₂, ◌∙◌, subst, arith, append_assoc, append-nil}
use Rattle.std.proofs.lemmas.Bool.{and_parts, leb-true, eqb-true}
use Rattle.std.proofs.lemmas.List.{get_or-drop, drop-drop, drop_all}
use Rattle.frames.specs.declared.fields.Field.{Field}
use Rattle.frames.specs.declared.frame.Frame.{Frame}
use Rattle.frames.specs.declared.faults.FileFault.{FileFault}
use Rattle.frames.specs.Digits.{AllDigits, numeral}
use Rattle.frames.specs.Faults.{file_told}
use Rattle.frames.specs.Frames.{kind_of, body_of, FrameRead}
use Rattle.frames.specs.BadLines.{field, outside, BadLine}
use Rattle.frames.specs.Fields.{numbers_in, bad_column, number_in, ToldColumn}
use Rattle.frames.proofs.Shapes.{due}
use Rattle.frames.proofs.BadLines.{field_digits, field_text, frame_text, read_digits, read_length, bad_frame}
use Rattle.frames.proofs.FieldNumbers.{number_of_field}

-- The fields stand one behind the other, from one place to another, and each has at most 8 digits.
abbrev pub tiles : (from : ℕ) → List Field → (to : ℕ) → Bool
tiles from [] to = eqb from to
tiles from (f ∷ fs) to = (eqb f.place from && leb f.width 8) && tiles (from + f.width) fs to

-- The column of the first number outside its limits, or 0, by what the digits write.
abbrev pub outside_column : List Field → List ℕ → ℕ
outside_column [] xs = 0
outside_column (f ∷ fs) xs = cond (outside f.low f.high (field f.place f.width xs)) (3 + f.place) (outside_column fs xs)

-- The digits that write numbers into the fields: those numbers that stand from place k on.
abbrev pub texts : (k : ℕ) → List Field → List ℕ → List ℕ
texts k [] ns = []
texts k (f ∷ fs) ns = numeral f.width (get_or ns k 0) ++ texts (suc k) fs ns

-- Where the fields end, nothing before it ends.
pub tiles_end : (from : ℕ) (fs : List Field) (to : ℕ) → tiles from fs to ≡ true → from ≤ to
tiles_end from [] to e = omega (arith, eqb-true from to e)
tiles_end from (f ∷ fs) to e = let l : from + f.width ≤ to = tiles_end (from + f.width) fs to (and_parts _ _ e).1 in omega arith

-- The first of such fields.
pub record First (from : ℕ) (f : Field) (fs : List Field) (to : ℕ) : Type 0 where
  pub here : f.place ≡ from
  pub small : f.width ≤ 8
  pub within : from + f.width ≤ to
  pub rest : tiles (from + f.width) fs to ≡ true

pub first_tile : (from : ℕ) (f : Field) (fs : List Field) (to : ℕ) → tiles from (f ∷ fs) to ≡ true → First from f fs to
first_tile from f fs to e =
    let p = and_parts _ _ e in
    let q = and_parts _ _ p.0 in
    record { here = eqb-true f.place from q.0; small = leb-true f.width 8 q.1; within = tiles_end (from + f.width) fs to p.1; rest = p.1 }

module _ (xs : List ℕ) (t : AllDigits xs) (to : ℕ) (l : to ≤ length xs) where
  number_is_written : (from : ℕ) (f : Field) (fs : List Field) → First from f fs to → number_in f.place f.width xs ≡ field f.place f.width xs
  number_is_written from f fs h = number_of_field f.place f.width xs h.small (omega (arith, h.here, h.within)) (field_digits f.place f.width xs t)

  pub column_is_written : (from : ℕ) (fs : List Field) → tiles from fs to ≡ true → bad_column fs xs ≡ outside_column fs xs
  column_is_written from [] e = refl
  column_is_written from (f ∷ fs) e =
      let h = first_tile from f fs to e in
      ap₂ (λ (n c : ℕ). cond (outside f.low f.high n) (3 + f.place) c) (number_is_written from f fs h) (column_is_written (from + f.width) fs h.rest)

  -- the digits from one place on are those of the numbers in the fields, and then those behind the fields
  pub fields_text : (from k : ℕ) (fs : List Field) (ns : List ℕ) → tiles from fs to ≡ true → drop k ns ≡ numbers_in fs xs → drop from xs ≡ texts k fs ns ++ drop to xs
  fields_text from k [] ns e read = ap (λ (n : ℕ). drop n xs) (eqb-true from to e)
  fields_text from k (f ∷ fs) ns e read =
      let h = first_tile from f fs to e in
      let at : k ≡ k + 0 = omega arith in
      let n : get_or ns k 0 ≡ field from f.width xs = ap (λ (m : ℕ). get_or ns m 0) at ∙ sym (get_or-drop k ns 0 0) ∙ ap (λ (ms : List ℕ). get_or ms 0 0) read ∙ number_is_written from f fs h ∙ ap (λ (p : ℕ). field p f.width xs) h.here in
      let next : suc k ≡ k + 1 = omega arith in
      let more : drop (suc k) ns ≡ numbers_in fs xs = ap (λ (m : ℕ). drop m ns) next ∙ sym (drop-drop 1 k ns) ∙ ap (drop 1) read in
      let rest = fields_text (from + f.width) (suc k) fs ns h.rest more in
      field_text from f.width xs t (omega (arith, h.within))
      ∙ ap₂ (λ (m : ℕ) (ys : List ℕ). numeral f.width m ++ ys) (sym n) rest
      ∙ sym (append_assoc (numeral f.width (get_or ns k 0)) (texts (suc k) fs ns) (drop to xs))

-- What is told by the numbers that are read is told by what the digits write.
pub told_written : (xs : List ℕ) → AllDigits xs → (to : ℕ) → to ≤ length xs → (from : ℕ) (fs : List Field) → tiles from fs to ≡ true → (line : ℕ) (e : FileFault) → ToldColumn (bad_column fs xs) line e → ToldColumn (outside_column fs xs) line e
told_written xs t to l from fs tiled line e h = subst (λ (c : ℕ). ToldColumn c line e) (column_is_written xs t to l from fs tiled) h

-- A frame that was read, by its case.
pub read_as : {bytes : List ℕ} {f g : Frame} {after : List ℕ} → f ≡ g → FrameRead bytes f after → FrameRead bytes g after
read_as {bytes} {f} {g} {after} same read = subst (λ (h : Frame). FrameRead bytes h after) same read

-- A frame that was read, whose digits after the kind fall into these fields.
module _ (bytes : List ℕ) (f : Frame) (after : List ℕ) (read : FrameRead bytes f after) (fs : List Field) (whole : tiles 0 fs (due f) ≡ true) where
  ends : due f ≤ length (body_of f)
  ends = omega (arith, read_length bytes f after read)

  -- a number outside its limits makes its line bad
  pub told_bad : (line : ℕ) (e : FileFault) → ToldColumn (bad_column fs (body_of f)) line e → BadLine (kind_of f) (outside_column fs) bytes line (file_told e)
  told_bad line e h =
      subst (BadLine (kind_of f) (outside_column fs) bytes line) (ap file_told (sym h.1))
      (bad_frame (outside_column fs) bytes line f after _ read (column_is_written (body_of f) (read_digits bytes f after read) (due f) ends 0 fs whole) h.0)

  -- the text of its line, by the numbers
  pub frame_of_numbers : (ns : List ℕ) → ns ≡ numbers_in fs (body_of f) → bytes ≡ numeral 2 (kind_of f) ++ (texts 0 fs ns ++ (10 ∷ after))
  frame_of_numbers ns e =
      let body = fields_text (body_of f) (read_digits bytes f after read) (due f) ends 0 0 fs ns whole e in
      let none = drop_all (due f) (body_of f) (omega (arith, read_length bytes f after read)) in
      frame_text bytes f after read
      ∙ ap (λ (ys : List ℕ). numeral 2 (kind_of f) ++ (ys ++ (10 ∷ after))) (body ∙ ap (λ (ys : List ℕ). texts 0 fs ns ++ ys) none ∙ append-nil (texts 0 fs ns))
