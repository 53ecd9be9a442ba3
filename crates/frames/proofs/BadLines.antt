-- What the reading of a line says of the line, and how its digits fall into fields.
use Rattle.std.proofs.Common.{◌≡◌, ℕ, eqb, ◌+◌, ◌<◌, ◌≤◌, List, ◌∷◌, ◌++◌, length, take, drop, sym, refl, ap, ◌∙◌, subst, ap₂, append_assoc, append-nil, arith}
use Rattle.std.proofs.lemmas.Bool.{eq-eqb, ne_eqb}
use Rattle.std.proofs.lemmas.List.{take-append-drop, drop-drop, drop_all, length-take, length-drop}
use Rattle.refusals.specs.Numbers.{out_of_place, bad_field}
use Rattle.frames.specs.declared.frame.Frame.{Frame}
use Rattle.frames.specs.declared.faults.FileFault.{FileFault}
use Rattle.frames.specs.Digits.{AllDigits, numeral, value, Writes}
use Rattle.frames.specs.Frames.{kind_of, body_of, FrameRead, NextFails}
use Rattle.frames.specs.Faults.{file_told}
use Rattle.frames.specs.BadLines.{field, BadLine}
use Rattle.frames.proofs.Shapes.{due, frame_length}
use Rattle.frames.proofs.Numerals.{numeral_value, writes_value, digits_front, digits_drop}
use Rattle.frames.proofs.BadLinesAmong.{one_from_among, next_fails_among, other_frame_among, bad_frame_among}

-- A line that cannot be read is bad, and the fault tells how.
pub next_fails : (due : ℕ) (bad-column : List ℕ → ℕ) (bytes : List ℕ) (line : ℕ) (e : FileFault) → length bytes ≤ 65536 → NextFails bytes line e → BadLine due bad-column bytes line (file_told e)
next_fails due bad-column bytes line e s h = one_from_among due bad-column bytes line (file_told e) (next_fails_among (eqb due) (λ _. bad-column) bytes line e s h)

-- A frame of another kind is out of place.
pub other_frame : (due : ℕ) (bad-column : List ℕ → ℕ) (bytes : List ℕ) (line : ℕ) (f : Frame) (after : List ℕ) → FrameRead bytes f after → (kind_of f ≡ due → ⊥) → BadLine due bad-column bytes line (out_of_place line)
other_frame due bad-column bytes line f after h other =
    one_from_among due bad-column bytes line (out_of_place line) (other_frame_among (eqb due) (λ _. bad-column) bytes line f after h (ne_eqb due (kind_of f) (λ q. other (sym q))))

-- A frame of the kind that is due, with a field outside its limits.
pub bad_frame : (bad-column : List ℕ → ℕ) (bytes : List ℕ) (line : ℕ) (f : Frame) (after : List ℕ) (column : ℕ) → FrameRead bytes f after → column ≡ bad-column (body_of f) → 0 < column → BadLine (kind_of f) bad-column bytes line (bad_field line column)
bad_frame bad-column bytes line f after column h e some =
    one_from_among (kind_of f) bad-column bytes line (bad_field line column) (bad_frame_among (eqb (kind_of f)) (λ _. bad-column) bytes line f after column h (eq-eqb (kind_of f) (kind_of f) refl) e some)

-- The bytes whose first line is read as a frame.
pub frame_text : (bytes : List ℕ) (f : Frame) (after : List ℕ) → FrameRead bytes f after → bytes ≡ numeral 2 (kind_of f) ++ (body_of f ++ (10 ∷ after))
frame_text bytes f after h = let a = h.closed.text in let b = h.frame.text in let d = append_assoc (numeral 2 (kind_of f)) (body_of f) (10 ∷ after) in cc

-- The digits after the kind are digits.
pub body_digits : (line : List ℕ) (kind : ℕ) (body : List ℕ) → AllDigits line → line ≡ numeral 2 kind ++ body → AllDigits body
body_digits line kind body t e = digits_drop (numeral 2 kind ++ body) 2 (subst AllDigits e t)

pub read_digits : (bytes : List ℕ) (f : Frame) (after : List ℕ) → FrameRead bytes f after → AllDigits (body_of f)
read_digits bytes f after h = body_digits h.line (kind_of f) (body_of f) h.frame.digits h.frame.text

pub read_length : (bytes : List ℕ) (f : Frame) (after : List ℕ) → FrameRead bytes f after → length (body_of f) ≡ due f
read_length bytes f after h = frame_length h.line f h.frame

-- The next field of digits is its numeral.
pub field_text : (place width : ℕ) (body : List ℕ) → AllDigits body → place + width ≤ length body → drop place body ≡ numeral width (field place width body) ++ drop (place + width) body
field_text place width body t s =
    let l : length (take width (drop place body)) ≡ width = length-take width (drop place body) ∙ omega (arith, length-drop place body) in
    let a = take-append-drop width (drop place body) in
    let n = numeral_value (take width (drop place body)) (digits_front (drop place body) width (digits_drop body place t)) in
    let w : numeral (length (take width (drop place body))) (field place width body) ≡ numeral width (field place width body) = ap (λ k. numeral k (field place width body)) l in
    let d = drop-drop width place body in
    cc

-- The last field ends the digits.
pub last_field_text : (place width : ℕ) (body : List ℕ) → AllDigits body → place + width ≡ length body → drop place body ≡ numeral width (field place width body)
last_field_text place width body t s =
    field_text place width body t (omega arith) ∙ ap (λ xs. numeral width (field place width body) ++ xs) (drop_all (place + width) body (omega arith)) ∙ append-nil (numeral width (field place width body))

-- The same by the number that is read.
pub next_field : (place width n : ℕ) (body tail : List ℕ) → AllDigits body → place + width ≤ length body → n ≡ field place width body → drop (place + width) body ≡ tail → drop place body ≡ numeral width n ++ tail
next_field place width n body tail t s e d = field_text place width body t s ∙ ap₂ (λ (m : ℕ) (xs : List ℕ). numeral width m ++ xs) (sym e) d

pub end_field : (place width n : ℕ) (body : List ℕ) → AllDigits body → place + width ≡ length body → n ≡ field place width body → drop place body ≡ numeral width n
end_field place width n body t s e = last_field_text place width body t s ∙ ap (numeral width) (sym e)

-- What a field is read as.
pub field_length : (place width : ℕ) (xs : List ℕ) → place + width ≤ length xs → length (take width (drop place xs)) ≡ width
field_length place width xs s = length-take width (drop place xs) ∙ omega (arith, length-drop place xs)

pub field_read : (place width : ℕ) (xs part : List ℕ) (n : ℕ) → part ≡ take width (drop place xs) → width ≤ 8 → place + width ≤ length xs → AllDigits (take width (drop place xs)) → (length part ≤ 8 → AllDigits part → Writes part n) → n ≡ field place width xs
field_read place width xs part n e s l t read =
    writes_value part n (read (omega (arith, ap length e, field_length place width xs l)) (subst AllDigits (sym e) t)) ∙ ap value e

pub field_refused : (place width : ℕ) (xs part : List ℕ) → part ≡ take width (drop place xs) → place + width ≤ length xs → (width ≤ 8 → place + width ≤ length xs → AllDigits (take width (drop place xs)) → ⊥) → length part ≤ 8 → AllDigits part → ⊥
field_refused place width xs part e l none s t = none (omega (arith, ap length e, field_length place width xs l)) l (subst AllDigits e t)

-- A field of digits is made of digits.
pub field_digits : (place width : ℕ) (xs : List ℕ) → AllDigits xs → AllDigits (take width (drop place xs))
field_digits place width xs t = digits_front (drop place xs) width (digits_drop xs place t)

-- The number that is read from a field, where there is such a field of digits.
abbrev pub Reads : (place width : ℕ) → List ℕ → ℕ → Type 0
Reads place width xs n = width ≤ 8 → place + width ≤ length xs → AllDigits (take width (drop place xs)) → n ≡ field place width xs

pub reads_in : (bytes : List ℕ) (f : Frame) (after : List ℕ) (place width n : ℕ) → FrameRead bytes f after → width ≤ 8 → place + width ≤ due f → Reads place width (body_of f) n → n ≡ field place width (body_of f)
reads_in bytes f after place width n h s l read =
    read s (subst (λ (k : ℕ). place + width ≤ k) (sym (read_length bytes f after h)) l) (field_digits place width (body_of f) (read_digits bytes f after h))
