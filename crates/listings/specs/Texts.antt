-- The text of the frames that a listing has.
use Rattle.std.specs.Prelude.{ℕ, List, [], ◌∷◌, ◌++◌}
use Rattle.std.specs.List.{flat_map}
use Rattle.refusals.specs.declared.Refusal.{Refusal}
use Rattle.rig.specs.declared.verdict.Verdict.{Verdict}
use Rattle.rig.specs.Verdicts.{verdict_number}
use Rattle.frames.specs.Digits.{numeral}
use Rattle.listings.specs.declared.fields.Field.{Field}

-- the digits of a field
abbrev pub field_text : Field → List ℕ
field_text f = numeral f.0 f.1

-- the digits of fields, one behind the other
abbrev pub fields_text : List Field → List ℕ
fields_text fs = flat_map field_text fs

-- a line of these fields, closed
abbrev pub line_text : List Field → List ℕ
line_text fs = fields_text fs ++ (10 ∷ [])

-- kind 10: the verdict of a search, and its visits
abbrev pub verdict_line : Verdict → ℕ → List ℕ
verdict_line v visits = numeral 2 16 ++ (numeral 2 (verdict_number v) ++ (numeral 8 visits ++ (10 ∷ [])))

-- kind 1F: number, line and column of a refusal
abbrev pub refused_line : Refusal → List ℕ
refused_line r = numeral 2 31 ++ (numeral 2 r.number ++ (numeral 8 r.line ++ (numeral 8 r.column ++ (10 ∷ []))))
