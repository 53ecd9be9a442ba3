-- Frames: a line is a kind of two digits, and as many digits after it as that kind has.
use Rattle.std.specs.Prelude.{◌≡◌, ℕ, ◌+◌, ◌*◌, ◌<◌, cond, List, [], ◌∷◌, ◌++◌, length, take, ◌==◌, ◌≢◌}
use Rattle.frames.specs.declared.digits.DigitFault.{DigitFault}
use Rattle.frames.specs.declared.frame.Frame.{Frame}
use Rattle.frames.specs.declared.frame.Frame.TheVariants.{SheetHead, SheetBank, Feeder, FeederCount, Verdict, RoundHead, RoundBank, RoundPart, Refused}
use Rattle.frames.specs.declared.frame.FrameFault.{FrameFault}
use Rattle.frames.specs.declared.frame.FrameFault.TheVariants.{Digit, Shape}
use Rattle.frames.specs.declared.faults.FileFault.{FileFault}
use Rattle.frames.specs.declared.faults.FileFault.TheVariants.{Frame as InFrame, TooLong, Unclosed, AfterEnd, Misplaced, Field, Unlawful}
use Rattle.frames.specs.Digits.{AllDigits, numeral, value, FirstNoDigit, column_of}
use Rattle.frames.specs.Lines.{NoneCloses, ClosedLine}

-- The number of each kind of frame.
abbrev pub kind_of : Frame → ℕ
kind_of (SheetHead b) = 1
kind_of (SheetBank b) = 2
kind_of (Feeder b) = 3
kind_of (FeederCount b) = 4
kind_of (Verdict b) = 16
kind_of (RoundHead b) = 17
kind_of (RoundBank b) = 18
kind_of (RoundPart b) = 19
kind_of (Refused b) = 31

-- The digits after the kind.
abbrev pub body_of : Frame → List ℕ
body_of (SheetHead b) = b.now
body_of (SheetBank b) = b.now
body_of (Feeder b) = b.now
body_of (FeederCount b) = b.now
body_of (Verdict b) = b.now
body_of (RoundHead b) = b.now
body_of (RoundBank b) = b.now
body_of (RoundPart b) = b.now
body_of (Refused b) = b.now

-- How many digits come after each kind; 0 where the kind is unknown, since every known one has some.
-- A part of a round, kind 19, begins with a count of two digits, and has two more for each of its dwells.
unfoldable pub digits_after : ℕ → List ℕ → ℕ
digits_after k body =
    cond (k == 1) 6
    (cond (k == 2) 4
    (cond (k == 3) 14
    (cond (k == 4) 4
    (cond (k == 16) 10
    (cond (k == 17) 10
    (cond (k == 18) 12
    (cond (k == 19) (2 + 2 * value (take 2 body))
    (cond (k == 31) 18 0))))))))

-- The text of a line: a kind, the digits after it, and the byte that closes it.
abbrev pub line_of : ℕ → List ℕ → List ℕ
line_of kind body = numeral 2 kind ++ (body ++ (10 ∷ []))

-- The kind is known, and the digits after it are as many as it has.
pub record Shaped (k : ℕ) (body : List ℕ) : Type 0 where
  pub known : 0 < digits_after k body
  pub fits : length body ≡ digits_after k body

-- The bytes of a line are this frame.
pub record IsFrame (bytes : List ℕ) (f : Frame) : Type 0 where
  pub digits : AllDigits bytes
  pub text : bytes ≡ numeral 2 (kind_of f) ++ body_of f
  pub shaped : Shaped (kind_of f) (body_of f)

-- The bytes of a line are digits, and no frame.
pub record NoFrame (bytes : List ℕ) : Type 0 where
  pub digits : AllDigits bytes
  pub none : (k : ℕ) (body : List ℕ) → Shaped k body → bytes ≢ numeral 2 k ++ body

-- The fault tells of the first byte that is no digit, at the line it was handed.
pub record NoDigitIn (bytes : List ℕ) (line : ℕ) (d : DigitFault) : Type 0 where
  pub place : ℕ
  pub first : FirstNoDigit bytes place
  pub at_line : d.line ≡ line
  pub at_column : d.column ≡ column_of place

-- What a frame fault says of the bytes of a line.
abbrev pub FrameFails : List ℕ → ℕ → FrameFault → Type 0
FrameFails bytes line (Digit d) = NoDigitIn bytes line d
FrameFails bytes line (Shape l) = (l ≡ line) × NoFrame bytes

-- The bytes begin with a closed line that is this frame, and go on with what is after it.
pub record FrameRead (bytes : List ℕ) (f : Frame) (after : List ℕ) : Type 0 where
  pub line : List ℕ
  pub closed : ClosedLine bytes line after
  pub frame : IsFrame line f

-- The bytes begin with a closed line of which the frame fault tells.
pub record LineFails (bytes : List ℕ) (number : ℕ) (e : FrameFault) : Type 0 where
  pub line : List ℕ
  pub after : List ℕ
  pub closed : ClosedLine bytes line after
  pub fails : FrameFails line number e

-- What a fault says of the bytes whose next line cannot be read: it is not closed, or it is no frame.
abbrev pub NextFails : List ℕ → ℕ → FileFault → Type 0
NextFails bytes line (InFrame e) = LineFails bytes line e
NextFails bytes line TooLong = ⊥
NextFails bytes line (Unclosed l) = (l ≡ line) × NoneCloses bytes
NextFails bytes line (AfterEnd l) = ⊥
NextFails bytes line (Misplaced l) = ⊥
NextFails bytes line (Field l c) = ⊥
NextFails bytes line (Unlawful l lap p) = ⊥
