-- The kinds of frames, and the number of each.
use Rattle.std.specs.Prelude.{◌≡◌, ℕ, List, Result, MatchResult}
use Rattle.frames.specs.declared.kind.Kind.{Kind}
use Rattle.frames.specs.declared.kind.Kind.TheVariants.{SheetHead, SheetBank, Feeder, FeederCount, Verdict, RoundHead, RoundBank, RoundPart, Refused}
use Rattle.frames.specs.declared.kind.UnknownKind.{UnknownKind}
use Rattle.frames.specs.Frames.{digits_after}

-- The number of each kind.
abbrev pub number_of : Kind → ℕ
number_of SheetHead = 1
number_of SheetBank = 2
number_of Feeder = 3
number_of FeederCount = 4
number_of Verdict = 16
number_of RoundHead = 17
number_of RoundBank = 18
number_of RoundPart = 19
number_of Refused = 31

-- A number stands for the kind whose number it is; one that is no kind's has no digits after it.
abbrev pub Decodes : ℕ → Result Kind UnknownKind → Type 0
Decodes n r = MatchResult r (λ k. number_of k ≡ n) (λ _. (body : List ℕ) → digits_after n body ≡ 0)
