-- What a copy of the round replies, and what it leaves in its buffer.
use Rattle.std.specs.Prelude.{◌≡◌, ℕ, ◌<◌, ◌≤◌, List, ◌++◌, length, drop, Ok, Err, Result}
use Rattle.search.specs.declared.row.Row.{Row}
use Rattle.search.specs.declared.copy.Uncopied.{Uncopied}
use Rattle.search.specs.declared.copy.Uncopied.TheVariants as uncopied
use Rattle.search.specs.declared.step.Standing.{Standing}
use Rattle.search.specs.declared.step.Standing.TheVariants.{Open, NoRound, Full, Round}
use Rattle.search.specs.Kept.{round_moves}

-- The round stands in the front of the buffer, and what is behind it is as it was; or the buffer is too short, and as it was.
abbrev pub RoundCopied : List ℕ → List ℕ → Result ℕ Uncopied → List ℕ → Type 0
RoundCopied round out (Ok n) out' = (n ≡ length round) × (n ≤ length out) × (out' ≡ round ++ drop n out)
RoundCopied round out (Err e) out' = (length out < length round) × (e ≡ uncopied.Short (length round)) × (out' ≡ out)

-- There is no round, and the buffer is as it was.
abbrev pub NotCopied : List ℕ → Result ℕ Uncopied → List ℕ → Type 0
NotCopied out r out' = (r ≡ Err uncopied.NoRound) × (out' ≡ out)

-- A book whose standing is round copies its round.
abbrev pub Copied : {S : Type 0} → List (Row S) → ℕ → Standing → List ℕ → Result ℕ Uncopied → List ℕ → Type 0
Copied rows n (Round p last) out r out' = RoundCopied (round_moves rows n p last) out r out'
Copied rows n Open out r out' = NotCopied out r out'
Copied rows n NoRound out r out' = NotCopied out r out'
Copied rows n Full out r out' = NotCopied out r out'
