-- What a call that writes a text into a lent buffer replies, and what the buffer holds then.
use Rattle.std.specs.Prelude.{◌≡◌, ℕ, ◌<◌, ◌≤◌, List, ◌++◌, length, drop, Ok, Err, Result}
use Rattle.listings.specs.declared.short.TooShort.{TooShort}

-- The text stands in front of the buffer, which holds behind it what it held there before; the length of the text is told.
pub record Put (text before after : List ℕ) (n : ℕ) : Type 0 where
  pub told : n ≡ length text
  pub room : length text ≤ length before
  pub bytes : after ≡ text ++ drop n before

-- The buffer is too short for the text: the length of the text is told, and no byte is changed.
pub record NoRoom (text before after : List ℕ) (n : ℕ) : Type 0 where
  pub told : n ≡ length text
  pub short : length before < length text
  pub bytes : after ≡ before

-- The text is written, or there is no room for it.
abbrev pub Wrote : List ℕ → List ℕ → List ℕ → Result ℕ TooShort → Type 0
Wrote text before after (Ok n) = Put text before after n
Wrote text before after (Err e) = NoRoom text before after e.needed
