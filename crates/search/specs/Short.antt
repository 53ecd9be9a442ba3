-- The number and the values of the refusal of a list of calls.
use Rattle.refusals.specs.declared.Refusal.{Refusal}
use Rattle.refusals.specs.Numbers.{too_short}
use Rattle.search.specs.declared.calls.Short.{Short}
use Rattle.search.specs.declared.calls.Short.TheVariants.{Replies, Bytes}

-- 9: there is too little room, of replies or of bytes; so much is needed
abbrev pub short_told : Short → Refusal
short_told (Replies needed) = too_short needed
short_told (Bytes needed) = too_short needed
