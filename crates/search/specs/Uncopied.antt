-- The number and the values of each refusal of a copy.
use Rattle.refusals.specs.declared.Refusal.{Refusal}
use Rattle.refusals.specs.Numbers.{of_length, too_short}
use Rattle.search.specs.declared.copy.Uncopied.{Uncopied}
use Rattle.search.specs.declared.copy.Uncopied.TheVariants.{NoRound, Short}

-- 8: there is no round to copy; 9: the buffer is too short
abbrev pub told : Uncopied → Refusal
told NoRound = of_length 8 0
told (Short needed) = too_short needed
