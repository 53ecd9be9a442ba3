-- The verdicts of a search.
use Rattle.std.specs.Prelude.{ℕ}
use Rattle.rig.specs.declared.verdict.Verdict.{Verdict}
use Rattle.rig.specs.declared.verdict.Verdict.TheVariants.{NoRound, Round, Open, Full}

-- 0 says that there is no round, 1 that one was found, 2 that the search goes on, 3 that no room is left for it
abbrev pub verdict_number : Verdict → ℕ
verdict_number NoRound = 0
verdict_number Round = 1
verdict_number Open = 2
verdict_number Full = 3
