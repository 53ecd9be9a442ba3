-- What a search for a round has come to.
use denote.Ref.{Bor}
use Rattle.rig.specs.declared.verdict.Verdict.{Verdict}
use Rattle.rig.specs.declared.verdict.Verdict.TheVariants as verdict
use Rattle.listings.specs.declared.finding.Finding.{Finding}
use Rattle.listings.specs.declared.finding.Finding.TheVariants.{NoRound, Round, Open, Full}

-- the verdict alone
abbrev pub verdict_of : {R : Type 0} → Finding R → Verdict
verdict_of NoRound = verdict.NoRound
verdict_of (Round r) = verdict.Round
verdict_of Open = verdict.Open
verdict_of Full = verdict.Full

-- the finding of a verdict: only with verdict round it has the round
abbrev pub finding_of : {R : Type 0} → Verdict → R → Finding R
finding_of verdict.NoRound r = NoRound
finding_of verdict.Round r = Round r
finding_of verdict.Open r = Open
finding_of verdict.Full r = Full

-- the finding with the round that is lent
abbrev pub finding_copied : {R : Type 0} → Finding (Bor R) → Finding R
finding_copied NoRound = NoRound
finding_copied (Round r) = Round r.now
finding_copied Open = Open
finding_copied Full = Full
