use Rattle.banks.proofs.SheetBanks.{FilledTo}
use Rattle.banks.proofs.listed.banks_of.Given as goal

abbrev pub invariant-loop-i : goal.invariant-loop-i
invariant-loop-i l = FilledTo l.sheet l.bank-items l.i
