use Rattle.std.proofs.Common.{arith, refl}
use Rattle.banks.proofs.SheetBanks.{filled_none, filled_more, filled_all}
use Rattle.banks.proofs.listed.banks_of.Goals as goal

pub loop-i-init : goal.loop-i-init
loop-i-init c = filled_none c.args.sheet.now _ refl

pub loop-i-preserved : goal.loop-i-preserved
loop-i-preserved c = filled_more c.args.sheet.now c.loop-i.bank-items c.loop-i.i c.place_of.result (omega (arith, c.loop-i-test.true)) c.loop-i.invariant c.place_of.ensures.bank c.place_of.ensures.unused

pub returns : goal.returns
returns c = let f = filled_all c.args.sheet.now c.loop-i.bank-items c.loop-i.i (omega (arith, c.loop-i-test.false)) c.loop-i.invariant in record { banks = f.0; unused = f.1 }
