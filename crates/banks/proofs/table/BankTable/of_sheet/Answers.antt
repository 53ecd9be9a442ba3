use Rattle.std.proofs.Common.{ℕ, sym, subst}
use Rattle.banks.specs.Limits.{WithinLimits}
use Rattle.banks.proofs.SheetBanks.{from_within}
use Rattle.banks.proofs.table.BankTable.of_sheet.Goals as goal

pub of-requires : goal.of-requires
of-requires c =
    let s = c.args.sheet.now in
    let banks = c.banks_of.result in
    subst (λ (n : ℕ). WithinLimits n c.settle.result banks) (sym c.count.ensures)
    (subst (λ (n : ℕ). WithinLimits s.count n banks) (sym c.settle.ensures)
    (record {
      enough = s.enough;
      few = s.few;
      settles = s.settles;
      bank = λ i h. from_within s i _ h (c.banks_of.ensures.banks i h);
      unused = c.banks_of.ensures.unused;
    }))
