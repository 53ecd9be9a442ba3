-- The test of two banks.
use Rattle.std.proofs.Common.{◌≡◌, Decides, rules}
use Rattle.banks.specs.declared.table.Bank.{Bank}
use Rattle.banks.specs.Identity.{bank_eq}

-- it decides identity
pub bank_decides : (a b : Bank) → Decides (bank_eq a b) (a ≡ b)
bank_decides a b = search rules
