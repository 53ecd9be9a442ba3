-- The stock round is lawful for ever: its second lap ends in the state in which it began.
use Rattle.std.proofs.Common.{◌≡◌, ◌-◌, true, List, [], ◌∷◌, replicate, sym, refl, subst}
use Rattle.rig.specs.Orders.{reached, LawfulForEver}
use Rattle.sheets.specs.Limits.{most_banks}
use Rattle.banks.specs.declared.table.Bank.{Bank}
use Rattle.banks.specs.declared.table.BankTable.{BankTable}
use Rattle.banks.specs.Limits.{no_bank, stock_bank}
use Rattle.banks.specs.Places.{every_below, spread}
use Rattle.banks.proofs.Identical.{same_table}
use Rattle.banks.proofs.Makers.{within, table}
use Rattle.readers.specs.Panelled.{panelled}
use Rattle.readers.specs.RigLaws.{laws}
use Rattle.readers.proofs.Computed.{closes_second, closes_accepts}

stock_banks : List Bank
stock_banks = stock_bank ∷ stock_bank ∷ []

stock_within : within 0 stock_banks ≡ true
unfolding within every_below stock_banks
stock_within = refl

stock_closes : closes_second (panelled (table 0 stock_banks stock_within)) (0 ∷ 1 ∷ []) ≡ true
unfolding table stock_banks reached every_below spread
stock_closes = refl

pub stock_kept : (t : BankTable) → t.count ≡ 2 → t.settle ≡ 0 → t.banks ≡ stock_bank ∷ stock_bank ∷ replicate (most_banks - 2) no_bank → LawfulForEver (panelled t) (0 ∷ 1 ∷ [])
unfolding table stock_banks
stock_kept t c s b =
    let u = table 0 stock_banks stock_within in
    subst (λ (x : BankTable). LawfulForEver (panelled x) (0 ∷ 1 ∷ [])) (sym (same_table t u c s b))
    (closes_accepts (panelled u) (laws u) (0 ∷ 1 ∷ []) stock_closes)
