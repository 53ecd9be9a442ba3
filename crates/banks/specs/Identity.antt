-- A test of identity: two banks are the same where every number of theirs is.
use Rattle.std.specs.Prelude.{Bool, nat_eq}
use Rattle.std.specs.Ordering.{on, eq_of_both}
use Rattle.std.specs.Cmp.{IsEquivalence, and_equiv, on_equiv, nat_eq_equiv}
use Rattle.banks.specs.declared.table.Bank.{Bank}

-- whether two banks have the same panel, dwell and gap
abbrev pub bank_eq : Bank → Bank → Bool
bank_eq = eq_of_both (on (λ v. v.panel) nat_eq) (eq_of_both (on (λ v. v.dwell) nat_eq) (on (λ v. v.gap) nat_eq))

-- the test is an equivalence
pub bank_eq_equiv : IsEquivalence bank_eq
bank_eq_equiv = and_equiv (on_equiv (λ v. v.panel) nat_eq_equiv) (and_equiv (on_equiv (λ v. v.dwell) nat_eq_equiv) (on_equiv (λ v. v.gap) nat_eq_equiv))
