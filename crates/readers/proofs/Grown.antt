-- The ages after a dwell, from a list in which every bank's age has grown, capped, and that of bank j is put to 0.
use Rattle.std.proofs.Common.{◌≡◌, ℕ, ◌+◌, ◌-◌, ◌<◌, ◌≤◌, true, List, ◌++◌, set, drop, length, replicate, min, sym, ap, ◌∙◌, ⊎_elim, arith}
use Rattle.std.proofs.lemmas.Bool.{cases_eq, cases_lt}
use Rattle.std.proofs.lemmas.Bool.Decides.{nat_tests}
use Rattle.std.proofs.lemmas.List.{get_or-append-add, get_or-drop, get_or-replicate, get_or-set_other, get_or_append_left, length-append, length-drop, length-set}
use Rattle.std.proofs.lemmas.Grind.{get_or-set_at}
use Rattle.banks.specs.declared.table.BankTable.{BankTable}
use Rattle.sheets.specs.Limits.{most_banks}
use Rattle.banks.specs.Table.{dwell}
use Rattle.banks.specs.Places.{age_at, spread}
use Rattle.banks.proofs.Spread.{spread_filled}
use Rattle.readers.specs.Ages.{aged, in_time}
use Rattle.readers.specs.AgeLaws.{grown_within}

abbrev zeros : List ℕ
zeros = replicate 16 0

module _ (t : BankTable) (f : ℕ → ℕ) (j s : ℕ) (bank : j < t.count) (fits : in_time t f j s ≡ true) (xs : List ℕ) (long : length xs ≡ t.count) (each : (k : ℕ) → k < t.count → age_at xs k ≡ min (min (f k + s) 65535 + dwell t j) 65535) where
  abbrev grown : List ℕ
  grown = xs ++ drop t.count zeros

  grown_long : length grown ≡ 16
  grown_long = omega (arith, length-append xs (drop t.count zeros), length-drop t.count zeros, long, t.few)

  of_bank : (i : ℕ) → i < t.count → (i ≡ j → ⊥) → age_at grown i ≡ aged t f j s i
  of_bank i h ne =
      get_or_append_left xs (drop t.count zeros) 0 i (omega (arith, long)) ∙ each i h
      ∙ capped
    where
      other : aged t f j s i ≡ f i + s + dwell t j
      other = grind (arith, nat_tests)

      capped : min (min (f i + s) 65535 + dwell t j) 65535 ≡ aged t f j s i
      capped = omega (arith, other, grown_within t f j s bank fits i h ne)

  of_none : (i : ℕ) → t.count ≤ i → i < 16 → age_at grown i ≡ aged t f j s i
  of_none i h below =
      ap (age_at grown) (split) ∙ get_or-append-add xs (drop t.count zeros) (i - length xs) 0 ∙ get_or-drop t.count zeros (i - length xs) 0
      ∙ get_or-replicate 16 (t.count + (i - length xs)) 0 0 (omega (arith, long)) ∙ sym none
    where
      split : i ≡ length xs + (i - length xs)
      split = omega (arith, long)

      none : aged t f j s i ≡ 0
      none = grind (arith, nat_tests)

  place : (i : ℕ) → i < most_banks → age_at (set grown j 0) i ≡ aged t f j s i
  place i below =
      ⊎_elim
      (λ e. get_or-set_at grown j i 0 0 e (omega (arith, grown_long, t.few)) ∙ sym (own e))
      (λ ne. get_or-set_other grown j i 0 0 ne ∙ ⊎_elim (λ h. of_bank i h ne) (λ h. of_none i h below) (cases_lt i t.count))
      (cases_eq i j)
    where
      own : i ≡ j → aged t f j s i ≡ 0
      own e = grind (arith, nat_tests)

  pub grown_ages : set grown j 0 ≡ spread (aged t f j s)
  grown_ages = spread_filled (aged t f j s) (set grown j 0) (length-set grown j 0 ∙ grown_long) place
