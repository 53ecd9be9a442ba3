-- The table of numbers that pass a test of the limits.
use Rattle.std.proofs.Common.{◌≡◌, ℕ, ◌-◌, ◌<◌, ◌≤◌, Bool, true, ◌&&◌, leb, List, ◌++◌, length, replicate, sym, refl, ◌∙◌, subst, ⊎_elim, arith}
use Rattle.std.proofs.lemmas.Bool.{and_parts, leb-true, cases_lt}
use Rattle.std.proofs.lemmas.List.{get_or_append_left, get_or-append_right, get_or_past, get_or-replicate, length-append, length-replicate}
use Rattle.sheets.specs.Limits.{fewest_banks, most_banks, most_settle, most_panel}
use Rattle.banks.specs.declared.table.Bank.{Bank}
use Rattle.banks.specs.declared.table.BankTable.{BankTable}
use Rattle.banks.specs.Limits.{bank_at, most_dwell, most_gap, no_bank}
use Rattle.banks.specs.Places.{every_below}
use Rattle.banks.proofs.Below.{every_true}

-- lo ≤ x ≤ hi
abbrev between : ℕ → ℕ → ℕ → Bool
between lo x hi = leb lo x && leb x hi

is_between : (lo x hi : ℕ) → between lo x hi ≡ true → (lo ≤ x) × (x ≤ hi)
is_between lo x hi h = let p = and_parts (leb lo x) (leb x hi) h in (leb-true lo x p.0, leb-true x hi p.1)

abbrev bank_within : Bank → Bool
bank_within b = leb b.panel most_panel && (between 1 b.dwell most_dwell && between 1 b.gap most_gap)

-- the settle time and the banks are within their limits
unfoldable pub within : ℕ → List Bank → Bool
within settle bs = between fewest_banks (length bs) most_banks && (leb settle most_settle && every_below (length bs) (λ i. bank_within (bank_at bs i)))

module _ (settle : ℕ) (bs : List Bank) (h : within settle bs ≡ true) where
  abbrev places : List Bank
  places = bs ++ replicate (most_banks - length bs) no_bank

  pub parts : ((fewest_banks ≤ length bs) × (length bs ≤ most_banks)) × (settle ≤ most_settle) × ((i : ℕ) → i < length bs → bank_within (bank_at bs i) ≡ true)
  unfolding within
  parts =
      let p = and_parts (between fewest_banks (length bs) most_banks) _ h in
      let q = and_parts (leb settle most_settle) _ p.1 in
      (is_between fewest_banks (length bs) most_banks p.0, leb-true settle most_settle q.0, every_true (λ i. bank_within (bank_at bs i)) (length bs) q.1)

  -- what stands at a place of the table
  module _ (i : ℕ) where
    here : i < length bs → bank_at places i ≡ bank_at bs i
    here l = get_or_append_left bs (replicate (most_banks - length bs) no_bank) no_bank i l

    pub behind : length bs ≤ i → bank_at places i ≡ no_bank
    behind l =
        get_or-append_right bs (replicate (most_banks - length bs) no_bank) (length bs) i no_bank refl l
        ∙ ⊎_elim (λ m. get_or-replicate (most_banks - length bs) (i - length bs) no_bank no_bank m)
        (λ m. get_or_past (replicate (most_banks - length bs) no_bank) (i - length bs) no_bank (omega (arith, length-replicate (most_banks - length bs) no_bank)))
        (cases_lt (i - length bs) (most_banks - length bs))

    pub good : i < length bs → ((bank_at places i).panel ≤ most_panel) × ((1 ≤ (bank_at places i).dwell) × ((bank_at places i).dwell ≤ most_dwell)) × ((1 ≤ (bank_at places i).gap) × ((bank_at places i).gap ≤ most_gap))
    good l =
        let b = bank_at bs i in
        let p = and_parts (leb b.panel most_panel) _ (parts.2 i l) in
        let q = and_parts (between 1 b.dwell most_dwell) (between 1 b.gap most_gap) p.1 in
        subst (λ (x : Bank). (x.panel ≤ most_panel) × ((1 ≤ x.dwell) × (x.dwell ≤ most_dwell)) × ((1 ≤ x.gap) × (x.gap ≤ most_gap))) (sym (here l))
        (leb-true b.panel most_panel p.0, is_between 1 b.dwell most_dwell q.0, is_between 1 b.gap most_gap q.1)

  unfoldable pub table : BankTable
  table = record {
    count = length bs;
    settle = settle;
    banks = places;
    places = length-append bs (replicate (most_banks - length bs) no_bank) ∙ omega (arith, length-replicate (most_banks - length bs) no_bank, parts.0.1);
    enough = parts.0.0;
    few = parts.0.1;
    settles = parts.1;
    panels = λ i l. (good i l).0;
    dwells = λ i l. (good i l).1;
    gaps = λ i l. (good i l).2;
    unused = λ i l. subst (λ (x : Bank). (x.panel ≡ 0) × (x.dwell ≡ 0) × (x.gap ≡ 0)) (sym (behind i l)) (refl, refl, refl);
  }
