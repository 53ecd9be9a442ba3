-- The banks of a sheet, one by one, and that they are within the limits of a table.
use Rattle.std.proofs.Common.{◌≡◌, ℕ, ◌+◌, ◌<◌, ◌≤◌, ◌≢◌, List, length, set, sym, ◌∙◌, subst, ⊎_elim, not-suc-le-zero, arith, length-set, below_more}
use Rattle.std.proofs.lemmas.List.{ext_get_or, get_or_past, get_or-set_same, get_or-set_other}
use Rattle.std.proofs.lemmas.Bool.{cases_lt}
use Rattle.sheets.specs.declared.feeder.Feeder.{Feeder}
use Rattle.sheets.specs.declared.sheet.Sheet.{Sheet}
use Rattle.sheets.specs.Limits.{most_banks}
use Rattle.sheets.specs.Needs.{SetBy}
use Rattle.banks.specs.declared.table.Bank.{Bank}
use Rattle.banks.specs.declared.table.BankTable.{BankTable}
use Rattle.banks.specs.Limits.{no_bank, bank_at, BankWithin, Empty, most_dwell, most_gap}
use Rattle.banks.specs.FromSheet.{FromSheet, TableOf}
use Rattle.banks.proofs.TableLines.{no_bank_empty}
use Rattle.banks.proofs.Identical.{same_table}
use Rattle.banks.proofs.OneTable.{same_bank, same_unused}

-- a bank whose dwell and gap are set by feeders of a sheet
pub from_within : (s : Sheet) (i : ℕ) (b : Bank) → i < s.count → FromSheet s i b → BankWithin b
from_within s i b h f =
    let d = f.dwell in
    let g = f.gap in
    let reading = s.readings d.place d.within in
    let own = s.readings g.place g.within in
    let swap = s.swaps g.place g.within in
    record {
      panel = subst (λ (p : ℕ). p ≤ 3) (sym f.panel) (s.panelled i h);
      dwell = (subst (λ (n : ℕ). 1 ≤ n) d.has reading.0, subst (λ (n : ℕ). n ≤ most_dwell) d.has reading.1);
      gap = (
        subst (λ (n : ℕ). 1 ≤ n) g.has (omega (arith, swap.0)),
        subst (λ (n : ℕ). n ≤ most_gap) g.has (omega (arith, swap.1, own.0)),
      );
    }

-- The first n places hold the banks of the sheet, and zeros behind the last bank.
pub record FilledTo (s : Sheet) (banks : List Bank) (n : ℕ) : Type 0 where
  pub places : length banks ≡ most_banks
  pub each : (i : ℕ) → i < n → i < s.count → FromSheet s i (bank_at banks i)
  pub unused : (i : ℕ) → i < n → s.count ≤ i → Empty (bank_at banks i)

pub filled_none : (s : Sheet) (banks : List Bank) → length banks ≡ most_banks → FilledTo s banks 0
filled_none s banks l = record { places = l; each = λ i h. absurd (not-suc-le-zero h); unused = λ i h. absurd (not-suc-le-zero h) }

pub filled_more : (s : Sheet) (banks : List Bank) (n : ℕ) (b : Bank) → n < most_banks → FilledTo s banks n → (n < s.count → FromSheet s n b) → (s.count ≤ n → Empty b) → FilledTo s (set banks n b) (n + 1)
filled_more s banks n b room f new none =
    let within : n < length banks = omega (arith, f.places) in
    let same = get_or-set_same banks n b no_bank within in
    let other : (k : ℕ) → k < n → bank_at (set banks n b) k ≡ bank_at banks k = λ k h. get_or-set_other banks n k b no_bank (let d : k ≢ n = omega arith in d) in
    record {
      places = length-set banks n b ∙ f.places;
      each = below_more (λ k. k < s.count → FromSheet s k (bank_at (set banks n b) k)) n (λ k h l. subst (FromSheet s k) (sym (other k h)) (f.each k h l)) (λ l. subst (FromSheet s n) (sym same) (new l));
      unused = below_more (λ k. s.count ≤ k → Empty (bank_at (set banks n b) k)) n (λ k h l. subst Empty (sym (other k h)) (f.unused k h l)) (λ l. subst Empty (sym same) (none l));
    }

pub filled_all : (s : Sheet) (banks : List Bank) (n : ℕ) → most_banks ≤ n → FilledTo s banks n → ((i : ℕ) → i < s.count → FromSheet s i (bank_at banks i)) × ((i : ℕ) → s.count ≤ i → Empty (bank_at banks i))
filled_all s banks n all f = (
  λ i h. f.each i (let few = s.few in omega arith) h,
  λ i h. ⊎_elim (λ b. f.unused i b h) (λ p. subst Empty (sym (get_or_past banks i no_bank (omega (arith, f.places)))) no_bank_empty) (cases_lt i n),
)

-- no value is beaten by another of those that no value beats
one_best : (no-worse : ℕ → ℕ → Type 0) (value : Feeder → ℕ) (fs : List Feeder) (n bank a b x y : ℕ) → (no-worse a b → no-worse b a → a ≡ b) → SetBy no-worse value fs n bank a x → SetBy no-worse value fs n bank b y → a ≡ b
one_best no-worse value fs n bank a b x y same h k =
    same (subst (no-worse a) k.has (h.each k.place k.within k.there)) (subst (no-worse b) h.has (k.each h.place h.within h.there))

same_from : (s : Sheet) (i : ℕ) (b c : Bank) → FromSheet s i b → FromSheet s i c → b ≡ c
same_from s i b c f g =
    same_bank b c
    (f.panel ∙ sym g.panel)
    (one_best _ _ s.feeders s.listed i b.dwell c.dwell f.dwell_feeder g.dwell_feeder (λ p q. omega arith) f.dwell g.dwell)
    (one_best _ _ s.feeders s.listed i b.gap c.gap f.gap_feeder g.gap_feeder (λ p q. omega arith) f.gap g.gap)

-- a sheet has one table
pub one_table_of : (s : Sheet) (t u : BankTable) → TableOf s t → TableOf s u → t ≡ u
one_table_of s t u h k =
    let each : (i : ℕ) → bank_at t.banks i ≡ bank_at u.banks i = λ i. ⊎_elim (λ l. same_from s i (bank_at t.banks i) (bank_at u.banks i) (h.banks i l) (k.banks i l)) (λ l. same_unused t u i (omega (arith, h.count)) (omega (arith, k.count))) (cases_lt i s.count) in
    same_table t u (h.count ∙ sym k.count) (h.settle ∙ sym k.settle) (ext_get_or no_bank t.banks u.banks (t.places ∙ sym u.places) (λ i l. each i))
