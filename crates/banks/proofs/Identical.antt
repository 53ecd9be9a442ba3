-- Tables are identical when their fields are.
use Rattle.std.proofs.Common.{◌≡◌, ℕ, ◌<◌, ◌≤◌, Bool, length, Decides, ap}
use mathlib.Core.HLevel.{is_prop→PathP}
use denote.Struct.Props.{props}
use Rattle.banks.specs.declared.table.BankTable.{BankTable}
use Rattle.banks.specs.Limits.{bank_at, most_dwell, most_gap}
use Rattle.sheets.specs.Limits.{fewest_banks, most_banks, most_settle, most_panel}

-- the facts of a table are propositions, so they cannot tell two tables apart
pub same_table : (a b : BankTable) → a.count ≡ b.count → a.settle ≡ b.settle → a.banks ≡ b.banks → a ≡ b
same_table a b p q r = λ i. record {
  count = p i;
  settle = q i;
  banks = r i;
  places = is_prop→PathP (λ k. length (r k) ≡ most_banks) (λ k. hlevel props) a.places b.places i;
  enough = is_prop→PathP (λ k. fewest_banks ≤ p k) (λ k. hlevel props) a.enough b.enough i;
  few = is_prop→PathP (λ k. p k ≤ most_banks) (λ k. hlevel props) a.few b.few i;
  settles = is_prop→PathP (λ k. q k ≤ most_settle) (λ k. hlevel props) a.settles b.settles i;
  panels = is_prop→PathP (λ k. (n : ℕ) → n < p k → (bank_at (r k) n).panel ≤ most_panel) (λ k. hlevel props) a.panels b.panels i;
  dwells = is_prop→PathP (λ k. (n : ℕ) → n < p k → (1 ≤ (bank_at (r k) n).dwell) × ((bank_at (r k) n).dwell ≤ most_dwell)) (λ k. hlevel props) a.dwells b.dwells i;
  gaps = is_prop→PathP (λ k. (n : ℕ) → n < p k → (1 ≤ (bank_at (r k) n).gap) × ((bank_at (r k) n).gap ≤ most_gap)) (λ k. hlevel props) a.gaps b.gaps i;
  unused = is_prop→PathP (λ k. (n : ℕ) → p k ≤ n → ((bank_at (r k) n).panel ≡ 0) × ((bank_at (r k) n).dwell ≡ 0) × ((bank_at (r k) n).gap ≡ 0)) (λ k. hlevel props) a.unused b.unused i;
}

-- a test of the banks decides identity where the other fields are equal
pub table_decides : (a b : BankTable) (r : Bool) → Decides r (a.banks ≡ b.banks) → a.count ≡ b.count → a.settle ≡ b.settle → Decides r (a ≡ b)
table_decides a b r d p q = (λ h. same_table a b p q (d.0 h), λ h. d.1 (ap (λ t. t.banks) h))
