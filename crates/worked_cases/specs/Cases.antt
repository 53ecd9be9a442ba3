-- Worked cases of the rules, in plain numbers, and what it is for a case to be true.
use Rattle.std.specs.Prelude.{◌≡◌, ℕ, ◌-◌, true, List, [], ◌∷◌, ◌++◌, length, replicate}
use Rattle.rig.specs.Guides.{Guided}
use Rattle.rig.specs.Orders.{LawfulForEver}
use Rattle.rig.specs.Checks.{FirstUnlawful}
use Rattle.sheets.specs.Limits.{most_banks}
use Rattle.banks.specs.declared.table.Bank.{Bank}
use Rattle.banks.specs.declared.table.BankTable.{BankTable}
use Rattle.banks.specs.Limits.{no_bank}
use Rattle.readers.specs.Panelled.{guided_panelled}
use Rattle.readers.specs.Plain.{guided_plain}

-- The reader that a case is about.
pub data Reader : Type 0 where
  plain_reader : Reader
  panelled_reader : Reader

-- What a case says of it.
pub data Claim : Type 0 where
  -- this list is lawful for ever
  accepted : List ℕ → Claim
  -- the first unlawful move of this list's endless repetition is in this lap, at this position
  stopped : List ℕ → ℕ → ℕ → Claim
  -- rest is hopeless
  rest_hopeless : Claim

-- A case: a settle time, banks, a reader, and what is said of it.
pub record Case : Type 0 where
  pub settle : ℕ
  pub banks : List Bank
  pub reader : Reader
  pub claim : Claim

-- The table has exactly these numbers: the settle time, so many banks, and each of them; the places behind hold zeros.
pub record Numbers (settle : ℕ) (banks : List Bank) (t : BankTable) : Type 0 where
  pub same_settle : t.settle ≡ settle
  pub same_count : t.count ≡ length banks
  pub same_banks : t.banks ≡ banks ++ replicate (most_banks - length banks) no_bank

-- The claim is true of a rig with its guide.
abbrev pub TrueOf : {S : Type 0} → Guided S → Claim → Type 0
TrueOf m (accepted xs) = LawfulForEver m.rig xs
TrueOf m (stopped xs lap position) = FirstUnlawful m.rig xs lap position
TrueOf m rest_hopeless = m.guide.hopeless m.rig.rest ≡ true

-- The claim is true of a table's reader.
abbrev pub TrueOfReader : Reader → BankTable → Claim → Type 0
TrueOfReader plain_reader t = TrueOf (guided_plain t)
TrueOfReader panelled_reader t = TrueOf (guided_panelled t)

-- There is a table with the numbers of the case, and what the case says is true of its reader.
pub record Established (c : Case) : Type 0 where
  pub table : BankTable
  pub numbers : Numbers c.settle c.banks table
  pub holds : TrueOfReader c.reader table c.claim

-- a bank by its panel, dwell and gap
abbrev pub bank : ℕ → ℕ → ℕ → Bank
bank p d g = record { panel = p; dwell = d; gap = g }

-- a case by its settle time, banks and reader, and what is said
abbrev pub case : ℕ → List Bank → Reader → Claim → Case
case s bs r x = record { settle = s; banks = bs; reader = r; claim = x }

-- Two banks on one panel with dwell 1, the first with gap 1 and the second with gap 10.
abbrev pub one_and_ten : List Bank
one_and_ten = bank 0 1 1 ∷ bank 0 1 10 ∷ []

-- Two banks on one panel with dwell 2 and gap 1.
abbrev pub short_gaps : List Bank
short_gaps = bank 0 2 1 ∷ bank 0 2 1 ∷ []

-- Three banks on one panel with dwell 1, the first with gap 1 and the others with gap 3.
abbrev pub one_and_threes : List Bank
one_and_threes = bank 0 1 1 ∷ bank 0 1 3 ∷ bank 0 1 3 ∷ []

-- Two banks on two panels with dwell 1, and the same gap.
abbrev pub two_panels : ℕ → List Bank
two_panels g = bank 0 1 g ∷ bank 1 1 g ∷ []

-- The worked cases.
abbrev pub worked_cases : List Case
worked_cases =
    case 0 one_and_ten plain_reader (accepted (1 ∷ 0 ∷ []))
    ∷ case 0 one_and_ten plain_reader (accepted (0 ∷ 0 ∷ 1 ∷ []))
    ∷ case 0 one_and_ten plain_reader (stopped (0 ∷ []) 11 0)
    ∷ case 0 one_and_ten plain_reader (stopped (1 ∷ 1 ∷ 0 ∷ []) 1 1)
    ∷ case 0 short_gaps plain_reader rest_hopeless
    ∷ case 0 one_and_threes plain_reader (accepted (0 ∷ 1 ∷ 0 ∷ 2 ∷ []))
    ∷ case 3 (two_panels 7) panelled_reader (accepted (0 ∷ 1 ∷ []))
    ∷ case 3 (two_panels 6) panelled_reader (stopped (0 ∷ 1 ∷ []) 2 0)
    ∷ []
