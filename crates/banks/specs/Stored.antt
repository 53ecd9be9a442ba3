-- The lines of a stored round that list its bank table: one head line, and a line for each bank.
use Rattle.std.specs.Prelude.{◌≡◌, ℕ, zero, suc, ◌+◌, ◌<◌, ◌≤◌, cond, List, [], ◌∷◌, ◌++◌, length}
use Rattle.refusals.specs.declared.Refusal.{Refusal}
use Rattle.refusals.specs.Numbers.{bad_end}
use Rattle.frames.specs.Digits.{numeral}
use Rattle.frames.specs.Lines.{most_bytes}
use Rattle.frames.specs.BadLines.{field, outside, BadLine}
use Rattle.banks.specs.declared.table.Bank.{Bank}
use Rattle.banks.specs.declared.table.BankTable.{BankTable}
use Rattle.banks.specs.Limits.{bank_at, BankWithin, Empty, most_dwell, most_gap}
use Rattle.sheets.specs.Limits.{fewest_banks, most_banks, most_settle, most_panel}

-- the most dwells of a round
abbrev pub most_dwells : ℕ
most_dwells = 4096

-- kind 11: number of banks, settle time, number of dwells
abbrev pub head_line : (banks settle dwells : ℕ) → List ℕ
head_line banks settle dwells = numeral 2 17 ++ (numeral 2 banks ++ (numeral 4 settle ++ (numeral 4 dwells ++ (10 ∷ []))))

-- kind 12: number of the bank, panel, dwell, gap
abbrev pub bank_line : ℕ → Bank → List ℕ
bank_line i b = numeral 2 18 ++ (numeral 2 i ++ (numeral 2 b.panel ++ (numeral 4 b.dwell ++ (numeral 4 b.gap ++ (10 ∷ [])))))

-- the lines of the first n banks, in rising order
unfoldable pub bank_lines : List Bank → ℕ → List ℕ
bank_lines bs zero = []
bank_lines bs (suc n) = bank_lines bs n ++ bank_line n (bank_at bs n)

-- what a head may say
pub record HeadWithin (banks settle dwells : ℕ) : Type 0 where
  pub enough : fewest_banks ≤ banks
  pub few : banks ≤ most_banks
  pub settles : settle ≤ most_settle
  pub some_dwell : 1 ≤ dwells
  pub few_dwells : dwells ≤ most_dwells

-- the column of the first field of a head line outside its limits, or 0
abbrev pub head_column : List ℕ → ℕ
head_column body =
    cond (outside fewest_banks most_banks (field 0 2 body)) 3
    (cond (outside 0 most_settle (field 2 4 body)) 5
    (cond (outside 1 most_dwells (field 6 4 body)) 9 0))

-- the same of the line that is due for bank i: its own number, then panel, dwell and gap
abbrev pub bank_column : ℕ → List ℕ → ℕ
bank_column i body =
    cond (outside i i (field 0 2 body)) 3
    (cond (outside 0 most_panel (field 2 2 body)) 5
    (cond (outside 1 most_dwell (field 4 4 body)) 7
    (cond (outside 1 most_gap (field 8 4 body)) 11 0)))

-- The bytes begin with the lines of this table, which announce so many dwells, and go on with the rest.
pub record TableRead (bytes : List ℕ) (t : BankTable) (dwells : ℕ) (rest : List ℕ) : Type 0 where
  pub size : length bytes ≤ most_bytes
  pub some_dwell : 1 ≤ dwells
  pub few_dwells : dwells ≤ most_dwells
  pub text : bytes ≡ head_line t.count t.settle dwells ++ (bank_lines t.banks t.count ++ rest)

-- The bytes begin with the lines of the first n banks, which are within their limits, and go on with the rest;
-- the places behind those banks hold zeros.
pub record BanksRead (bytes : List ℕ) (banks : List Bank) (n : ℕ) (rest : List ℕ) : Type 0 where
  pub within : (i : ℕ) → i < n → BankWithin (bank_at banks i)
  pub unused : (i : ℕ) → n ≤ i → Empty (bank_at banks i)
  pub text : bytes ≡ bank_lines banks n ++ rest

-- The refusal tells what is wrong with the lines of so many banks: those of the banks below i are good, and the line of bank i is bad.
pub record BankFault (bytes : List ℕ) (count : ℕ) (r : Refusal) : Type 0 where
  pub i : ℕ
  pub banks : List Bank
  pub rest : List ℕ
  pub due : i < count
  pub good : BanksRead bytes banks i rest
  pub bad : BadLine 18 (bank_column i) rest (2 + i) r

-- The refusal tells the first thing wrong with the lines of a table: the file is too long; or the head line is bad;
-- or the head line is good, and the line of a bank is bad.
pub data TableFault (bytes : List ℕ) (r : Refusal) : Type 0 where
  too_long : most_bytes < length bytes → r ≡ bad_end 1 → TableFault bytes r
  in_head : length bytes ≤ most_bytes → BadLine 17 head_column bytes 1 r → TableFault bytes r
  in_bank : (banks settle dwells : ℕ) (after : List ℕ) → length bytes ≤ most_bytes → HeadWithin banks settle dwells
      → bytes ≡ head_line banks settle dwells ++ after → BankFault after banks r → TableFault bytes r
