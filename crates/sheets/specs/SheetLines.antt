-- The lines of a sheet: one head line, a line for each bank, a line for each feeder, and the line that counts the feeders.
use Rattle.std.specs.Prelude.{◌≡◌, ℕ, ◌+◌, ◌<◌, ◌≤◌, Bool, cond, ◌&&◌, ◌||◌, List, ◌++◌, length, Some, None, Option, ◌==◌, nat_le, nat_lt, slice_index}
use Rattle.refusals.specs.declared.Refusal.{Refusal}
use Rattle.refusals.specs.Numbers.{repeated_feeder, bare_bank, bad_end}
use Rattle.frames.specs.Digits.{numeral}
use Rattle.frames.specs.Frames.{line_of}
use Rattle.frames.specs.Lines.{lines_to}
use Rattle.frames.specs.BadLines.{field, outside, BadLine}
use Rattle.frames.specs.BadLinesAmong.{BadLineAmong}
use Rattle.sheets.specs.declared.feeder.Feeder.{Feeder}
use Rattle.sheets.specs.Limits.{fewest_banks, most_banks, most_settle, most_panel, most_feeders, most_number, most_reading, most_swap, least_swap}
use Rattle.sheets.specs.Feeders.{feeder_at, FeederWithin, EachWithin, Apart, NoneIn, AllServed}

-- kind 01: number of banks, settle time
abbrev pub head_body : (banks settle : ℕ) → List ℕ
head_body banks settle = numeral 2 banks ++ numeral 4 settle

abbrev pub head_line : (banks settle : ℕ) → List ℕ
head_line banks settle = line_of 1 (head_body banks settle)

-- kind 02: number of the bank, panel
abbrev pub bank_body : (i panel : ℕ) → List ℕ
bank_body i panel = numeral 2 i ++ numeral 2 panel

abbrev pub bank_line : (i panel : ℕ) → List ℕ
bank_line i panel = line_of 2 (bank_body i panel)

-- kind 03: number of the feeder, its bank, reading time, swap time
abbrev pub feeder_body : Feeder → List ℕ
feeder_body f = numeral 4 f.number ++ (numeral 2 f.bank ++ (numeral 4 f.reading ++ numeral 4 f.swap))

abbrev pub feeder_line : Feeder → List ℕ
feeder_line f = line_of 3 (feeder_body f)

-- kind 04: number of feeders
abbrev pub count_line : ℕ → List ℕ
count_line n = line_of 4 (numeral 4 n)

-- the lines of the first n banks, in rising order
abbrev pub bank_lines : List ℕ → ℕ → List ℕ
bank_lines panels n = lines_to (λ i. bank_line i (slice_index panels i)) n

-- the lines of the first n feeders
abbrev pub feeder_lines : List Feeder → ℕ → List ℕ
feeder_lines fs n = lines_to (λ k. feeder_line (feeder_at fs k)) n

-- what a head may say
pub record HeadWithin (banks settle : ℕ) : Type 0 where
  pub enough : fewest_banks ≤ banks
  pub few : banks ≤ most_banks
  pub settles : settle ≤ most_settle

-- the column of the first number of a head line outside its limits, or 0
abbrev pub head_fault : (banks settle : ℕ) → ℕ
head_fault banks settle = cond (outside fewest_banks most_banks banks) 3 (cond (outside 0 most_settle settle) 5 0)

-- the same of the line that is due for bank i: its own number, and the panel
abbrev pub bank_fault : (i at panel : ℕ) → ℕ
bank_fault i at panel = cond (outside i i at) 3 (cond (outside 0 most_panel panel) 5 0)

-- the same of a feeder's line
abbrev pub feeder_fault : (banks number bank reading swap : ℕ) → ℕ
feeder_fault banks number bank reading swap =
    cond (outside 0 most_number number) 3
    (cond (nat_le banks bank) 7
    (cond (outside 1 most_reading reading) 9
    (cond (outside (least_swap reading) most_swap swap) 13 0)))

-- the same of the line that counts n feeders
abbrev pub count_fault : (n count : ℕ) → ℕ
count_fault n count = cond (outside n n count) 3 0

-- the columns by the digits of a line
abbrev pub head_column : List ℕ → ℕ
head_column body = head_fault (field 0 2 body) (field 2 4 body)

abbrev pub bank_column : ℕ → List ℕ → ℕ
bank_column i body = bank_fault i (field 0 2 body) (field 2 2 body)

abbrev pub feeder_column : ℕ → List ℕ → ℕ
feeder_column banks body = feeder_fault banks (field 0 4 body) (field 4 2 body) (field 6 4 body) (field 10 4 body)

abbrev pub count_column : ℕ → List ℕ → ℕ
count_column n body = count_fault n (field 0 4 body)

-- The kinds of frame that may stand behind n feeders: one more feeder, unless there are as many as there can be,
-- and their count, unless there is none yet.
abbrev pub due_behind : ℕ → ℕ → Bool
due_behind n kind = (kind == 3 && nat_lt n most_feeders) || (kind == 4 && nat_lt 0 n)

-- the column of the first number of such a frame outside its limits, or 0
abbrev pub column_behind : (banks n : ℕ) → ℕ → List ℕ → ℕ
column_behind banks n kind body = cond (kind == 3) (feeder_column banks body) (count_column n body)

-- The number of the line behind those of so many feeders.
abbrev pub line_behind : (banks n : ℕ) → ℕ
line_behind banks n = (2 + banks) + n

-- The bytes begin with the lines of the first n banks, whose panels are within the limits, and go on with the rest.
pub record BanksRead (bytes : List ℕ) (panels : List ℕ) (n : ℕ) (rest : List ℕ) : Type 0 where
  pub within : (i : ℕ) → i < n → slice_index panels i ≤ most_panel
  pub text : bytes ≡ bank_lines panels n ++ rest

-- The refusal tells what is wrong with the lines of so many banks: those of the banks below i are good, and the line of bank i is bad.
pub record BankFault (bytes : List ℕ) (count : ℕ) (r : Refusal) : Type 0 where
  pub i : ℕ
  pub panels : List ℕ
  pub rest : List ℕ
  pub due : i < count
  pub good : BanksRead bytes panels i rest
  pub bad : BadLine 2 (bank_column i) rest (2 + i) r

-- The bytes begin with the lines of n feeders that a sheet may list, and go on with the rest.
pub record FeedersRead (banks : ℕ) (bytes : List ℕ) (fs : List Feeder) (n : ℕ) (rest : List ℕ) : Type 0 where
  pub room : n ≤ most_feeders
  pub within : EachWithin banks fs n
  pub apart : Apart fs n
  pub text : bytes ≡ feeder_lines fs n ++ rest

-- The line behind n feeders is good, and the bytes go on after it: it is one more feeder, or the count of the feeders.
abbrev pub NextRead : (banks n : ℕ) → List ℕ → Option Feeder → List ℕ → Type 0
NextRead banks n bytes (Some f) after = (n < most_feeders) × FeederWithin banks f × (bytes ≡ feeder_line f ++ after)
NextRead banks n bytes None after = (0 < n) × (bytes ≡ count_line n ++ after)

-- The lines of n feeders and the line that counts them begin the bytes, which go on with what is after.
pub record ListRead (banks : ℕ) (bytes : List ℕ) (fs : List Feeder) (n : ℕ) (after : List ℕ) : Type 0 where
  pub some : 0 < n
  pub good : FeedersRead banks bytes fs n (count_line n ++ after)

-- What is wrong behind the lines of n good feeders.
pub data NextFault (banks : ℕ) (fs : List Feeder) (n : ℕ) (rest : List ℕ) (r : Refusal) : Type 0 where
  -- the next line is bad
  bad_line : BadLineAmong (due_behind n) (column_behind banks n) rest (line_behind banks n) r → NextFault banks fs n rest r
  -- the next line is a good feeder, with the number of an earlier one
  repeated : (f : Feeder) (after : List ℕ) (k : ℕ) → NextRead banks n rest (Some f) after → k < n → (feeder_at fs k).number ≡ f.number
      → r ≡ repeated_feeder (line_behind banks n) → NextFault banks fs n rest r
  -- the next line counts the feeders, and a bank has none
  bare : (after : List ℕ) (i : ℕ) → NextRead banks n rest None after → i < banks → NoneIn fs n i
      → r ≡ bare_bank (line_behind banks n) → NextFault banks fs n rest r
  -- the next line counts the feeders, every bank has one, and something stands after that line
  after_end : (after : List ℕ) → NextRead banks n rest None after → AllServed banks fs n → 0 < length after
      → r ≡ bad_end (line_behind banks n + 1) → NextFault banks fs n rest r

-- The refusal tells the first fault of the lines of the feeders and of their end.
pub record FeederFault (banks : ℕ) (bytes : List ℕ) (r : Refusal) : Type 0 where
  pub n : ℕ
  pub fs : List Feeder
  pub rest : List ℕ
  pub good : FeedersRead banks bytes fs n rest
  pub bad : NextFault banks fs n rest r
