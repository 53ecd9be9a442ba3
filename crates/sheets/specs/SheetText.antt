-- Sheets: their text, and the first fault of bytes that are no sheet.
use Rattle.std.specs.Prelude.{◌≡◌, ℕ, ◌<◌, ◌≤◌, List, ◌++◌, length, take, slice_index}
use Rattle.refusals.specs.declared.Refusal.{Refusal}
use Rattle.refusals.specs.Numbers.{bad_end}
use Rattle.frames.specs.Lines.{most_bytes}
use Rattle.frames.specs.BadLines.{BadLine}
use Rattle.sheets.specs.declared.feeder.Feeder.{Feeder}
use Rattle.sheets.specs.declared.sheet.Sheet.{Sheet}
use Rattle.sheets.specs.Limits.{most_panel}
use Rattle.sheets.specs.Feeders.{feeder_at}
use Rattle.sheets.specs.SheetLines.{head_line, bank_lines, feeder_lines, count_line, HeadWithin, head_column, BankFault, FeederFault}

-- the feeders, in the order of the sheet
abbrev pub list_of : Sheet → List Feeder
list_of s = take s.listed s.feeders

-- the text of a sheet
abbrev pub sheet_text : Sheet → List ℕ
sheet_text s = head_line s.count s.settle ++ (bank_lines s.panels s.count ++ (feeder_lines s.feeders s.listed ++ count_line s.listed))

-- The bytes are the text of some sheet.
abbrev pub SomeSheet : List ℕ → Type 0
SomeSheet bytes = (s : Sheet) × (bytes ≡ sheet_text s)

-- The bytes begin with a good head line and the good lines of all its banks, and go on with the rest.
pub record FrontRead (bytes : List ℕ) (banks settle : ℕ) (panels rest : List ℕ) : Type 0 where
  pub size : length bytes ≤ most_bytes
  pub head : HeadWithin banks settle
  pub each : (i : ℕ) → i < banks → slice_index panels i ≤ most_panel
  pub text : bytes ≡ head_line banks settle ++ (bank_lines panels banks ++ rest)

-- The refusal tells the first fault of the bytes as a sheet.
pub data FirstFault (bytes : List ℕ) (r : Refusal) : Type 0 where
  -- the file is too long
  too_long : most_bytes < length bytes → r ≡ bad_end 1 → FirstFault bytes r
  -- the head line is bad
  in_head : length bytes ≤ most_bytes → BadLine 1 head_column bytes 1 r → FirstFault bytes r
  -- the head line is good, and the line of a bank is bad
  in_bank : (banks settle : ℕ) (after : List ℕ) → length bytes ≤ most_bytes → HeadWithin banks settle
      → bytes ≡ head_line banks settle ++ after → BankFault after banks r → FirstFault bytes r
  -- all these lines are good, and the fault is in the lines of the feeders or behind them
  in_feeders : (banks settle : ℕ) (panels rest : List ℕ) → FrontRead bytes banks settle panels rest → FeederFault banks rest r → FirstFault bytes r

-- Two sheets list the same.
pub record SameSheet (s t : Sheet) : Type 0 where
  pub count : s.count ≡ t.count
  pub settle : s.settle ≡ t.settle
  pub panels : (i : ℕ) → i < s.count → slice_index s.panels i ≡ slice_index t.panels i
  pub listed : s.listed ≡ t.listed
  pub feeders : (k : ℕ) → k < s.listed → feeder_at s.feeders k ≡ feeder_at t.feeders k

-- Whatever sheet the bytes are the text of lists the same as this one. And the bytes have no fault.
pub record OnlySheet (bytes : List ℕ) (s : Sheet) : Type 0 where
  pub one : (t : Sheet) → bytes ≡ sheet_text t → SameSheet s t
  pub faultless : (r : Refusal) → FirstFault bytes r → ⊥

-- No other refusal tells the first fault of the bytes.
abbrev pub OnlyFault : List ℕ → Refusal → Type 0
OnlyFault bytes r = (s : Refusal) → FirstFault bytes s → s ≡ r
