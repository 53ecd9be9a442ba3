-- The list of a stored round, in parts: one line for each sixteen banks.
use Rattle.std.specs.Prelude.{◌≡◌, ℕ, zero, suc, ◌+◌, ◌-◌, ◌*◌, ◌/◌, ◌<◌, min, cond, List, [], ◌∷◌, ◌++◌, length, take, drop, ◌==◌, nat_lt, slice_index}
use Rattle.std.specs.List.{flat_map}
use Rattle.refusals.specs.declared.Refusal.{Refusal}
use Rattle.frames.specs.declared.unread.Unread.{Unread}
use Rattle.frames.specs.Digits.{numeral, value}
use Rattle.frames.specs.BadLines.{field, BadLine}

-- the most dwells of one line
abbrev pub part_size : ℕ
part_size = 16

-- kind 13: the number of its banks, and the banks
abbrev pub part_line : List ℕ → List ℕ
part_line xs = numeral 2 19 ++ (numeral 2 (length xs) ++ (flat_map (numeral 2) xs ++ (10 ∷ [])))

-- part k of a list: at most sixteen of its banks, from position 16 k on
abbrev pub part : List ℕ → ℕ → List ℕ
part xs k = take part_size (drop (part_size * k) xs)

-- the lines of the first n parts
unfoldable pub part_lines : List ℕ → ℕ → List ℕ
part_lines xs zero = []
part_lines xs (suc n) = part_lines xs n ++ part_line (part xs n)

-- how many parts a list of n banks has: all but the last are full
abbrev pub parts_of : ℕ → ℕ
parts_of n = (n + 15) / part_size

-- how many banks the next part is to have, of so many that are still to come
abbrev pub part_due : ℕ → ℕ
part_due left = min part_size left

-- the column of the first of n banks, two digits each, that is not below the number of banks; 0 where all are
unfoldable pub bad_bank : (banks n column : ℕ) → List ℕ → ℕ
bad_bank banks zero column digits = 0
bad_bank banks (suc n) column digits = cond (nat_lt (value (take 2 digits)) banks) (bad_bank banks n (column + 2) (drop 2 digits)) column

-- the column of the first field of a part outside its limits, or 0: its count is the number due, and each bank is one of the table
abbrev pub part_column : (banks due : ℕ) → List ℕ → ℕ
part_column banks due body = cond (field 0 2 body == due) (bad_bank banks due 5 (drop 2 body)) 3

-- every number of the list is below the number of banks
abbrev pub OnlyBanks : ℕ → List ℕ → Type 0
OnlyBanks banks xs = (k : ℕ) → k < length xs → slice_index xs k < banks

-- The bytes begin with all parts of this list, and go on with the rest.
pub record PartsRead (banks : ℕ) (bytes xs rest : List ℕ) : Type 0 where
  pub only : OnlyBanks banks xs
  pub text : bytes ≡ part_lines xs (parts_of (length xs)) ++ rest

-- Two digits of the bytes for each of these banks, which are put behind a list.
pub record BanksPut (banks : ℕ) (digits before after : List ℕ) : Type 0 where
  pub put : List ℕ
  pub behind : after ≡ before ++ put
  pub only : OnlyBanks banks put
  pub text : digits ≡ flat_map (numeral 2) put

-- The next line is a part with as many banks as are due, and they are put behind a list.
pub record PartPut (banks due : ℕ) (from : Unread) (before : List ℕ) (to : Unread) (after : List ℕ) : Type 0 where
  pub put : List ℕ
  pub behind : after ≡ before ++ put
  pub long : length put ≡ due
  pub only : OnlyBanks banks put
  pub text : from.rest.now ≡ part_line put ++ to.rest.now
  pub line : to.line ≡ from.line + 1

-- The refusal tells the first bad line of the list: n full parts are good, more dwells are announced, and the next line is bad.
pub record PartsFault (banks dwells : ℕ) (bytes : List ℕ) (r : Refusal) : Type 0 where
  pub good : ℕ
  pub listed : List ℕ
  pub rest : List ℕ
  pub full : length listed ≡ part_size * good
  pub more : part_size * good < dwells
  pub only : OnlyBanks banks listed
  pub text : bytes ≡ part_lines listed good ++ rest
  pub bad : BadLine 19 (part_column banks (part_due (dwells - part_size * good))) rest ((2 + banks) + good) r
