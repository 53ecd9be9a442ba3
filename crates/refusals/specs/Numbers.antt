-- The number and the values of each refusal. Every contract that tells of a refusal speaks through these definitions.
use Rattle.std.specs.Prelude.{ℕ}
use Rattle.refusals.specs.declared.Refusal.{Refusal}

-- a refusal of a file tells line and column, both from 1
abbrev pub at_place : ℕ → ℕ → ℕ → Refusal
at_place n l c = record { number = n; line = l; column = c; lap = 0; position = 0; length = 0 }

-- a refusal of a list of moves tells the lap, from 1, and the position, from 0
abbrev pub at_move : ℕ → ℕ → ℕ → Refusal
at_move n l p = record { number = n; line = 0; column = 0; lap = l; position = p; length = 0 }

-- a refusal of a buffer tells the length that is needed
abbrev pub of_length : ℕ → ℕ → Refusal
of_length n needed = record { number = n; line = 0; column = 0; lap = 0; position = 0; length = needed }

-- 1: the byte at this column is no digit
abbrev pub no_digit : ℕ → ℕ → Refusal
no_digit l c = at_place 1 l c

-- 2: the line is no frame: its kind is unknown, or its number of digits is not that of its kind
abbrev pub no_frame : ℕ → Refusal
no_frame l = at_place 2 l 1

-- 3: a frame of another kind is due here
abbrev pub out_of_place : ℕ → Refusal
out_of_place l = at_place 3 l 1

-- 4: the field that begins at this column is outside its limits
abbrev pub bad_field : ℕ → ℕ → Refusal
bad_field l c = at_place 4 l c

-- 5: the feeder number of this line stands on an earlier line too
abbrev pub repeated_feeder : ℕ → Refusal
repeated_feeder l = at_place 5 l 3

-- 6: at the line that counts the feeders, a bank has none
abbrev pub bare_bank : ℕ → Refusal
bare_bank l = at_place 6 l 1

-- 7: the line is lacking, is not closed, or stands after the end; or, at line 1, the file is too long
abbrev pub bad_end : ℕ → Refusal
bad_end l = at_place 7 l 1

-- 9: the buffer is too short; so long it has to be
abbrev pub too_short : ℕ → Refusal
too_short needed = of_length 9 needed

-- 10: the list is empty or too long, or the number at this position is no move
abbrev pub no_move : ℕ → Refusal
no_move p = at_move 10 0 p

-- 11: the move at this position of this lap is not lawful
abbrev pub not_lawful : ℕ → ℕ → Refusal
not_lawful l p = at_move 11 l p

-- 11 of a stored round stands at its last line, and keeps lap and position
abbrev pub not_lawful_in_file : ℕ → ℕ → ℕ → Refusal
not_lawful_in_file n l p = record { number = 11; line = n; column = 1; lap = l; position = p; length = 0 }
