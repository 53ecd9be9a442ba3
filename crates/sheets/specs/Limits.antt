-- The limits of what a machine has: its banks, their panels, settling, and its feeders.
use Rattle.std.specs.Prelude.{ℕ, ◌+◌, ◌*◌}

-- how many banks there are
abbrev pub fewest_banks : ℕ
fewest_banks = 2

abbrev pub most_banks : ℕ
most_banks = 16

-- the longest settling, in ticks
abbrev pub most_settle : ℕ
most_settle = 1000

-- panels are numbered from 0 to this
abbrev pub most_panel : ℕ
most_panel = 3

-- how many feeders a sheet can list; it lists one or more
abbrev pub most_feeders : ℕ
most_feeders = 256

-- feeders have any numbers from 0 to this
abbrev pub most_number : ℕ
most_number = 65535

-- the longest reading time, in ticks; the shortest is 1
abbrev pub most_reading : ℕ
most_reading = 1000

-- the longest swap time, in ticks
abbrev pub most_swap : ℕ
most_swap = 65535

-- the shortest swap time of a feeder with this reading time
abbrev pub least_swap : ℕ → ℕ
least_swap reading = 2 * reading + 1
