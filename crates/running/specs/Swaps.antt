-- Swaps, in ticks, over what a reader tells. Ticks count from its start, without pause between what it tells.
use Rattle.std.specs.Prelude.{◌≡◌, ℕ, zero, suc, ◌+◌, ◌-◌, ◌<◌, ◌≤◌, min, max}
use Rattle.sheets.specs.declared.feeder.Feeder.{Feeder}
use Rattle.sheets.specs.declared.sheet.Sheet.{Sheet}
use Rattle.sheets.specs.Feeders.{feeder_at}
use Rattle.running.specs.Told.{Reply}

-- the replies of one call after another, from 0
abbrev pub Replies : Type 0
Replies = ℕ → Reply

module _ (f : Replies) where
  -- the ticks that the first n replies take: of each its settling and its dwell
  unfoldable pub ticks_told : ℕ → ℕ
  ticks_told zero = 0
  ticks_told (suc n) = ticks_told n + (f n).1 + (f n).2

  -- the tick at which dwell n begins: after all that was told earlier, and its own settling
  abbrev pub dwell_begins : ℕ → ℕ
  dwell_begins n = ticks_told n + (f n).1

  -- the first tick after dwell n
  abbrev pub dwell_ends : ℕ → ℕ
  dwell_ends n = dwell_begins n + (f n).2

-- how many ticks lie in both of two stretches of time, each with its first tick and the first after it
abbrev pub shared : (from to begins ends : ℕ) → ℕ
shared from to begins ends = min to ends - max from begins

-- A swap of this feeder, begun at tick t and so many ticks long, is read: one dwell on the feeder's bank shares at least its reading time with the swap.
pub record SwapRead (f : Replies) (x : Feeder) (t long : ℕ) : Type 0 where
  pub call : ℕ
  pub on_bank : (f call).0 ≡ x.bank
  pub enough : x.reading ≤ shared t (t + long) (dwell_begins f call) (dwell_ends f call)

-- No swap is missed: of every feeder of the sheet, every swap that takes at least the feeder's swap time is read, whenever it begins.
abbrev pub NoSwapMissed : Sheet → Replies → Type 0
NoSwapMissed s f = (k : ℕ) → k < s.listed → (t long : ℕ) → (feeder_at s.feeders k).swap ≤ long → SwapRead f (feeder_at s.feeders k) t long
