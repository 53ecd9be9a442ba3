-- What a running reader tells.
use Rattle.std.specs.Prelude.{ℕ, ◌+◌}
use Rattle.rig.specs.Orders.{Order, again}
use Rattle.banks.specs.Table.{dwell}
use Rattle.readers.specs.Ticks.{settling_before}
use Rattle.rounds.specs.declared.record.RoundRecord.{RoundRecord}
use Rattle.rounds.specs.Record.{list_of}
use Rattle.running.specs.declared.reader.RunningReader.{RunningReader}

-- What is told of one dwell: its bank, the settling ticks before it, and its own ticks.
abbrev pub Reply : Type 0
Reply = ℕ × ℕ × ℕ

-- the endless order of a record
abbrev pub order_of : RoundRecord → Order
order_of r = again (list_of r)

-- What is told of the dwell at place k of the record's endless order.
abbrev pub reply_at : RoundRecord → ℕ → Reply
reply_at r k = (order_of r k, settling_before r.table (order_of r) k, dwell r.table (order_of r k))

-- The n-th reply to come from a reader, from 0.
abbrev pub told : RunningReader → ℕ → Reply
told x n = reply_at x.round (x.place + n)
