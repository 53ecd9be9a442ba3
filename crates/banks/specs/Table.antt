-- What a bank table says of each bank.
use Rattle.std.specs.Prelude.{ℕ}
use Rattle.banks.specs.declared.table.BankTable.{BankTable}
use Rattle.banks.specs.Limits.{bank_at}

-- the ticks of one dwell on bank i
abbrev pub dwell : BankTable → ℕ → ℕ
dwell t i = (bank_at t.banks i).dwell

-- the longest wait that bank i bears, from the end of one dwell to the beginning of the next
abbrev pub gap : BankTable → ℕ → ℕ
gap t i = (bank_at t.banks i).gap

-- the panel on which the aerial of bank i lies
abbrev pub panel : BankTable → ℕ → ℕ
panel t i = (bank_at t.banks i).panel
