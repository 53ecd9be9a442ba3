use Rattle.std.proofs.Common.{◌≡◌, ℕ, ◌+◌, ◌<◌, length, min}
use Rattle.banks.specs.Places.{age_at}
use Rattle.readers.proofs.ages.ages_after.Given as goal

abbrev pub invariant-loop-i : goal.invariant-loop-i
invariant-loop-i l = record {
  long : length l.age-items ≡ l.table.count;
  each : (k : ℕ) → k < l.i → age_at l.age-items k ≡ min (min (age_at l.ages k + l.settling) 65535 + l.dwell) 65535;
}
