use Rattle.std.proofs.Common.{◌≡◌, length, take, drop}
use Rattle.frames.specs.Fields.{bad_column, numbers_in}
use Rattle.frames.proofs.fields.read_fields.Given as goal

abbrev pub invariant-loop-k : goal.invariant-loop-k
invariant-loop-k g l = record {
  size : length l.numbers ≡ length l.fields;
  read : take l.k l.numbers ≡ numbers_in (take l.k l.fields) l.digits;
  good : bad_column l.fields l.digits ≡ bad_column (drop l.k l.fields) l.digits;
}
