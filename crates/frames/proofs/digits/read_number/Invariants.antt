use Rattle.frames.proofs.Numerals.{ReadTo}
use Rattle.frames.proofs.digits.read_number.Given as goal

abbrev pub invariant-loop-b : goal.invariant-loop-b
invariant-loop-b l = ReadTo l.digits l.b-index l.n
