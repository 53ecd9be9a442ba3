use Rattle.std.proofs.Common.{arith}
use Rattle.frames.proofs.Numerals.{read_room, read_all}
use Rattle.frames.proofs.digits.read_number.Goals as goal

pub overflow_mul-n : goal.overflow_mul-n
overflow_mul-n c = omega (arith, read_room c.args.digits.now c.loop-b.b-index c.loop-b.n c.loop-b.invariant c.loop-b-test.true c.if-digits-gt-MOST_DIGITS.false)

pub overflow_add-n : goal.overflow_add-n
overflow_add-n c =
    let room = read_room c.args.digits.now c.loop-b.b-index c.loop-b.n c.loop-b.invariant c.loop-b-test.true c.if-digits-gt-MOST_DIGITS.false in
    let small = c.in_ok-digit.ensures in
    let same = c.from.ensures in
    omega (arith, room)

pub returns : goal.returns
returns c = (c.if-digits-gt-MOST_DIGITS.false, (λ k l. c.loop-b.invariant.before k (omega arith)), read_all c.args.digits.now c.loop-b.b-index c.loop-b.n c.loop-b.invariant c.loop-b-test.false)
