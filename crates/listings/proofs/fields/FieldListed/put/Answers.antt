use Rattle.std.proofs.Common.{◌≡◌, ℕ, subst, arith}
use Rattle.frames.proofs.Numerals.{length_numeral}
use Rattle.listings.proofs.Puts.{PutDown, down_none, down_more, down_all}
use Rattle.listings.proofs.fields.FieldListed.put.Goals as goal

pub loop-k-init : goal.loop-k-init
loop-k-init c = down_none c.args.self.now.0 c.args.self.now.1 c.args.out.now (omega (arith, c.requires, length_numeral c.args.self.now.0 c.args.self.now.1))

pub bounds-out-k : goal.bounds-out-k
bounds-out-k c = omega (arith, c.requires, length_numeral c.args.self.now.0 c.args.self.now.1)

pub loop-k-preserved : goal.loop-k-preserved
loop-k-preserved c =
    let f = c.args.self.now in
    down_more f.0 f.1 c.args.out.now (omega (arith, c.requires, length_numeral f.0 f.1)) c.loop-k.out c.loop-k.k c.loop-k.rest c.digit.result c.loop-k.invariant (omega arith) (omega arith) c.digit.ensures

pub returns : goal.returns
returns c =
    let f = c.args.self.now in
    let e : c.loop-k.k ≡ 0 = omega arith in
    down_all f.0 f.1 c.args.out.now (omega (arith, c.requires, length_numeral f.0 f.1)) c.loop-k.out c.loop-k.rest
    (subst (λ (k : ℕ). PutDown f.0 f.1 c.args.out.now c.loop-k.out k c.loop-k.rest) e c.loop-k.invariant)
