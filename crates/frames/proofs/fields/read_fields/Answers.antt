use Rattle.std.proofs.Common.{◌<◌, ◌≤◌, length, ◌∙◌, arith}
use Rattle.std.proofs.Math.ListN.{length-set}
use Rattle.frames.proofs.FieldNumbers.{numbers_step, good_step, numbers_end, good_end}
use Rattle.frames.proofs.fields.read_fields.Goals as goal

pub loop-k-preserved : goal.loop-k-preserved
loop-k-preserved g c =
    let fs = c.args.fields.now in
    let xs = c.args.digits.now in
    let inside : c.loop-k.k < length fs = omega (arith, c.told-fields) in
    let i = c.loop-k.invariant in
    record {
      size = length-set c.loop-k.numbers c.loop-k.k c.number_in-number.result ∙ i.size;
      read = numbers_step fs xs c.loop-k.numbers c.loop-k.k c.number_in-number.result _ i.size inside c.number_in-number.ensures i.read;
      good = good_step fs xs c.loop-k.k c.number_in-number.result _ c.takes.result inside c.number_in-number.ensures c.takes.ensures c.if-not-takes.false i.good;
    }

pub returns : goal.returns
returns g c =
    let fs = c.args.fields.now in
    let xs = c.args.digits.now in
    let i = c.loop-k.invariant in
    let past : length fs ≤ c.loop-k.k = omega (arith, c.told-fields) in
    (numbers_end fs xs c.loop-k.numbers c.loop-k.k i.size past i.read, good_end fs xs c.loop-k.k past i.good)
