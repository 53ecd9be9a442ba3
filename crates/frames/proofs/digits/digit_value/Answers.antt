-- The table has what `digit_value` computes at each of its 256 places.
use Rattle.std.proofs.Common.{◌<◌, zero-add, rules}
use Rattle.std.proofs.lemmas.List.FromFn.{get_or-map-range_with_len}
use Rattle.frames.specs.Digits.{digit_value}
use Rattle.frames.proofs.digits.digit_value.Goals as goal

pub returns : goal.returns
unfolding digit_value
returns c =
    let h : c.args.b < 256 = search rules in
    get_or-map-range_with_len digit_value 0 256 c.args.b c.args.b 0 h (zero-add c.args.b)
