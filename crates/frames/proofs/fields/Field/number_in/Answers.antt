use Rattle.frames.proofs.FieldNumbers.{number_is}
use Rattle.frames.proofs.fields.Field.number_in.Goals as goal

pub returns : goal.returns
returns c =
    let r = rw (c.from.ensures, c.from-2.ensures) at c.number_at.ensures in
    number_is c.args.self.now.place c.args.self.now.width c.number_at.result c.args.digits.now r.read r.refused
