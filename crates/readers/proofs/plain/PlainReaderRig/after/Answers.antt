use Rattle.std.proofs.Common.{rules}
use Rattle.readers.specs.PlainLaws.{plain_after}
use Rattle.readers.proofs.plain.PlainReaderRig.after.Goals as goal

pub returns-clause-rule : goal.returns-clause-rule
returns-clause-rule c = plain_after c.args.self.now.table c.args.s.now c.args.j _ (search rules)
