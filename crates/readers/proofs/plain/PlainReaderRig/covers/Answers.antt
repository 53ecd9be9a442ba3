use Rattle.std.proofs.Common.{rules}
use Rattle.std.proofs.lemmas.Bool.Decides.{Decides-at}
use Rattle.readers.specs.PlainLaws.{plain_covers_decides}
use Rattle.readers.proofs.plain.PlainReaderRig.covers.Goals as goal

pub returns-clause-rule : goal.returns-clause-rule
returns-clause-rule c = Decides-at _ _ (search rules) (plain_covers_decides c.args.self.now.table c.args.a.now c.args.b.now)
