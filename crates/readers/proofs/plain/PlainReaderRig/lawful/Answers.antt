use Rattle.std.proofs.Common.{rules}
use Rattle.std.proofs.lemmas.Bool.Decides.{Decides-at}
use Rattle.readers.specs.PlainLaws.{plain_decides}
use Rattle.readers.proofs.plain.PlainReaderRig.lawful.Goals as goal

pub returns-then-j-moves-clause-rule : goal.returns-then-j-moves-clause-rule
returns-then-j-moves-clause-rule c = Decides-at _ _ (search rules) (plain_decides c.args.self.now.table c.args.s.now c.args.j)
