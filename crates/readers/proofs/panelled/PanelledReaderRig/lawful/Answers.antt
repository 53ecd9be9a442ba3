use Rattle.std.proofs.Common.{rules}
use Rattle.readers.specs.Meanings.{tells_lawful}
use Rattle.readers.proofs.panelled.PanelledReaderRig.lawful.Goals as goal

pub returns-else-j-moves-clause-rule : goal.returns-else-j-moves-clause-rule
returns-else-j-moves-clause-rule c = tells_lawful c.args.self.now.table c.args.s.now c.args.j _ (search rules)

pub returns-then-j-moves-clause-rule : goal.returns-then-j-moves-clause-rule
returns-then-j-moves-clause-rule c = tells_lawful c.args.self.now.table c.args.s.now c.args.j _ (search rules)
