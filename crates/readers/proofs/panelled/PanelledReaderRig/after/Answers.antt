use Rattle.std.proofs.Common.{rules}
use Rattle.readers.specs.Meanings.{tells_after}
use Rattle.readers.proofs.panelled.PanelledReaderRig.after.Goals as goal

pub returns-clause-rule : goal.returns-clause-rule
returns-clause-rule c = tells_after c.args.self.now.table c.args.s.now c.args.j _ (search rules)
