use Rattle.std.proofs.Common.{rules}
use Rattle.std.proofs.lemmas.Bool.Decides.{Decides-at}
use Rattle.readers.specs.Meanings.{proper_decides}
use Rattle.readers.proofs.panelled.PanelledReaderRig.proper.Goals as goal

pub returns-then-panel_proper-clause-rule : goal.returns-then-panel_proper-clause-rule
returns-then-panel_proper-clause-rule c = Decides-at _ _ (search rules) (proper_decides c.args.self.now.table c.args.s.now)
