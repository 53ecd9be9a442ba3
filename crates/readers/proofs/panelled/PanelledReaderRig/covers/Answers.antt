use Rattle.std.proofs.Common.{rules}
use Rattle.std.proofs.lemmas.Bool.Decides.{Decides-at}
use Rattle.readers.specs.Meanings.{covers_decides}
use Rattle.readers.proofs.panelled.PanelledReaderRig.covers.Goals as goal

pub returns-then-panel_covers-clause-rule : goal.returns-then-panel_covers-clause-rule
returns-then-panel_covers-clause-rule c = Decides-at _ _ (search rules) (covers_decides c.args.self.now.table c.args.a.now c.args.b.now)
