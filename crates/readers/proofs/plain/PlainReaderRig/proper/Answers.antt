use Rattle.std.proofs.Common.{rules}
use Rattle.std.proofs.lemmas.Bool.Decides.{Decides-at}
use Rattle.readers.specs.Plain.{plain_age}
use Rattle.readers.specs.AgeLaws.{ages_proper_decides}
use Rattle.readers.proofs.plain.PlainReaderRig.proper.Goals as goal

pub returns-clause-rule : goal.returns-clause-rule
returns-clause-rule c = Decides-at _ _ (search rules) (ages_proper_decides c.args.self.now.table (plain_age c.args.s.now))
