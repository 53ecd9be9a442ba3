use Rattle.std.proofs.Common.{refl}
use Rattle.search.specs.declared.step.Standing.TheVariants.{Open}
use Rattle.search.proofs.Sound.{sound_fresh}
use Rattle.search.proofs.book.Book.new.Goals as goal

pub returns-clause-sound : goal.returns-clause-sound
returns-clause-sound g c m = sound_fresh m c.args.rows.now 0 Open refl refl
