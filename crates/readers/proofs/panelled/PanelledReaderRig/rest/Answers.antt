use Rattle.std.proofs.Common.{refl}
use Rattle.banks.specs.Places.{spread}
use Rattle.readers.proofs.panelled.PanelledReaderRig.rest.Goals as goal

pub returns : goal.returns
unfolding spread
returns c = refl
