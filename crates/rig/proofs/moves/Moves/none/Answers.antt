use Rattle.std.proofs.Common.{false, replicate, ⊎_elim}
use lib.ListN.{get_or-replicate}
use Rattle.std.proofs.lemmas.List.{get_or_past}
use Rattle.std.proofs.lemmas.Bool.{cases_lt}
use Rattle.rig.proofs.moves.Moves.none.Goals as goal

pub returns : goal.returns
returns c k = ⊎_elim (λ h. get_or-replicate 32 k false false h) (λ h. get_or_past (replicate 32 false) k false h) (cases_lt k 32)
