use Rattle.std.proofs.Common.{arith}
use Rattle.std.proofs.lemmas.Bool.Decides.{nat_tests}
use Rattle.frames.specs.Frames.{digits_after}
use Rattle.frames.proofs.kind.KindTryFromU32.try_from.Goals as goal

pub returns-in_default : goal.returns-in_default
unfolding digits_after
returns-in_default c = λ body. let h = c.in_default in grind (arith, nat_tests)
