-- States are identical when their fields are.
use Rattle.std.proofs.Common.{◌≡◌, Bool, Decides, ap}
use Rattle.readers.specs.declared.panelled.ReaderState.{ReaderState}
use Rattle.readers.specs.declared.plain.PlainState.{PlainState}

pub same_state : (a b : ReaderState) → a.ages ≡ b.ages → a.last ≡ b.last → a ≡ b
same_state a b p q = λ i. record { ages = p i; last = q i }

-- a test of one field decides identity where the others are equal
pub state_decides : (a b : ReaderState) (r : Bool) → Decides r (a.ages ≡ b.ages) → a.last ≡ b.last → Decides r (a ≡ b)
state_decides a b r d e = (λ h. same_state a b (d.0 h) e, λ h. d.1 (ap (λ s. s.ages) h))

pub plain_state_decides : (a b : PlainState) (r : Bool) → Decides r (a.ages ≡ b.ages) → Decides r (a ≡ b)
plain_state_decides a b r d = (λ h. let same = d.0 h in λ i. record { ages = same i }, λ h. d.1 (ap (λ s. s.ages) h))
