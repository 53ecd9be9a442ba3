use Rattle.exports.proofs.Numbers.{number_told}
use Rattle.exports.proofs.round_refusal.Goals as goal

pub returns : goal.returns
returns c =
    let told = number_told _ _ _ _ _ _ c.number_of.ensures c.read_round.ensures.exact c.read_round.ensures.only (λ x o. o.faultless) in
    record { read = told.0; refused = told.1 }
