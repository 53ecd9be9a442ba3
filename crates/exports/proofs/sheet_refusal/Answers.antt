use Rattle.exports.proofs.Numbers.{number_told}
use Rattle.exports.proofs.sheet_refusal.Goals as goal

pub returns : goal.returns
returns c =
    let told = number_told _ _ _ _ _ _ c.number_of.ensures c.read_sheet.ensures.exact c.read_sheet.ensures.only (λ x o. o.faultless) in
    record { read = told.0; refused = told.1 }
