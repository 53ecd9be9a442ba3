use Rattle.std.proofs.Common.{rules}
use Rattle.std.proofs.lemmas.Iterator.{first_from_Range}
use Rattle.sheets.specs.Feeders.{NoneIn}
use Rattle.sheets.proofs.FeederReads.{bare_from}
use Rattle.sheets.proofs.listed.FeederList.bare_bank.Goals as goal

pub returns : goal.returns
returns c =
    let s = c.args.self.now in
    bare_from s.feeders s.count c.args.banks c.find.result
    (first_from_Range _ _ _ _ (NoneIn s.feeders s.count) (λ i. NoneIn s.feeders s.count i → ⊥) c.find.ensures.ran (λ i f h. search rules) (λ i f h. search rules))
