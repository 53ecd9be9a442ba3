use Rattle.std.proofs.Common.{ℕ, ◌+◌, cond, eqb, leb, ◌∙◌, arith}
use Rattle.std.proofs.lemmas.Bool.Decides.{nat_tests}
use Rattle.std.proofs.lemmas.Iterator.{YieldsList-from_range}
use Rattle.std.proofs.lemmas.Iterator.Search.{all_from_yields_List}
use Rattle.banks.specs.Table.{dwell, gap}
use Rattle.banks.specs.Places.{age_at}
use Rattle.readers.proofs.Chains.{list_all_ranged}
use Rattle.readers.proofs.ages.in_time.Goals as goal

pub returns : goal.returns
returns c =
    let t = c.args.table.now in
    let test = λ (i : ℕ). leb (age_at c.args.ages.now i + (c.args.settling + cond (eqb i c.args.j) 0 (dwell t c.args.j))) (gap t i) in
    all_from_yields_List test _ _ _ c.all.ensures.ran
    (YieldsList-from_range 0 t.count t.count (λ k. record { start = 0; end = c.count.ensures k }) (omega arith))
    (λ x b q k. grind (arith, nat_tests))
    ∙ list_all_ranged test t.count
