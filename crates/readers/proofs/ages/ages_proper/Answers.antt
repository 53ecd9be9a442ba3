use Rattle.std.proofs.Common.{ℕ, leb, rules, tests, sym, ap, ◌∙◌, arith}
use Rattle.std.specs.List.{enumerate_from, list_all}
use Rattle.std.proofs.lemmas.List.{take_all}
use Rattle.std.proofs.lemmas.List.FromFn.{length-enumerate_from}
use Rattle.std.proofs.lemmas.Iterator.{YieldsList-from_slice}
use Rattle.std.proofs.lemmas.Iterator.Consumers.{YieldsList-at, YieldsList-from_enumerate}
use Rattle.std.proofs.lemmas.Iterator.Search.{all_from_yields_List}
use Rattle.sheets.specs.Limits.{most_banks}
use Rattle.banks.specs.Table.{gap}
use Rattle.readers.proofs.Chains.{list_all_enumerated}
use Rattle.readers.proofs.ages.ages_proper.Goals as goal

pub returns : goal.returns
returns c =
    let xs = c.args.ages.now in
    let test = λ (q : ℕ × ℕ). leb q.1 (gap c.args.table.now q.0) in
    all_from_yields_List test _ _ _ c.all.ensures.ran
    (YieldsList-from_enumerate (YieldsList-at c.enumerate.ensures.source (YieldsList-from_slice xs c.iter.ensures.rest)) c.enumerate.ensures.count)
    (λ x b q k. search (rules, tests))
    ∙ ap (list_all test) (sym (take_all most_banks (enumerate_from 0 xs) (omega (arith, length-enumerate_from 0 xs))))
    ∙ list_all_enumerated test xs most_banks (omega arith)
