use Rattle.std.proofs.Common.{◌≡◌, true, false, rules}
use borrow.Author.Tests.{tests}
use Rattle.std.proofs.lemmas.Iterator.{first_from_Range}
use Rattle.rig.specs.Sets.{in_set}
use Rattle.search.proofs.Sets.{lowest_found}
use Rattle.search.proofs.row.lowest.Goals as goal

pub returns : goal.returns
returns c =
    let u = in_set c.args.moves.now.held in
    lowest_found u c.find.result
    (first_from_Range _ _ _ _ (λ j. u j ≡ true) (λ j. u j ≡ false) c.find.ensures.ran (λ j f h. search (rules, tests)) (λ j f h. search (rules, tests)))
