use Rattle.std.proofs.Common.{◌≡◌, false, rules}
use borrow.Author.Tests.{tests}
use Rattle.std.proofs.lemmas.Iterator.{YieldsList-from_slice, cases_from_any}
use Rattle.search.specs.Rows.{on_path}
use Rattle.search.proofs.Rows.{dead_decides}
use Rattle.search.proofs.scan.is_dead.Goals as goal

pub returns : goal.returns
returns g c =
    let s = c.args.state.now in
    dead_decides c.args.taken.now s c.any.result
    (cases_from_any _ _ _ (λ r. (on_path r ≡ false) × (r.state ≡ s)) (λ r. on_path r ≡ false → r.state ≡ s → ⊥) c.any.ensures.ran (YieldsList-from_slice c.args.taken.now cc) (λ r f h. search (rules, tests)) (λ r f h. search (rules, tests)))
