use Rattle.std.proofs.Common.{ℕ, ◌-◌, List, refl, subst, rules, arith}
use Rattle.std.proofs.lemmas.Result.{err_from_is_err_and}
use Rattle.rig.specs.Checks.{Checked}
use Rattle.banks.specs.declared.table.BankTable.{BankTable}
use Rattle.readers.specs.Panelled.{panelled}
use Rattle.rounds.proofs.Ends.{end_told}
use Rattle.rounds.proofs.stored.finish.Goals as goal

pub returns-in_err-map_err : goal.returns-in_err-map_err
returns-in_err-map_err c =
    let p = err_from_is_err_and c.from_residual.result c.from_residual.ensures.1 in
    let checked = subst (λ (t : BankTable). Checked (panelled t) c.args.list.items c.check_list.result) c.new-reader.ensures
    (subst (λ (xs : List ℕ). Checked (panelled c.new-reader.result.table) xs c.check_list.result) c.deref.ensures.0 c.check_list.ensures.reply) in
    rw (p.1, p.2) (
      end_told _ _ _ c.requires.moves _ (c.line-line.result - 1) c.check_list.result c.map_err.result _ checked c.map_err.ensures.cases c.in_err-map_err.was
          (λ u told. search rules) (omega (arith, c.line-line.ensures)),
      refl,
    )
