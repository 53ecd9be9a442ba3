use Rattle.std.proofs.Common.{refl, subst, rules}
use Rattle.std.proofs.lemmas.Result.{err_from_is_err_and}
use Rattle.rig.specs.Checks.{ListFault, told}
use Rattle.banks.specs.declared.table.BankTable.{BankTable}
use Rattle.readers.specs.Panelled.{panelled}
use Rattle.rounds.specs.Record.RecordFault.{no_round}
use Rattle.rounds.proofs.Gaps.{decides_keeps}
use Rattle.rounds.proofs.record.RoundRecord.fill.Goals as goal

pub returns-in_err-check_list-clause-reply : goal.returns-in_err-check_list-clause-reply
returns-in_err-check_list-clause-reply c =
    let p = err_from_is_err_and c.from_residual-in_err-check_list.result c.from_residual-in_err-check_list.ensures.1 in
    let e = c.in_err-check_list.field-0.0 in
    let bad = subst (λ (t : BankTable). ListFault (panelled t) c.args.list.now (told e)) c.new.ensures c.in_err-check_list.ensures.reply in
    rw (p.1, p.2) (no_round (search rules) bad, refl)

pub returns-in_err-check_list-clause-regular : goal.returns-in_err-check_list-clause-regular
returns-in_err-check_list-clause-regular c = decides_keeps _ _ _ (search rules)

pub returns-clause-regular : goal.returns-clause-regular
returns-clause-regular c = decides_keeps _ _ _ (search rules)
