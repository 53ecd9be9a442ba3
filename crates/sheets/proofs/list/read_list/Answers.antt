use Rattle.std.proofs.Common.{◌≡◌, ◌<◌, ◌-◌, length, sym, ap, ◌∙◌, subst, arith, rules, MatchOption, Ok, Err}
use Rattle.std.proofs.lemmas.Bool.Decides.{nat_tests}
use Rattle.std.proofs.lemmas.Bool.{eqb-true}
use Rattle.std.proofs.lemmas.List.{nil_from_length}
use Rattle.std.proofs.lemmas.Result.{err_from_is_err_and}
use Rattle.refusals.specs.Numbers.{bad_end}
use Rattle.sheets.specs.declared.faults.SheetFault.TheVariants.{NoFeeder}
use Rattle.sheets.specs.Faults.{sheet_told}
use Rattle.sheets.specs.SheetLines.{ListRead, FeederFault}
use Rattle.sheets.proofs.FeederReads.{none_bare, some_bare, list_bare, list_after}
use Rattle.sheets.proofs.list.read_list.Goals as goal

pub returns-in_err-map_or : goal.returns-in_err-map_or
returns-in_err-map_or c =
    let p = err_from_is_err_and c.from_residual-in_err-map_or.result c.from_residual-in_err-map_or.ensures.1 in
    let h = c.args.head.banks in
    let l = c.in_ok-list.list in
    let e = c.in_ok-list.ensures in
    let m : MatchOption c.bare_bank.result (c.map_or.result ≡ Ok tt) (λ x. c.map_or.result ≡ Err (NoFeeder (c.line-end.result - 1))) = search rules in
    let b = some_bare _ _ c.bare_bank.result c.map_or.result _ _ m c.bare_bank.ensures c.in_err-map_or.was in
    rw (p.1, p.2) (subst (λ f. FeederFault h c.args.lines.now.rest.now (sheet_told f)) (sym b.0) (list_bare h c.args.lines.now.rest.now l.feeders l.count _ e.0 _ (omega (arith, c.line-end.ensures, e.1)) b.1.0 b.1.1.0 b.1.1.1))

pub returns-then-not-is_empty : goal.returns-then-not-is_empty
returns-then-not-is_empty c =
    let h = c.args.head.banks in
    let l = c.in_ok-list.list in
    let e = c.in_ok-list.ensures in
    let m : MatchOption c.bare_bank.result (c.map_or.result ≡ Ok tt) (λ x. c.map_or.result ≡ Err (NoFeeder (c.line-end.result - 1))) = search rules in
    let more : 0 < length c.read_feeders.new.lines.rest.now = let n = c.is_empty.ensures in let t = c.if-not-is_empty.true in let r = c.rest.ensures in grind (arith, nat_tests) in
    subst (λ n. FeederFault h c.args.lines.now.rest.now (bad_end n)) (sym (c.line-end.ensures ∙ e.1))
    (list_after h c.args.lines.now.rest.now l.feeders l.count _ e.0 (none_bare _ _ c.bare_bank.result c.map_or.result _ _ m c.bare_bank.ensures c.in_ok-map_or.was) more)

pub returns : goal.returns
returns c =
    let h = c.args.head.banks in
    let l = c.in_ok-list.list in
    let e = c.in_ok-list.ensures in
    let m : MatchOption c.bare_bank.result (c.map_or.result ≡ Ok tt) (λ x. c.map_or.result ≡ Err (NoFeeder (c.line-end.result - 1))) = search rules in
    let none = nil_from_length c.read_feeders.new.lines.rest.now (ap length (sym c.rest.ensures) ∙ eqb-true _ 0 (sym c.is_empty.ensures ∙ c.if-not-is_empty.false)) in
    (subst (ListRead h c.args.lines.now.rest.now l.feeders l.count) none e.0, none_bare _ _ c.bare_bank.result c.map_or.result _ _ m c.bare_bank.ensures c.in_ok-map_or.was)
