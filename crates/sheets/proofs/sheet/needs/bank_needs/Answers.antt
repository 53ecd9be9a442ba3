use Rattle.std.proofs.Common.{◌≡◌, count_by, take, sym, subst, refl, rules}
use Rattle.sheets.specs.Needs.{NeedsOf}
use Rattle.sheets.specs.declared.sheet.needs.BankNeeds.{BankNeeds}
use Rattle.sheets.proofs.BestSoFar.{in_bank, needs_by, needs_all}
use Rattle.sheets.proofs.sheet.needs.bank_needs.Goals as goal

pub returns : goal.returns
returns c =
    let s = c.args.sheet.now in
    let p = c.in_ok-panel.ensures in
    let none : BankNeeds = record { feeders = c.count.result; panel = c.in_ok-panel.panel; dwell = 0; dwell_feeder = 0; gap = 65535; gap_feeder = 0 } in
    let size : c.count.result ≡ count_by (in_bank c.args.bank) (take s.listed s.feeders) = search rules in
    let all : c.fold.result ≡ needs_by s.feeders c.args.bank none s.listed = search rules in
    subst (NeedsOf s c.args.bank) (sym all) (needs_all s c.args.bank none p.0 size p.1 refl refl)
