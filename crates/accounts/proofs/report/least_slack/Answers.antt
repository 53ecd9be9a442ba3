use Rattle.std.proofs.Common.{ℕ, refl, ap, ◌∙◌, rules}
use Rattle.std.specs.declared.ops.Range.{Range}
use Rattle.banks.specs.declared.table.BankTable.{BankTable}
use Rattle.rounds.specs.Record.{list_of}
use Rattle.accounts.proofs.Least.{least_picked}
use Rattle.accounts.proofs.report.least_slack.Goals as goal

pub returns : goal.returns
returns c =
    let r = c.args.round.now in
    let range = c.map.ensures.source in
    least_picked r.table (list_of r) _ _ _ _ (λ i b q k. search rules) (λ b k q e. search rules) r.table.count c.map.result c.unwrap.result refl
    (ap (λ (m : Range ℕ). m.start) range) (ap (λ (m : Range ℕ). m.end) range ∙ c.count.ensures ∙ ap (λ (t : BankTable). t.count) c.table.ensures)
    (rw c.unwrap.ensures at c.min_by_key.ensures.ran)
