use Rattle.std.proofs.Common.{◌≡◌, ◌∙◌, ℕ, arith, rules, length, subst, sym, ◌++◌, take, drop, replicate}
use Rattle.std.proofs.lemmas.List.{length-take}
use Rattle.banks.specs.declared.table.Bank.{Bank}
use Rattle.banks.specs.Limits.{no_bank}
use Rattle.sheets.specs.Limits.{most_banks}
use Rattle.banks.specs.Stored.{BanksRead}
use Rattle.banks.proofs.TableLines.{no_banks, banks_front, one_bank_more}
use Rattle.banks.proofs.stored.read_banks.Goals as goal

pub loop-i-init : goal.loop-i-init
loop-i-init c =
    let bytes = c.args.lines.now.rest.now in
    let z : c.default-banks.result ≡ no_bank = search rules in
    record { read = subst (λ (b : Bank). BanksRead bytes (take c.args.head.banks (replicate most_banks b)) 0 bytes) (sym z) (no_banks bytes c.args.head.banks); line = c.requires }

pub loop-i-preserved : goal.loop-i-preserved
loop-i-preserved c =
    let e = c.in_ok-bank.ensures in
    let i = c.loop-i.invariant in
    record {
      read = one_bank_more c.args.lines.now.rest.now c.loop-i.bank-items c.loop-i.i c.loop-i.lines.rest.now c.in_ok-bank.field-0 _ i.read (omega (arith, c.loop-i-test.true, c.loop-i.auto.bank-items)) e.0 e.1;
      line = e.2 ∙ omega (arith, i.line);
    }

pub returns : goal.returns
returns c =
    let i = c.loop-i.invariant in
    let l : length c.loop-i.bank-items ≡ c.args.head.banks = omega (arith, c.loop-i.auto.bank-items, length-take {A = Bank}, c.args.head.few) in
    let e : c.loop-i.i ≡ c.args.head.banks = omega (arith, c.loop-i-test.false, c.loop-i.auto.i-end, length-take {A = Bank}, c.args.head.few) in
    let z : c.default-banks.result ≡ no_bank = search rules in
    let items = c.loop-i.bank-items in
    let rest = c.loop-i.lines.rest.now in (
      subst (λ (b : Bank). BanksRead c.args.lines.now.rest.now (items ++ drop c.args.head.banks (replicate most_banks b)) c.args.head.banks rest) (sym z)
          (banks_front c.args.lines.now.rest.now items c.args.head.banks rest l (subst (λ (n : ℕ). BanksRead c.args.lines.now.rest.now items n rest) e i.read)),
      omega (arith, i.line, e),
    )
