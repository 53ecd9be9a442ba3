use Rattle.std.proofs.Common.{ℕ, ◌+◌, ◌∙◌, ◌++◌, set, drop, replicate, min, ap, arith}
use Rattle.std.proofs.lemmas.List.{length-take-le}
use Rattle.banks.specs.declared.table.Bank.{Bank}
use Rattle.banks.specs.Places.{age_at}
use Rattle.readers.proofs.Grown.{grown_ages}
use Rattle.readers.proofs.ages.ages_after.Goals as goal

pub returns : goal.returns
returns c =
    let t = c.args.table.now in
    let xs = c.loop-i.age-items in
    ap (λ (n : ℕ). set (xs ++ drop n (replicate 16 0)) c.args.j 0) c.count-banks.ensures
    ∙ grown_ages t (age_at c.args.ages.now) c.args.j c.args.settling c.requires.bank c.requires.fits xs c.loop-i.invariant.long (λ k h.
    c.loop-i.invariant.each k (omega (arith, length-take-le {A = ℕ} c.count-banks.result (replicate 16 0) (omega (arith, t.few))))
    ∙ ap (λ (b : Bank). min (min (age_at c.args.ages.now k + c.args.settling) 65535 + b.dwell) 65535) c.at-dwell.ensures)
