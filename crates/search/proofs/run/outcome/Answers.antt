use Rattle.std.proofs.Common.{sym, subst, arith}
use Rattle.search.specs.Calls.{LastCopied, book_state}
use Rattle.search.proofs.Rounds.{last_copied}
use Rattle.search.proofs.run.outcome.Goals as goal

pub returns-clause-copied : goal.returns-clause-copied
returns-clause-copied g c =
    let book = c.args.book.now in
    subst (λ o. LastCopied (book_state book.rows.now book.taken book.standing) c.args.out.now o c.copy.new.out) (sym c.ok-round.ensures.value)
    (last_copied book.rows.now book.taken book.standing c.args.out.now c.copy.new.out c.copy.result book.begins (omega (arith, book.within)) (omega (arith, book.within, c.requires)) c.copy.ensures)
