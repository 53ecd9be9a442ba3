use Rattle.std.proofs.Common.{sym, subst, arith}
use Rattle.banks.specs.Stored.{TableRead}
use Rattle.banks.proofs.TableLines.{rest_at, table_front}
use Rattle.banks.proofs.stored.read_table.Goals as goal

pub returns : goal.returns
returns c =
    let bytes = c.args.bytes.now in
    let p = c.in_ok-front.front in
    let rest = p.lines.rest.now in
    let text = c.in_ok-front.ensures.0 in
    let f = table_front bytes p.table p.dwells rest text in
    rw c.rest.ensures (omega arith, subst (TableRead bytes p.table p.dwells) (sym (rest_at bytes f.0 rest f.1)) text)
