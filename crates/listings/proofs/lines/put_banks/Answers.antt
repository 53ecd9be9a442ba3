use Rattle.std.proofs.Common.{length, refl, ap, subst, arith, rules}
use Rattle.std.proofs.lemmas.Iterator.{YieldsList-from_range, YieldsList-from_map}
use Rattle.banks.specs.Stored.{bank_line}
use Rattle.listings.specs.declared.lines.BankLine.{BankLine}
use Rattle.listings.specs.Writing.{Put}
use Rattle.listings.proofs.Puts.{items_room, items_put}
use Rattle.listings.proofs.RoundLines.{numbered, banks_text, length_banks}
use Rattle.listings.proofs.lines.put_banks.Goals as goal

pub put_all-requires-clause-room : goal.put_all-requires-clause-room
put_all-requires-clause-room c =
    let t = c.args.table.now in
    items_room (λ (l : BankLine). bank_line l.0 l.1) (λ l. l) (λ l. bank_line l.0 l.1) (λ l. refl)
    (YieldsList-from_map _ (numbered t.banks) (YieldsList-from_range 0 t.count t.count (cc) (omega arith)) c.map.ensures.closure (λ x r q k. search rules))
    _ (omega (arith, c.requires, ap length (banks_text t.banks t.count), length_banks t.banks t.count))

pub returns : goal.returns
returns c =
    let t = c.args.table.now in
    subst (λ text. Put text c.args.out.now c.put_all.new.out c.put_all.result) (banks_text t.banks t.count)
    (items_put (λ (l : BankLine). bank_line l.0 l.1) (λ l. l) (λ l. bank_line l.0 l.1) (λ l. refl)
    (YieldsList-from_map _ (numbered t.banks) (YieldsList-from_range 0 t.count t.count (cc) (omega arith)) c.map.ensures.closure (λ x r q k. search rules))
    c.args.out.now c.put_all.new.out c.put_all.result c.put_all.ensures)
