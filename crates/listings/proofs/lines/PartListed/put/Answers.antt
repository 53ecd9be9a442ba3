use Rattle.std.proofs.Common.{ap, subst, length, arith, rules}
use Rattle.std.proofs.lemmas.Iterator.{YieldsList-from_slice, YieldsList-from_map}
use Rattle.std.proofs.lemmas.Iterator.Consumers.{YieldsList-from_copied, YieldsList-from_chain}
use Rattle.listings.specs.Writing.{Put}
use Rattle.listings.proofs.Puts.{line_room, line_put}
use Rattle.listings.proofs.RoundLines.{part_head, part_text, two_digits}
use Rattle.listings.proofs.lines.PartListed.put.Goals as goal

pub put_line-requires-clause-room : goal.put_line-requires-clause-room
put_line-requires-clause-room c =
    let xs = c.args.self.now.0.now in
    line_room
    (YieldsList-from_chain (YieldsList-from_copied (YieldsList-from_slice (part_head xs) cc)) (YieldsList-from_map _ two_digits (YieldsList-from_slice xs cc) (cc) (λ x r q k. search rules)) (cc) (cc))
    _ (omega (arith, c.requires, ap length (part_text xs)))

pub returns : goal.returns
returns c =
    let xs = c.args.self.now.0.now in
    subst (λ t. Put t c.args.out.now c.put_line.new.out c.put_line.result) (part_text xs)
    (line_put
    (YieldsList-from_chain (YieldsList-from_copied (YieldsList-from_slice (part_head xs) cc)) (YieldsList-from_map _ two_digits (YieldsList-from_slice xs cc) (cc) (λ x r q k. search rules)) (cc) (cc))
    c.args.out.now c.put_line.new.out c.put_line.result c.put_line.ensures)
