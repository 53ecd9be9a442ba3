use Rattle.std.proofs.Common.{length, refl, ap, subst, arith, rules}
use Rattle.std.proofs.lemmas.Iterator.{YieldsList-from_map_by}
use Rattle.rounds.specs.Parts.{part_line, parts_of}
use Rattle.listings.specs.declared.lines.Part.{Part}
use Rattle.listings.specs.Writing.{Put}
use Rattle.listings.proofs.Puts.{items_room, items_put}
use Rattle.listings.proofs.RoundLines.{chunks_are_parts, parts_text}
use Rattle.listings.proofs.lines.put_parts.Goals as goal

pub put_all-requires-clause-room : goal.put_all-requires-clause-room
put_all-requires-clause-room c =
    let xs = c.args.list.now in
    items_room (λ (p : Part). part_line p.0.now) (λ p. p.0.now) part_line (λ p. refl)
    (YieldsList-from_map_by _ (λ (p : Part). p.0.now) (λ ys. ys) (chunks_are_parts xs _ (cc) (cc)) c.map.ensures.closure (λ x r q k. search rules))
    _ (omega (arith, c.requires, ap length (parts_text xs (parts_of (length xs)))))

pub returns : goal.returns
returns c =
    let xs = c.args.list.now in
    subst (λ text. Put text c.args.out.now c.put_all.new.out c.put_all.result) (parts_text xs (parts_of (length xs)))
    (items_put (λ (p : Part). part_line p.0.now) (λ p. p.0.now) part_line (λ p. refl)
    (YieldsList-from_map_by _ (λ (p : Part). p.0.now) (λ ys. ys) (chunks_are_parts xs _ (cc) (cc)) c.map.ensures.closure (λ x r q k. search rules))
    c.args.out.now c.put_all.new.out c.put_all.result c.put_all.ensures)
