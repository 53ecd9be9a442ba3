use Rattle.std.proofs.Common.{ℕ, ◌+◌, ◌-◌, List, [], ◌∷◌, ◌++◌, length, sym, ap, subst, arith, rules}
use Rattle.std.proofs.iter.Next.{Yields-more}
use Rattle.std.proofs.lemmas.List.{length-append}
use Rattle.std.specs.Iterator.{Yields}
use Rattle.std.specs.List.{flat_map}
use borrow.Rule.Slice.PartMut.{put_mid}
use Rattle.listings.specs.Writing.{Put}
use Rattle.listings.proofs.Puts.{joined_next, put_more, rest_room}
use Rattle.listings.proofs.listed.put_all.Goals as goal

pub put-at-requires : goal.put-at-requires
put-at-requires g c =
    let text = g.T.Listed.text in
    let it = c.into_iter-item-iterator.result in
    let xs = c.loop-item.yielded in
    let x = c.in-Some.item in
    let p = c.loop-item.invariant.put in
    let more = Yields-more g.I.Iterator.next_gives it xs c.loop-item.item-iterator x c.next.new.self c.loop-item.yielded_by c.in-Some.ensures.steps in
    let fits = c.requires.room (xs ++ x ∷ []) c.next.new.self (subst (λ s. Yields g.I.Iterator.next_gives s (xs ++ x ∷ []) c.next.new.self) c.into_iter-item-iterator.ensures.into_iter_gives more) in
    rest_room (flat_map text xs) c.args.out.now c.loop-item.out c.loop-item.at (length (text x)) p
    (omega (arith, fits, p.told, ap length (joined_next text xs x), length-append (flat_map text xs) (text x)))

pub loop-item-preserved : goal.loop-item-preserved
loop-item-preserved g c =
    let text = g.T.Listed.text in
    let xs = c.loop-item.yielded in
    let x = c.in-Some.item in
    let at = c.loop-item.at in
    let out = c.loop-item.out in
    record {
      can = search rules;
      ends = search rules;
      put =
          subst (λ (t : List ℕ). Put t c.args.out.now (put_mid at (length out - at) out c.put-at.new.out) (at + c.put-at.result)) (sym (joined_next text xs x))
          (put_more (flat_map text xs) (text x) c.args.out.now out c.put-at.new.out at c.put-at.result c.loop-item.invariant.put c.put-at.ensures);
    }
