use Rattle.std.proofs.Common.{[], ◌∷◌, arith}
use Rattle.std.proofs.lemmas.List.{length-append}
use Rattle.listings.specs.Texts.{fields_text}
use Rattle.listings.proofs.Puts.{put_more, rest_room}
use Rattle.listings.proofs.fields.put_line.Goals as goal

pub put_all-at-requires : goal.put_all-at-requires
put_all-at-requires g c = record {
  can = c.requires.can;
  ends = c.requires.ends;
  room = λ xs t y. omega (arith, c.requires.room xs t y, length-append (fields_text xs) (10 ∷ []));
}

pub put_close-requires : goal.put_close-requires
put_close-requires g c =
    let e = c.put_all-at.ensures in
    rest_room (fields_text e.0) c.args.out.now c.put_all-at.new.out c.put_all-at.result 1 e.2
    (omega (arith, c.requires.room e.0 e.1.1.0 e.1.1.1, e.2.told, length-append (fields_text e.0) (10 ∷ [])))

pub returns : goal.returns
returns g c =
    let e = c.put_all-at.ensures in
    (e.0, e.1, put_more (fields_text e.0) (10 ∷ []) c.args.out.now c.put_all-at.new.out c.put_close.new.out c.put_all-at.result c.put_close.result e.2 c.put_close.ensures)
