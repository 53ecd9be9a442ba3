use Rattle.std.proofs.Common.{◌≡◌, ℕ, ◌+◌, ◌-◌, ◌≤◌, List, ◌++◌, length, take, ap, ◌∙◌, rules}
use Rattle.std.proofs.lemmas.List.{length-take-le, take-append-le}
use Rattle.std.proofs.Math.Seq.{take-append-add}
use Rattle.std.proofs.KnownBytes.{Consumes-trans}
use borrow.Rule.Slice.PartMut.{put_mid, post_of}
use Rattle.check_round.proofs.read_input.Goals as goal

-- the first bytes of a room after some were written behind those that are there
taken_more : (f k m : ℕ) (room buf : List ℕ) → f ≤ length room → m ≤ length buf → take (f + m) (put_mid f k room buf) ≡ take f room ++ take m buf
taken_more f k m room buf hf hm =
    let l : length (take f room) ≡ f = length-take-le f room hf in
    rw l at (take-append-add (take f room) (buf ++ post_of f k room) m) ∙ ap (λ (t : List ℕ). take f room ++ t) (take-append-le m buf _ hm)

pub loop-filled-preserved : goal.loop-filled-preserved
loop-filled-preserved g c =
    let read = c.in_ok-more.ensures.bytes.0 in
    let bound : c.in_ok-more.more ≤ length c.read.new.buf = c.in_ok-more.ensures.bound.0 in
    let two = Consumes-trans _ _ _ _ _ c.loop-filled.invariant.taken read in
    record {
      within = search rules;
      taken = rw (taken_more c.loop-filled.filled (length c.loop-filled.room - c.loop-filled.filled) c.in_ok-more.more c.loop-filled.room c.read.new.buf c.loop-filled.invariant.within bound) two;
    }
