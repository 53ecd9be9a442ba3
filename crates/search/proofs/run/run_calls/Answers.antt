use Rattle.std.proofs.Common.{◌≡◌, ◌+◌, ◌≤◌, length, sym, refl, ap, ◌∙◌, subst, ap₂, arith, rules}
use Rattle.rig.specs.Guides.{guided}
use Rattle.search.specs.Calls.{book_state, bytes_needed, fresh}
use Rattle.search.proofs.Along.{Along, along_fits, along_left, along_more, along_start}
use Rattle.search.proofs.Finish.{ran, ran_always, ran_promised}
use Rattle.search.proofs.run.run_calls.Goals as goal

pub loop-k-init : goal.loop-k-init
loop-k-init g c =
    let book = c.new-book.result in
    let start = along_start (λ r. guided (g.R.Rig.means r) (g.R.GuidedRig.guide r)) book.rows.now c.args.calls.now c.args.replies.now c.args.room.now in
    let same : fresh book.rows.now ≡ book_state book.rows.now book.taken book.standing = ap₂ (book_state book.rows.now) (sym c.new-book.ensures.taken) (sym c.new-book.ensures.standing) in (
      refl,
      (subst (λ xs. bytes_needed (length xs) c.args.calls.now ≤ length c.args.room.now) (sym c.new-book.ensures.rows) c.in_ok-check_room.ensures.1),
      subst (λ b. Along (λ r. guided (g.R.Rig.means r) (g.R.GuidedRig.guide r)) book.rows.now c.args.calls.now c.args.replies.now c.args.room.now 0 0 b c.args.replies.now c.args.room.now) same start,
    )

pub slice_bounds-make_call-end : goal.slice_bounds-make_call-end
slice_bounds-make_call-end g c =
    let fits = along_fits c.loop-k.invariant.2 c.loop-k.invariant.1 c.index-calls-k.result c.loop-k-test.true c.index-calls-k.is in
    let below : c.loop-k.at + c.buffer.result ≤ length c.loop-k.room = omega (arith, fits, c.buffer.ensures, c.loop-k.auto.room) in
    search rules

pub loop-k-preserved : goal.loop-k-preserved
loop-k-preserved g c =
    let after = c.make_call.new.book in
    let fits = along_fits c.loop-k.invariant.2 c.loop-k.invariant.1 c.index-calls-k.result c.loop-k-test.true c.index-calls-k.is in (
      c.make_call.ensures.lends ∙ c.loop-k.invariant.0,
      c.loop-k.invariant.1,
      along_more c.loop-k.invariant.2 c.index-calls-k.result c.loop-k-test.true c.index-calls-k.is c.in_ok-check_room.ensures.0 (c.loop-k.at + c.buffer.result) (ap (λ n. c.loop-k.at + n) c.buffer.ensures) (omega (arith, fits, c.buffer.ensures)) c.make_call.result c.make_call.new.out (book_state after.rows.now after.taken after.standing) c.make_call.auto.out c.make_call.ensures.did c.make_call.ensures.sound,
    )

pub returns : goal.returns
returns g c =
    let means = λ (r : g.row.R.Denot). guided (g.R.Rig.means r) (g.R.GuidedRig.guide r) in
    let calls = c.args.calls.now in
    let book = c.loop-k.book in
    let b = book_state book.rows.now book.taken book.standing in
    let all : c.loop-k.k ≡ length calls = omega (arith, c.loop-k.auto.k-end) in
    let h : Along means c.args.rows.now calls c.args.replies.now c.args.room.now (length calls) c.loop-k.at b c.loop-k.replies c.loop-k.room = subst (λ k. Along means c.args.rows.now calls c.args.replies.now c.args.room.now k c.loop-k.at b c.loop-k.replies c.loop-k.room) all (subst (λ xs. Along means xs calls c.args.replies.now c.args.room.now c.loop-k.k c.loop-k.at b c.loop-k.replies c.loop-k.room) c.new-book.ensures.rows c.loop-k.invariant.2) in
    let low : c.loop-k.at ≤ length c.loop-k.room = omega (arith, along_left h c.in_ok-check_room.ensures.1, c.loop-k.auto.room) in
    let lent = sym (c.loop-k.invariant.0 ∙ c.new-book.ensures.lends) in
    let o = c.outcome.ensures in
    record {
      ran = ran h low c.outcome.result c.outcome.new.out o.verdict o.taken o.from o.copied _ (grind (arith, lent)) c.in_ok-check_room.ensures.0 c.in_ok-check_room.ensures.1;
      always = ran_always h low c.outcome.result c.outcome.new.out o.verdict o.taken o.from o.copied _ (grind (arith, lent)) book.full book.within;
      promised = ran_promised h low c.outcome.result c.outcome.new.out o.verdict o.taken o.from o.copied _ (grind (arith, lent)) book.within;
    }
