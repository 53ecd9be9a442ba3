use Rattle.std.proofs.Common.{◌≡◌, ◌+◌, sym, refl, ap, subst}
use Rattle.search.specs.declared.calls.Reply.TheVariants as reply
use Rattle.rig.specs.Guides.{guided}
use Rattle.search.specs.Kept.{Sound}
use Rattle.search.specs.Calls.{Brings, Did, book_state, granted_after}
use Rattle.search.proofs.run.make_call.Goals as goal

pub returns-in-Grant : goal.returns-in-Grant
returns-in-Grant g c =
    let means = λ (r : g.row.R.Denot). guided (g.R.Rig.means r) (g.R.GuidedRig.guide r) in
    let book = c.args.book.now in
    let after = c.grant-verdict.new.self in
    let is = c.in-Grant.is in
    let rig = c.in-Grant.rig in
    record {
      lends = c.grant-verdict.ensures.lends;
      did = subst (λ x. Did x (reply.Granted c.grant-verdict.result.0 c.grant-verdict.result.1) c.args.out.now c.args.out.now (book_state book.rows.now book.taken book.standing) (book_state after.rows.now after.taken after.standing)) (sym is)
          (c.grant-verdict.result.1, ap (λ v. reply.Granted v c.grant-verdict.result.1) c.grant-verdict.ensures.told, c.grant-verdict.ensures.left, refl);
      sound = λ m n brings h.
          let same : means rig ≡ m = subst (Brings means m) is brings in
          subst (λ x. Sound m (granted_after n x) after.rows.now after.taken after.standing) (sym is)
          (subst (λ k. Sound k (n + c.in-Grant.visits) after.rows.now after.taken after.standing) same
          (c.grant-verdict.ensures.sound n (subst (λ k. Sound k n book.rows.now book.taken book.standing) (sym same) h)));
    }

pub returns-in-Wipe-clause-sound : goal.returns-in-Wipe-clause-sound
returns-in-Wipe-clause-sound g c m n brings h =
    let after = c.wipe.new.self in
    subst (λ x. Sound m (granted_after n x) after.rows.now after.taken after.standing) (sym c.in-Wipe.is) (c.wipe.ensures.sound m)
