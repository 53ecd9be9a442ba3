use Rattle.std.proofs.Common.{◌≡◌, get_or, sym, refl, ap, subst}
use Rattle.std.proofs.lemmas.Bool.{both_ways}
use Rattle.rig.specs.Guides.{guided}
use Rattle.search.specs.Steps.{Dead, Stepped}
use Rattle.search.proofs.Entries.{enters, holds_or, settles}
use Rattle.search.proofs.step.Search.try_move.Goals as goal

pub enter-requires : goal.enter-requires
enter-requires g c =
    let search = c.args.self.now in
    let m = guided (g.R.Rig.means search.rig.now) (g.R.GuidedRig.guide search.rig.now) in
    let row = get_or search.rows.now c.args.at c.index-self-at.result in
    let read : row ≡ get_or search.rows.now c.args.at row = ap (λ d. get_or search.rows.now c.args.at d) c.index-self-at.is in
    let h = enters m search.rows.now search.taken c.args.at search.within c.requires row read c.chosen-by.result c.chosen-by.ensures (g.met.R.Rig.shown search.rig.now) c.after.result (sym c.if-not-lawful.ensures) c.after.ensures in
    record { next = h.0; proper = h.1 }

pub returns-then-not-lawful : goal.returns-then-not-lawful
returns-then-not-lawful g c =
    let search = c.args.self.now in
    let m = guided (g.R.Rig.means search.rig.now) (g.R.GuidedRig.guide search.rig.now) in
    let row = get_or search.rows.now c.args.at c.index-self-at.result in
    let read : row ≡ get_or search.rows.now c.args.at row = ap (λ d. get_or search.rows.now c.args.at d) c.index-self-at.is in
    settles m search.rows.now search.taken c.args.at search.within c.requires row read c.chosen-by.result c.chosen-by.ensures
    (record { state = row.state; by = row.by; untried = c.without.result }) refl refl c.without.ensures
    (λ can. absurd (both_ways _ (sym c.if-not-lawful.ensures) can))

pub returns : goal.returns
returns g c =
    let search = c.args.self.now in
    let m = guided (g.R.Rig.means search.rig.now) (g.R.GuidedRig.guide search.rig.now) in
    let row = get_or search.rows.now c.args.at c.index-self-at.result in
    let read : row ≡ get_or search.rows.now c.args.at row = ap (λ d. get_or search.rows.now c.args.at d) c.index-self-at.is in
    let settled = settles m search.rows.now search.taken c.args.at search.within c.requires row read c.chosen-by.result c.chosen-by.ensures
    (record { state = row.state; by = row.by; untried = c.without.result }) refl refl c.without.ensures in
    subst (Stepped m search.rows.now search.taken search.left) (sym c.unwrap_or.ensures)
    (holds_or (Dead m search.rows.now search.taken c.after.result) (Stepped m search.rows.now search.taken search.left) c.enter.result _ c.enter.ensures
    (λ dead. settled (λ can. subst (Dead m search.rows.now search.taken) c.after.ensures dead)))
