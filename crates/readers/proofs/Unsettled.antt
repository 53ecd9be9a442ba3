-- Where the settle time is 0 the two readers find the same moves lawful; so the plain reader's lawful orders are regular without settling.
use Rattle.std.proofs.Common.{◌≡◌, ℕ, zero, suc, Bool, true, false, cond, ◌&&◌, ltb, sym, refl, ap, ◌∙◌, subst, ap₂, ⊎_elim}
use Rattle.std.proofs.lemmas.Bool.{cases_Bool, cond-false, cond-true, le-leb}
use Rattle.rig.specs.Meaning.{after, lawful}
use Rattle.rig.specs.Orders.{Order, reached}
use Rattle.rig.proofs.Runs.{lawful_move}
use Rattle.banks.specs.declared.table.BankTable.{BankTable}
use Rattle.readers.specs.declared.panelled.ReaderState.{ReaderState}
use Rattle.readers.specs.declared.plain.PlainState.{PlainState}
use Rattle.sheets.specs.Limits.{most_panel}
use Rattle.banks.specs.Table.{panel}
use Rattle.readers.specs.Ages.{aged, ages_proper, in_time}
use Rattle.banks.specs.Places.{spread}
use Rattle.readers.specs.Panelled.{age, panel_proper, panelled, rest_state, settled, settling, state_after}
use Rattle.readers.specs.Plain.{plain, plain_rest}
use Rattle.readers.specs.Regular.{PlainIsRegular, ReadersAgree, without_settling}
use Rattle.readers.proofs.Served.{lawful_is_regular}

-- the state without its last panel
abbrev unpanelled : ReaderState → PlainState
unpanelled s = record { ages = s.ages }

same_cond : {A B : Type 0} (f : A → B) (p q : Bool) (x y : A) (z w : B) → p ≡ q → z ≡ f x → w ≡ f y → cond p z w ≡ f (cond q x y)
same_cond f p q x y z w e h k =
    subst (λ (b : Bool). cond b z w ≡ f (cond q x y)) (sym e)
    (elim q as (λ (b : Bool). cond b z w ≡ f (cond b x y)) [ true ↦ h | false ↦ k ])

nothing_settles : (b : Bool) (n : ℕ) → n ≡ 0 → cond b 0 n ≡ 0
nothing_settles true n e = refl
nothing_settles false n e = e

module _ (t : BankTable) (none : t.settle ≡ 0) where
  module _ (s : ReaderState) (j : ℕ) (last : panel_proper s.last ≡ true) where
    no_settling : settling t s.last j ≡ 0
    no_settling = nothing_settles (settled s.last (panel t j)) t.settle none

    same_lawful : lawful (plain t) (unpanelled s) j ≡ lawful (panelled t) s j
    same_lawful =
        sym (ap₂ (λ (b : Bool) (n : ℕ). (b && ages_proper t (age s)) && (ltb j t.count && in_time t (age s) j n)) last no_settling)

    same_after : after (plain t) (unpanelled s) j ≡ unpanelled (after (panelled t) s j)
    same_after =
        same_cond unpanelled (lawful (plain t) (unpanelled s) j) (lawful (panelled t) s j) (state_after t s j) rest_state ((plain t).leads (unpanelled s) j) plain_rest same_lawful
        (let same : (plain t).leads (unpanelled s) j ≡ unpanelled (state_after t s j) = ap (λ (n : ℕ). record { ages = spread (aged t (age s) j n) }) (sym no_settling) in same)
        refl

    stays_panel : panel_proper (after (panelled t) s j).last ≡ true
    stays_panel =
        ⊎_elim
        (λ h. subst (λ (x : ReaderState). panel_proper x.last ≡ true) (sym (cond-true (lawful (panelled t) s j) (state_after t s j) rest_state h))
        (le-leb (panel t j) most_panel (t.panels j (lawful_move (panelled t) s j h))))
        (λ h. subst (λ (x : ReaderState). panel_proper x.last ≡ true) (sym (cond-false (lawful (panelled t) s j) (state_after t s j) rest_state h)) refl)
        (cases_Bool (lawful (panelled t) s j))

  module _ (o : Order) where
    last_proper : (n : ℕ) → panel_proper (reached (panelled t) rest_state o n).last ≡ true
    unfolding reached
    last_proper zero = refl
    last_proper (suc n) = stays_panel (reached (panelled t) rest_state o n) (o n) (last_proper n)

    same_reached : (n : ℕ) → reached (plain t) plain_rest o n ≡ unpanelled (reached (panelled t) rest_state o n)
    unfolding reached
    same_reached zero = refl
    same_reached (suc n) =
        ap (λ (s : PlainState). after (plain t) s (o n)) (same_reached n)
        ∙ same_after (reached (panelled t) rest_state o n) (o n) (last_proper n)

    same_move : (n : ℕ) → lawful (plain t) (reached (plain t) plain_rest o n) (o n) ≡ lawful (panelled t) (reached (panelled t) rest_state o n) (o n)
    same_move n =
        ap (λ (s : PlainState). lawful (plain t) s (o n)) (same_reached n)
        ∙ same_lawful (reached (panelled t) rest_state o n) (o n) (last_proper n)

pub readers_agree : ReadersAgree
readers_agree t none o n = same_move t none o n

pub plain_is_regular : PlainIsRegular
plain_is_regular t o =
    let u = without_settling t in (
      λ run. (lawful_is_regular u o).0 (λ n. sym (same_move u refl o n) ∙ run n),
      λ reg n. same_move u refl o n ∙ (lawful_is_regular u o).1 reg n,
    )
