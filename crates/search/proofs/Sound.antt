-- What a book keeps, from making it to the end of a grant.
use Rattle.std.proofs.Common.{◌≡◌, ℕ, ◌+◌, ◌≤◌, List, [], length, take, set, sym, refl, subst, not-suc-le-zero}
use Rattle.std.proofs.lemmas.List.Elements.{All-nil}
use Rattle.rig.specs.Meaning.{Laws}
use Rattle.rig.specs.Guides.{Guided, GuideLaws}
use Rattle.search.specs.declared.row.Row.{Row}
use Rattle.search.specs.declared.step.Standing.{Standing}
use Rattle.search.specs.declared.step.Standing.TheVariants.{Open}
use Rattle.search.specs.Steps.{Ends, Settles, Takes}
use Rattle.search.specs.Promises.{Reached}
use Rattle.search.specs.Kept.{Kept, Settled, Sound}
use Rattle.search.proofs.Reach.{reached_rest}
use Rattle.search.proofs.Kept.{settle_kept, take_kept}
use Rattle.search.proofs.Ends.{ends_says}

module _ {S : Type 0} (m : Guided S) where
  kept_none : Kept m []
  kept_none = record {
    different = λ i k d less within same. absurd (not-suc-le-zero within);
    reached = All-nil (Reached m.rig);
    begins = λ d some. absurd (not-suc-le-zero some);
    settled = All-nil (Settled m []);
    path = tt;
  }

  -- a fresh book
  pub sound_fresh : (rows : List (Row S)) (n : ℕ) (standing : Standing) → n ≡ 0 → standing ≡ Open → Sound m 0 rows n standing
  sound_fresh rows n standing none is =
      subst (λ k. Sound m 0 rows k standing) (sym none) (subst (Sound m 0 rows 0) (sym is) (record {
        kept = kept_none;
        says = (refl, record { state = m.rig.rest; reached = reached_rest m.rig; new = λ h. not-suc-le-zero h.1 });
      }))

  module _ (laws : Laws m.rig) (guide_laws : GuideLaws m) (rows : List (Row S)) (n : ℕ) (within : n ≤ length rows) (kept : Kept m (take n rows)) where
    pub sound_settle : (at : ℕ) (row : Row S) → Settles m rows n at row → (xs : List (Row S)) (k : ℕ) → xs ≡ set rows at row → k ≡ n → Kept m (take k xs)
    sound_settle at row h xs k wrote same = subst (λ i. Kept m (take i xs)) (sym same) (subst (λ ys. Kept m (take n ys)) (sym wrote) (settle_kept m laws guide_laws rows n within kept at row h))

    pub sound_take : (left : ℕ) (row : Row S) → Takes m rows n left row → (xs : List (Row S)) → xs ≡ set rows n row → Kept m (take (n + 1) xs)
    sound_take left row h xs wrote = subst (λ ys. Kept m (take (n + 1) ys)) (sym wrote) (take_kept m laws guide_laws rows n within kept left row h)

    pub sound_ends : (granted left : ℕ) (standing : Standing) → (left ≡ 0 → n ≡ granted) → Ends m rows n left standing → Sound m granted rows n standing
    sound_ends granted left standing counted h = record { kept = kept; says = ends_says m laws guide_laws rows n within kept granted left standing counted h }
