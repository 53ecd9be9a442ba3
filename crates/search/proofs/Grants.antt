-- A grant at work: what each step leaves, whatever the rig.
use Rattle.std.proofs.Common.{◌≡◌, ℕ, ◌+◌, ◌<◌, ◌≤◌, List, map, length, get_or, take, drop, set, sym, refl, ap, ◌∙◌, subst, ap₂, arith}
use Rattle.std.proofs.lemmas.List.{drop-drop, drop-set-lt, get_or-map, length-set, map-set, set-get_or, take-set-le}
use Rattle.rig.specs.Guides.{Guided}
use Rattle.search.specs.declared.row.Row.{Row}
use Rattle.search.specs.declared.step.Standing.{Standing}
use Rattle.search.specs.declared.step.Standing.TheVariants.{Open}
use Rattle.search.specs.Rows.{usable}
use Rattle.search.specs.Steps.{Ends, Settles, Takes}
use Rattle.search.specs.Grants.{Granted, held_in}
use Rattle.search.proofs.Rows.{some_of}

-- What a grant keeps as it works on a book that was open.
pub record Working {S : Type 0} (visits made : ℕ) (rows : List (Row S)) (n : ℕ) (rows' : List (Row S)) (n' : ℕ) : Type 0 where
  pub bounded : made ≤ visits
  pub counted : n' ≡ n + made
  pub held : take n (map held_in rows') ≡ take n (map held_in rows)
  pub later : drop n' rows' ≡ drop n' rows
  pub long : length rows' ≡ length rows

module _ {S : Type 0} where
  module _ (m : Guided S) (visits made : ℕ) (rows : List (Row S)) (n : ℕ) (rows' : List (Row S)) (n' : ℕ) (w : Working visits made rows n rows' n') where
    settle : (at : ℕ) (row : Row S) → n' ≤ length rows' → Settles m rows' n' at row → Working visits made rows n (set rows' at row) n'
    settle at row within h =
        let low : at < length rows' = omega (arith, h.ends.0) in
        let d = some_of rows' at low in
        let same : held_in row ≡ get_or (map held_in rows') at (held_in d) = ap₂ (λ s j. (s, j)) (h.same d).0 (h.same d).1 ∙ sym (get_or-map held_in rows' at d (held_in d) low) in
        record {
          bounded = w.bounded;
          counted = w.counted;
          held = ap (take n) (map-set held_in rows' at row ∙ ap (set (map held_in rows') at) same ∙ set-get_or (map held_in rows') at (held_in d)) ∙ w.held;
          later = drop-set-lt n' rows' at row h.ends.0 ∙ w.later;
          long = length-set rows' at row ∙ w.long;
        }

    pub working_settle : (at : ℕ) (row : Row S) (xs : List (Row S)) (k : ℕ) → xs ≡ set rows' at row → k ≡ n' → n' ≤ length rows' → Settles m rows' n' at row → Working visits made rows n xs k
    working_settle at row xs k wrote same within h = subst (Working visits made rows n xs) (sym same) (subst (λ ys. Working visits made rows n ys n') (sym wrote) (settle at row within h))

    take_row : (left : ℕ) (row : Row S) → left + made ≡ visits → Takes m rows' n' left row → Working visits (made + 1) rows n (set rows' n' row) (n' + 1)
    take_row left row e h = record {
      bounded = omega (arith, h.granted);
      counted = omega (arith, w.counted);
      held = ap (take n) (map-set held_in rows' n' row) ∙ take-set-le n (map held_in rows') n' (held_in row) (omega (arith, w.counted)) ∙ w.held;
      later = drop-set-lt (n' + 1) rows' n' row (omega arith) ∙ drop_more_same;
      long = length-set rows' n' row ∙ w.long;
    }
      where
        drop_more_same : drop (n' + 1) rows' ≡ drop (n' + 1) rows
        drop_more_same = sym (drop-drop 1 n' rows') ∙ ap (drop 1) w.later ∙ drop-drop 1 n' rows

    pub working_take : (left : ℕ) (row : Row S) (xs : List (Row S)) → xs ≡ set rows' n' row → left + made ≡ visits → Takes m rows' n' left row → Working visits (made + 1) rows n xs (n' + 1)
    working_take left row xs wrote e h = subst (λ ys. Working visits (made + 1) rows n ys (n' + 1)) (sym wrote) (take_row left row e h)

    pub working_ends : (left : ℕ) (standing : Standing) → left + made ≡ visits → Ends m rows' n' left standing → Granted visits made rows n Open rows' n' standing
    working_ends left standing e h = record {
      bounded = w.bounded;
      counted = w.counted;
      held = w.held;
      later = w.later;
      long = w.long;
      full = λ _ is. (subst (Ends m rows' n' left) is h).0 ∙ ap usable w.long;
      used = λ is. let z : left ≡ 0 = (subst (Ends m rows' n' left) is h).0 in omega arith;
      closed = λ not. absurd (not refl);
    }
