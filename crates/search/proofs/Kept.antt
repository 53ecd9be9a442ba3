-- Each step of a search keeps what the book keeps.
use Rattle.std.proofs.Common.{◌≡◌, ℕ, ◌+◌, ◌-◌, ◌<◌, ◌≤◌, true, false, not, eqb, List, [], ◌∷◌, ◌++◌, map, length, get_or, take, set, All, Contains, filter, sym, ap, ◌∙◌, subst, ap₂, inl, inr, ⊎_elim, arith}
use lib.Seq.{take-set-lt}
use Rattle.std.proofs.lemmas.List.Elements.{All-get_or, All-push, All-set, All-weaker, Contains-append_left, Contains-get_or, at_from_Contains, filter-append}
use Rattle.std.proofs.lemmas.List.{append-nil, get_or_append_left, get_or_default, get_or-map, get_or_push, get_or-take, length-map, length_push, length-set, length-take-le, map_push, map-set, nil_from_length, set-get_or, take_more_set}
use Rattle.std.proofs.lemmas.Bool.{and_cases, and_from, both_ways, cases_Bool, cases_lt, cond_both, cond-true, eqb-true, lt-ltb, not-false}
use Rattle.rig.specs.Meaning.{Laws, lawful, after}
use Rattle.rig.specs.Guides.{Guided, GuideLaws}
use Rattle.rig.proofs.Runs.{lawful_move, lawful_proper}
use Rattle.search.specs.declared.row.Row.{Row}
use Rattle.search.specs.Rows.{on_path, untried_in}
use Rattle.search.specs.Steps.{Dead, Next, Settles, Takes, Unlike}
use Rattle.search.specs.Steps.Next.{rest_first, from_end}
use Rattle.search.specs.Grants.{held_in}
use Rattle.search.specs.Promises.{Different, Reached, NoEndless}
use Rattle.search.specs.Kept.{Kept, Lost, Settled, Walk, states}
use Rattle.search.proofs.Rows.{some_of}
use Rattle.search.proofs.Sets.{dead_tried}
use Rattle.search.proofs.Reach.{no_endless_on, reached_is_proper, reached_on, reached_rest}
use Rattle.search.proofs.Walks.{walk_front, walk_push}
use Rattle.search.proofs.Paths.{kept_from, kept_set}

-- one state more, unlike the others
pub different_push : {S : Type 0} (xs : List S) (s : S) → Different xs → (Contains xs s → ⊥) → Different (xs ++ s ∷ [])
different_push xs s h new i k d less within same =
    let far = length_push xs s in
    ⊎_elim
    (λ low. h i k d less low (sym (get_or_append_left xs (s ∷ []) d i (omega arith)) ∙ same ∙ get_or_append_left xs (s ∷ []) d k low))
    (λ high.
    let end : length xs ≡ k = omega (arith, far) in
    let inside : i < length xs = omega arith in
    let is : get_or xs i d ≡ s = sym (get_or_append_left xs (s ∷ []) d i inside) ∙ same ∙ get_or_push xs s d k end in
    new (subst (Contains xs) is (Contains-get_or xs i d inside)))
    (cases_lt k (length xs))

module _ {S : Type 0} (m : Guided S) (laws : Laws m.rig) (guide_laws : GuideLaws m) (rows : List (Row S)) (n : ℕ) (within : n ≤ length rows) (kept : Kept m (take n rows)) where
  long : length (take n rows) ≡ n
  long = length-take-le n rows within

  -- the state of each row taken is held, and reached
  pub held_at : (k : ℕ) (d : Row S) → k < n → Contains (states rows n) (get_or rows k d).state
  held_at k d low =
      let xs = take n rows in
      let inside : k < length xs = omega (arith, long) in
      let state : Row S → S = λ r. r.state in
      let in_map : k < length (map state xs) = omega (arith, length-map xs state) in
      subst (Contains (map state xs)) (get_or-map state xs k d d.state inside ∙ ap state (get_or-take n rows k d low)) (Contains-get_or (map state xs) k d.state in_map)

  pub reached_at : (k : ℕ) (d : Row S) → k < n → Reached m.rig (get_or rows k d).state
  reached_at k d low =
      let xs = take n rows in
      let inside : k < length xs = omega (arith, long) in
      let state : Row S → S = λ r. r.state in
      let in_map : k < length (map state xs) = omega (arith, length-map xs state) in
      subst (Reached m.rig) (get_or-map state xs k d d.state inside ∙ ap state (get_or-take n rows k d low)) (All-get_or (Reached m.rig) (map state xs) k d.state in_map kept.reached)

  pub settled_at : (k : ℕ) (d : Row S) → k < n → Settled m (states rows n) (get_or rows k d)
  settled_at k d low = subst (Settled m (states rows n)) (get_or-take n rows k d low) (All-get_or (Settled m (states rows n)) (take n rows) k d (omega (arith, long)) kept.settled)

  in_rows : (k : ℕ) → k < n → Row S
  in_rows k low = some_of rows k (omega arith)

  -- a row that is left as dead
  pub dead_ends : (k : ℕ) (d : Row S) → k < n → on_path (get_or rows k d) ≡ false → NoEndless m.rig (get_or rows k d).state
  dead_ends k d low dead = no_endless_on m.rig (get_or rows k d).state (λ j can. (settled_at k d low j (dead_tried (get_or rows k d) dead j) can).no_endless)

  -- a dead state
  pub dead_lost : (s : S) → m.rig.proper s ≡ true → Dead m rows n s → Lost m (states rows n) s
  dead_lost s proper (inl hopeless) = record { no_endless = guide_laws.hopeless_ends s proper hopeless; known = inl hopeless }
  dead_lost s proper (inr h) =
      let d = in_rows h.0 h.1 in
      let is = (h.2 d).1 in
      record {
        no_endless = subst (NoEndless m.rig) is (dead_ends h.0 d h.1 (h.2 d).0);
        known = inr (subst (Contains (states rows n)) is (held_at h.0 d h.1));
      }

  -- what is to be entered is reached
  pub next_reached : (by : ℕ) (s : S) → Next m rows n by s → Reached m.rig s
  next_reached by s (rest_first none is) = subst (Reached m.rig) (sym is) (reached_rest m.rig)
  next_reached by s (from_end at end leads) =
      let d = in_rows at end.0 in
      subst (Reached m.rig) (sym (leads d).to) (reached_on m.rig (get_or rows at d).state by (reached_at at d end.0) (leads d).can)

  -- and if it covers none on the path and is not dead, it is new
  pub unlike_new : (s : S) → m.rig.proper s ≡ true → Unlike m rows n s → Contains (states rows n) s → ⊥
  unlike_new s proper unlike has =
      let h = at_from_Contains (states rows n) s has in
      let state : Row S → S = λ r. r.state in
      let xs = take n rows in
      let low : h.0 < n = omega (arith, h.1, length-map xs state, long) in
      let d = in_rows h.0 low in
      let inside : h.0 < length xs = omega (arith, long) in
      let is : (get_or rows h.0 d).state ≡ s = sym (ap state (get_or-take n rows h.0 d low)) ∙ sym (get_or-map state xs h.0 d d.state inside) ∙ h.2 d.state in
      let covers : m.rig.covers s (get_or rows h.0 d).state ≡ true = ap (m.rig.covers s) is ∙ laws.covers_itself s proper in
      ⊎_elim
      (λ opens. both_ways _ (unlike.path h.0 d (omega arith) low) (and_from (on_path (get_or rows h.0 d)) (m.rig.covers s (get_or rows h.0 d).state) opens covers))
      (λ dead. unlike.dead (h.0, low, λ e. subst (λ r. (on_path r ≡ false) × (r.state ≡ s)) (get_or_default rows h.0 d e (omega arith)) (dead, is)))
      (cases_Bool (on_path (get_or rows h.0 d)))

  -- a move is settled at the end of the path
  module _ (at : ℕ) (row : Row S) (h : Settles m rows n at row) where
    d : Row S
    d = in_rows at h.ends.0

    abbrev old : Row S
    old = get_or rows at d

    inside : at < length (take n rows)
    inside = omega (arith, h.ends.0, long)

    wrote : take n (set rows at row) ≡ set (take n rows) at row
    wrote = take-set-lt n rows at row h.ends.0

    same_states : states (set rows at row) n ≡ states rows n
    same_states =
        let state : Row S → S = λ r. r.state in
        let is : row.state ≡ get_or (map state (take n rows)) at d.state = (h.same d).0 ∙ sym (ap state (get_or-take n rows at d h.ends.0)) ∙ sym (get_or-map state (take n rows) at d d.state inside) in
        ap (map state) wrote ∙ map-set state (take n rows) at row ∙ ap (set (map state (take n rows)) at) is ∙ set-get_or (map state (take n rows)) at d.state

    row_settled : Settled m (states rows n) row
    row_settled j tried can =
        let same = (h.same d).0 in
        ⊎_elim
        (λ before. subst (λ s. lawful m.rig s j ≡ true → Lost m (states rows n) (after m.rig s j)) (sym same) (settled_at at d h.ends.0 j before) can)
        (λ now.
        let is : j ≡ h.move = eqb-true j h.move (not-false (eqb j h.move) now) in
        let can' : lawful m.rig row.state h.move ≡ true = subst (λ k. lawful m.rig row.state k ≡ true) is can in
        subst (λ k. Lost m (states rows n) (after m.rig row.state k)) (sym is)
        (dead_lost (after m.rig row.state h.move) (laws.stays_proper row.state h.move (lawful_proper m.rig row.state h.move can') can') (h.lost can')))
        (and_cases (untried_in old j) (not (eqb j h.move)) (sym (h.less d j) ∙ tried))

    walks : Walk m.rig (map held_in (filter on_path (take n (set rows at row))))
    walks =
        let front = filter on_path (take at (take n rows)) in
        let none : at - 0 ≡ at = omega arith in
        let was : filter on_path (take n rows) ≡ front ++ old ∷ [] = subst (λ k. filter on_path (take n rows) ≡ filter on_path (take k (take n rows)) ++ old ∷ []) none (kept_from on_path rows n at d within h.ends.0 h.ends.2 h.ends.1 0 (omega arith)) in
        let path : Walk m.rig (map held_in front ++ held_in old ∷ []) = subst (Walk m.rig) (ap (map held_in) was ∙ map_push held_in front old) kept.path in
        let same : held_in old ≡ held_in row = ap₂ (λ s j. (s, j)) (sym (h.same d).0) (sym (h.same d).1) in
        subst (λ xs. Walk m.rig (map held_in xs)) (sym (kept_set on_path rows n at d within h.ends.0 h.ends.2 row))
        (cond_both (on_path row) (row ∷ []) [] (λ xs. Walk m.rig (map held_in (front ++ xs)))
        (λ _. subst (Walk m.rig) (sym (map_push held_in front row)) (subst (λ q. Walk m.rig (map held_in front ++ q ∷ [])) same path))
        (λ _. subst (λ xs. Walk m.rig (map held_in xs)) (sym (append-nil front)) (walk_front m.rig (map held_in front) (held_in old ∷ []) path)))

    pub settle_kept : Kept m (take n (set rows at row))
    settle_kept = record {
      different = subst Different (sym same_states) kept.different;
      reached = subst (All (Reached m.rig)) (sym same_states) kept.reached;
      begins = λ e some. ap (λ xs. get_or xs 0 e) same_states ∙ kept.begins e (omega (arith, some, ap length wrote, length-set (take n rows) at row));
      settled = subst (λ xs. All (Settled m xs) (take n (set rows at row))) (sym same_states) (subst (All (Settled m (states rows n))) (sym wrote) (All-set (Settled m (states rows n)) (take n rows) at row row_settled kept.settled));
      path = walks;
    }

  -- a row is taken
  module _ (left : ℕ) (row : Row S) (h : Takes m rows n left row) where
    grown : take (n + 1) (set rows n row) ≡ take n rows ++ row ∷ []
    grown = take_more_set rows n row (omega (arith, h.free))

    more : map (λ (r : Row S). r.state) (take n rows ++ row ∷ []) ≡ states rows n ++ row.state ∷ []
    more = map_push (λ (r : Row S). r.state) (take n rows) row

    is_reached : Reached m.rig row.state
    is_reached = next_reached row.by row.state h.next

    is_new : Contains (states rows n) row.state → ⊥
    is_new = unlike_new row.state (reached_is_proper m.rig laws row.state is_reached) h.unlike

    size : length (states rows n) ≡ n
    size = length-map (take n rows) (λ (r : Row S). r.state) ∙ long

    begins_with : Next m rows n row.by row.state → (e : S) → get_or (states rows n ++ row.state ∷ []) 0 e ≡ m.rig.rest
    begins_with (rest_first none is) e = get_or_push (states rows n) row.state e 0 (size ∙ none) ∙ is
    begins_with (from_end at end leads) e = get_or_append_left (states rows n) (row.state ∷ []) e 0 (omega (arith, size, end.0)) ∙ kept.begins e (omega (arith, long, end.0))

    all_untried : Settled m (states rows n ++ row.state ∷ []) row
    all_untried j tried can = absurd (both_ways (untried_in row j) tried (h.all j ∙ lt-ltb j m.rig.moves (lawful_move m.rig row.state j can)))

    weaker : (r : Row S) → Settled m (states rows n) r → Settled m (states rows n ++ row.state ∷ []) r
    weaker r old j tried can =
        let lost = old j tried can in
        record { no_endless = lost.no_endless; known = ⊎_elim inl (λ has. inr (Contains-append_left (states rows n) (row.state ∷ []) (after m.rig r.state j) has)) lost.known }

    walk_on : Next m rows n row.by row.state → Walk m.rig (map held_in (filter on_path (take n rows)) ++ held_in row ∷ [])
    walk_on (rest_first none is) = subst (λ ys. Walk m.rig (map held_in (filter on_path ys) ++ held_in row ∷ [])) (sym (nil_from_length (take n rows) (long ∙ none))) tt
    walk_on (from_end at end leads) =
        let e = in_rows at end.0 in
        let was = kept_from on_path rows n at e within end.0 end.2 end.1 0 (omega arith) in
        let front = filter on_path (take (at - 0) (take n rows)) in
        let same : map held_in (filter on_path (take n rows)) ≡ map held_in front ++ held_in (get_or rows at e) ∷ [] = ap (map held_in) was ∙ map_push held_in front (get_or rows at e) in
        subst (λ qs. Walk m.rig (qs ++ held_in row ∷ [])) (sym same)
        (walk_push m.rig (map held_in front) (held_in (get_or rows at e)) (held_in row) (subst (Walk m.rig) same kept.path) (leads e).can (leads e).to)

    opened : filter on_path (take n rows ++ row ∷ []) ≡ filter on_path (take n rows) ++ row ∷ []
    opened = filter-append on_path (take n rows) (row ∷ []) ∙ ap (λ ys. filter on_path (take n rows) ++ ys) (cond-true (on_path row) (row ∷ []) [] h.opens)

    kept_more : Kept m (take n rows ++ row ∷ [])
    kept_more = record {
      different = subst Different (sym more) (different_push (states rows n) row.state kept.different is_new);
      reached = subst (All (Reached m.rig)) (sym more) (All-push (Reached m.rig) (states rows n) row.state kept.reached is_reached);
      begins = λ e some. ap (λ ys. get_or ys 0 e) more ∙ begins_with h.next e;
      settled = subst (λ ys. All (Settled m ys) (take n rows ++ row ∷ [])) (sym more) (All-push (Settled m (states rows n ++ row.state ∷ [])) (take n rows) row (All-weaker (Settled m (states rows n)) (Settled m (states rows n ++ row.state ∷ [])) weaker (take n rows) kept.settled) all_untried);
      path = subst (Walk m.rig) (sym (ap (map held_in) opened ∙ map_push held_in (filter on_path (take n rows)) row)) (walk_on h.next);
    }

    pub take_kept : Kept m (take (n + 1) (set rows n row))
    take_kept = subst (Kept m) (sym grown) kept_more
