-- What a book says where a grant ends.
use Rattle.std.proofs.Common.{◌≡◌, ℕ, ◌+◌, ◌-◌, ◌<◌, ◌≤◌, true, ◌⊎◌, List, [], ◌∷◌, ◌++◌, map, length, get_or, take, drop, Some, None, All, Contains, filter, sym, refl, ap, ◌∙◌, subst, inl, inr, ⊎_elim, not-suc-le-zero, arith}
use Rattle.std.proofs.lemmas.List.Elements.{All-drop, All-from_get_or, All-contains, All-filter, All-map, filter-append}
use Rattle.std.proofs.lemmas.List.{drop_more, get_or-map, get_or-take, length_push, length-take-le, map-append, map_push}
use Rattle.std.proofs.lemmas.Slice.{between_is}
use Rattle.std.proofs.lemmas.Bool.{and_parts, both_ways, cases_lt, cond-true}
use Rattle.rig.specs.Meaning.{Laws, lawful, after}
use Rattle.rig.specs.Guides.{Guided, GuideLaws}
use Rattle.rig.specs.Orders.{LawfulForEver}
use Rattle.rig.proofs.Runs.{lawful_proper}
use Rattle.search.specs.declared.row.Row.{Row}
use Rattle.search.specs.declared.step.Standing.{Standing}
use Rattle.search.specs.declared.step.Standing.TheVariants.{Open, NoRound, Full, Round}
use Rattle.search.specs.Rows.{Latest, covered_by, on_path}
use Rattle.search.specs.Steps.{Ends, Next, Wanted}
use Rattle.search.specs.Steps.Next.{rest_first, from_end}
use Rattle.search.specs.Grants.{held_in}
use Rattle.search.specs.Promises.{Closed, Closing, NoEndless, Reached}
use Rattle.search.specs.Kept.{Kept, Says, Walk, Waiting, round_moves, states}
use Rattle.search.proofs.Rows.{some_of}
use Rattle.search.proofs.Sets.{dead_tried}
use Rattle.search.proofs.Reach.{closing_for_ever, reached_is_proper}
use Rattle.search.proofs.Walks.{last_state, last_state_push, trip_linked, walk_rest}
use Rattle.search.proofs.Paths.{kept_from, split_at}
use Rattle.search.proofs.Kept.{dead_ends, held_at, next_reached, settled_at, unlike_new}

moves_of : {S : Type 0} (rs : List (Row S)) → map (λ q. q.1) (map held_in rs) ≡ map (λ r. r.by) rs
moves_of [] = refl
moves_of (r ∷ rs) = ap (λ js. r.by ∷ js) (moves_of rs)

module _ {S : Type 0} (m : Guided S) (laws : Laws m.rig) (guide_laws : GuideLaws m) (rows : List (Row S)) (n : ℕ) (within : n ≤ length rows) (kept : Kept m (take n rows)) where
  long : length (take n rows) ≡ n
  long = length-take-le n rows within

  default : (k : ℕ) → k < n → Row S
  default k low = some_of rows k (omega arith)

  waiting : Wanted m rows n → Waiting m.rig (states rows n)
  waiting w =
      let reached = next_reached m laws guide_laws rows n within kept w.by w.state w.next in
      record { state = w.state; reached = reached; new = unlike_new m laws guide_laws rows n within kept w.state (reached_is_proper m.rig laws w.state reached) w.unlike }

  -- every row is left as dead
  module _ (some : 0 < n) (dead : Latest on_path rows n None) where
    d : Row S
    d = default 0 some

    first : (get_or rows 0 d).state ≡ m.rig.rest
    first =
        let state : Row S → S = λ r. r.state in
        sym (ap state (get_or-take n rows 0 d some)) ∙ sym (get_or-map state (take n rows) 0 d d.state (omega (arith, long))) ∙ kept.begins d.state (omega (arith, long))

    no_endless : NoEndless m.rig m.rig.rest
    no_endless = subst (NoEndless m.rig) first (dead_ends m laws guide_laws rows n within kept 0 d some (dead 0 d (omega arith) some))

    lost : (k : ℕ) → k < n → (j : ℕ) → let s = (get_or rows k d).state in lawful m.rig s j ≡ true → (m.guide.hopeless (after m.rig s j) ≡ true) ⊎ ((h : S) × Contains (states rows n) h × (m.rig.covers h (after m.rig s j) ≡ true))
    lost k low j can =
        let r = get_or rows k d in
        let t = after m.rig r.state j in
        let proper = laws.stays_proper r.state j (lawful_proper m.rig r.state j can) can in
        ⊎_elim inl (λ has. inr (t, has, laws.covers_itself t proper))
        (settled_at m laws guide_laws rows n within kept k d low j (dead_tried r (dead k d (omega arith) low) j) can).known

    closed : Closed m (states rows n)
    closed =
        let MovesLost : S → Type 0 = λ s. (j : ℕ) → lawful m.rig s j ≡ true → (m.guide.hopeless (after m.rig s j) ≡ true) ⊎ ((h : S) × Contains (states rows n) h × (m.rig.covers h (after m.rig s j) ≡ true)) in
        record {
          rest_lost = inr (subst (Contains (states rows n)) first (held_at m laws guide_laws rows n within kept 0 d some));
          moves_lost = All-map MovesLost (λ (r : Row S). r.state) (take n rows) (All-from_get_or (λ (r : Row S). MovesLost r.state) (take n rows) d (λ k low.
              let inside : k < n = omega (arith, long) in
              subst (λ (r : Row S). MovesLost r.state) (sym (get_or-take n rows k d inside)) (lost k inside)));
        }

  -- no row is taken, and rest is hopeless
  rest_hopeless : n ≡ 0 → m.guide.hopeless m.rig.rest ≡ true → NoEndless m.rig m.rig.rest × Closed m (states rows n)
  rest_hopeless none h = (
    guide_laws.hopeless_ends m.rig.rest laws.rest_proper h,
    subst (Closed m) (sym (ap (states rows) none)) (record { rest_lost = inl h; moves_lost = λ k d low. absurd (not-suc-le-zero low) }),
  )

  -- the state after the last move covers one on the path
  module _ (p last at : ℕ) (s : S) (found : Latest (covered_by m.rig s) rows n (Some p)) (end : Latest on_path rows n (Some at)) where
    dp : Row S
    dp = default p found.0

    abbrev rp : Row S
    rp = get_or rows p dp

    parts : (on_path rp ≡ true) × (m.rig.covers s rp.state ≡ true)
    parts = and_parts (on_path rp) (m.rig.covers s rp.state) (found.1 dp)

    before : p ≤ at
    before = ⊎_elim (λ later. absurd (both_ways (on_path rp) (end.2 p dp (omega arith) found.0) parts.0)) (λ h. h) (cases_lt at p)

    abbrev qs : List (Row S)
    qs = filter on_path (drop (p + 1) (take n rows))

    read : get_or (take n rows) p dp ≡ rp
    read = get_or-take n rows p dp found.0

    inside : p < length (take n rows)
    inside = omega (arith, long, found.0)

    here : filter on_path (drop p (take n rows)) ≡ rp ∷ qs
    here =
        ap (filter on_path) (drop_more (take n rows) p dp inside)
        ∙ cond-true (on_path (get_or (take n rows) p dp)) _ _ (ap on_path read ∙ parts.0)
        ∙ ap (λ r. r ∷ qs) read

    ends_at : last_state rp.state (map held_in qs) ≡ (get_or rows at dp).state
    ends_at =
        let front = filter on_path (take (at - p) (drop p (take n rows))) in
        let same = sym here ∙ kept_from on_path rows n at dp within end.0 end.2 end.1 p before in
        ap (last_state rp.state) (ap (map held_in) same ∙ map_push held_in front (get_or rows at dp)) ∙ last_state_push rp.state (map held_in front) (held_in (get_or rows at dp))

    linked : Walk m.rig (held_in rp ∷ map held_in qs)
    linked =
        let front = filter on_path (take p (take n rows)) in
        let all : filter on_path (take n rows) ≡ front ++ rp ∷ qs = ap (filter on_path) (split_at (take n rows) p dp inside ∙ ap (λ ys. take p (take n rows) ++ ys) (sym (drop_more (take n rows) p dp inside))) ∙ filter-append on_path (take p (take n rows)) (drop p (take n rows)) ∙ ap (λ ys. front ++ ys) here in
        walk_rest m.rig (map held_in front) (held_in rp) (map held_in qs) (subst (Walk m.rig) (ap (map held_in) all ∙ map-append held_in front (rp ∷ qs)) kept.path)

    all_held : All (λ q. Contains (states rows n) q.0) (map held_in qs)
    all_held =
        All-map (λ q. Contains (states rows n) q.0) held_in qs
        (All-filter on_path (λ r. Contains (states rows n) r.state) (drop (p + 1) (take n rows))
        (All-drop (λ r. Contains (states rows n) r.state) (p + 1) (take n rows)
        (All-from_get_or (λ r. Contains (states rows n) r.state) (take n rows) dp (λ k low.
        let low' : k < n = omega (arith, long) in
        subst (λ (r : Row S). Contains (states rows n) r.state) (sym (get_or-take n rows k dp low')) (held_at m laws guide_laws rows n within kept k dp low')))))

    closing : lawful m.rig (get_or rows at dp).state last ≡ true → s ≡ after m.rig (get_or rows at dp).state last → Closing m.rig (states rows n) (round_moves rows n p last)
    closing can to =
        let begins = held_at m laws guide_laws rows n within kept p dp found.0 in
        let trip = trip_linked m.rig (states rows n) rp.state (map held_in qs) last begins all_held linked (subst (λ t. lawful m.rig t last ≡ true) (sym ends_at) can) in
        let same : map (λ q. q.1) (map held_in qs) ++ last ∷ [] ≡ round_moves rows n p last = ap (λ js. js ++ last ∷ []) (moves_of qs ∙ ap (λ rs. map (λ (r : Row S). r.by) (filter on_path rs)) (sym (between_is rows (p + 1) n))) in
        let to_last : after m.rig (last_state rp.state (map held_in qs)) last ≡ s = ap (λ t. after m.rig t last) ends_at ∙ sym to in
        subst (Closing m.rig (states rows n)) same (record {
          some_move = omega (arith, length_push (map (λ q. q.1) (map held_in qs)) last);
          first = rp.state;
          last = after m.rig (last_state rp.state (map held_in qs)) last;
          begins = begins;
          runs = trip.runs;
          along = trip.along;
          closes = ap (λ t. m.rig.covers t rp.state) to_last ∙ parts.1;
        })

  round_closing : (p last : ℕ) (s : S) → Next m rows n last s → Latest (covered_by m.rig s) rows n (Some p) → Closing m.rig (states rows n) (round_moves rows n p last)
  round_closing p last s (rest_first none is) found = absurd (omega (arith, found.0))
  round_closing p last s (from_end at end leads) found = closing p last at s found end (leads _).can (leads _).to

  round_good : (ws : List ℕ) → Closing m.rig (states rows n) ws → LawfulForEver m.rig ws
  round_good ws c =
      let proper = reached_is_proper m.rig laws c.first (All-contains (Reached m.rig) (states rows n) c.first kept.reached c.begins) in
      closing_for_ever m.rig laws ws c.first c.last proper c.runs c.closes c.some_move

  -- where a grant ends, the book says what its standing means
  pub ends_says : (granted left : ℕ) (standing : Standing) → (left ≡ 0 → n ≡ granted) → Ends m rows n left standing → Says m granted rows n standing
  ends_says granted left Open counted h = (counted h.0, waiting h.1)
  ends_says granted left Full counted h = (h.0, waiting h.1)
  ends_says granted left NoRound counted (inl h) = rest_hopeless h.0 h.1
  ends_says granted left NoRound counted (inr h) = (no_endless h.0 h.1, closed h.0 h.1)
  ends_says granted left (Round p last) counted h =
      let c = round_closing p last h.0 h.1 h.2 in
      (c, round_good (round_moves rows n p last) c)
