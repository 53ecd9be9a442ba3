-- Lawful walks, and the moves that lead along them.
use Rattle.std.proofs.Common.{◌≡◌, ℕ, zero, suc, ◌<◌, true, List, [], ◌∷◌, ◌++◌, map, length, get_or, All, Contains, sym, refl, ◌∙◌, subst, not-suc-le-zero, arith}
use Rattle.std.proofs.lemmas.List.Elements.{All-head, All-tail}
use Rattle.rig.specs.Meaning.{Meaning, lawful, after}
use Rattle.rig.specs.Orders.{reached}
use Rattle.rig.specs.Checks.{LapRan, list_order}
use Rattle.search.specs.Kept.{Linked, Walk}
use Rattle.search.proofs.Reach.{reached_front}

-- the state at the end of a walk
abbrev pub last_state : {S : Type 0} → S → List (S × ℕ) → S
last_state s [] = s
last_state s (q ∷ qs) = last_state q.0 qs

pub last_state_push : {S : Type 0} (s : S) (qs : List (S × ℕ)) (q : S × ℕ) → last_state s (qs ++ q ∷ []) ≡ q.0
last_state_push s [] q = refl
last_state_push s (p ∷ qs) q = last_state_push p.0 qs q

module _ {S : Type 0} (m : Meaning S) where
  linked_front : (s : S) (ps qs : List (S × ℕ)) → Linked m s (ps ++ qs) → Linked m s ps
  linked_front s [] qs h = tt
  linked_front s (p ∷ ps) qs h = (h.0, h.1, linked_front p.0 ps qs h.2)

  pub walk_front : (ps qs : List (S × ℕ)) → Walk m (ps ++ qs) → Walk m ps
  walk_front [] qs h = tt
  walk_front (p ∷ ps) qs h = linked_front p.0 ps qs h

  linked_rest : (s : S) (ps : List (S × ℕ)) (q : S × ℕ) (qs : List (S × ℕ)) → Linked m s (ps ++ q ∷ qs) → Linked m q.0 qs
  linked_rest s [] q qs h = h.2
  linked_rest s (p ∷ ps) q qs h = linked_rest p.0 ps q qs h.2

  pub walk_rest : (ps : List (S × ℕ)) (q : S × ℕ) (qs : List (S × ℕ)) → Walk m (ps ++ q ∷ qs) → Linked m q.0 qs
  walk_rest [] q qs h = h
  walk_rest (p ∷ ps) q qs h = linked_rest p.0 ps q qs h

  linked_push : (s : S) (ps : List (S × ℕ)) (q : S × ℕ) → Linked m s ps → lawful m (last_state s ps) q.1 ≡ true → q.0 ≡ after m (last_state s ps) q.1 → Linked m s (ps ++ q ∷ [])
  linked_push s [] q h can to = (can, to, tt)
  linked_push s (p ∷ ps) q h can to = (h.0, h.1, linked_push p.0 ps q h.2 can to)

  pub walk_push : (ps : List (S × ℕ)) (e q : S × ℕ) → Walk m (ps ++ e ∷ []) → lawful m e.0 q.1 ≡ true → q.0 ≡ after m e.0 q.1 → Walk m ((ps ++ e ∷ []) ++ q ∷ [])
  walk_push [] e q h can to = (can, to, tt)
  walk_push (p ∷ ps) e q h can to =
      let end = sym (last_state_push p.0 ps e) in
      linked_push p.0 (ps ++ e ∷ []) q h (subst (λ s. lawful m s q.1 ≡ true) end can) (subst (λ s. q.0 ≡ after m s q.1) end to)

  -- A walk through held states by the moves of a list.
  pub record Trip (held : List S) (s : S) (ws : List ℕ) (t : S) : Type 0 where
    pub runs : LapRan m s ws t
    pub along : (k : ℕ) → k < length ws → Contains held (reached m s (list_order ws) k)

  module _ (held : List S) where
    module _ (s : S) (j : ℕ) (ws : List ℕ) (t : S) (begins : Contains held s) (can : lawful m s j ≡ true) (trip : Trip held (after m s j) ws t) where
      ran : (k : ℕ) → k < suc (length ws) → lawful m (reached m s (list_order (j ∷ ws)) k) (list_order (j ∷ ws) k) ≡ true
      unfolding reached
      ran zero h = can
      ran (suc k) h = subst (λ x. lawful m x (get_or ws k 0) ≡ true) (sym (reached_front m s (list_order (j ∷ ws)) k)) (trip.runs.ran k (omega arith))

      on : (k : ℕ) → k < suc (length ws) → Contains held (reached m s (list_order (j ∷ ws)) k)
      unfolding reached
      on zero h = begins
      on (suc k) h = subst (Contains held) (sym (reached_front m s (list_order (j ∷ ws)) k)) (trip.along k (omega arith))

      pub trip_front : Trip held s (j ∷ ws) t
      trip_front = record {
        runs = record { ran = ran; ends = trip.runs.ends ∙ sym (reached_front m s (list_order (j ∷ ws)) (length ws)) };
        along = on;
      }

    trip_none : (s : S) → Trip held s [] s
    unfolding reached
    trip_none s = record { runs = record { ran = λ k h. absurd (not-suc-le-zero h); ends = refl }; along = λ k h. absurd (not-suc-le-zero h) }

    -- along a walk, and one lawful move more
    pub trip_linked : (s : S) (qs : List (S × ℕ)) (j : ℕ) → Contains held s → All (λ q. Contains held q.0) qs → Linked m s qs → lawful m (last_state s qs) j ≡ true → Trip held s (map (λ q. q.1) qs ++ j ∷ []) (after m (last_state s qs) j)
    trip_linked s [] j begins all h can = trip_front s j [] (after m s j) begins can (trip_none (after m s j))
    trip_linked s (q ∷ qs) j begins all h can =
        let P : S × ℕ → Type 0 = λ p. Contains held p.0 in
        let t = after m (last_state q.0 qs) j in
        let ws = map (λ p. p.1) qs ++ j ∷ [] in
        trip_front s q.1 ws t begins h.0 (subst (λ x. Trip held x ws t) h.1 (trip_linked q.0 qs j (All-head P q qs all) (All-tail P q qs all) h.2 can))
