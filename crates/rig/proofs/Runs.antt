-- Runs of orders: what a prefix reaches, and that a fresher state can do what a staler one can.
use Rattle.std.proofs.Common.{◌≡◌, ℕ, zero, suc, ◌+◌, ◌<◌, ◌≤◌, true, refl, ap, ◌∙◌, ap₂, add-zero, add-suc, add-one, arith, below_more}
use Rattle.std.proofs.lemmas.Bool.{and_parts, ltb-true}
use Rattle.rig.specs.Meaning.{Meaning, Laws, lawful, after}
use Rattle.rig.specs.Orders.{Order, reached, LawfulTo}

module _ {S : Type 0} (m : Meaning S) where
  -- a lawful move is made in a proper state
  pub lawful_proper : (s : S) (j : ℕ) → lawful m s j ≡ true → m.proper s ≡ true
  lawful_proper s j h = (and_parts _ _ h).0

  -- and by a number that is a move
  pub lawful_move : (s : S) (j : ℕ) → lawful m s j ≡ true → j < m.moves
  lawful_move s j h = ltb-true j m.moves (and_parts _ _ (and_parts _ _ h).1).0

  -- orders that agree below n lead to the same state
  pub reached_agree : (s : S) (o p : Order) (n : ℕ) → ((k : ℕ) → k < n → o k ≡ p k) → reached m s o n ≡ reached m s p n
  unfolding reached
  reached_agree s o p zero h = refl
  reached_agree s o p (suc n) h =
      ap₂ (after m) (reached_agree s o p n (λ k l. h k (omega arith))) (h n (omega arith))

  -- a + b moves are a moves and then b
  pub reached_add : (s : S) (o : Order) (a b : ℕ) → reached m s o (a + b) ≡ reached m (reached m s o a) (λ k. o (a + k)) b
  unfolding reached
  reached_add s o a zero = ap (reached m s o) (add-zero a)
  reached_add s o a (suc b) =
      ap (reached m s o) (add-suc a b) ∙ ap (λ (t : S). after m t (o (a + b))) (reached_add s o a b)

  pub reached_more : (s : S) (o : Order) (n : ℕ) → reached m s o (n + 1) ≡ after m (reached m s o n) (o n)
  unfolding reached
  reached_more s o n = ap (reached m s o) (add-one n)

  -- one more lawful move
  pub lawful_more : (s : S) (o : Order) (n : ℕ) → LawfulTo m s o n → lawful m (reached m s o n) (o n) ≡ true → LawfulTo m s o (n + 1)
  lawful_more s o n h here = below_more (λ k. lawful m (reached m s o k) (o k) ≡ true) n h here

  -- fewer moves
  pub lawful_fewer : (s : S) (o : Order) (n k : ℕ) → k ≤ n → LawfulTo m s o n → LawfulTo m s o k
  lawful_fewer s o n k l h i below = h i (omega arith)

  module _ (laws : Laws m) where
    -- both states are proper, and the first covers the second
    pub record Fresher (a b : S) : Type 0 where
      pub first : m.proper a ≡ true
      pub second : m.proper b ≡ true
      pub covered : m.covers a b ≡ true

    pub fresher_after : (a b : S) (j : ℕ) → Fresher a b → lawful m b j ≡ true → Fresher (after m a j) (after m b j)
    fresher_after a b j f h = record {
      first = laws.stays_proper a j f.first (laws.fresher_can a b j f.first f.second f.covered h);
      second = laws.stays_proper b j f.second h;
      covered = laws.stays_fresher a b j f.first f.second f.covered h;
    }

    pub fresher_onward : (a b c : S) → Fresher a b → Fresher b c → Fresher a c
    fresher_onward a b c f g = record {
      first = f.first;
      second = g.second;
      covered = laws.covers_onward a b c f.first f.second g.second f.covered g.covered;
    }

    -- what follows a fresher state stays fresher, for as long as the staler one goes on lawfully
    pub fresher_reached : (a b : S) (o : Order) (n : ℕ) → Fresher a b → LawfulTo m b o n → Fresher (reached m a o n) (reached m b o n)
    unfolding reached
    fresher_reached a b o zero f h = f
    fresher_reached a b o (suc n) f h =
        fresher_after (reached m a o n) (reached m b o n) (o n) (fresher_reached a b o n f (λ k l. h k (omega arith)))
        (h n (omega arith))

    pub fresher_lawful : (a b : S) (o : Order) (n : ℕ) → Fresher a b → LawfulTo m b o n → LawfulTo m a o n
    fresher_lawful a b o n f h k l =
        let g = fresher_reached a b o k f (λ i below. h i (omega arith)) in
        laws.fresher_can (reached m a o k) (reached m b o k) (o k) g.first g.second g.covered (h k l)

    -- a lawful order leads from a proper state to a proper one
    pub reached_proper : (s : S) (o : Order) (n : ℕ) → m.proper s ≡ true → LawfulTo m s o n → m.proper (reached m s o n) ≡ true
    reached_proper s o n p h =
        (fresher_reached s s o n (record { first = p; second = p; covered = laws.covers_itself s p }) h).first

    pub rest_fresher : (s : S) → m.proper s ≡ true → Fresher m.rest s
    rest_fresher s p = record { first = laws.rest_proper; second = p; covered = laws.rest_covers s p }
