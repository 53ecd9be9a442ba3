-- What a rig is: a machine with numbered moves, by what it replies, and the laws that every rig shows.
use Rattle.std.specs.Prelude.{◌≡◌, ℕ, ◌^◌, ◌<◌, ◌≤◌, Bool, true, false, cond, ◌&&◌, nat_lt}

-- A rig's replies, as functions of the state. `allows` and `leads` are asked only of a proper state and a number that is a move.
pub record Meaning (S : Type 0) : Type 0 where
  -- how many moves there are; they are numbered from 0
  pub moves : ℕ
  -- the state in which everything begins
  pub rest : S
  -- which states are proper
  pub proper : S → Bool
  -- whether the first state covers the second: it is at least as fresh
  pub covers : S → S → Bool
  -- whether the rig's own rule allows a move
  pub allows : S → ℕ → Bool
  -- the state that a move leads to where it is lawful
  pub leads : S → ℕ → S
  -- a rank that grows as a state gets staler, and its greatest value
  pub staleness : S → ℕ
  pub ceiling : ℕ

module _ {S : Type 0} (m : Meaning S) where
  -- A move is lawful in a proper state where the number is a move and the rig allows it: nothing else is lawful.
  abbrev pub lawful : S → ℕ → Bool
  lawful s j = m.proper s && (nat_lt j m.moves && m.allows s j)

  -- The state that follows a move; after an unlawful move it is rest.
  abbrev pub after : S → ℕ → S
  after s j = cond (lawful s j) (m.leads s j) m.rest

-- The laws, of proper states only.
pub record Laws {S : Type 0} (m : Meaning S) : Type 0 where
  -- rest is proper, and lawful moves stay proper
  pub rest_proper : m.proper m.rest ≡ true
  pub stays_proper : (s : S) (j : ℕ) → m.proper s ≡ true → lawful m s j ≡ true → m.proper (after m s j) ≡ true
  -- covering is reflexive and transitive, and rest covers every proper state
  pub covers_itself : (s : S) → m.proper s ≡ true → m.covers s s ≡ true
  pub covers_onward : (a b c : S) → m.proper a ≡ true → m.proper b ≡ true → m.proper c ≡ true → m.covers a b ≡ true → m.covers b c ≡ true → m.covers a c ≡ true
  pub rest_covers : (s : S) → m.proper s ≡ true → m.covers m.rest s ≡ true
  -- a fresher state can do what a staler one can, and stays fresher
  pub fresher_can : (a b : S) (j : ℕ) → m.proper a ≡ true → m.proper b ≡ true → m.covers a b ≡ true → lawful m b j ≡ true → lawful m a j ≡ true
  pub stays_fresher : (a b : S) (j : ℕ) → m.proper a ≡ true → m.proper b ≡ true → m.covers a b ≡ true → lawful m b j ≡ true → m.covers (after m a j) (after m b j) ≡ true
  -- staleness stays under its ceiling, and respects covering and its strictness
  pub ceiling_low : m.ceiling < 2 ^ 21
  pub staleness_capped : (s : S) → m.proper s ≡ true → m.staleness s ≤ m.ceiling
  pub staleness_respects : (a b : S) → m.proper a ≡ true → m.proper b ≡ true → m.covers a b ≡ true → m.staleness a ≤ m.staleness b
  pub staleness_strict : (a b : S) → m.proper a ≡ true → m.proper b ≡ true → m.covers a b ≡ true → m.covers b a ≡ false → m.staleness a < m.staleness b
