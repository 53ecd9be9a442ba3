-- Lists of calls on one book: what each call does, and which count since the last wipe.
use Rattle.std.specs.Prelude.{◌≡◌, ℕ, ◌+◌, ◌<◌, ◌≤◌, min, List, [], ◌∷◌, ◌++◌, length, take, drop, Some, None, Ok, Err, fold, sum_by, Option, Result}
use Rattle.rig.specs.Guides.{Guided}
use Rattle.search.specs.declared.calls.Call.{Call}
use Rattle.search.specs.declared.calls.Call.TheVariants.{Grant, Verdict, Copy, Wipe}
use Rattle.search.specs.declared.calls.Outcome.{Outcome}
use Rattle.search.specs.declared.calls.Reply.{Reply}
use Rattle.search.specs.declared.calls.Reply.TheVariants as reply
use Rattle.search.specs.declared.calls.Short.{Short}
use Rattle.search.specs.declared.calls.Short.TheVariants.{Replies, Bytes}
use Rattle.search.specs.declared.copy.Uncopied.{Uncopied}
use Rattle.search.specs.declared.copy.Uncopied.TheVariants as uncopied
use Rattle.search.specs.declared.row.Row.{Row}
use Rattle.search.specs.declared.step.Standing.{Standing}
use Rattle.search.specs.declared.step.Standing.TheVariants.{Open}
use Rattle.search.specs.Rows.{usable}
use Rattle.search.specs.Grants.{Granted, verdict_of}
use Rattle.search.specs.Copies.{Copied}

-- A book: its table of rows, how many of them it has taken, and its standing.
pub record BookState (S : Type 0) : Type 0 where
  pub rows : List (Row S)
  pub taken : ℕ
  pub standing : Standing

-- a book by its parts
abbrev pub book_state : {S : Type 0} → List (Row S) → ℕ → Standing → BookState S
book_state rows n standing = record { rows = rows; taken = n; standing = standing }

-- A book that is made over a table or wiped has taken no row, and is open. The rows stay as they are.
abbrev pub fresh : {S : Type 0} → List (Row S) → BookState S
fresh rows = book_state rows 0 Open

-- the reply to a copy
abbrev pub copy_reply : Result ℕ Uncopied → Reply
copy_reply (Ok n) = reply.Copied n
copy_reply (Err why) = reply.Refused why

module _ {R : Type 0} where
  -- the length of the buffer that a call brings, and of all the buffers together
  abbrev pub buffer_of : Call R → ℕ
  buffer_of (Grant rig visits) = 0
  buffer_of Verdict = 0
  buffer_of (Copy n) = n
  buffer_of Wipe = 0

  abbrev pub buffers : List (Call R) → ℕ
  buffers calls = sum_by buffer_of calls

  -- What a call replies, what it leaves in its buffer, and what it makes of the book.
  abbrev pub Did : {S : Type 0} → Call R → Reply → List ℕ → List ℕ → BookState S → BookState S → Type 0
  Did (Grant rig visits) r out out' b b' = (made : ℕ) × (r ≡ reply.Granted (verdict_of b'.standing) made) × Granted visits made b.rows b.taken b.standing b'.rows b'.taken b'.standing × (out' ≡ out)
  Did Verdict r out out' b b' = (r ≡ reply.Told (verdict_of b.standing) b.taken) × (b' ≡ b) × (out' ≡ out)
  Did (Copy k) r out out' b b' = (result : Result ℕ Uncopied) × (r ≡ copy_reply result) × Copied b.rows b.taken b.standing out result out' × (b' ≡ b)
  Did Wipe r out out' b b' = (r ≡ reply.Wiped) × (b' ≡ fresh b.rows) × (out' ≡ out)

  -- The calls one after another, each with its reply and its part of the room.
  abbrev pub Runs : {S : Type 0} → BookState S → List (Call R) → List Reply → List ℕ → List ℕ → BookState S → Type 0
  Runs b [] [] room room' b' = b' ≡ b
  Runs b [] (r ∷ rs) room room' b' = ⊥
  Runs b (c ∷ cs) [] room room' b' = ⊥
  Runs {S} b (c ∷ cs) (r ∷ rs) room room' b' =
      (a : BookState S) × Did c r (take (buffer_of c) room) (take (buffer_of c) room') b a × Runs a cs rs (drop (buffer_of c) room) (drop (buffer_of c) room') b'

  -- The calls since the last wipe, or all where there was none: each call is added, and a wipe leaves none.
  abbrev pub next_since : List (Call R) → Call R → List (Call R)
  next_since cs (Grant rig visits) = cs ++ Grant rig visits ∷ []
  next_since cs Verdict = cs ++ Verdict ∷ []
  next_since cs (Copy n) = cs ++ Copy n ∷ []
  next_since cs Wipe = []

  abbrev pub since_wipe : List (Call R) → List (Call R)
  since_wipe calls = fold next_since [] calls

  -- the visits that calls grant in all
  abbrev pub visits_of : Call R → ℕ
  visits_of (Grant rig visits) = visits
  visits_of Verdict = 0
  visits_of (Copy n) = 0
  visits_of Wipe = 0

  abbrev pub granted : List (Call R) → ℕ
  granted calls = sum_by visits_of calls

  -- A grant brings a rig of this meaning.
  abbrev pub Brings : {S : Type 0} → (R → Guided S) → Guided S → Call R → Type 0
  Brings means m (Grant rig visits) = means rig ≡ m
  Brings means m Verdict = Unit {0}
  Brings means m (Copy n) = Unit {0}
  Brings means m Wipe = Unit {0}

  -- what is granted in all after a call, where so much was before it
  abbrev pub granted_after : ℕ → Call R → ℕ
  granted_after n (Grant rig visits) = n + visits
  granted_after n Verdict = n
  granted_after n (Copy k) = n
  granted_after n Wipe = 0

-- The visits that the replies tell since the last wipe.
abbrev pub next_told : ℕ → Reply → ℕ
next_told n (reply.Granted verdict made) = n + made
next_told n (reply.Told verdict taken) = n
next_told n (reply.Copied k) = n
next_told n (reply.Refused why) = n
next_told n reply.Wiped = 0

abbrev pub visits_told : List Reply → ℕ
visits_told replies = fold next_told 0 replies

-- The copy at the end has room for every round, so it replies the length of the round where there is one.
abbrev pub LastCopied : {S : Type 0} → BookState S → List ℕ → Option ℕ → List ℕ → Type 0
LastCopied b out (Some n) out' = Copied b.rows b.taken b.standing out (Ok n) out'
LastCopied b out None out' = Copied b.rows b.taken b.standing out (Err uncopied.NoRound) out'

-- so many bytes are needed: for all buffers, and for the longest round behind them
abbrev pub bytes_needed : {R : Type 0} → ℕ → List (Call R) → ℕ
bytes_needed rows calls = buffers calls + usable rows

-- There are too few replies, or else too few bytes. What is needed is told, as far as a number of 64 bits can tell it.
abbrev pub TooFew : {R : Type 0} → ℕ → List (Call R) → ℕ → ℕ → Short → Type 0
TooFew rows calls replies room (Replies needed) = (replies < length calls) × (needed ≡ length calls)
TooFew rows calls replies room (Bytes needed) = (length calls ≤ replies) × (room < bytes_needed rows calls) × (needed ≡ min (bytes_needed rows calls) 18446744073709551615)

module _ {R S : Type 0} (rows : List (Row S)) (calls : List (Call R)) (replies : List Reply) (room : List ℕ) where
  -- The list was run: on a fresh book over the rows, call by call; then the verdict was asked, and the round copied behind the buffers.
  pub record Ran (rows' : List (Row S)) (replies' : List Reply) (room' : List ℕ) (x : Outcome) : Type 0 where
    pub replies_enough : length calls ≤ length replies
    pub bytes_enough : bytes_needed (length rows) calls ≤ length room
    pub end : BookState S
    pub table : rows' ≡ end.rows
    pub runs : Runs (fresh rows) calls (take (length calls) replies') (take (buffers calls) room) (take (buffers calls) room') end
    pub no_more : drop (length calls) replies' ≡ drop (length calls) replies
    pub verdict : x.verdict ≡ verdict_of end.standing
    pub taken : x.taken ≡ end.taken
    pub from : x.from ≡ buffers calls
    pub copied : LastCopied end (drop (buffers calls) room) x.round (drop (buffers calls) room')

  -- The list was not run, for want of room, and nothing is changed.
  pub record NotRun (rows' : List (Row S)) (replies' : List Reply) (room' : List ℕ) (e : Short) : Type 0 where
    pub few : TooFew (length rows) calls (length replies) (length room) e
    pub same_rows : rows' ≡ rows
    pub same_replies : replies' ≡ replies
    pub same_room : room' ≡ room
