-- What is promised of the outcome of a list of calls.
use Rattle.std.specs.Prelude.{◌≡◌, ℕ, ◌≤◌, ◌⊎◌, List, length, take, drop, Some, Ok, Err, All, Result}
use Rattle.rig.specs.Guides.{Guided}
use Rattle.rig.specs.Orders.{LawfulForEver}
use Rattle.rig.specs.declared.verdict.Verdict.TheVariants.{NoRound, Round, Open, Full}
use Rattle.search.specs.declared.calls.Call.{Call}
use Rattle.search.specs.declared.calls.Outcome.{Outcome}
use Rattle.search.specs.declared.calls.Reply.{Reply}
use Rattle.search.specs.declared.calls.Short.{Short}
use Rattle.search.specs.declared.row.Row.{Row}
use Rattle.search.specs.Rows.{most_rows, usable}
use Rattle.search.specs.Promises.{AtMost, Closed, Closing, Different, NoEndless, Reached}
use Rattle.search.specs.Kept.{states}
use Rattle.search.specs.Calls.{Brings, NotRun, Ran, buffers, granted, since_wipe, visits_told}

-- Whatever rigs the grants bring: only usable rows are taken, and the visits told since the last wipe add up to them; it says open only
-- when all that was granted since is used up, and full only when every usable row is taken; and where it says round, there is one to copy.
pub record Always {S : Type 0} (rows : List (Row S)) (granted : ℕ) (replies : List Reply) (x : Outcome) : Type 0 where
  pub within : x.taken ≤ usable (length rows)
  pub counted : x.taken ≡ visits_told replies
  pub used : x.verdict ≡ Open → x.taken ≡ granted
  pub full : x.verdict ≡ Full → x.taken ≡ usable (length rows)
  pub copied : x.verdict ≡ Round → (n : ℕ) × (x.round ≡ Some n)

-- If the grants since the last wipe bring rigs of one meaning, and so many visits in all; the bytes begin with the round that was copied.
pub record Promised {S : Type 0} (m : Guided S) (granted : ℕ) (rows : List (Row S)) (bytes : List ℕ) (x : Outcome) : Type 0 where
  -- each row taken holds a different state, reached by a lawful order
  pub different : Different (states rows x.taken)
  pub reached : All (Reached m.rig) (states rows x.taken)
  -- it says none only where no endless order, repeating or not, is lawful from rest
  pub none_is_true : x.verdict ≡ NoRound → NoEndless m.rig m.rig.rest
  pub none_is_closed : x.verdict ≡ NoRound → Closed m (states rows x.taken)
  -- the round is lawful for ever
  pub round_is_good : (n : ℕ) → x.round ≡ Some n → LawfulForEver m.rig (take n bytes)
  pub round_closes : (n : ℕ) → x.round ≡ Some n → Closing m.rig (states rows x.taken) (take n bytes)
  -- where lawful orders reach at most k states, k rows and k visits suffice
  pub enough_decides : (k : ℕ) → k ≤ most_rows → AtMost m.rig k → k ≤ length rows → k ≤ granted → (x.verdict ≡ NoRound) ⊎ (x.verdict ≡ Round)

module _ {R S : Type 0} (means : R → Guided S) (rows : List (Row S)) (calls : List (Call R)) (replies : List Reply) (room : List ℕ) (rows' : List (Row S)) (replies' : List Reply) (room' : List ℕ) where
  -- The list was run, with this outcome; and what is promised of it, for every meaning that all grants since the last wipe bring.
  pub record Completed (x : Outcome) : Type 0 where
    pub ran : Ran rows calls replies room rows' replies' room' x
    pub always : Always rows' (granted (since_wipe calls)) (take (length calls) replies') x
    pub promised : (m : Guided S) → All (Brings means m) (since_wipe calls) → Promised m (granted (since_wipe calls)) rows' (drop (buffers calls) room') x

  -- What a list of calls comes to: it was run, or there was no room for it.
  abbrev pub Searched : Result Outcome Short → Type 0
  Searched (Ok x) = Completed x
  Searched (Err e) = NotRun rows calls replies room rows' replies' room' e
