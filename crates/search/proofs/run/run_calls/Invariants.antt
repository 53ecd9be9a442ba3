use Rattle.std.proofs.Common.{◌≡◌, ◌≤◌, length}
use Rattle.rig.specs.Guides.{guided}
use Rattle.search.specs.Calls.{book_state, bytes_needed}
use Rattle.search.proofs.Along.{Along}
use Rattle.search.proofs.run.run_calls.Given as goal

abbrev pub invariant-loop-k : goal.invariant-loop-k
invariant-loop-k g l =
    (l.book.rows.ghost_name ≡ l.initial.book.rows.ghost_name)
    × (bytes_needed (length l.initial.book.rows.now) l.calls ≤ length l.initial.room)
    × Along (λ r. guided (g.R.Rig.means r) (g.R.GuidedRig.guide r)) l.initial.book.rows.now l.calls l.initial.replies l.initial.room l.k l.at (book_state l.book.rows.now l.book.taken l.book.standing) l.replies l.room
