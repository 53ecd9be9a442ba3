-- The moves along the path, row by row.
use Rattle.std.proofs.Common.{◌≡◌, ℕ, ◌+◌, ◌<◌, ◌≤◌, Bool, true, false, cond, List, [], ◌∷◌, ◌++◌, map, length, get_or, take, drop, set, Ok, Err, Result, count_by, filter, sym, refl, ap, ◌∙◌, arith}
use Rattle.std.specs.List.{between}
use Rattle.std.specs.Result.{result_ok}
use Rattle.std.proofs.lemmas.List.Edits.{length-between}
use Rattle.std.proofs.lemmas.List.Elements.{filter-append}
use Rattle.std.proofs.lemmas.List.{append_assoc, append-nil, drop_more, length-map, length_push, map-append, set_at, take_more}
use Rattle.std.proofs.lemmas.List.Sums.{count_by-le-length, length-filter, sum_by-take-le}
use Rattle.search.specs.declared.row.Row.{Row}
use Rattle.search.specs.Rows.{on_path}
use Rattle.search.specs.declared.copy.Uncopied.{Uncopied}
use Rattle.search.specs.declared.copy.Uncopied.TheVariants as uncopied
use Rattle.search.specs.declared.step.Standing.{Standing}
use Rattle.search.specs.declared.step.Standing.TheVariants.{Open, NoRound, Full, Round}
use Rattle.search.specs.Calls.{LastCopied, book_state}
use Rattle.search.specs.Copies.{Copied}
use Rattle.search.specs.Kept.{path_moves, round_moves}

module _ {S : Type 0} (rows : List (Row S)) where
  more : (k : ℕ) (r : Row S) → k < length rows → r ≡ get_or rows k r → (b : Bool) → on_path r ≡ b → path_moves (take (k + 1) rows) ≡ path_moves (take k rows) ++ cond b (r.by ∷ []) []
  more k r within read b is =
      let by : Row S → ℕ = λ x. x.by in
      let parts : map by (cond (on_path r) (r ∷ []) []) ≡ cond b (r.by ∷ []) [] = ap (λ c. map by (cond c (r ∷ []) [])) is ∙ inside b in
      ap path_moves (take_more rows k r within ∙ ap (λ x. take k rows ++ x ∷ []) (sym read))
      ∙ ap (map by) (filter-append on_path (take k rows) (r ∷ []))
      ∙ map-append by (filter on_path (take k rows)) (cond (on_path r) (r ∷ []) [])
      ∙ ap (λ xs. path_moves (take k rows) ++ xs) parts
    where
      inside : (c : Bool) → map (λ (x : Row S). x.by) (cond c (r ∷ []) []) ≡ cond c (r.by ∷ []) []
      inside true = refl
      inside false = refl

  module _ (k : ℕ) (r : Row S) (within : k < length rows) (read : r ≡ get_or rows k r) where
    -- a row on the path adds its move, and another nothing
    pub moves_more : on_path r ≡ true → path_moves (take (k + 1) rows) ≡ path_moves (take k rows) ++ r.by ∷ []
    moves_more is = more k r within read true is

    pub moves_same : on_path r ≡ false → path_moves (take (k + 1) rows) ≡ path_moves (take k rows)
    moves_same is = more k r within read false is ∙ append-nil (path_moves (take k rows))

  -- so many of the rows are on the path
  pub moves_count : length (path_moves rows) ≡ count_by on_path rows
  moves_count = length-map (filter on_path rows) (λ r. r.by) ∙ length-filter on_path rows

module _ {S : Type 0} (rows : List (Row S)) where
  pub moves_fewer : (k : ℕ) → length (path_moves (take k rows)) ≤ length (path_moves rows)
  moves_fewer k = omega (arith, moves_count rows, moves_count (take k rows), sum_by-take-le (λ r. cond (on_path r) 1 0) rows k)

  -- at row k, which is on the path, so many moves are written
  pub moves_room : (k : ℕ) (r : Row S) → k < length rows → r ≡ get_or rows k r → on_path r ≡ true → length (path_moves (take k rows)) + 1 ≤ length (path_moves rows)
  moves_room k r within read opens =
      omega (arith, ap length (moves_more rows k r within read opens), length_push (path_moves (take k rows)) r.by, moves_fewer (k + 1))

-- one byte more, behind those written
pub wrote_more : (ws ws' out out' : List ℕ) (at j : ℕ) → at ≡ length ws → at < length out → ws' ≡ ws ++ j ∷ [] → out' ≡ ws ++ drop at out → set out' at j ≡ ws' ++ drop (at + 1) out
wrote_more ws ws' out out' at j is room grown wrote =
    ap (λ xs. set xs at j) (wrote ∙ ap (λ xs. ws ++ xs) (drop_more out at 0 room))
    ∙ set_at ws (get_or out at 0) (drop (at + 1) out) j at (sym is)
    ∙ sym (append_assoc ws (j ∷ []) (drop (at + 1) out))
    ∙ ap (λ xs. xs ++ drop (at + 1) out) (sym grown)

-- a round is no longer than the rows taken are many
pub round_fits : {S : Type 0} (rows : List (Row S)) (n p last : ℕ) → p < n → n ≤ length rows → length (round_moves rows n p last) ≤ n
round_fits {S} rows n p last low within =
    let path = between (p + 1) n rows in
    omega (arith, length_push (path_moves path) last, moves_count path, count_by-le-length on_path path, length-between rows (p + 1) n within)

-- with that much room a copy is refused only where there is no round
copy_no_round : {S : Type 0} (rows : List (Row S)) (n : ℕ) (standing : Standing) (out out' : List ℕ) (e : Uncopied) → ((p last : ℕ) → standing ≡ Round p last → p < n) → n ≤ length rows → n ≤ length out → Copied rows n standing out (Err e) out' → Copied rows n standing out (Err uncopied.NoRound) out'
copy_no_round rows n (Round p last) out out' e begins within room h = absurd (omega (arith, h.0, round_fits rows n p last (begins p last refl) within))
copy_no_round rows n Open out out' e begins within room h = (refl, h.1)
copy_no_round rows n NoRound out out' e begins within room h = (refl, h.1)
copy_no_round rows n Full out out' e begins within room h = (refl, h.1)

-- so it is the last copy of a list of calls
pub last_copied : {S : Type 0} (rows : List (Row S)) (n : ℕ) (standing : Standing) (out out' : List ℕ) (r : Result ℕ Uncopied) → ((p last : ℕ) → standing ≡ Round p last → p < n) → n ≤ length rows → n ≤ length out → Copied rows n standing out r out' → LastCopied (book_state rows n standing) out (result_ok r) out'
last_copied rows n standing out out' (Ok k) begins within room h = h
last_copied rows n standing out out' (Err e) begins within room h = copy_no_round rows n standing out out' e begins within room h
