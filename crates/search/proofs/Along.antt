-- Lists of calls, call by call.
use Rattle.std.proofs.Common.{◌≡◌, ℕ, ◌+◌, ◌-◌, ◌<◌, ◌≤◌, ◌⊎◌, List, [], ◌∷◌, ◌++◌, length, get_or, take, drop, set, Some, Ok, Err, All, Result, sym, refl, ap, ◌∙◌, subst, inl, inr, ⊎_elim, arith, take-add}
use borrow.Rule.Slice.PartMut.{put_mid}
use Rattle.std.specs.List.{between}
use Rattle.std.proofs.lemmas.List.Elements.{All-pop}
use Rattle.std.proofs.lemmas.List.{drop-append-le, drop-drop, drop-set-lt, length-append, length-drop, length-set, length-take-le, nil_from_length, take_all, take-append-le, take_more, take_more_set}
use Rattle.std.proofs.lemmas.Slice.{drop-put_mid, take-put_mid}
use Rattle.std.proofs.lemmas.List.Sums.{fold_push, sum_by-cons, sum_by_more, sum_by_push, sum_by-take-le}
use Rattle.rig.specs.Guides.{Guided}
use Rattle.search.specs.declared.copy.Uncopied.{Uncopied}
use Rattle.search.specs.declared.calls.Call.{Call}
use Rattle.search.specs.declared.calls.Call.TheVariants.{Grant, Verdict, Copy, Wipe}
use Rattle.search.specs.declared.calls.Reply.{Reply}
use Rattle.search.specs.declared.row.Row.{Row}
use Rattle.search.specs.declared.step.Standing.{Standing}
use Rattle.search.specs.declared.step.Standing.TheVariants.{Open, NoRound, Full, Round}
use Rattle.search.specs.Rows.{usable}
use Rattle.search.specs.Kept.{Sound}
use Rattle.search.specs.Calls.{BookState, Brings, Did, Runs, buffer_of, buffers, bytes_needed, copy_reply, fresh, granted, granted_after, next_since, next_told, since_wipe, visits_of, visits_told}
use Rattle.search.proofs.Sound.{sound_fresh}

all_unpush : {X : Type 0} (P : X → Type 0) (xs : List X) (x : X) → All P (xs ++ x ∷ []) → All P xs × P x
all_unpush P xs x h = All-pop P (xs ++ x ∷ []) xs (Some x) refl h

copy_tells : (n : ℕ) (r : Result ℕ Uncopied) → next_told n (copy_reply r) ≡ n
copy_tells n (Ok k) = refl
copy_tells n (Err why) = refl

open_or_not : (standing : Standing) → (standing ≡ Open) ⊎ (standing ≡ Open → ⊥)
open_or_not Open = inl refl
open_or_not NoRound = inr (λ e. let z : ◌≡◌ {A = ℕ} 0 1 = cc in omega arith)
open_or_not Full = inr (λ e. let z : ◌≡◌ {A = ℕ} 0 1 = cc in omega arith)
open_or_not (Round p last) = inr (λ e. let z : ◌≡◌ {A = ℕ} 0 1 = cc in omega arith)

module _ {R S : Type 0} where
  -- one call more, with its part of the room
  pub runs_push : (b : BookState S) (cs : List (Call R)) (rs : List Reply) (room room' : List ℕ) (a : BookState S) (c : Call R) (r : Reply) (out out' : List ℕ) (b' : BookState S) → length room ≡ buffers cs → length room' ≡ buffers cs → length out ≡ buffer_of c → length out' ≡ buffer_of c → Runs b cs rs room room' a → Did c r out out' a b' → Runs b (cs ++ c ∷ []) (rs ++ r ∷ []) (room ++ out) (room' ++ out') b'
  runs_push b [] [] room room' a c r out out' b' long long' fits fits' h did =
      let part : (xs ys : List ℕ) → length xs ≡ 0 → length ys ≡ buffer_of c → ys ≡ take (buffer_of c) (xs ++ ys) = λ xs ys none is. sym (ap (λ zs. take (buffer_of c) (zs ++ ys)) (nil_from_length xs none) ∙ take_all (buffer_of c) ys (omega arith)) in
      (b', subst (λ x. Did c r (take (buffer_of c) (room ++ out)) (take (buffer_of c) (room' ++ out')) x b') h (subst (λ x. Did c r (take (buffer_of c) (room ++ out)) x a b') (part room' out' long' fits') (subst (λ x. Did c r x out' a b') (part room out long fits) did)), refl)
  runs_push b [] (r₁ ∷ rs) room room' a c r out out' b' long long' fits fits' h did = absurd h
  runs_push b (c₁ ∷ cs) [] room room' a c r out out' b' long long' fits fits' h did = absurd h
  runs_push b (c₁ ∷ cs) (r₁ ∷ rs) room room' a c r out out' b' long long' fits fits' h did =
      let n = buffer_of c₁ in
      let total = sum_by-cons buffer_of c₁ cs in
      let front : (xs ys : List ℕ) → length xs ≡ buffers (c₁ ∷ cs) → take n xs ≡ take n (xs ++ ys) = λ xs ys is. sym (take-append-le n xs ys (omega (arith, total, is))) in
      let back : (xs ys : List ℕ) → length xs ≡ buffers (c₁ ∷ cs) → drop n xs ++ ys ≡ drop n (xs ++ ys) = λ xs ys is. sym (drop-append-le n xs ys (omega (arith, total, is))) in
      let shorter : (xs : List ℕ) → length xs ≡ buffers (c₁ ∷ cs) → length (drop n xs) ≡ buffers cs = λ xs is. omega (arith, length-drop n xs, total, is) in (
        h.0,
        subst (λ x. Did c₁ r₁ (take n (room ++ out)) x b h.0) (front room' out' long') (subst (λ x. Did c₁ r₁ x (take n room') b h.0) (front room out long) h.1),
        subst (λ x. Runs h.0 (cs ++ c ∷ []) (rs ++ r ∷ []) (drop n (room ++ out)) x b') (back room' out' long')
            (subst (λ x. Runs h.0 (cs ++ c ∷ []) (rs ++ r ∷ []) x (drop n room' ++ out') b') (back room out long)
            (runs_push h.0 cs rs (drop n room) (drop n room') a c r out out' b' (shorter room long) (shorter room' long') fits fits' h.2 did)),
      )

  module _ (r : Reply) (out out' : List ℕ) (b b' : BookState S) where
    did_table : (c : Call R) → Did c r out out' b b' → length b'.rows ≡ length b.rows
    did_table (Grant rig visits) h = h.2.long
    did_table Verdict h = ap (λ x. length x.rows) h.1
    did_table (Copy n) h = ap (λ x. length x.rows) h.3
    did_table Wipe h = ap (λ x. length x.rows) h.1

    did_counted : (c : Call R) → Did c r out out' b b' → (n : ℕ) → b.taken ≡ n → b'.taken ≡ next_told n r
    did_counted (Grant rig visits) h n is = h.2.counted ∙ ap (λ k. k + h.0) is ∙ sym (ap (next_told n) h.1)
    did_counted Verdict h n is = ap (λ x. x.taken) h.1 ∙ is ∙ sym (ap (next_told n) h.0)
    did_counted (Copy k) h n is = ap (λ x. x.taken) h.3 ∙ is ∙ sym (copy_tells n h.0) ∙ sym (ap (next_told n) h.1)
    did_counted Wipe h n is = ap (λ x. x.taken) h.1 ∙ sym (ap (next_told n) h.0)

    -- a book that is open was open before, unless it was wiped
    did_used : (since : List (Call R)) (c : Call R) → Did c r out out' b b' → (b.standing ≡ Open → b.taken ≡ granted since) → b'.standing ≡ Open → b'.taken ≡ granted (next_since since c)
    did_used since (Grant rig visits) h used is =
        let before = ⊎_elim (λ e. used e) (λ ne. absurd (ne (sym (h.2.closed ne).1 ∙ is))) (open_or_not b.standing) in
        omega (arith, before, h.2.counted, h.2.used is, sum_by_push visits_of since (Grant rig visits))
    did_used since Verdict h used is = omega (arith, ap (λ x. x.taken) h.1, used (sym (ap (λ x. x.standing) h.1) ∙ is), sum_by_push visits_of since Verdict)
    did_used since (Copy n) h used is = omega (arith, ap (λ x. x.taken) h.3, used (sym (ap (λ x. x.standing) h.3) ∙ is), sum_by_push visits_of since (Copy n))
    did_used since Wipe h used is = ap (λ x. x.taken) h.1

    module _ (means : R → Guided S) (m : Guided S) (since : List (Call R)) where
      more_sound : (c : Call R) → granted_after (granted since) c ≡ granted since + visits_of c → ((n : ℕ) → Brings means m c → Sound m n b.rows b.taken b.standing → Sound m (granted_after n c) b'.rows b'.taken b'.standing) → (All (Brings means m) since → Sound m (granted since) b.rows b.taken b.standing) → All (Brings means m) (since ++ c ∷ []) → Sound m (granted (since ++ c ∷ [])) b'.rows b'.taken b'.standing
      more_sound c is step before all =
          let parts = all_unpush (Brings means m) since c all in
          subst (λ k. Sound m k b'.rows b'.taken b'.standing) (is ∙ sym (sum_by_push visits_of since c)) (step (granted since) parts.1 (before parts.0))

      did_sound : (c : Call R) → Did c r out out' b b' → ((n : ℕ) → Brings means m c → Sound m n b.rows b.taken b.standing → Sound m (granted_after n c) b'.rows b'.taken b'.standing) → (All (Brings means m) since → Sound m (granted since) b.rows b.taken b.standing) → All (Brings means m) (next_since since c) → Sound m (granted (next_since since c)) b'.rows b'.taken b'.standing
      did_sound (Grant rig visits) did step before all = more_sound (Grant rig visits) refl step before all
      did_sound Verdict did step before all = more_sound Verdict (omega arith) step before all
      did_sound (Copy n) did step before all = more_sound (Copy n) (omega arith) step before all
      did_sound Wipe did step before all = sound_fresh m b'.rows b'.taken b'.standing (ap (λ x. x.taken) did.1) (ap (λ x. x.standing) did.1)

-- After k calls, whose buffers take the first bytes up to `at`.
pub record Along {R S : Type 0} (means : R → Guided S) (rows : List (Row S)) (calls : List (Call R)) (replies : List Reply) (room : List ℕ) (k at : ℕ) (b : BookState S) (replies' : List Reply) (room' : List ℕ) : Type 0 where
  pub runs : Runs (fresh rows) (take k calls) (take k replies') (take at room) (take at room') b
  pub at_is : at ≡ buffers (take k calls)
  pub no_more : drop k replies' ≡ drop k replies
  pub many : length replies' ≡ length replies
  pub behind : drop at room' ≡ drop at room
  pub long : length room' ≡ length room
  pub table : length b.rows ≡ length rows
  pub counted : b.taken ≡ visits_told (take k replies')
  pub used : b.standing ≡ Open → b.taken ≡ granted (since_wipe (take k calls))
  pub sound : (m : Guided S) → All (Brings means m) (since_wipe (take k calls)) → Sound m (granted (since_wipe (take k calls))) b.rows b.taken b.standing

pub along_start : {R S : Type 0} (means : R → Guided S) (rows : List (Row S)) (calls : List (Call R)) (replies : List Reply) (room : List ℕ) → Along means rows calls replies room 0 0 (fresh rows) replies room
along_start means rows calls replies room = record {
  runs = refl;
  at_is = refl;
  no_more = refl;
  many = refl;
  behind = refl;
  long = refl;
  table = refl;
  counted = refl;
  used = λ _. refl;
  sound = λ m all. sound_fresh m rows 0 Open refl refl;
}

module _ {R S : Type 0} {means : R → Guided S} {rows : List (Row S)} {calls : List (Call R)} {replies : List Reply} {room : List ℕ} {k at : ℕ} {b : BookState S} {replies₁ : List Reply} {room₁ : List ℕ} (h : Along means rows calls replies room k at b replies₁ room₁) (c : Call R) (within : k < length calls) (read : c ≡ get_or calls k c) (enough : length calls ≤ length replies) (end : ℕ) (ends : end ≡ at + buffer_of c) (fits : end ≤ length room) (r : Reply) (out' : List ℕ) (b' : BookState S) (same : length out' ≡ length (between at end room₁)) (did : Did c r (between at end room₁) out' b b') where
  grown : take (k + 1) calls ≡ take k calls ++ c ∷ []
  grown = take_more calls k c within ∙ ap (λ x. take k calls ++ x ∷ []) (sym read)

  replied : take (k + 1) (set replies₁ k r) ≡ take k replies₁ ++ r ∷ []
  replied = take_more_set replies₁ k r (omega (arith, h.many))

  part : between at end room₁ ≡ between at end room
  part = ap (take (end - at)) h.behind

  size : length (between at end room₁) ≡ buffer_of c
  size = length-take-le (end - at) (drop at room₁) (omega (arith, length-drop at room₁, h.long)) ∙ omega (arith, ends)

  before : take end room ≡ take at room ++ between at end room₁
  before =
      let is : at + (end - at) ≡ end = omega (arith, ends) in
      ap (λ n. take n room) (sym is) ∙ take-add at (end - at) room ∙ ap (λ xs. take at room ++ xs) (sym part)

  after : take end (put_mid at (end - at) room₁ out') ≡ take at room₁ ++ out'
  after = take-put_mid at (end - at) room₁ out' end (omega (arith, same, size, ends)) (omega (arith, h.long, ends))

  pub along_more : ((m : Guided S) (n : ℕ) → Brings means m c → Sound m n b.rows b.taken b.standing → Sound m (granted_after n c) b'.rows b'.taken b'.standing) → Along means rows calls replies room (k + 1) end b' (set replies₁ k r) (put_mid at (end - at) room₁ out')
  along_more step =
      let room₂ = put_mid at (end - at) room₁ out' in
      let low : at ≤ length room = omega (arith, ends) in
      let is : at + (end - at) ≡ end = omega (arith, ends) in
      let rest : (xs ys : List ℕ) → drop at xs ≡ drop at ys → drop end xs ≡ drop end ys = λ xs ys e. ap (λ n. drop n xs) (sym is) ∙ sym (drop-drop (end - at) at xs) ∙ ap (drop (end - at)) e ∙ drop-drop (end - at) at ys ∙ ap (λ n. drop n ys) is in
      let wide : length out' ≡ end - at = omega (arith, same, size, ends) in
      let since = since_wipe (take k calls) in
      let now : since_wipe (take (k + 1) calls) ≡ next_since since c = ap since_wipe grown ∙ fold_push next_since [] (take k calls) c in
      record {
        runs =
            subst (λ cs. Runs (fresh rows) cs (take (k + 1) (set replies₁ k r)) (take end room) (take end room₂) b') (sym grown)
            (subst (λ rs. Runs (fresh rows) (take k calls ++ c ∷ []) rs (take end room) (take end room₂) b') (sym replied)
            (subst (λ xs. Runs (fresh rows) (take k calls ++ c ∷ []) (take k replies₁ ++ r ∷ []) xs (take end room₂) b') (sym before)
            (subst (λ xs. Runs (fresh rows) (take k calls ++ c ∷ []) (take k replies₁ ++ r ∷ []) (take at room ++ between at end room₁) xs b') (sym after)
            (runs_push (fresh rows) (take k calls) (take k replies₁) (take at room) (take at room₁) b c r (between at end room₁) out' b' (length-take-le at room low ∙ h.at_is) (length-take-le at room₁ (omega (arith, h.long)) ∙ h.at_is) size (same ∙ size) h.runs did))));
        at_is = ends ∙ ap (λ n. n + buffer_of c) h.at_is ∙ sym (sum_by_push buffer_of (take k calls) c) ∙ ap buffers (sym grown);
        no_more = drop-set-lt (k + 1) replies₁ k r (omega arith) ∙ sym (drop-drop 1 k replies₁) ∙ ap (drop 1) h.no_more ∙ drop-drop 1 k replies;
        many = length-set replies₁ k r ∙ h.many;
        behind = drop-put_mid at (end - at) room₁ out' end (omega (arith, is)) (omega (arith, h.long)) wide ∙ rest room₁ room h.behind;
        long = omega (arith, length-append (take at room₁) (out' ++ drop (end - at) (drop at room₁)), length-append out' (drop (end - at) (drop at room₁)), length-take-le at room₁ (omega (arith, h.long)), length-drop (end - at) (drop at room₁), length-drop at room₁, h.long, wide, fits);
        table = did_table r (between at end room₁) out' b b' c did ∙ h.table;
        counted = did_counted r (between at end room₁) out' b b' c did (visits_told (take k replies₁)) h.counted ∙ sym (fold_push next_told 0 (take k replies₁) r) ∙ ap visits_told (sym replied);
        used = λ is. did_used r (between at end room₁) out' b b' since c did h.used is ∙ ap granted (sym now);
        sound = λ m all.
            subst (λ cs. Sound m (granted cs) b'.rows b'.taken b'.standing) (sym now)
            (did_sound r (between at end room₁) out' b b' means m since c did (step m) (h.sound m) (subst (All (Brings means m)) now all));
      }

-- where the next buffer ends, and what is left behind all buffers
module _ {R S : Type 0} {means : R → Guided S} {rows : List (Row S)} {calls : List (Call R)} {replies : List Reply} {room : List ℕ} {k at : ℕ} {b : BookState S} {replies₁ : List Reply} {room₁ : List ℕ} (h : Along means rows calls replies room k at b replies₁ room₁) (enough : bytes_needed (length rows) calls ≤ length room) where
  pub along_fits : (c : Call R) → k < length calls → c ≡ get_or calls k c → at + buffer_of c ≤ length room
  along_fits c within read = omega (arith, h.at_is, sum_by_more buffer_of calls k c within, ap buffer_of read, sum_by-take-le buffer_of calls (k + 1))

  pub along_left : usable (length rows) + at ≤ length room
  along_left = omega (arith, h.at_is, sum_by-take-le buffer_of calls k)
