-- The end of a list of calls.
use Rattle.std.proofs.Common.{◌≡◌, ℕ, ◌-◌, ◌≤◌, List, ◌++◌, length, take, drop, All, sym, ap, ◌∙◌, subst, arith}
use borrow.Rule.Slice.PartMut.{put_mid}
use Rattle.std.specs.List.{between}
use Rattle.std.proofs.lemmas.List.{append-nil, drop_all, drop_at, length-drop, length-take-le, take_all, take_rest}
use Rattle.std.proofs.lemmas.Slice.{take-put_mid_below}
use Rattle.rig.specs.Guides.{Guided}
use Rattle.search.specs.declared.calls.Call.{Call}
use Rattle.search.specs.declared.calls.Outcome.{Outcome}
use Rattle.search.specs.declared.calls.Reply.{Reply}
use Rattle.search.specs.declared.row.Row.{Row}
use Rattle.search.specs.declared.step.Standing.TheVariants.{Full}
use Rattle.search.specs.Rows.{usable}
use Rattle.search.specs.Grants.{verdict_of}
use Rattle.search.specs.Kept.{Sound}
use Rattle.search.specs.Calls.{BookState, Brings, LastCopied, Ran, Runs, buffers, bytes_needed, fresh, granted, since_wipe}
use Rattle.search.specs.Promised.{Always, Promised}
use Rattle.search.proofs.Along.{Along}
use Rattle.search.proofs.Promised.{always, promised}

module _ {R S : Type 0} {means : R → Guided S} {rows : List (Row S)} {calls : List (Call R)} {replies : List Reply} {room : List ℕ} {at : ℕ} {b : BookState S} {replies₁ : List Reply} {room₁ : List ℕ} (h : Along means rows calls replies room (length calls) at b replies₁ room₁) (low : at ≤ length room₁) (x : Outcome) (out : List ℕ) (says : x.verdict ≡ verdict_of b.standing) (took : x.taken ≡ b.taken) (where-from : x.from ≡ at) (last : LastCopied b (between at (length room₁) room₁) x.round out) where
  abbrev room₂ : List ℕ
  room₂ = put_mid at (length room₁ - at) room₁ out

  all_calls : take (length calls) calls ≡ calls
  all_calls = take_all (length calls) calls (omega arith)

  at_is : at ≡ buffers calls
  at_is = h.at_is ∙ ap buffers all_calls

  front : take at room₁ ≡ take at room₂
  front = sym (take-put_mid_below at (length room₁ - at) room₁ out at (omega arith) low)

  behind : drop at room₂ ≡ out
  behind =
      drop_at (take at room₁) (out ++ drop (length room₁ - at) (drop at room₁)) at (length-take-le at room₁ low)
      ∙ ap (λ xs. out ++ xs) (drop_all (length room₁ - at) (drop at room₁) (omega (arith, length-drop at room₁)))
      ∙ append-nil out

  before : between at (length room₁) room₁ ≡ drop at room
  before = take_rest room₁ at ∙ h.behind

  copied : LastCopied b (drop (buffers calls) room) x.round (drop (buffers calls) room₂)
  copied = subst (λ n. LastCopied b (drop n room) x.round (drop n room₂)) at_is (subst (λ xs. LastCopied b (drop at room) x.round xs) (sym behind) (subst (λ xs. LastCopied b xs x.round out) before last))

  module _ (rows' : List (Row S)) (table : rows' ≡ b.rows) where
    pub ran : length calls ≤ length replies → bytes_needed (length rows) calls ≤ length room → Ran rows calls replies room rows' replies₁ room₂ x
    ran many enough = record {
      replies_enough = many;
      bytes_enough = enough;
      end = b;
      table = table;
      runs =
          subst (λ n. Runs (fresh rows) calls (take (length calls) replies₁) (take n room) (take n room₂) b) at_is
          (subst (λ xs. Runs (fresh rows) calls (take (length calls) replies₁) (take at room) xs b) front
          (subst (λ cs. Runs (fresh rows) cs (take (length calls) replies₁) (take at room) (take at room₁) b) all_calls h.runs));
      no_more = h.no_more;
      verdict = says;
      taken = took;
      from = where-from ∙ at_is;
      copied = copied;
    }

    pub ran_always : (b.standing ≡ Full → b.taken ≡ usable (length b.rows)) → b.taken ≤ usable (length b.rows) → Always rows' (granted (since_wipe calls)) (take (length calls) replies₁) x
    ran_always full within = subst (λ xs. Always xs (granted (since_wipe calls)) (take (length calls) replies₁) x) (sym table) (always b.rows b.taken within (drop (buffers calls) room) (drop (buffers calls) room₂) b.standing (granted (since_wipe calls)) x (take (length calls) replies₁) (λ is. h.used is ∙ ap (λ cs. granted (since_wipe cs)) all_calls) full says took h.counted copied)

    pub ran_promised : b.taken ≤ usable (length b.rows) → (m : Guided S) → All (Brings means m) (since_wipe calls) → Promised m (granted (since_wipe calls)) rows' (drop (buffers calls) room₂) x
    ran_promised within m all =
        let sound = subst (λ cs. All (Brings means m) (since_wipe cs) → Sound m (granted (since_wipe cs)) b.rows b.taken b.standing) all_calls (h.sound m) all in
        subst (λ xs. Promised m (granted (since_wipe calls)) xs (drop (buffers calls) room₂) x) (sym table)
        (promised m (granted (since_wipe calls)) b.rows b.taken (omega arith) (drop (buffers calls) room) (drop (buffers calls) room₂) b.standing x sound says took copied)
