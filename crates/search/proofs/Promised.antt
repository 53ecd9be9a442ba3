-- From what a book keeps to what is promised.
use Rattle.std.proofs.Common.{◌≡◌, ℕ, ◌+◌, ◌≤◌, ◌⊎◌, List, [], ◌∷◌, ◌++◌, length, take, drop, Some, None, Ok, Err, All, Contains, Option, Result, sym, refl, ap, ◌∙◌, subst, inl, inr, arith}
use Rattle.std.proofs.lemmas.List.Elements.{All-push, All-weaker}
use Rattle.std.proofs.lemmas.List.{length-map, length_push, length-take-le, take_at}
use Rattle.rig.specs.Guides.{Guided}
use Rattle.rig.specs.Orders.{LawfulForEver}
use Rattle.rig.specs.Verdicts.{verdict_number}
use Rattle.rig.specs.declared.verdict.Verdict.TheVariants as verdict
use Rattle.search.specs.declared.calls.Outcome.{Outcome}
use Rattle.search.specs.declared.calls.Reply.{Reply}
use Rattle.search.specs.declared.copy.Uncopied.{Uncopied}
use Rattle.search.specs.declared.copy.Uncopied.TheVariants as uncopied
use Rattle.search.specs.declared.row.Row.{Row}
use Rattle.search.specs.declared.step.Standing.{Standing}
use Rattle.search.specs.declared.step.Standing.TheVariants.{Open, NoRound, Full, Round}
use Rattle.search.specs.Rows.{most_rows, usable}
use Rattle.search.specs.Grants.{verdict_of}
use Rattle.search.specs.Promises.{AtMost, Closed, Closing, Different, NoEndless, Reached}
use Rattle.search.specs.Kept.{Kept, Says, Sound, Waiting, round_moves, states}
use Rattle.search.specs.Copies.{RoundCopied}
use Rattle.search.specs.Calls.{LastCopied, book_state, visits_told}
use Rattle.search.specs.Promised.{Always, Promised}
use Rattle.search.proofs.Kept.{different_push}
use Rattle.search.proofs.Pigeons.{no_more}

ok_not_err : {A : Type 0} (n : ℕ) (e : Uncopied) → ◌≡◌ {A = Result ℕ Uncopied} (Ok n) (Err e) → A
ok_not_err n e h = let z : ◌≡◌ {A = ℕ} 0 1 = cc in absurd (omega (arith, z))

module _ {S : Type 0} (m : Guided S) (granted : ℕ) (rows : List (Row S)) (n : ℕ) (within : n ≤ length rows) where
  -- a state more than are held is reached
  one_more : (k : ℕ) → AtMost m.rig k → Kept m (take n rows) → Waiting m.rig (states rows n) → n + 1 ≤ k
  one_more k most kept w =
      let held = states rows n in
      let state : Row S → S = λ r. r.state in
      let long : length held ≡ n = length-map (take n rows) state ∙ length-take-le n rows within in
      let different = different_push held w.state kept.different w.new in
      let all : All (Reached m.rig) (held ++ w.state ∷ []) = All-push (Reached m.rig) held w.state kept.reached w.reached in
      let few = no_more (held ++ w.state ∷ []) most.states different (All-weaker (Reached m.rig) (Contains most.states) most.all (held ++ w.state ∷ []) all) in
      omega (arith, few, most.few, long, length_push held w.state)

  -- what each standing gives
  none_says : (standing : Standing) → Says m granted rows n standing → verdict_of standing ≡ verdict.NoRound → NoEndless m.rig m.rig.rest × Closed m (states rows n)
  none_says NoRound h is = h
  none_says Open h is = absurd (omega (arith, ap verdict_number is))
  none_says Full h is = absurd (omega (arith, ap verdict_number is))
  none_says (Round p last) h is = absurd (omega (arith, ap verdict_number is))

  enough_says : (standing : Standing) → Kept m (take n rows) → Says m granted rows n standing → (k : ℕ) → k ≤ most_rows → AtMost m.rig k → k ≤ length rows → k ≤ granted → (verdict_of standing ≡ verdict.NoRound) ⊎ (verdict_of standing ≡ verdict.Round)
  enough_says NoRound kept h k small most many visits = inl refl
  enough_says (Round p last) kept h k small most many visits = inr refl
  enough_says Open kept h k small most many visits = absurd (omega (arith, h.0, one_more k most kept h.1))
  enough_says Full kept h k small most many visits = absurd (omega (arith, h.0, one_more k most kept h.1))

  module _ (out bytes : List ℕ) where
    copied_bytes : (ws : List ℕ) (j k : ℕ) → RoundCopied ws out (Ok j) bytes → Some j ≡ Some k → ws ≡ take k bytes
    copied_bytes ws j k h is =
        let same : j ≡ k = cc in
        sym (ap (take k) h.2 ∙ take_at ws (drop j out) k (sym h.0 ∙ same))

    round_says : (standing : Standing) (o : Option ℕ) → Says m granted rows n standing → LastCopied (book_state rows n standing) out o bytes → (k : ℕ) → o ≡ Some k → Closing m.rig (states rows n) (take k bytes) × LawfulForEver m.rig (take k bytes)
    round_says standing None h c k is = let z : ◌≡◌ {A = ℕ} 0 1 = cc in absurd (omega (arith, z))
    round_says (Round p last) (Some j) h c k is = subst (λ ws. Closing m.rig (states rows n) ws × LawfulForEver m.rig ws) (copied_bytes (round_moves rows n p last) j k c is) h
    round_says Open (Some j) h c k is = ok_not_err j uncopied.NoRound c.0
    round_says NoRound (Some j) h c k is = ok_not_err j uncopied.NoRound c.0
    round_says Full (Some j) h c k is = ok_not_err j uncopied.NoRound c.0

    pub promised : (standing : Standing) (x : Outcome) → Sound m granted rows n standing → x.verdict ≡ verdict_of standing → x.taken ≡ n → LastCopied (book_state rows n standing) out x.round bytes → Promised m granted rows bytes x
    promised standing x s says counted copied =
        let held : states rows x.taken ≡ states rows n = ap (states rows) counted in
        let round : (k : ℕ) → x.round ≡ Some k → Closing m.rig (states rows x.taken) (take k bytes) × LawfulForEver m.rig (take k bytes) = λ k is. subst (λ xs. Closing m.rig xs (take k bytes) × LawfulForEver m.rig (take k bytes)) (sym held) (round_says standing x.round s.says copied k is) in
        record {
          different = subst Different (sym held) s.kept.different;
          reached = subst (All (Reached m.rig)) (sym held) s.kept.reached;
          none_is_true = λ is. (none_says standing s.says (sym says ∙ is)).0;
          none_is_closed = λ is. subst (Closed m) (sym held) (none_says standing s.says (sym says ∙ is)).1;
          round_is_good = λ k is. (round k is).1;
          round_closes = λ k is. (round k is).0;
          enough_decides = λ k small most many visits. subst (λ v. (v ≡ verdict.NoRound) ⊎ (v ≡ verdict.Round)) (sym says) (enough_says standing s.kept s.says k small most many visits);
        }

-- whatever the rigs
module _ {S : Type 0} (rows : List (Row S)) (n : ℕ) (within : n ≤ usable (length rows)) (out bytes : List ℕ) where
  round_copied : (standing : Standing) (o : Option ℕ) → LastCopied (book_state rows n standing) out o bytes → verdict_of standing ≡ verdict.Round → (k : ℕ) × (o ≡ Some k)
  round_copied (Round p last) (Some k) c is = (k, refl)
  round_copied (Round p last) None c is = let z : ◌≡◌ {A = ℕ} 0 1 = cc in absurd (omega (arith, z))
  round_copied Open o c is = absurd (omega (arith, ap verdict_number is))
  round_copied NoRound o c is = absurd (omega (arith, ap verdict_number is))
  round_copied Full o c is = absurd (omega (arith, ap verdict_number is))

  full_is : (standing : Standing) → verdict_of standing ≡ verdict.Full → standing ≡ Full
  full_is Full is = refl
  full_is Open is = absurd (omega (arith, ap verdict_number is))
  full_is NoRound is = absurd (omega (arith, ap verdict_number is))
  full_is (Round p last) is = absurd (omega (arith, ap verdict_number is))

  open_is : (standing : Standing) → verdict_of standing ≡ verdict.Open → standing ≡ Open
  open_is Open is = refl
  open_is NoRound is = absurd (omega (arith, ap verdict_number is))
  open_is Full is = absurd (omega (arith, ap verdict_number is))
  open_is (Round p last) is = absurd (omega (arith, ap verdict_number is))

  pub always : (standing : Standing) (granted : ℕ) (x : Outcome) (replies : List Reply) → (standing ≡ Open → n ≡ granted) → (standing ≡ Full → n ≡ usable (length rows)) → x.verdict ≡ verdict_of standing → x.taken ≡ n → n ≡ visits_told replies → LastCopied (book_state rows n standing) out x.round bytes → Always rows granted replies x
  always standing granted x replies used full says counted told copied = record {
    within = omega (arith, counted);
    counted = counted ∙ told;
    used = λ is. counted ∙ used (open_is standing (sym says ∙ is));
    full = λ is. counted ∙ full (full_is standing (sym says ∙ is));
    copied = λ is. round_copied standing x.round copied (sym says ∙ is);
  }
