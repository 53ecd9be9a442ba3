-- Lines one behind the other: one more, and that bytes fall into lines of given lengths in one way only.
use Rattle.std.proofs.Common.{◌≡◌, ℕ, zero, suc, ◌+◌, ◌*◌, ◌<◌, List, [], ◌++◌, length, sym, refl, ap, ◌∙◌, subst, ap₂, ⊎_elim, append_assoc, append-nil, not-suc-le-zero, mul-suc, add-one, arith, length-append}
use Rattle.std.proofs.lemmas.Bool.{cases_eq}
use Rattle.frames.specs.Lines.{lines_to}
use Rattle.frames.proofs.Splits.{same_split}

pub lines_none : (f : ℕ → List ℕ) (rest : List ℕ) → rest ≡ lines_to f 0 ++ rest
unfolding lines_to
lines_none f rest = refl

pub lines_more : (f : ℕ → List ℕ) (n : ℕ) → lines_to f (n + 1) ≡ lines_to f n ++ f n
unfolding lines_to
lines_more f n = ap (lines_to f) (add-one n)

-- Lines depend on what they are below their number only.
pub lines_same : (f g : ℕ → List ℕ) (n : ℕ) → ((i : ℕ) → i < n → f i ≡ g i) → lines_to f n ≡ lines_to g n
unfolding lines_to
lines_same f g zero same = refl
lines_same f g (suc n) same = ap₂ (λ (a b : List ℕ). a ++ b) (lines_same f g n (λ i h. same i (omega arith))) (same n (omega arith))

-- One line more of what is left.
pub one_line_more : (f g : ℕ → List ℕ) (n : ℕ) (bytes rest next : List ℕ) → ((i : ℕ) → i < n → g i ≡ f i) → bytes ≡ lines_to f n ++ rest → rest ≡ g n ++ next → bytes ≡ lines_to g (n + 1) ++ next
one_line_more f g n bytes rest next same e d =
    e ∙ ap₂ (λ (a b : List ℕ). a ++ b) (sym (lines_same g f n same)) d ∙ sym (append_assoc (lines_to g n) (g n) next) ∙ ap (λ (ls : List ℕ). ls ++ next) (sym (lines_more g n))

pub length_lines : (f : ℕ → List ℕ) (w n : ℕ) → ((i : ℕ) → length (f i) ≡ w) → length (lines_to f n) ≡ w * n
unfolding lines_to
length_lines f w zero h = omega arith
length_lines f w (suc n) h = length-append (lines_to f n) (f n) ∙ (let a = length_lines f w n h in let b = h n in let c = mul-suc w n in omega arith)

-- The line of number i, behind those before it.
pub lines_at : (f : ℕ → List ℕ) (i n : ℕ) → i < n → (more : List ℕ) × (lines_to f n ≡ lines_to f i ++ (f i ++ more))
unfolding lines_to
lines_at f i zero l = absurd (not-suc-le-zero l)
lines_at f i (suc n) l =
    ⊎_elim
    (λ e. ([], subst (λ (j : ℕ). lines_to f (suc n) ≡ lines_to f j ++ (f j ++ [])) (sym e) (ap (λ xs. lines_to f n ++ xs) (sym (append-nil (f n))))))
    (λ o.
    let p = lines_at f i n (omega arith) in (
      p.0 ++ f n,
      ap (λ xs. xs ++ f n) p.1 ∙ append_assoc (lines_to f i) (f i ++ p.0) (f n) ∙ ap (λ xs. lines_to f i ++ xs) (append_assoc (f i) p.0 (f n)),
    ))
    (cases_eq i n)

module _ (f g : ℕ → List ℕ) (lengths : (i : ℕ) → length (f i) ≡ length (g i)) where
  -- The same number of lines.
  pub one_lines : (n : ℕ) (x y : List ℕ) → lines_to f n ++ x ≡ lines_to g n ++ y → ((i : ℕ) → i < n → f i ≡ g i) × (x ≡ y)
  unfolding lines_to
  one_lines zero x y same = (λ i l. absurd (not-suc-le-zero l), same)
  one_lines (suc n) x y same =
      let p = one_lines n (f n ++ x) (g n ++ y) (sym (append_assoc (lines_to f n) (f n) x) ∙ same ∙ append_assoc (lines_to g n) (g n) y) in
      let q = same_split (f n) (g n) x y (lengths n) p.1 in
      (λ i l. ⊎_elim (λ e. subst (λ (j : ℕ). f j ≡ g j) (sym e) q.0) (λ o. p.0 i (omega arith)) (cases_eq i n), q.1)

  -- More lines than i: behind the first i comes the line of number i.
  pub next_line : (i n : ℕ) (x y : List ℕ) → i < n → lines_to f i ++ x ≡ lines_to g n ++ y → (more : List ℕ) × (x ≡ g i ++ more) × ((k : ℕ) → k < i → f k ≡ g k)
  next_line i n x y l same =
      let p = lines_at g i n l in
      let e : lines_to g n ++ y ≡ lines_to g i ++ (g i ++ (p.0 ++ y)) =
      ap (λ xs. xs ++ y) p.1 ∙ append_assoc (lines_to g i) (g i ++ p.0) y ∙ ap (λ xs. lines_to g i ++ xs) (append_assoc (g i) p.0 y) in
      let q = one_lines i x (g i ++ (p.0 ++ y)) (same ∙ e) in
      (p.0 ++ y, q.1, q.0)
