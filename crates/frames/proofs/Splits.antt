-- A text is split in one way only: by a length, or at the first byte that closes a line.
use Rattle.std.proofs.Common.{◌≡◌, ℕ, ◌<◌, ◌≤◌, List, ◌∷◌, ◌++◌, length, get_or, take, drop, sym, refl, ap, ◌∙◌, ⊎_elim, arith, length-append}
use Rattle.std.proofs.lemmas.List.{take_at, drop_at, get_or_at, get_or_append_left}
use Rattle.std.proofs.lemmas.Bool.{cases_order}
use Rattle.frames.specs.Lines.{NoneCloses, ClosedLine}

-- Fronts of one length are the same.
pub same_split : {X : Type 0} (a₁ a₂ b₁ b₂ : List X) → length a₁ ≡ length a₂ → a₁ ++ b₁ ≡ a₂ ++ b₂ → (a₁ ≡ a₂) × (b₁ ≡ b₂)
same_split a₁ a₂ b₁ b₂ l e = (
  sym (take_at a₁ b₁ (length a₂) l) ∙ ap (take (length a₂)) e ∙ take_at a₂ b₂ (length a₂) refl,
  sym (drop_at a₁ b₁ (length a₂) l) ∙ ap (drop (length a₂)) e ∙ drop_at a₂ b₂ (length a₂) refl,
)

-- The byte behind a closed line closes it.
pub closing : (bytes line after : List ℕ) → ClosedLine bytes line after → get_or bytes (length line) 0 ≡ 10
closing bytes line after h = ap (λ xs. get_or xs (length line) 0) h.text ∙ get_or_at line 10 after 0 (length line) refl

pub not_shorter : (bytes l₁ a₁ l₂ a₂ : List ℕ) → ClosedLine bytes l₁ a₁ → ClosedLine bytes l₂ a₂ → length l₁ < length l₂ → ⊥
not_shorter bytes l₁ a₁ l₂ a₂ h₁ h₂ s =
    h₂.inside (length l₁) s (sym (get_or_append_left l₂ (10 ∷ a₂) 0 (length l₁) s) ∙ ap (λ xs. get_or xs (length l₁) 0) (sym h₂.text) ∙ closing bytes l₁ a₁ h₁)

-- The first closed line is one only.
pub one_line : (bytes l₁ a₁ l₂ a₂ : List ℕ) → ClosedLine bytes l₁ a₁ → ClosedLine bytes l₂ a₂ → (l₁ ≡ l₂) × (a₁ ≡ a₂)
one_line bytes l₁ a₁ l₂ a₂ h₁ h₂ =
    let e : length l₁ ≡ length l₂ = ⊎_elim (λ p. p) (λ o. ⊎_elim (λ s. absurd (not_shorter bytes l₁ a₁ l₂ a₂ h₁ h₂ s)) (λ s. absurd (not_shorter bytes l₂ a₂ l₁ a₁ h₂ h₁ s)) o) (cases_order (length l₁) (length l₂)) in
    let p = same_split l₁ l₂ (10 ∷ a₁) (10 ∷ a₂) e (sym h₁.text ∙ h₂.text) in
    (p.0, let q = p.1 in cc)

-- Where a line is closed, some byte closes it.
pub closed_closes : (bytes line after : List ℕ) → ClosedLine bytes line after → NoneCloses bytes → ⊥
closed_closes bytes line after h none =
    let l = ap length h.text ∙ length-append line (10 ∷ after) in
    none (length line) (omega (arith, l)) (closing bytes line after h)

-- A line of bytes that close nothing, closed.
pub closed_line : (line after : List ℕ) → NoneCloses line → ClosedLine (line ++ (10 ∷ after)) line after
closed_line line after h = record { text = refl; inside = h }

-- What is left is no longer than the whole.
pub rest_short : (bytes front rest : List ℕ) → bytes ≡ front ++ rest → length rest ≤ length bytes
rest_short bytes front rest e = let l = ap length e ∙ length-append front rest in omega (arith, l)
