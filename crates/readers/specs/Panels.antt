-- Last panels: what their tests tell, and what settling costs.
use Rattle.std.specs.Prelude.{◌≡◌, ℕ, ◌≤◌, false, cond, nat_eq, ◌⊎◌, Some, None, Decides, Option, ◌≢◌, refl}
use Rattle.std.proofs.Common.{subst, sym, ap, inl, inr, ⊎_elim, arith}
use Rattle.std.proofs.lemmas.Bool.{leb-true, le-leb, eqb-true, eq-eqb, ne_eqb, both_ways, false≢true}
use Rattle.std.proofs.lemmas.Bool.Decides.{Decides-eqb}
use Rattle.std.specs.Option.{option_eq}
use Rattle.sheets.specs.Limits.{most_panel}
use Rattle.readers.specs.Panelled.{panel_proper, panel_covers, settled, one_if_some}

pub panel_proper_decides : (o : Option ℕ) → Decides (panel_proper o) ((p : ℕ) → o ≡ Some p → p ≤ most_panel)
panel_proper_decides None = (λ _ p e. let z : ◌≡◌ {A = ℕ} 0 1 = cc in absurd (omega arith), λ _. refl)
panel_proper_decides (Some q) =
    (λ h p e. let same : q ≡ p = cc in omega (arith, leb-true q most_panel h), λ h. le-leb q most_panel (h q refl))

pub panel_covers_decides : (a b : Option ℕ) → Decides (panel_covers a b) ((a ≡ None) ⊎ (a ≡ b))
panel_covers_decides None b = (λ _. inl refl, λ _. refl)
panel_covers_decides (Some p) None = (
  λ h. absurd (both_ways false refl h),
  ⊎_elim (λ e. cc) (λ e. cc),
)
panel_covers_decides (Some p) (Some q) = (
  λ h. inr (ap Some (eqb-true p q h)),
  ⊎_elim (λ e. cc) (λ e. eq-eqb p q (cc)),
)

-- none needs no more settling than any last panel
pub settled_le : (a b : Option ℕ) (p n : ℕ) → (a ≡ None) ⊎ (a ≡ b) → cond (settled a p) 0 n ≤ cond (settled b p) 0 n
settled_le a b p n (inl e) = subst (λ o. cond (settled o p) 0 n ≤ cond (settled b p) 0 n) (sym e) (omega arith)
settled_le a b p n (inr e) = subst (λ o. cond (settled a p) 0 n ≤ cond (settled o p) 0 n) e (omega arith)

pub settled_none : (o : Option ℕ) (p n : ℕ) → o ≡ None → cond (settled o p) 0 n ≡ 0
settled_none o p n e = subst (λ x. cond (settled x p) 0 n ≡ 0) (sym e) refl

pub settled_same : (o : Option ℕ) (p n : ℕ) → o ≡ Some p → cond (settled o p) 0 n ≡ 0
settled_same o p n e = subst (λ x. cond (settled x p) 0 n ≡ 0) (sym e) (rw (eq-eqb p p refl) refl)

pub settled_other : (o : Option ℕ) (p n q : ℕ) → o ≡ Some q → (q ≢ p) → cond (settled o p) 0 n ≡ n
settled_other o p n q e ne = subst (λ x. cond (settled x p) 0 n ≡ n) (sym e) (rw (ne_eqb q p ne) refl)

-- a last panel counts one
pub one_le : (a b : Option ℕ) → (a ≡ None) ⊎ (a ≡ b) → one_if_some a ≤ one_if_some b
one_le a b (inl e) = subst (λ o. one_if_some o ≤ one_if_some b) (sym e) (omega arith)
one_le a b (inr e) = subst (λ o. one_if_some a ≤ one_if_some o) e (omega arith)

pub one_most : (o : Option ℕ) → one_if_some o ≤ 1
one_most None = omega arith
one_most (Some p) = omega arith

pub one_tight : (a b : Option ℕ) → (a ≡ None) ⊎ (a ≡ b) → one_if_some b ≤ one_if_some a → (b ≡ None) ⊎ (b ≡ a)
one_tight a b (inr e) h = inr (sym e)
one_tight a None (inl e) h = inl refl
one_tight a (Some p) (inl e) h = let z : one_if_some a ≡ 0 = ap one_if_some e in absurd (omega arith)

-- what `==` answers at last panels
pub same_last_decides : (a b : Option ℕ) → Decides (option_eq nat_eq a b) (a ≡ b)
same_last_decides None None = (λ _. refl, λ _. refl)
same_last_decides None (Some q) = (λ e. absurd (false≢true e), λ e. let z : ◌≡◌ {A = ℕ} 0 1 = cc in absurd (omega arith))
same_last_decides (Some p) None = (λ e. absurd (false≢true e), λ e. let z : ◌≡◌ {A = ℕ} 0 1 = cc in absurd (omega arith))
same_last_decides (Some p) (Some q) = (λ e. ap Some ((Decides-eqb p q).0 e), λ e. (Decides-eqb p q).1 (cc))
