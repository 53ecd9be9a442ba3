-- The number that is handed out of a file that was read.
use Rattle.std.proofs.Common.{◌≡◌, ℕ, false, Result, Ok, Err, MatchResult, Decides, is_ok, refl, sym, ap, ◌∙◌}
use Rattle.std.proofs.lemmas.Bool.{both_ways}
use Rattle.refusals.specs.declared.Refusal.{Refusal}

-- it is 0 of a file that can be read, and else the number of any first fault
pub number_told : {T F : Type 0} (r : Result T F) (told : F → Refusal) (Read : Type 0) (First : Refusal → Type 0) (Only : T → Type 0) (n : ℕ)
    → MatchResult r (λ _. n ≡ 0) (λ f. (q : Refusal) × (q ≡ told f) × (n ≡ q.number))
    → Decides (is_ok r) Read
    → MatchResult r Only (λ f. (s : Refusal) → First s → s ≡ told f)
    → ((x : T) → Only x → (s : Refusal) → First s → ⊥)
    → (Read → n ≡ 0) × ((s : Refusal) → First s → n ≡ s.number)
number_told (Ok x) told Read First Only n e d o faultless = (λ _. e, λ s f. absurd (faultless x o s f))
number_told (Err f) told Read First Only n e d o faultless = (λ read. absurd (both_ways false refl (d.1 read)), λ s g. e.2 ∙ ap (λ (r : Refusal). r.number) (e.1 ∙ sym (o s g)))
