-- Lists with a place for each bank that a table can have.
use Rattle.std.proofs.Common.{◌≡◌, ℕ, ◌<◌, ◌≤◌, List, length, sym, ◌∙◌, ⊎_elim, arith}
use mathlib.Core.Path.{fun_ext}
use Rattle.std.proofs.lemmas.Bool.{cases_lt}
use Rattle.std.proofs.lemmas.List.{get_or_past}
use Rattle.std.proofs.lemmas.List.FromFn.{fill_by_all, get_or-map-range_with_len, length-map-range_with_len}
use Rattle.sheets.specs.Limits.{most_banks}
use Rattle.banks.specs.Places.{age_at, spread}

pub spread_at : (f : ℕ → ℕ) (i : ℕ) → i < most_banks → age_at (spread f) i ≡ f i
unfolding spread
spread_at f i h = get_or-map-range_with_len f 0 most_banks i i 0 h (omega arith)

spread_length : (f : ℕ → ℕ) → length (spread f) ≡ most_banks
unfolding spread
spread_length f = length-map-range_with_len f 0 most_banks

pub spread_filled : (f : ℕ → ℕ) (xs : List ℕ) → length xs ≡ most_banks → ((i : ℕ) → i < most_banks → age_at xs i ≡ f i) → xs ≡ spread f
unfolding spread
spread_filled f xs l each = fill_by_all f xs most_banks 0 l each

-- a function that is 0 behind the places is what its list holds
pub spread_whole : (f : ℕ → ℕ) → ((i : ℕ) → most_banks ≤ i → f i ≡ 0) → age_at (spread f) ≡ f
spread_whole f none =
    fun_ext (λ i.
    ⊎_elim (λ h. spread_at f i h) (λ h. get_or_past (spread f) i 0 (omega (arith, spread_length f)) ∙ sym (none i h)) (cases_lt i most_banks))
