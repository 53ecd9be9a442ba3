-- A text is the text of one sheet, or has one fault, and not both.
use Rattle.std.proofs.Common.{◌≡◌, ℕ, ◌+◌, ◌<◌, ◌≤◌, List, [], ◌++◌, length, get_or, Some, None, sym, refl, ap, ◌∙◌, subst, ⊎_elim, arith, length-append}
use Rattle.std.proofs.lemmas.Bool.{cases_order}
use Rattle.refusals.specs.declared.Refusal.{Refusal}
use Rattle.frames.specs.Lines.{most_bytes}
use Rattle.frames.specs.BadLines.{BadLine}
use Rattle.frames.proofs.LinesTo.{length_lines, one_lines, next_line}
use Rattle.frames.proofs.OneFault.{one_bad_line}
use Rattle.frames.proofs.OneFaultAmong.{one_bad_line_among}
use Rattle.sheets.specs.declared.feeder.Feeder.{Feeder}
use Rattle.sheets.specs.declared.sheet.Sheet.{Sheet}
use Rattle.sheets.specs.Limits.{most_feeders}
use Rattle.sheets.specs.Feeders.{feeder_at, HasNumber, AllServed}
use Rattle.sheets.specs.SheetLines.{head_line, bank_line, bank_lines, feeder_line, feeder_lines, count_line, HeadWithin, head_column, bank_column, due_behind, column_behind, line_behind, BanksRead, BankFault, FeedersRead, NextRead, ListRead, NextFault, FeederFault}
use Rattle.sheets.specs.SheetLines.NextFault.{bad_line, repeated, bare, after_end}
use Rattle.sheets.specs.SheetText.{sheet_text, FrontRead, FirstFault, SameSheet}
use Rattle.sheets.specs.SheetText.FirstFault.{too_long, in_head, in_bank, in_feeders}
use Rattle.sheets.proofs.GoodLines.{one_head, one_panel, one_feeder, head_not_bad, bank_line_not_bad, next_not_bad, feeder_or_count, one_next, one_after}

-- The lines of banks.
abbrev panel_line : List ℕ → ℕ → List ℕ
panel_line ps i = bank_line i (get_or ps i 0)

pub one_banks : (bytes ps qs : List ℕ) (n : ℕ) (x y : List ℕ) → BanksRead bytes ps n x → BanksRead bytes qs n y → ((i : ℕ) → i < n → get_or ps i 0 ≡ get_or qs i 0) × (x ≡ y)
one_banks bytes ps qs n x y h k =
    let q = one_lines (panel_line ps) (panel_line qs) (λ i. refl) n x y (sym h.text ∙ k.text) in
    (λ i l. one_panel i (get_or ps i 0) (get_or qs i 0) (h.within i l) (k.within i l) (q.0 i l), q.1)

pub bank_not_bad : (bytes ps : List ℕ) (i : ℕ) (x qs : List ℕ) (n : ℕ) (y : List ℕ) (line : ℕ) (r : Refusal) → n ≤ 256 → i < n → BanksRead bytes ps i x → BanksRead bytes qs n y → BadLine 2 (bank_column i) x line r → ⊥
bank_not_bad bytes ps i x qs n y line r s l h k bad =
    let q = next_line (panel_line ps) (panel_line qs) (λ i. refl) i n x y l (sym h.text ∙ k.text) in
    bank_line_not_bad x i (get_or qs i 0) q.0 line r (omega arith) (k.within i l) q.1 bad

pub one_bank_fault : (bytes : List ℕ) (n : ℕ) (r s : Refusal) → n ≤ 256 → BankFault bytes n r → BankFault bytes n s → r ≡ s
one_bank_fault bytes n r s few f g =
    let df = f.due in
    let dg = g.due in
    ⊎_elim
    (λ e.
    let h = subst (λ (j : ℕ). BanksRead bytes f.panels j f.rest) e f.good in
    let b = subst (λ (j : ℕ). BadLine 2 (bank_column j) f.rest (2 + j) r) e f.bad in
    let q = (one_banks bytes f.panels g.panels g.i f.rest g.rest h g.good).1 in
    one_bad_line 2 (bank_column g.i) g.rest (2 + g.i) r s (subst (λ (xs : List ℕ). BadLine 2 (bank_column g.i) xs (2 + g.i) r) q b) g.bad)
    (λ o.
    ⊎_elim
    (λ u. absurd (bank_not_bad bytes f.panels f.i f.rest g.panels g.i g.rest (2 + f.i) r (omega arith) u f.good g.good f.bad))
    (λ u. absurd (bank_not_bad bytes g.panels g.i g.rest f.panels f.i f.rest (2 + g.i) s (omega arith) u g.good f.good g.bad))
    o)
    (cases_order f.i g.i)

-- The lines of feeders.
abbrev line_at : List Feeder → ℕ → List ℕ
line_at fs k = feeder_line (feeder_at fs k)

-- the same feeders in the first n places
abbrev pub SameTo : List Feeder → List Feeder → ℕ → Type 0
SameTo fs gs n = (k : ℕ) → k < n → feeder_at fs k ≡ feeder_at gs k

module _ (banks : ℕ) (few : banks ≤ 256) (bytes : List ℕ) where
  pub one_feeders : (fs gs : List Feeder) (n : ℕ) (x y : List ℕ) → FeedersRead banks bytes fs n x → FeedersRead banks bytes gs n y → SameTo fs gs n × (x ≡ y)
  one_feeders fs gs n x y h k =
      let q = one_lines (line_at fs) (line_at gs) (λ i. refl) n x y (sym h.text ∙ k.text) in
      (λ i l. one_feeder banks (feeder_at fs i) (feeder_at gs i) few (h.within i l) (k.within i l) (q.0 i l), q.1)

  -- where there are more feeders than n, the next one is good, and its number is new
  pub next_feeder : (fs gs : List Feeder) (n m : ℕ) (x y : List ℕ) → n < m → FeedersRead banks bytes fs n x → FeedersRead banks bytes gs m y → (more : List ℕ) × NextRead banks n x (Some (feeder_at gs n)) more × (HasNumber fs n (feeder_at gs n).number → ⊥)
  next_feeder fs gs n m x y l h k =
      let q = next_line (line_at fs) (line_at gs) (λ i. refl) n m x y l (sym h.text ∙ k.text) in
      let room = k.room in (
        q.0,
        (omega arith, k.within n l, q.1),
        λ old.
            let before = old.1 in
            let same = one_feeder banks (feeder_at fs old.0) (feeder_at gs old.0) few (h.within old.0 before) (k.within old.0 (omega arith)) (q.2 old.0 before) in
            k.apart old.0 n before l (ap (λ f. f.number) (sym same) ∙ old.2),
      )

-- Behind n feeders.
module _ (banks : ℕ) (few : banks ≤ 256) (n : ℕ) (room : n ≤ most_feeders) (rest : List ℕ) where
  -- what is wrong depends on the feeders in the first n places only
  fault_to : (fs gs : List Feeder) (r : Refusal) → SameTo fs gs n → NextFault banks fs n rest r → NextFault banks gs n rest r
  fault_to fs gs r same (bad_line b) = bad_line b
  fault_to fs gs r same (repeated f a k h l e t) = repeated f a k h l (ap (λ g. g.number) (sym (same k l)) ∙ e) t
  fault_to fs gs r same (bare a i h l none t) = bare a i h l (λ k b e. none k b (ap (λ g. g.bank) (same k b) ∙ e)) t
  fault_to fs gs r same (after_end a h served more t) = after_end a h (λ i l none. served i l (λ k b e. none k b (ap (λ g. g.bank) (sym (same k b)) ∙ e))) more t

  -- a good feeder with a new number is no fault
  new_no_fault : (fs : List Feeder) (r : Refusal) (f : Feeder) (more : List ℕ) → NextRead banks n rest (Some f) more → (HasNumber fs n f.number → ⊥) → NextFault banks fs n rest r → ⊥
  new_no_fault fs r f more h new (bad_line b) = next_not_bad banks n few room rest (Some f) more (line_behind banks n) r h b
  new_no_fault fs r f more h new (repeated g a k i l e t) = new (k, l, e ∙ ap (λ x. x.number) (one_next banks n few room rest g f a more i h))
  new_no_fault fs r f more h new (bare a i k l none t) = feeder_or_count banks n few room rest f more a h k
  new_no_fault fs r f more h new (after_end a k served longer t) = feeder_or_count banks n few room rest f more a h k

  -- nor is the end of the file behind the count, where every bank has a feeder
  end_no_fault : (fs : List Feeder) (r : Refusal) → NextRead banks n rest None [] → AllServed banks fs n → NextFault banks fs n rest r → ⊥
  end_no_fault fs r h served (bad_line b) = next_not_bad banks n few room rest None [] (line_behind banks n) r h b
  end_no_fault fs r h served (repeated g a k i l e t) = feeder_or_count banks n few room rest g a [] i h
  end_no_fault fs r h served (bare a i k l none t) = served i l none
  end_no_fault fs r h served (after_end a k all longer t) = let z = ap length (one_after banks n few room rest a [] k h) in omega arith

  one_next_fault : (fs : List Feeder) (r s : Refusal) → NextFault banks fs n rest r → NextFault banks fs n rest s → r ≡ s
  one_next_fault fs r s (bad_line b) (bad_line c) = one_bad_line_among (due_behind n) (column_behind banks n) rest (line_behind banks n) r s b c
  one_next_fault fs r s (bad_line b) (repeated g a k i l e t) = absurd (next_not_bad banks n few room rest (Some g) a (line_behind banks n) r i b)
  one_next_fault fs r s (bad_line b) (bare a i k l none t) = absurd (next_not_bad banks n few room rest None a (line_behind banks n) r k b)
  one_next_fault fs r s (bad_line b) (after_end a k all longer t) = absurd (next_not_bad banks n few room rest None a (line_behind banks n) r k b)
  one_next_fault fs r s (repeated g a k i l e t) (bad_line c) = absurd (next_not_bad banks n few room rest (Some g) a (line_behind banks n) s i c)
  one_next_fault fs r s (repeated g a k i l e t) (repeated g' a' k' i' l' e' t') = t ∙ sym t'
  one_next_fault fs r s (repeated g a k i l e t) (bare a' i' k' l' none t') = absurd (feeder_or_count banks n few room rest g a a' i k')
  one_next_fault fs r s (repeated g a k i l e t) (after_end a' k' all longer t') = absurd (feeder_or_count banks n few room rest g a a' i k')
  one_next_fault fs r s (bare a i k l none t) (bad_line c) = absurd (next_not_bad banks n few room rest None a (line_behind banks n) s k c)
  one_next_fault fs r s (bare a i k l none t) (repeated g' a' k' i' l' e' t') = absurd (feeder_or_count banks n few room rest g' a' a i' k)
  one_next_fault fs r s (bare a i k l none t) (bare a' i' k' l' none' t') = t ∙ sym t'
  one_next_fault fs r s (bare a i k l none t) (after_end a' k' all longer t') = absurd (all i l none)
  one_next_fault fs r s (after_end a k all longer t) (bad_line c) = absurd (next_not_bad banks n few room rest None a (line_behind banks n) s k c)
  one_next_fault fs r s (after_end a k all longer t) (repeated g' a' k' i' l' e' t') = absurd (feeder_or_count banks n few room rest g' a' a i' k)
  one_next_fault fs r s (after_end a k all longer t) (bare a' i' k' l' none t') = absurd (all i' l' none)
  one_next_fault fs r s (after_end a k all longer t) (after_end a' k' all' longer' t') = t ∙ sym t'

module _ (banks : ℕ) (few : banks ≤ 256) (bytes : List ℕ) where
  -- where more feeders are good, none of their lines is the first fault
  early_no_fault : (r : Refusal) (gs : List Feeder) (m : ℕ) (y : List ℕ) → FeedersRead banks bytes gs m y → (f : FeederFault banks bytes r) → f.n < m → ⊥
  early_no_fault r gs m y k f l =
      let q = next_feeder banks few bytes f.fs gs f.n m f.rest y l f.good k in
      new_no_fault banks few f.n f.good.room f.rest f.fs r (feeder_at gs f.n) q.0 q.1 q.2 f.bad

  pub one_feeder_fault : (r s : Refusal) → FeederFault banks bytes r → FeederFault banks bytes s → r ≡ s
  one_feeder_fault r s f g =
      ⊎_elim
      (λ e.
      let h = subst (λ (j : ℕ). FeedersRead banks bytes f.fs j f.rest) e f.good in
      let q = one_feeders banks few bytes f.fs g.fs g.n f.rest g.rest h g.good in
      let b = subst (λ (xs : List ℕ). NextFault banks f.fs g.n xs r) q.1 (subst (λ (j : ℕ). NextFault banks f.fs j f.rest r) e f.bad) in
      one_next_fault banks few g.n g.good.room g.rest g.fs r s (fault_to banks few g.n g.good.room g.rest f.fs g.fs r q.0 b) g.bad)
      (λ o.
      ⊎_elim
      (λ l. absurd (early_no_fault r g.fs g.n g.rest g.good f l))
      (λ l. absurd (early_no_fault s f.fs f.n f.rest f.good g l))
      o)
      (cases_order f.n g.n)

  -- a count is not followed by a feeder
  past_count : (fs gs : List Feeder) (n m : ℕ) (x y : List ℕ) → n < m → ListRead banks bytes fs n x → FeedersRead banks bytes gs m y → ⊥
  past_count fs gs n m x y l h k =
      let q = next_feeder banks few bytes fs gs n m (count_line n ++ x) y l h.good k in
      feeder_or_count banks n few h.good.room (count_line n ++ x) (feeder_at gs n) q.0 x q.1 (h.some, refl)

  -- feeders that are counted, of which every bank has one, and nothing behind them: no fault
  pub list_no_fault : (r : Refusal) (fs : List Feeder) (n : ℕ) → ListRead banks bytes fs n [] → AllServed banks fs n → FeederFault banks bytes r → ⊥
  list_no_fault r fs n h served f =
      ⊎_elim
      (λ e.
      let k = subst (λ (j : ℕ). FeedersRead banks bytes f.fs j f.rest) e f.good in
      let q = one_feeders banks few bytes f.fs fs n f.rest (count_line n ++ []) k h.good in
      let b = subst (λ (xs : List ℕ). NextFault banks f.fs n xs r) q.1 (subst (λ (j : ℕ). NextFault banks f.fs j f.rest r) e f.bad) in
      end_no_fault banks few n h.good.room (count_line n ++ []) fs r (h.some, refl) served (fault_to banks few n h.good.room (count_line n ++ []) f.fs fs r q.0 b))
      (λ o. ⊎_elim (λ l. early_no_fault r fs n (count_line n ++ []) h.good f l) (λ l. past_count fs f.fs n f.n [] f.rest l h f.good) o)
      (cases_order f.n n)

  pub one_list : (fs gs : List Feeder) (n m : ℕ) → ListRead banks bytes fs n [] → ListRead banks bytes gs m [] → (n ≡ m) × SameTo fs gs n
  one_list fs gs n m h k =
      let e : n ≡ m = ⊎_elim (λ e. e) (λ o. ⊎_elim (λ l. absurd (past_count fs gs n m [] (count_line m ++ []) l h k.good)) (λ l. absurd (past_count gs fs m n [] (count_line n ++ []) l k h.good)) o) (cases_order n m) in
      (e, (one_feeders banks few bytes fs gs n (count_line n ++ []) (count_line m ++ []) h.good (subst (λ (j : ℕ). FeedersRead banks bytes gs j (count_line m ++ [])) (sym e) k.good)).0)

-- The head line and the lines of the banks.
front_banks : (bytes : List ℕ) (b s : ℕ) (ps x : List ℕ) → FrontRead bytes b s ps x → BanksRead (bank_lines ps b ++ x) ps b x
front_banks bytes b s ps x h = record { within = h.each; text = refl }

one_front : (bytes : List ℕ) (b c s t : ℕ) (ps qs x y : List ℕ) → FrontRead bytes b s ps x → FrontRead bytes c t qs y → (b ≡ c) × (s ≡ t) × ((i : ℕ) → i < b → get_or ps i 0 ≡ get_or qs i 0) × (x ≡ y)
one_front bytes b c s t ps qs x y h k =
    let q = one_head b c s t (bank_lines ps b ++ x) (bank_lines qs c ++ y) h.head k.head (sym h.text ∙ k.text) in
    let same = subst (λ (n : ℕ). BanksRead (bank_lines qs c ++ y) qs n y) (sym q.0) (front_banks bytes c t qs y k) in
    let p = one_banks (bank_lines ps b ++ x) ps qs b x y (front_banks bytes b s ps x h) (subst (λ (zs : List ℕ). BanksRead zs qs b y) (sym q.2) same) in
    (q.0, q.1, p.0, p.1)

-- a fault of a bank's line leaves no good lines of all banks
bank_or_front : (bytes : List ℕ) (c t : ℕ) (after : List ℕ) (r : Refusal) (b s : ℕ) (ps x : List ℕ) → HeadWithin c t → bytes ≡ head_line c t ++ after → BankFault after c r → FrontRead bytes b s ps x → ⊥
bank_or_front bytes c t after r b s ps x w p f h =
    let q = one_head c b t s after (bank_lines ps b ++ x) w h.head (sym p ∙ h.text) in
    let few = h.head.few in
    let good = subst (λ (zs : List ℕ). BanksRead zs f.panels f.i f.rest) q.2 f.good in
    bank_not_bad (bank_lines ps b ++ x) f.panels f.i f.rest ps b x (2 + f.i) r (omega arith) (omega (arith, q.0, f.due)) good (front_banks bytes b s ps x h) f.bad

-- One first fault at most.
pub one_first_fault : (bytes : List ℕ) (r s : Refusal) → FirstFault bytes r → FirstFault bytes s → r ≡ s
one_first_fault bytes r s (too_long l e) (too_long k g) = e ∙ sym g
one_first_fault bytes r s (too_long l e) (in_head k b) = absurd (omega arith)
one_first_fault bytes r s (too_long l e) (in_bank c t y k w p f) = absurd (omega arith)
one_first_fault bytes r s (too_long l e) (in_feeders c t ps x h f) = absurd (omega (arith, h.size))
one_first_fault bytes r s (in_head l b) (too_long k g) = absurd (omega arith)
one_first_fault bytes r s (in_head l b) (in_head k a) = one_bad_line 1 head_column bytes 1 r s b a
one_first_fault bytes r s (in_head l b) (in_bank c t y k w p f) = absurd (head_not_bad bytes c t y 1 r w p b)
one_first_fault bytes r s (in_head l b) (in_feeders c t ps x h f) = absurd (head_not_bad bytes c t (bank_lines ps c ++ x) 1 r h.head h.text b)
one_first_fault bytes r s (in_bank c t y l w p f) (too_long k g) = absurd (omega arith)
one_first_fault bytes r s (in_bank c t y l w p f) (in_head k a) = absurd (head_not_bad bytes c t y 1 s w p a)
one_first_fault bytes r s (in_bank c t y l w p f) (in_bank c' t' y' l' w' p' f') =
    let q = one_head c c' t t' y y' w w' (sym p ∙ p') in
    one_bank_fault y' c' r s (omega (arith, w'.few)) (subst (λ (n : ℕ). BankFault y' n r) q.0 (subst (λ (xs : List ℕ). BankFault xs c r) q.2 f)) f'
one_first_fault bytes r s (in_bank c t y l w p f) (in_feeders c' t' ps x h g) = absurd (bank_or_front bytes c t y r c' t' ps x w p f h)
one_first_fault bytes r s (in_feeders c t ps x h f) (too_long k g) = absurd (omega (arith, h.size))
one_first_fault bytes r s (in_feeders c t ps x h f) (in_head k a) = absurd (head_not_bad bytes c t (bank_lines ps c ++ x) 1 s h.head h.text a)
one_first_fault bytes r s (in_feeders c t ps x h f) (in_bank c' t' y l w p g) = absurd (bank_or_front bytes c' t' y s c t ps x w p g h)
one_first_fault bytes r s (in_feeders c t ps x h f) (in_feeders c' t' ps' x' h' f') =
    let q = one_front bytes c c' t t' ps ps' x x' h h' in
    one_feeder_fault c' (omega (arith, h'.head.few)) x' r s (subst (λ (n : ℕ). FeederFault n x' r) q.0 (subst (λ (xs : List ℕ). FeederFault c xs r) q.3 f)) f'

-- A sheet's text is never too long; it has a good front, and a list that ends well.
module _ (bytes : List ℕ) (s : Sheet) (text : bytes ≡ sheet_text s) where
  behind : List ℕ
  behind = feeder_lines s.feeders s.listed ++ count_line s.listed

  short : length bytes ≤ most_bytes
  unfolding behind
  short =
      let lines = bank_lines s.panels s.count in
      let more = feeder_lines s.feeders s.listed in
      let b = s.few in
      let f = s.room in
      omega (arith, ap length text, length-append lines behind, length-append more (count_line s.listed), length_lines (panel_line s.panels) 7 s.count (λ i. refl), length_lines (line_at s.feeders) 17 s.listed (λ k. refl))

  front : FrontRead bytes s.count s.settle s.panels behind
  unfolding behind
  front = record { size = short; head = record { enough = s.enough; few = s.few; settles = s.settles }; each = s.panelled; text = text }

  list : ListRead s.count behind s.feeders s.listed []
  unfolding behind
  list = record {
    some = s.some;
    good = record {
      room = s.room;
      within = λ k l. record {
        numbered = s.numbers k l;
        on_bank = s.known k l;
        some_reading = (s.readings k l).0;
        few_reading = (s.readings k l).1;
        long_swap = (s.swaps k l).0;
        short_swap = (s.swaps k l).1;
      };
      apart = s.apart;
      text = refl;
    };
  }

-- A sheet has no fault.
pub sheet_no_fault : (bytes : List ℕ) (s : Sheet) → bytes ≡ sheet_text s → (r : Refusal) → FirstFault bytes r → ⊥
sheet_no_fault bytes s e r (too_long l t) = let k = short bytes s e in omega arith
sheet_no_fault bytes s e r (in_head l b) = head_not_bad bytes s.count s.settle (bank_lines s.panels s.count ++ behind bytes s e) 1 r (front bytes s e).head (front bytes s e).text b
sheet_no_fault bytes s e r (in_bank c t y l w p f) = bank_or_front bytes c t y r s.count s.settle s.panels (behind bytes s e) w p f (front bytes s e)
sheet_no_fault bytes s e r (in_feeders c t ps x h f) =
    let q = one_front bytes c s.count t s.settle ps s.panels x (behind bytes s e) h (front bytes s e) in
    let few = s.few in
    list_no_fault s.count (omega arith) (behind bytes s e) r s.feeders s.listed (list bytes s e) s.served (subst (λ (n : ℕ). FeederFault n (behind bytes s e) r) q.0 (subst (λ (xs : List ℕ). FeederFault c xs r) q.3 f))

-- One text lists one sheet.
pub one_sheet : (bytes : List ℕ) (s t : Sheet) → bytes ≡ sheet_text s → bytes ≡ sheet_text t → SameSheet s t
one_sheet bytes s t e d =
    let q = one_front bytes s.count t.count s.settle t.settle s.panels t.panels (behind bytes s e) (behind bytes t d) (front bytes s e) (front bytes t d) in
    let few = s.few in
    let k = subst (λ (n : ℕ). ListRead n (behind bytes s e) t.feeders t.listed []) (sym q.0) (subst (λ (xs : List ℕ). ListRead t.count xs t.feeders t.listed []) (sym q.3) (list bytes t d)) in
    let l = one_list s.count (omega arith) (behind bytes s e) s.feeders t.feeders s.listed t.listed (list bytes s e) k in
    record { count = q.0; settle = q.1; panels = q.2; listed = l.0; feeders = l.1 }
