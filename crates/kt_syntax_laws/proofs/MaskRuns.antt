-- Places of a line, the continuations round them, and runs of symbols of its mask.
use Rattle.std.proofs.Common.{◌≡◌, ◌==◌, ◌≤◌, ◌<◌, ◌-◌, ◌+◌, ◌%◌, ℕ, zero, suc, Bool, false, List, [], ◌∷◌, ◌++◌, length, take, drop, get_or, replicate, refl, sym, ap, subst, ◌∙◌, arith, ⊎_elim, ◌⊎◌, inl, inr, length-drop, add-zero, nat_eq, slice_index}
use Rattle.kt_syntax.proofs.Common.{cases_Bool, cases_lt, Decides-eqb, drop_more, drop_at, drop-drop, get_or-drop, get_or-replicate, get_or_append_left, length-replicate, suffix_len-take_yes, suffix_len-take_no, starts_is, starts_with, suffix_len, Text, is_continued_text, kept, unit_length, goes_odd, mask_byte, more_masked, mask_from}
use Rattle.kt_text_laws.proofs.Numbers.{one_more_odd}
use Rattle.kt_syntax_laws.specs.Masked.{IsContinued, IsSymbol}
use Rattle.kt_syntax.proofs.lemmas.Masking.{step-inside, step-outside}

-- ---- numbers compared

pub at_most_or_less : (a b : ℕ) → (a ≤ b) ⊎ (b < a)
at_most_or_less zero b = inl (omega arith)
at_most_or_less (suc a) zero = inr (omega arith)
at_most_or_less (suc a) (suc b) = ⊎_elim (λ h. inl (omega arith)) (λ h. inr (omega arith)) (at_most_or_less a b)

pub zero_or_more : (n : ℕ) → (n ≡ 0) ⊎ (0 < n)
zero_or_more n = grind arith

-- ---- odd runs of backslashes

abbrev pub odd_at : Text → ℕ → Bool
odd_at line place = is_continued_text (take place line)

pub odd-next : (line : Text) (place byte : ℕ) → place < length line → get_or line place 0 ≡ byte → odd_at line (place + 1) ≡ goes_odd (odd_at line place) byte
odd-next line place byte l e =
    let less : place + 1 - 1 ≡ place = omega arith in
    let at : get_or line (place + 1 - 1) 0 ≡ byte = ap (λ n. get_or line n 0) less ∙ e in
    ⊎_elim (λ h.
    let size = suffix_len-take_yes (λ b. b == 92) line (place + 1) 0 (omega arith) (omega arith) (ap (λ b. b == 92) at ∙ h) in
    ap (λ n. n % 2 == 1) (size ∙ ap (λ n. 1 + suffix_len (λ b. b == 92) (take n line)) less) ∙ one_more_odd (suffix_len (λ b. b == 92) (take place line)) ∙ rw h refl)
    (λ h.
    let size = suffix_len-take_no (λ b. b == 92) line (place + 1) 0 (omega arith) (omega arith) (ap (λ b. b == 92) at ∙ h) in
    ap (λ n. n % 2 == 1) size ∙ rw h refl)
    (cases_Bool (byte == 92))

-- ---- the bytes of a continuation

-- a continuation's first byte is a backslash, the others are none; nor is one a dollar or a closing mark
pub record IsUnit (text : Text) : Type 0 where
  pub first : get_or text 0 0 ≡ 92
  pub others : (k : ℕ) → 0 < k → k < unit_length kept text → (get_or text k 0 ≡ 10) ⊎ (get_or text k 0 ≡ 13)
  pub within : unit_length kept text ≤ length text

pub no_unit : (text : Text) → starts_with nat_eq text (92 ∷ 10 ∷ []) ≡ false → starts_with nat_eq text (92 ∷ 13 ∷ 10 ∷ []) ≡ false → unit_length kept text ≡ 1
no_unit text h g = rw (h, g) refl

pub unit : (text : Text) → 1 < unit_length kept text → IsUnit text
unit text some = grind (arith, ⊎_elim, starts_is, Decides-eqb, get_or, no_unit, cases_Bool, nat_eq)

-- of a continuation in a line
pub at_start : (line : Text) (place : ℕ) → (c : IsContinued line place) → get_or line c.start 0 ≡ 92
at_start line place c =
    let u = unit (drop c.start line) c.unit in
    sym (ap (λ n. get_or line n 0) (add-zero c.start)) ∙ sym (get_or-drop c.start line 0 0) ∙ u.first

-- a place after the first byte
pub after_start : (line : Text) (place at : ℕ) → (c : IsContinued line place) → c.start < at → at < c.start + unit_length kept (drop c.start line)
    → (get_or line at 0 ≡ 10) ⊎ (get_or line at 0 ≡ 13)
after_start line place at c l m =
    let u = unit (drop c.start line) c.unit in
    let here : c.start + (at - c.start) ≡ at = omega arith in
    let same : get_or (drop c.start line) (at - c.start) 0 ≡ get_or line at 0 = get_or-drop c.start line (at - c.start) 0 ∙ ap (λ n. get_or line n 0) here in
    ⊎_elim (λ e. inl (sym same ∙ e)) (λ e. inr (sym same ∙ e)) (u.others (at - c.start) (omega arith) (omega arith))

pub continued_within : (line : Text) (place : ℕ) → (c : IsContinued line place) → place < length line
continued_within line place c =
    let u = unit (drop c.start line) c.unit in
    let w = u.within in
    let t = c.to in
    let s = c.unit in
    let d = length-drop c.start line in
    omega arith

-- a place after the first byte is no backslash
not_start : (line : Text) (place at : ℕ) → (c : IsContinued line place) → c.start < at → at < c.start + unit_length kept (drop c.start line) → get_or line at 0 ≡ 92 → ⊥
not_start line place at c l m e =
    ⊎_elim (λ g. let never : 92 ≡ 10 = sym e ∙ g in omega arith) (λ g. let never : 92 ≡ 13 = sym e ∙ g in omega arith) (after_start line place at c l m)

-- ---- places where no continuation is under way

abbrev pub Fresh : Text → ℕ → Type 0
Fresh line place = (c : IsContinued line place) → place ≤ c.start

pub fresh_start : (line : Text) → Fresh line 0
fresh_start line c = omega arith

-- the same continuation at an earlier place
abbrev pub earlier : (line : Text) (place at : ℕ) → (c : IsContinued line place) → c.start ≤ at → at ≤ place → IsContinued line at
earlier line place at c l m = record { start = c.start; odd = c.odd; unit = c.unit; from = l; to = let t = c.to in omega arith }

pub fresh_next : (line : Text) (place : ℕ) → ¬ IsContinued line place → Fresh line (place + 1)
fresh_next line place none c = grind (arith, ⊎_elim, at_most_or_less)

-- after a continuation
pub fresh_past : (line : Text) (place : ℕ) → Fresh line place → (c : IsContinued line place) → Fresh line (place + unit_length kept (drop place line))
fresh_past line place fresh c d =
    let size = unit_length kept (drop place line) in
    let low : place ≤ c.start = fresh c in
    let here : c.start ≡ place = (let f = c.from in omega arith) in
    let some : 1 < size = subst (λ n. 1 < unit_length kept (drop n line)) here c.unit in
    ⊎_elim (λ h. h)
    (λ h. ⊎_elim (λ g. absurd (by_start g h some))
    (λ g. absurd (let f : place ≤ d.start = fresh (earlier line (place + size) place d (omega arith) (omega arith)) in omega arith))
    (at_most_or_less place d.start))
    (at_most_or_less (place + size) d.start)
  where
    by_start : place ≤ d.start → d.start < place + unit_length kept (drop place line) → 1 < unit_length kept (drop place line) → ⊥
    by_start l m some =
        let here : c.start ≡ place = (let low = fresh c in let f = c.from in omega arith) in
        ⊎_elim (λ e.
        let same : unit_length kept (drop d.start line) ≡ unit_length kept (drop place line) = ap (λ n. unit_length kept (drop n line)) e in
        let t = d.to in omega arith)
        (λ e. not_start line place d.start c (omega arith) (rw here m) (at_start line (place + unit_length kept (drop place line)) d))
        (equal_or_more d.start place l)
      where
        equal_or_more : (a b : ℕ) → b ≤ a → (a ≡ b) ⊎ (b < a)
        equal_or_more a b l = ⊎_elim (λ h. inl (omega arith)) (λ h. inr h) (at_most_or_less a b)

-- ---- the mask from a place on

unfoldable pub mask_at : Text → ℕ → List ℕ
mask_at line place = mask_from 0 0 (odd_at line place) (drop place line)

symbol-free : (symbol other : ℕ) (odd : Bool) (text : Text) → mask_from 0 symbol odd text ≡ mask_from 0 other odd text
unfolding mask_from
symbol-free symbol other odd [] = refl
symbol-free symbol other odd (byte ∷ text) = refl

-- bytes that are masked by one symbol
skips : (n : ℕ) (line : Text) (place symbol : ℕ) → place + n ≤ length line
    → mask_from n symbol (odd_at line place) (drop place line) ≡ replicate n symbol ++ mask_at line (place + n)
unfolding mask_at
skips zero line place symbol l = grind (arith, symbol-free, add-zero)
skips (suc n) line place symbol l =
    let here : drop place line ≡ get_or line place 0 ∷ drop (place + 1) line = drop_more line place 0 (omega arith) in
    let later : place + 1 + n ≡ place + suc n = omega arith in
    let less : suc n - 1 ≡ n = omega arith in
    ap (mask_from (suc n) symbol (odd_at line place)) here
    ∙ step-inside (suc n) symbol (odd_at line place) (get_or line place 0) (drop (place + 1) line) (omega arith)
    ∙ ap (λ odd. symbol ∷ mask_from (suc n - 1) symbol odd (drop (place + 1) line)) (sym (odd-next line place (get_or line place 0) (omega arith) refl))
    ∙ ap (λ k. symbol ∷ mask_from k symbol (odd_at line (place + 1)) (drop (place + 1) line)) less
    ∙ ap (λ xs. symbol ∷ xs) (skips n line (place + 1) symbol (omega arith))
    ∙ ap (λ p. symbol ∷ (replicate n symbol ++ mask_from 0 0 (odd_at line p) (drop p line))) later

-- a byte with those that it takes with it
pub takes : (line : Text) (place byte more : ℕ) → place < length line → get_or line place 0 ≡ byte → more ≡ more_masked (odd_at line place) byte (drop (place + 1) line)
    → place + suc more ≤ length line
    → mask_at line place ≡ replicate (suc more) (mask_byte byte more) ++ mask_at line (place + suc more)
unfolding mask_at
takes line place byte more l e m w = grind (arith, drop_more, step-outside, odd-next, skips, replicate)

-- so many symbols are those of the line from a place on, and the rest is the mask from there on
pub record Run (line : Text) (outside : Bool) (place size : ℕ) (mask : List ℕ) : Type 0 where
  pub symbols : (k : ℕ) → k < size → IsSymbol line outside (place + k) (slice_index mask k)
  pub rest : drop size mask ≡ mask_at line (place + size)
  pub fresh : Fresh line (place + size)

pub nothing : (line : Text) (outside : Bool) (place : ℕ) → Fresh line place → Run line outside place 0 (mask_at line place)
nothing line outside place fresh = record {
  symbols = λ k l. absurd (omega arith);
  rest = ap (mask_at line) (sym (add-zero place));
  fresh = subst (Fresh line) (sym (add-zero place)) fresh;
}

pub alike : (line : Text) (outside : Bool) (place size symbol : ℕ) (mask : List ℕ) → mask ≡ replicate size symbol ++ mask_at line (place + size)
    → ((k : ℕ) → k < size → IsSymbol line outside (place + k) symbol) → Fresh line (place + size) → Run line outside place size mask
alike line outside place size symbol mask e each fresh =
    let rest = mask_at line (place + size) in
    record {
      symbols = λ k l.
          subst (IsSymbol line outside (place + k))
          (sym (ap (λ m. slice_index m k) e ∙ get_or_append_left (replicate size symbol) rest 0 k (rw (length-replicate size symbol) l) ∙ get_or-replicate size k symbol 0 l))
          (each k l);
      rest = ap (drop size) e ∙ drop_at (replicate size symbol) rest size (length-replicate size symbol);
      fresh = fresh;
    }

pub joined : (line : Text) (outside : Bool) (place first second : ℕ) (mask : List ℕ) → Run line outside place first mask
    → Run line outside (place + first) second (mask_at line (place + first)) → Run line outside place (first + second) mask
joined line outside place first second mask a b =
    let later : place + first + second ≡ place + (first + second) = omega arith in
    record {
      symbols = λ k l.
          ⊎_elim (λ h. a.symbols k h)
          (λ h.
          let here : first + (k - first) ≡ k = omega arith in
          let there : place + first + (k - first) ≡ place + k = omega arith in
          let same : slice_index (mask_at line (place + first)) (k - first) ≡ slice_index mask k =
          ap (λ m. slice_index m (k - first)) (sym a.rest) ∙ get_or-drop first mask (k - first) 0 ∙ ap (slice_index mask) here in
          subst (IsSymbol line outside (place + k)) same
          (subst (λ p. IsSymbol line outside p (slice_index (mask_at line (place + first)) (k - first))) there (b.symbols (k - first) (omega arith))))
          (cases_lt k first);
      rest = sym (drop-drop second first mask) ∙ ap (drop second) a.rest ∙ b.rest ∙ ap (mask_at line) later;
      fresh = subst (Fresh line) later b.fresh;
    }
