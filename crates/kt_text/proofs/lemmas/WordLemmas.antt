-- The words of a text, word by word.
use Rattle.std.proofs.Common.{◌≡◌, ℕ, ◌+◌, ◌-◌, ◌<◌, ◌≤◌, Bool, true, false, List, [], ◌∷◌, length, get_or, drop, take, refl, sym, ◌∙◌, ap, filter, not, arith, add-zero, ⊎_elim}
use Rattle.kt_text.proofs.Common.{position_or_len, prefix_len, onto_first, drop_more, take_all, drop_all, length-take-le, length-drop, get_or-drop, take_rest, nil_from_length, passes_at_first, fails_before_first, cases_lt, cases_Bool, false≢true, Text, is_separator, is_nonempty, words_of}
use Rattle.std.proofs.lemmas.List.Splits.{slice_split_first, slice_split_none, slice_split-cons_yes, slice_split-cons_no}
use Rattle.kt_text.proofs.lemmas.PlaceLemmas.{drop-prefix_len}

pub words_of-skip : (byte : ℕ) (text : Text) → is_separator byte ≡ true → words_of (byte ∷ text) ≡ words_of text
unfolding words_of
words_of-skip byte text h = ap (filter is_nonempty) (slice_split-cons_yes is_separator byte text h)

pub words_of-nil : words_of [] ≡ []
unfolding words_of
words_of-nil = refl

-- separators in front of a text make no word
pub words_of-drop : (text : Text) → words_of (drop (position_or_len (λ byte. not (is_separator byte)) text) text) ≡ words_of text
words_of-drop [] = refl
words_of-drop (byte ∷ text) =
    let passed : ℕ → Bool = λ x. not (not (is_separator x)) in
    let goal : Type 0 = words_of (drop (prefix_len passed (byte ∷ text)) (byte ∷ text)) ≡ words_of (byte ∷ text) in
    let step : (b : Bool) → is_separator byte ≡ b → goal
    = λ b. elim b as (λ v. is_separator byte ≡ v → goal) [
      | true ↦ λ h. ap words_of (drop-prefix_len passed byte text (rw h refl)) ∙ words_of-drop text ∙ sym (words_of-skip byte text h)
      | false ↦ λ h. rw h refl
    ] in
    step (is_separator byte) refl

pub filter_nonempty : (word : Text) (rest : List Text) → 0 < length word → filter is_nonempty (word ∷ rest) ≡ word ∷ filter is_nonempty rest
filter_nonempty word rest h = grind arith

-- a text that is one word
word_alone : (text : Text) → 0 < length text → length text ≤ position_or_len is_separator text
    → words_of text ≡ text ∷ []
unfolding words_of
word_alone text some h = grind (arith, slice_split_none, fails_before_first, filter_nonempty)

-- a word with a separator after it
word_cut : (text : Text) (n : ℕ) → n ≡ position_or_len is_separator text → 0 < n → n < length text → words_of text ≡ take n text ∷ words_of (drop (n + 1) text)
unfolding words_of
word_cut text n e some h = grind (arith, length, slice_split_first, filter_nonempty, take, length-take-le)

after_word : (text : Text) (n : ℕ) → n ≡ position_or_len is_separator text → n < length text → words_of (drop n text) ≡ words_of (drop (n + 1) text)
after_word text n e h =
    let at : position_or_len is_separator text < length text = omega arith in
    let yes : is_separator (get_or text n 0) ≡ true = rw (← e) at (passes_at_first is_separator text 0 at) in
    ap words_of (drop_more text n 0 h) ∙ words_of-skip (get_or text n 0) (drop (n + 1) text) yes

-- a text that begins with a word
pub words_of-word : (text : Text) (n : ℕ) → n ≡ position_or_len is_separator text → 0 < n → 0 < length text
    → words_of text ≡ take n text ∷ words_of (drop n text)
words_of-word text n e some nonempty = grind (arith, ⊎_elim, word_cut, take, after_word, word_alone, take_all, words_of-nil, drop_all, cases_lt, length)

-- a text after its leading separators
abbrev pub leading : Text → ℕ
leading text = position_or_len (λ byte. not (is_separator byte)) text

separator_clash : (byte : ℕ) → is_separator byte ≡ true → not (is_separator byte) ≡ true → ⊥
separator_clash byte passes fails = false≢true (rw passes at fails)

word_begins : (text : Text) (n : ℕ) → n ≡ leading text → n < length text → 0 < position_or_len is_separator (drop n text)
word_begins text n e h =
    let fails : not (is_separator (get_or text n 0)) ≡ true = rw (← e) at (passes_at_first (λ byte. not (is_separator byte)) text 0 (omega arith)) in
    ⊎_elim (λ l. l)
    (λ l. let zero_place : position_or_len is_separator (drop n text) ≡ 0 = omega arith in
    let inside : position_or_len is_separator (drop n text) < length (drop n text) = rw (length-drop n text) (omega arith) in
    let passes : is_separator (get_or (drop n text) 0 0) ≡ true = rw zero_place at (passes_at_first is_separator (drop n text) 0 inside) in
    let same : get_or (drop n text) 0 0 ≡ get_or text n 0 = get_or-drop n text 0 0 ∙ ap (λ i. get_or text i 0) (add-zero n) in
    absurd (separator_clash (get_or text n 0) (rw same at passes) fails))
    (cases_lt 0 (position_or_len is_separator (drop n text)))

-- the first word of a text that has one, with what stands after it
pub first_word_cut : (text begun : Text) (n end : ℕ) → n ≡ leading text → begun ≡ take (length text - n) (drop n text)
    → end ≡ position_or_len is_separator begun → 0 < length begun → words_of text ≡ take end begun ∷ words_of (drop end begun)
first_word_cut text begun n end start b e some = grind (arith, take_rest, length, length-drop, word_begins, words_of-drop, words_of-word)

pub no_first_word : (text begun : Text) (n : ℕ) → n ≡ leading text → begun ≡ take (length text - n) (drop n text)
    → length begun ≡ 0 → words_of text ≡ []
no_first_word text begun n start b none = grind (arith, words_of-drop, take_rest, nil_from_length, words_of-nil)

count_onto_first : (byte : ℕ) (parts : List Text) → length (filter is_nonempty (onto_first byte parts)) ≤ 1 + length (filter is_nonempty parts)
count_onto_first byte parts = grind arith

-- there are no more words than bytes
pub word_count_bound : (text : Text) → length (words_of text) ≤ length text
unfolding words_of
word_count_bound [] = omega arith
word_count_bound (byte ∷ text) = grind (arith, ⊎_elim, slice_split-cons_yes, slice_split-cons_no, count_onto_first, cases_Bool, word_count_bound text)
