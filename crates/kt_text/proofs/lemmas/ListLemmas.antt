-- A list of words that is written one after another.
use Rattle.std.proofs.Common.{◌≡◌, ℕ, suc, List, [], ◌∷◌, ◌++◌, refl, sym, ◌∙◌, ap, filter, append_assoc, append-nil, unwrap_or, length, ◌-◌, ◌<◌, arith, take, drop, zero}
use Rattle.kt_text.proofs.Common.{join_with_byte, slice_get, slice_range, drop_all, take_all, Text, is_nonempty, list_text, put_word, word_at, joined_pairs}

-- the words of a list after a list of words as a text
abbrev pub put_words : Text → List Text → Text
put_words list [] = list
put_words list (word ∷ later) = put_words (put_word list word) later

join_twice : (front word : Text) (later : List Text) → join_with_byte 32 ((front ++ (32 ∷ word)) ∷ later) ≡ join_with_byte 32 (front ∷ word ∷ later)
join_twice front word later = grind (arith, append_assoc)

put_after : (first : ℕ) (list : Text) (later : List Text) → put_words (first ∷ list) later ≡ join_with_byte 32 ((first ∷ list) ∷ filter is_nonempty later)
put_after first list [] = refl
put_after first list ([] ∷ later) = put_after first list later
put_after first list ((byte ∷ word) ∷ later) = put_after first (list ++ (32 ∷ byte ∷ word)) later ∙ join_twice (first ∷ list) (byte ∷ word) (filter is_nonempty later)

pub put_words_is : (words : List Text) → put_words [] words ≡ list_text words
unfolding list_text
put_words_is [] = refl
put_words_is ([] ∷ later) = put_words_is later
put_words_is ((byte ∷ word) ∷ later) = put_after byte word later

-- the last word of a list, or the text where there is none
abbrev pub last_after : Text → List Text → Text
last_after text [] = text
last_after text (word ∷ later) = last_after word later

pub last_after_is : (text : Text) (words : List Text) → last_after text words ≡ unwrap_or (slice_get (text ∷ words) (length words)) []
last_after_is text [] = refl
last_after_is text (word ∷ later) = last_after_is word later

by_one : (n : ℕ) → n ≡ suc n - 1
by_one n = omega arith

pub last_word_is : (words : List Text) → last_after [] words ≡ word_at words (length words - 1)
last_word_is [] = refl
last_word_is (word ∷ later) = last_after_is word later ∙ ap (λ i. word_at (word ∷ later) i) (by_one (length later))

-- words between two places, word by word
no_less : (n : ℕ) → 0 - n ≡ 0
no_less n = omega arith

pub range_none : (words : List Text) (start : ℕ) → slice_range words start 0 ≡ []
range_none words start = ap (λ n. take n (drop start words)) (no_less start)

pub range_past : (word : Text) (later : List Text) (start end : ℕ) → 0 < start → 0 < end → slice_range (word ∷ later) start end ≡ slice_range later (start - 1) (end - 1)
range_past word later start end some more = grind arith

pub range_taken : (word : Text) (later : List Text) (end : ℕ) → 0 < end → slice_range (word ∷ later) 0 end ≡ word ∷ slice_range later 0 (end - 1)
range_taken word later end more = grind (arith, take)

pub range_empty : (start end : ℕ) → slice_range {X = Text} [] start end ≡ []
range_empty start end = ap (take (end - start)) (drop_all start [] (omega arith)) ∙ take_all (end - start) [] (omega arith)

pub ruleset range_steps = (range_none, range_past, range_taken, range_empty)

-- pairs of words, pair by pair
pub pairs_none : (seconds : List Text) → joined_pairs [] seconds ≡ seconds
unfolding joined_pairs
pairs_none seconds = refl

pub pairs_both : (first second : Text) (firsts seconds : List Text) → joined_pairs (first ∷ firsts) (second ∷ seconds) ≡ (first ++ second) ∷ joined_pairs firsts seconds
unfolding joined_pairs
pairs_both first second firsts seconds = refl

pub pairs_alone : (firsts : List Text) → joined_pairs firsts [] ≡ firsts
unfolding joined_pairs
pairs_alone [] = refl
pairs_alone (first ∷ firsts) = refl

pub ruleset pair_steps = (pairs_none, pairs_both, pairs_alone, append-nil)

pub ruleset join_steps = (put_words_is, pair_steps)
