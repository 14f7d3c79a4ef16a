-- Parts and words of a line, one after another.
use Rattle.std.proofs.Common.{arith, ◌≡◌, ℕ, false, not, List, [], ◌∷◌, ◌++◌, sym, ◌∙◌, ap, append_assoc, append-nil, filter}
use Rattle.kt_ninja_reader.proofs.Common.{list_any, slice_split, Plain, is_empty, Spelling, is_plain_byte, spelled_words, some_word}
use Rattle.kt_ninja_reader.proofs.lemmas.SpelledParts.{split_cut, split_free}

-- parts
pub parts_more : (mark : ℕ) (before : List Spelling) (part after rest : Spelling) (whole : List Spelling) → rest ≡ part ++ Plain mark ∷ after → list_any (is_plain_byte mark) part ≡ false
    → before ++ slice_split (is_plain_byte mark) rest ≡ whole → (before ++ part ∷ []) ++ slice_split (is_plain_byte mark) after ≡ whole
parts_more mark before part after rest whole is free h = grind (arith, append_assoc, split_cut)

pub parts_last : (mark : ℕ) (before : List Spelling) (rest : Spelling) (whole : List Spelling) → list_any (is_plain_byte mark) rest ≡ false
    → before ++ slice_split (is_plain_byte mark) rest ≡ whole → before ++ rest ∷ [] ≡ whole
parts_last mark before rest whole free h = ap (λ l. before ++ l) (sym (split_free mark rest free)) ∙ h

-- words
some_words : (words : List Spelling) (w : Spelling) → filter (λ word. not (is_empty word)) (w ∷ words) ≡ some_word w ++ filter (λ word. not (is_empty word)) words
some_words words w = grind arith

words_cut : (word after rest : Spelling) → rest ≡ word ++ Plain 32 ∷ after → list_any (is_plain_byte 32) word ≡ false → spelled_words rest ≡ some_word word ++ spelled_words after
unfolding spelled_words
words_cut word after rest is free = grind (arith, not, split_cut, some_words)

words_end : (rest : Spelling) → list_any (is_plain_byte 32) rest ≡ false → spelled_words rest ≡ some_word rest
unfolding spelled_words
words_end rest free = ap (filter (λ w. not (is_empty w))) (split_free 32 rest free) ∙ some_words [] rest ∙ append-nil (some_word rest)

pub words_more : (before now : List Spelling) (word after rest : Spelling) (whole : List Spelling) → rest ≡ word ++ Plain 32 ∷ after → list_any (is_plain_byte 32) word ≡ false
    → now ≡ before ++ some_word word → before ++ spelled_words rest ≡ whole → now ++ spelled_words after ≡ whole
words_more before now word after rest whole is free more h = grind (arith, append_assoc, words_cut)

pub words_last : (before now : List Spelling) (rest : Spelling) (whole : List Spelling) → list_any (is_plain_byte 32) rest ≡ false
    → now ≡ before ++ some_word rest → before ++ spelled_words rest ≡ whole → now ≡ whole
words_last before now rest whole free more h = more ∙ ap (λ l. before ++ l) (sym (words_end rest free)) ∙ h
