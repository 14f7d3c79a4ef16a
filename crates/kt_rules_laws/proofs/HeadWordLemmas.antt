-- The words of a head: each text is cut into words and separators, in one way.
use Rattle.std.proofs.Common.{rules, ◌≡◌, ℕ, suc, Bool, true, false, List, [], ◌∷◌, ◌++◌, length, take, map, filter, flat_map, All, refl, sym, ap, subst, ◌∙◌, true≢false, arith, ⊎_elim, ◌⊎◌, inl, inr, append_assoc, append-nil, ◌==◌}
use Rattle.kt_rules.proofs.Common.{onto_first, All-cons, All-head, All-nil, All-tail, less_one, and_nothing, Text, is_nonempty, is_separator, cut_pieces, written_words}
use Rattle.kt_text_laws.proofs.Places.{none_in}
use Rattle.kt_rules.specs.declared.line.cutting.Cut.TheVariants.{Separator}
use Rattle.kt_rules.specs.views.Cuts.{ends_in_backslash}
use Rattle.kt_rules_laws.specs.HeadWords.{separates, HoldsNoSeparator, HeadWord, part_text, part_word, IsPart, HasGap, AreSeparated, AreWords, WrittenWordsLaw}
use Rattle.kt_rules_laws.proofs.PartLemmas.{AreSeparators, QuotesNone, first_is, others_are, one_more_is, no_backslash, cuts_is, is_one, not_quoted, separates_too, holds_less, holds_none, holds_more}

-- a word ends at the first byte that separates
word_ends : (before : Bool) (word rest : Text) (byte : ℕ) → HoldsNoSeparator before word
    → separates (ends_in_backslash before word) byte ≡ true
    → cut_pieces Separator before (word ++ byte ∷ rest) ≡ word ∷ cut_pieces Separator false rest
unfolding cut_pieces
word_ends before [] rest byte h s = rw (cuts_is before byte ∙ s) refl
word_ends before (first ∷ word) rest byte h s =
    rw (cuts_is before first ∙ h [] word first refl)
    (ap (onto_first first) (word_ends (first == 92) word rest byte (holds_less before first word h) s))

-- or at the end of the text
word_alone : (before : Bool) (word : Text) → HoldsNoSeparator before word → cut_pieces Separator before word ≡ word ∷ []
unfolding cut_pieces
word_alone before [] h = refl
word_alone before (first ∷ word) h =
    rw (cuts_is before first ∙ h [] word first refl)
    (ap (onto_first first) (word_alone (first == 92) word (holds_less before first word h)))

-- separators make no word
one_skipped : (byte : ℕ) (text : Text) → is_separator byte ≡ true → written_words (byte ∷ text) ≡ written_words text
unfolding cut_pieces written_words
one_skipped byte text h = rw h refl

gap_skipped : (gap rest : Text) → AreSeparators gap → written_words (gap ++ rest) ≡ written_words rest
gap_skipped [] rest h = refl
gap_skipped (byte ∷ gap) rest h = grind (arith, one_skipped, first_is, others_are, gap_skipped gap rest (others_are byte gap h))

word_kept : (word : Text) (words : List Text) → is_nonempty word ≡ true
    → filter is_nonempty (word ∷ words) ≡ word ∷ filter is_nonempty words
word_kept word words h = grind (arith, true≢false)

-- where there is no separator, nothing follows
abbrev Goes : {A : Type 0} → Text → List A → Type 0
Goes gap rest = (is_nonempty gap ≡ true) ⊎ (rest ≡ [])

-- a word with separators after it, or at the end of the text
one_word : (word gap rest : Text) → is_nonempty word ≡ true → HoldsNoSeparator false word → AreSeparators gap
    → QuotesNone false word gap → Goes gap rest
    → written_words ((word ++ gap) ++ rest) ≡ word ∷ written_words rest
unfolding cut_pieces written_words
one_word word [] rest some holds gaps q end = grind (arith, ⊎_elim, true≢false, append-nil, word_alone, word_kept)
one_word word (byte ∷ gap) rest some holds gaps q end = grind (arith, first_is, append_assoc, word_ends, separates_too, word_kept, gap_skipped, others_are)

-- the gaps of parts, without the first, and with one more
apart_first : (part next : HeadWord) (parts : List HeadWord) → AreSeparated (part ∷ next ∷ parts) → HasGap part
apart_first part next parts h = grind (arith, All-head, take, length, less_one)

apart_less : (part next : HeadWord) (parts : List HeadWord) → AreSeparated (part ∷ next ∷ parts)
    → AreSeparated (next ∷ parts)
apart_less part next parts h =
    subst (λ n. All HasGap (take n (next ∷ parts))) (sym (less_one (length parts)))
    (All-tail HasGap part (take (length parts) (next ∷ parts))
    (subst (λ n. All HasGap (take n (part ∷ next ∷ parts))) (less_one (suc (length parts))) h))

apart_more : (part : HeadWord) (parts : List HeadWord) → Goes part.gap parts → AreSeparated parts
    → AreSeparated (part ∷ parts)
apart_more part parts g h = grind (arith, take, less_one, All-nil, ⊎_elim, none_in, length, All-cons)

-- parts that are put together are cut again
words_of_parts : (parts : List HeadWord) → All IsPart parts → AreSeparated parts
    → written_words (flat_map part_text parts) ≡ map part_word parts
unfolding written_words cut_pieces
words_of_parts [] each apart = refl
words_of_parts (part ∷ []) each apart = search (rules, All-head, one_word)
words_of_parts (part ∷ next ∷ parts) each apart =
    let one = All-head IsPart part (next ∷ parts) each in
    one_word part.word part.gap (flat_map part_text (next ∷ parts))
    one.some one.whole one.past.separators one.past.unquoted
    (inl (apart_first part next parts apart))
    ∙ ap (λ (words : List Text). part.word ∷ words)
    (words_of_parts (next ∷ parts) (All-tail IsPart part (next ∷ parts) each) (apart_less part next parts apart))

are_written : (text leading : Text) (parts : List HeadWord) → text ≡ leading ++ flat_map part_text parts
    → AreSeparators leading
    → All IsPart parts → AreSeparated parts → written_words text ≡ map part_word parts
are_written text leading parts e gap each apart = grind (arith, gap_skipped, words_of_parts)

-- a text cut up after a byte: the rest of a word, separators, and parts
record CutUp (before : Bool) (text : Text) : Type 0 where
  first : Text
  gap : Text
  parts : List HeadWord
  together : text ≡ first ++ (gap ++ flat_map part_text parts)
  holds : HoldsNoSeparator before first
  separators : AreSeparators gap
  unquoted : QuotesNone before first gap
  each : All IsPart parts
  apart : AreSeparated parts
  between : Goes gap parts

abbrev part_of : Text → Text → HeadWord
part_of word gap = record { word = word; gap = gap }

is_part : (byte : ℕ) (word gap : Text) → HoldsNoSeparator false (byte ∷ word) → AreSeparators gap
    → QuotesNone false (byte ∷ word) gap → IsPart (part_of (byte ∷ word) gap)
is_part byte word gap holds gaps q = grind arith

-- a byte that separates, before a word or before separators
cut_gap : (before : Bool) (byte : ℕ) (text first gap : Text) (parts : List HeadWord) → separates before byte ≡ true
    → text ≡ first ++ (gap ++ flat_map part_text parts) → HoldsNoSeparator false first → AreSeparators gap
    → QuotesNone false first gap → All IsPart parts → AreSeparated parts
    → Goes gap parts → CutUp before (byte ∷ text)
cut_gap before byte text [] gap parts s e holds gaps q each apart between = record {
  first = [];
  gap = byte ∷ gap;
  parts = parts;
  together = ap (λ (xs : Text). byte ∷ xs) e;
  holds = holds_none before;
  separators = one_more_is byte gap (is_one before byte s) gaps;
  unquoted = not_quoted before byte s;
  each = each;
  apart = apart;
  between = inl refl;
}
cut_gap before byte text (letter ∷ word) gap parts s e holds gaps q each apart between = record {
  first = [];
  gap = byte ∷ [];
  parts = part_of (letter ∷ word) gap ∷ parts;
  together = ap (λ (xs : Text). byte ∷ xs) (e ∙ sym (append_assoc (letter ∷ word) gap (flat_map part_text parts)));
  holds = holds_none before;
  separators = one_more_is byte [] (is_one before byte s) refl;
  unquoted = not_quoted before byte s;
  each = All-cons IsPart (part_of (letter ∷ word) gap) parts (is_part letter word gap holds gaps q) each;
  apart = apart_more (part_of (letter ∷ word) gap) parts between apart;
  between = inl refl;
}

cut_more : (before : Bool) (byte : ℕ) (text : Text) → CutUp (byte == 92) text → (b : Bool) → separates before byte ≡ b
    → CutUp before (byte ∷ text)
cut_more before byte text rest true s = grind (arith, no_backslash, is_one, cut_gap)
cut_more before byte text rest false s = record {
  first = byte ∷ rest.first;
  gap = rest.gap;
  parts = rest.parts;
  together = ap (λ (xs : Text). byte ∷ xs) rest.together;
  holds = holds_more before byte rest.first s rest.holds;
  separators = rest.separators;
  unquoted = rest.unquoted;
  each = rest.each;
  apart = rest.apart;
  between = rest.between;
}

cut_up : (before : Bool) (text : Text) → CutUp before text
cut_up before [] = record {
  first = [];
  gap = [];
  parts = [];
  together = refl;
  holds = holds_none before;
  separators = refl;
  unquoted = and_nothing before;
  each = All-nil IsPart;
  apart = λ k d within. absurd (omega (arith, within));
  between = inr refl;
}
cut_up before (byte ∷ text) = cut_more before byte text (cut_up (byte == 92) text) (separates before byte) refl

from_all : (text leading : Text) (parts : List HeadWord) → text ≡ leading ++ flat_map part_text parts
    → AreSeparators leading → All IsPart parts → AreSeparated parts → AreWords text (written_words text)
from_all text leading parts e gap each apart = grind (arith, are_written)

-- from the start: the first word may be missing
from_parts : (text first gap : Text) (parts : List HeadWord) → text ≡ first ++ (gap ++ flat_map part_text parts)
    → HoldsNoSeparator false first → AreSeparators gap → QuotesNone false first gap → All IsPart parts → AreSeparated parts
    → Goes gap parts → AreWords text (written_words text)
from_parts text [] gap parts e holds gaps q each apart between = from_all text gap parts e gaps each apart
from_parts text (letter ∷ word) gap parts e holds gaps q each apart between =
    from_all text [] (part_of (letter ∷ word) gap ∷ parts)
    (e ∙ sym (append_assoc (letter ∷ word) gap (flat_map part_text parts))) refl
    (All-cons IsPart (part_of (letter ∷ word) gap) parts (is_part letter word gap holds gaps q) each)
    (apart_more (part_of (letter ∷ word) gap) parts between apart)

some_words : (text : Text) → AreWords text (written_words text)
some_words text =
    let cut = cut_up false text in
    from_parts text cut.first cut.gap cut.parts cut.together cut.holds cut.separators cut.unquoted cut.each
    cut.apart cut.between

only_words : (text : Text) (words : List Text) → AreWords text words → words ≡ written_words text
only_words text words are = grind (arith, are_written)

pub written_words_law : WrittenWordsLaw
written_words_law = record { some = some_words; only = only_words }
