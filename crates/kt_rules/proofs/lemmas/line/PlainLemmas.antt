-- The words and names of a text without a backslash, in which no separator is quoted.
use Rattle.std.proofs.Common.{arith, ◌≡◌, false, List, [], ◌∷◌, map, filter, refl, ap, ⊎_elim, ◌==◌}
use Rattle.kt_rules.proofs.Common.{list_any, onto_first, slice_split, cases_Bool, or_parts, Text, is_nonempty, is_separator, words_of, Separator, name_of, cut_pieces, without_dots, written_words, needs_of}
use Rattle.kt_rules.specs.inner.Telling.{is_backslash}
use Rattle.kt_rules.proofs.lemmas.line.BackslashLemmas.{names_itself}
use Rattle.kt_rules.proofs.lemmas.line.NeedsLemmas.{before_all, needs_from}
use Rattle.kt_rules.proofs.lemmas.line.NoneLemmas.{none_left, none_taken}
use Rattle.kt_rules.proofs.lemmas.line.SignLemmas.{none_in_words}

-- it is cut at each separator
plain_pieces : (text : Text) → list_any is_backslash text ≡ false → cut_pieces Separator false text ≡ slice_split is_separator text
unfolding cut_pieces
plain_pieces [] none = refl
plain_pieces (byte ∷ text) none =
    let parts = or_parts (byte == 92) (list_any is_backslash text) none in
    let rest = plain_pieces text parts.1 in
    ⊎_elim (λ h. rw h (ap (λ (pieces : List Text). [] ∷ pieces) rest)) (λ h. rw h (rw parts.0 (ap (onto_first byte) rest)))
    (cases_Bool (is_separator byte))

plain_words : (text : Text) → list_any is_backslash text ≡ false → written_words text ≡ words_of text
unfolding written_words words_of
plain_words text none = ap (filter is_nonempty) (plain_pieces text none)

names_themselves : (words : List Text) → list_any (list_any is_backslash) words ≡ false → map without_dots words ≡ map name_of words
names_themselves [] none = refl
names_themselves (word ∷ words) none =
    let parts = or_parts (list_any is_backslash word) (list_any (list_any is_backslash) words) none in
    rw (names_itself word parts.0, names_themselves words parts.1) refl

-- its words spell themselves
pub plain_names : (text : Text) → list_any is_backslash text ≡ false → map without_dots (words_of text) ≡ map name_of (written_words text)
plain_names text none = grind (arith, plain_words, names_themselves, none_in_words)

-- also where they are cut at the bar
pub plain_needs_from : (text : Text) → list_any is_backslash text ≡ false → needs_from without_dots false [] [] (words_of text) ≡ needs_of (written_words text)
unfolding needs_of
plain_needs_from text none = grind (arith, none_in_words, needs_from, plain_words, before_all, names_themselves, none_taken, none_left)
