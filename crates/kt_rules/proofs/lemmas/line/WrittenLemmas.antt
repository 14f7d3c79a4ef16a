-- The words of a rule line, word by word.
use Rattle.std.proofs.Common.{◌≡◌, ℕ, ◌<◌, Bool, true, false, List, [], ◌∷◌, length, drop, take, filter, refl, sym, ◌∙◌, ap, arith, ⊎_elim, ◌==◌, if◌then◌else◌}
use Rattle.kt_rules.proofs.Common.{cases_Bool, false≢true, drop-prefix_len, Text, is_nonempty, is_separator, stripped_start, Separator, cuts, cut_place, cut_pieces, written_words}
use Rattle.kt_rules.specs.declared.line.cutting.Cut.{Cut}
use Rattle.kt_text.proofs.lemmas.WordLemmas.{filter_nonempty}

-- the pieces after the first
pieces_after : Cut → Bool → Text → List Text
pieces_after cut after_backslash [] = []
pieces_after cut after_backslash (byte ∷ text) =
    if cuts cut after_backslash byte then cut_pieces cut false text else pieces_after cut (byte == 92) text

-- the first piece ends at the first cut
pieces_first : (cut : Cut) (past : Bool) (text : Text)
    → cut_pieces cut past text ≡ take (cut_place cut past text) text ∷ pieces_after cut past text
unfolding cut_pieces cut_place pieces_after
pieces_first cut past [] = refl
pieces_first cut past (byte ∷ text) = grind (arith, ⊎_elim, cases_Bool, pieces_first cut (byte == 92) text)

-- a byte that cuts a text into words is a separator
separator_cuts : (past : Bool) (byte : ℕ) → cuts Separator past byte ≡ true → is_separator byte ≡ true
separator_cuts past byte h = grind (arith, ⊎_elim, false≢true, cases_Bool)

-- a separator before a text makes no word
written_words-skip : (byte : ℕ) (text : Text) → is_separator byte ≡ true → written_words (byte ∷ text) ≡ written_words text
unfolding cut_pieces written_words
written_words-skip byte text h = rw h refl

-- the pieces after the first that have a byte are the words of the text from the first cut on
after_first : (past : Bool) (text : Text)
    → filter is_nonempty (pieces_after Separator past text) ≡ written_words (drop (cut_place Separator past text) text)
unfolding cut_pieces cut_place pieces_after written_words
after_first past [] = refl
after_first past (byte ∷ text) = grind (arith, ⊎_elim, written_words-skip, separator_cuts, cases_Bool, after_first (byte == 92) text)

-- separators before a text make no word
pub written_words-begun : (text : Text) → written_words (stripped_start text) ≡ written_words text
unfolding written_words
written_words-begun [] = refl
written_words-begun (byte ∷ text) = grind (arith, ⊎_elim, drop-prefix_len, written_words-skip, cases_Bool, written_words-begun text)

-- a text without leading separators begins with a word
begun_place : (text : Text) → 0 < length (stripped_start text) → 0 < cut_place Separator false (stripped_start text)
unfolding cut_place
begun_place [] some = some
begun_place (byte ∷ text) some =
    ⊎_elim (λ h. let skip = drop-prefix_len is_separator byte text h in rw skip (begun_place text (rw skip at some))) (λ h. rw h (rw h (omega arith)))
    (cases_Bool (is_separator byte))

-- a nonempty part at the start of a nonempty text isn't empty
take_some : (n : ℕ) (text : Text) → 0 < n → 0 < length text → 0 < length (take n text)
take_some n text h some = grind arith

-- the first word of a text that has one, and the text after it
pub first_written : (text words : Text) → words ≡ stripped_start text → 0 < length words
    → written_words text ≡ take (cut_place Separator false words) words ∷ written_words (drop (cut_place Separator false words) words)
unfolding written_words
first_written text words e some =
    let place : 0 < cut_place Separator false words = rw e (begun_place text (rw e at some)) in
    sym (written_words-begun text) ∙ ap written_words (sym e) ∙ ap (filter is_nonempty) (pieces_first Separator false words)
    ∙ filter_nonempty (take (cut_place Separator false words) words) (pieces_after Separator false words) (take_some (cut_place Separator false words) words place some)
    ∙ ap (λ rest. take (cut_place Separator false words) words ∷ rest) (after_first false words)

-- a text of separators alone has no word
pub none_written : (text words : Text) → words ≡ stripped_start text → length words ≡ 0 → written_words text ≡ []
unfolding written_words cut_pieces
none_written text [] e none = sym (written_words-begun text) ∙ ap written_words (sym e)
none_written text (byte ∷ words) e none = absurd (omega arith)
