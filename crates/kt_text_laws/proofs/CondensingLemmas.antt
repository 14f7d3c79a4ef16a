-- The condensed text of a line has no newline.
use Rattle.std.proofs.Common.{◌≡◌, ◌<◌, ◌-◌, ◌==◌, ℕ, Bool, true, false, List, [], ◌∷◌, ◌++◌, length, take, refl, sym, ap, subst, arith, append-nil, cond, ⊎_elim}
use Rattle.kt_text.proofs.Common.{cases_Bool, eqb-true, false_from_ne_true, onto_first, no_cr, without_terminator, Text, trimmed_start, trimmed_end, is_continued, is_ended, groups, newline_pieces, before_backslash, trimmed_line, space_before, condensed_line, condensed_rest, condensed_group, condensed_of}
use Rattle.kt_text_laws.specs.Condensing.{IsLine}
use Rattle.kt_text.proofs.lemmas.CondensedLemmas.{condensed_alone, one_group}
use Rattle.kt_text_laws.proofs.NewlineLemmas.{IsFree, free_append, free_take, free_drop, free_space, free_nil, free_at}
use Rattle.kt_text_laws.proofs.LineTextLemmas.{content_ended}
use Rattle.kt_text.proofs.lemmas.GroupLemmas.{groups-ended, groups-continued, groups-begins}
use Rattle.kt_text_laws.proofs.GroupLemmas.{length-onto}

-- ---- the pieces of a text

-- each piece but the last has one newline, at its end; the last has none
unfoldable pub ArePieces : List Text → Type 0
ArePieces [] = ⊥
ArePieces (piece ∷ []) = IsFree piece
ArePieces (piece ∷ next ∷ pieces) = (front : Text) × (piece ≡ front ++ 10 ∷ []) × IsFree front × ArePieces (next ∷ pieces)

byte_before : (byte : ℕ) (pieces : List Text) → (byte == 10) ≡ false → ArePieces pieces → ArePieces (onto_first byte pieces)
unfolding ArePieces IsFree
byte_before byte [] h a = absurd a
byte_before byte (piece ∷ []) h a = (h, a)
byte_before byte (piece ∷ next ∷ pieces) h a = (byte ∷ a.0, ap (λ (t : Text). byte ∷ t) a.1, (h, a.2), a.3)

newline_before : (pieces : List Text) → ArePieces pieces → ArePieces ((10 ∷ []) ∷ pieces)
unfolding ArePieces IsFree
newline_before pieces a = grind arith

pub are_pieces : (text : Text) → ArePieces (newline_pieces text)
unfolding ArePieces IsFree newline_pieces
are_pieces [] = tt
are_pieces (byte ∷ text) = grind (arith, ⊎_elim, eqb-true, newline_before, byte_before, cases_Bool, are_pieces text)

-- ---- what a piece keeps

free_either : (test : Bool) (first second : Text) → IsFree first → IsFree second → IsFree (cond test first second)
free_either test first second a b = grind arith

pub free_no_cr : (text : Text) → IsFree text → IsFree (no_cr text)
free_no_cr text a = free_either _ (take (length text - 1) text) text (free_take (length text - 1) text a) a

-- the last piece
free_content : (line : Text) → IsFree line → IsFree (without_terminator line)
free_content line a = grind (arith, free_either, take, length, free_no_cr, free_take)

-- any other
pub front_content : (front : Text) → IsFree front → IsFree (without_terminator (front ++ 10 ∷ []))
front_content front a = subst IsFree (sym (content_ended front)) (free_no_cr front a)

pub free_backslash : (front : Text) → IsFree front → IsFree (before_backslash (front ++ 10 ∷ []))
free_backslash front a = free_take _ (without_terminator (front ++ 10 ∷ [])) (front_content front a)

free_space_before : (continued continues : Bool) (text : Text) → IsFree (space_before continued continues text)
free_space_before continued continues text = grind (arith, free_nil, free_space)

pub free_start : (text : Text) → IsFree text → IsFree (trimmed_start text)
free_start text a = free_drop _ text a

pub free_end : (text : Text) → IsFree text → IsFree (trimmed_end text)
free_end text a = free_take _ text a

free_more : (continued : Bool) (front : Text) → IsFree front → IsFree (trimmed_line continued true (front ++ 10 ∷ []))
free_more continued front a = grind (arith, free_end, free_backslash, free_start)

free_last : (continued : Bool) (line : Text) → IsFree line → IsFree (trimmed_line continued false line)
free_last continued line a = grind (arith, free_content, free_start)

pub no_end : (line : Text) → IsFree line → is_ended line ≡ false
unfolding is_ended
no_end [] a = refl
no_end (byte ∷ line) a = false_from_ne_true _ (λ h. free_at (byte ∷ line) a (length (byte ∷ line) - 1) (omega arith) (eqb-true _ 10 h))

more_is_free : (continued : Bool) (front : Text) → IsFree front → IsFree (condensed_line continued true (front ++ 10 ∷ []))
unfolding condensed_line
more_is_free continued front a = grind (arith, free_append, free_space_before, free_more, free_nil)

last_is_free : (continued : Bool) (line : Text) → IsFree line → IsFree (condensed_line continued false line)
unfolding condensed_line
last_is_free continued line a = grind (arith, no_end, free_append, free_space_before, free_last, free_nil)

rest_is_free : (lines : List Text) → ArePieces lines → IsFree (condensed_rest lines)
unfolding ArePieces condensed_rest
rest_is_free [] a = absurd a
rest_is_free (line ∷ []) a = last_is_free true line a
rest_is_free (line ∷ next ∷ lines) a =
    free_append (condensed_line true true line) (condensed_rest (next ∷ lines))
    (subst (λ (t : Text). IsFree (condensed_line true true t)) (sym a.1) (more_is_free true a.0 a.2)) (rest_is_free (next ∷ lines) a.3)

group_is_free : (lines : List Text) → ArePieces lines → IsFree (condensed_group lines)
unfolding ArePieces condensed_group
group_is_free lines a = grind (arith, last_is_free, free_append, more_is_free, rest_is_free)

-- ---- one group

onto_whole : (line : Text) (lines : List Text) → groups lines ≡ lines ∷ [] → onto_first line (groups lines) ≡ (line ∷ lines) ∷ []
onto_whole line lines h = ap (onto_first line) h

more_groups : (line : Text) (lines : List Text) → 0 < length (groups (line ∷ lines))
more_groups line lines = let b = groups-begins line lines in rw b.are (omega arith)

more_group : (more : Bool) (line next : Text) (lines : List Text) → is_continued line ≡ more → (length (groups (next ∷ lines)) ≡ 1 → groups (next ∷ lines) ≡ (next ∷ lines) ∷ [])
    → length (groups (line ∷ next ∷ lines)) ≡ 1 → groups (line ∷ next ∷ lines) ≡ (line ∷ next ∷ lines) ∷ []
more_group more line next lines h whole e = grind (arith, groups-continued, length-onto, more_groups, onto_whole, length, groups-ended)

whole_group : (lines : List Text) → length (groups lines) ≡ 1 → groups lines ≡ lines ∷ []
unfolding groups
whole_group [] e = absurd (omega arith)
whole_group (line ∷ []) e = one_group (is_continued line) line refl
whole_group (line ∷ next ∷ lines) e = more_group (is_continued line) line next lines refl (whole_group (next ∷ lines)) e

pub line_is_free : (line : Text) → IsLine line → IsFree (condensed_of line)
unfolding condensed_of
line_is_free line h = grind (arith, whole_group, append-nil, group_is_free, are_pieces)

pub condensed_once : (line : Text) → IsLine line → condensed_of (condensed_of line) ≡ condensed_of line
condensed_once line h = condensed_alone (condensed_of line) (free_at (condensed_of line) (line_is_free line h))
