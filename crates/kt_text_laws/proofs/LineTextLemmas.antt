-- The text of each logical line of a text is a line: each newline of it is continued.
use Rattle.std.proofs.Common.{◌≡◌, ◌⊎◌, ◌<◌, ◌≤◌, ◌+◌, ◌-◌, ◌==◌, ℕ, zero, suc, Bool, true, false, List, [], ◌∷◌, ◌++◌, length, take, drop, get_or, refl, sym, ap, subst, ◌∙◌, arith, append-nil, append_assoc, length-append, length-drop, length-take-le, take-append-drop, drop-drop, cond, inl, inr, ⊎_elim, slice_range}
use Rattle.kt_text.proofs.Common.{cases_Bool, eqb-true, eq-eqb, lt-ltb, take_at, drop_at, take-append-le, get_or-append_seam, take-append-add, All, onto_first, concat, flat_map, line_len, lines_of, no_cr, without_terminator, line_len-bounds, lines-nil, lines-step, Text, is_continued, groups, newline_pieces, kept_of_last, kept_length, lines_from, logical_lines_of}
use Rattle.kt_text.specs.declared.line.Line.{Line}
use Rattle.kt_text_laws.specs.Condensing.{IsLine}
use Rattle.kt_text.proofs.lemmas.CondensedLemmas.{one_piece, one_group}
use Rattle.kt_text.proofs.lemmas.GroupLemmas.{groups-ended, groups-continued, groups-begins}
use Rattle.kt_text_laws.proofs.GroupLemmas.{length-onto}
use Rattle.kt_text_laws.proofs.NewlineLemmas.{IsFree, free_take, free_at}
use Rattle.kt_text.proofs.lemmas.OrderLemmas.{kept_within}

-- ---- the physical lines of a text

-- one newline, at the end
abbrev EndsOnce : Text → Type 0
EndsOnce line = (front : Text) × (line ≡ front ++ 10 ∷ []) × IsFree front

-- a front of a text is all of it without newline, or ends with the first newline
abbrev IsCut : Text → ℕ → Type 0
IsCut text size = (IsFree (take size text) × (drop size text ≡ [])) ⊎ EndsOnce (take size text)

cut_after : (byte : ℕ) (text : Text) (size : ℕ) → (byte == 10) ≡ false → IsCut text size → IsCut (byte ∷ text) (suc size)
unfolding IsFree
cut_after byte text size h cut =
    ⊎_elim (λ a. inl ((h, a.0), a.1)) (λ a. inr (byte ∷ a.0, ap (λ (t : Text). byte ∷ t) a.1, (h, a.2))) cut

cut_first : (text : Text) → IsCut text (line_len text)
unfolding IsFree line_len
cut_first [] = inl (tt, refl)
cut_first (byte ∷ text) = grind (arith, ⊎_elim, eqb-true, cut_after, cases_Bool, cut_first text)

-- lines of which each ends with its one newline; the last may have none
AreLines : List Text → Type 0
AreLines [] = Unit {0}
AreLines (line ∷ []) = IsFree line ⊎ EndsOnce line
AreLines (line ∷ next ∷ lines) = EndsOnce line × AreLines (next ∷ lines)

line_before : (line : Text) (lines : List Text) → EndsOnce line → AreLines lines → AreLines (line ∷ lines)
unfolding AreLines
line_before line lines e a = grind arith

last_cut : (line text : Text) → IsFree line → text ≡ [] → AreLines (line ∷ lines_of text)
unfolding AreLines
last_cut line text a none = subst (λ (found : List Text). AreLines (line ∷ found)) (sym (ap lines_of none ∙ lines-nil)) (inl a)

are_lines : (fuel : ℕ) (text : Text) → length text ≤ fuel → AreLines (lines_of text)
unfolding AreLines
are_lines fuel [] small = subst AreLines (sym lines-nil) tt
are_lines zero (byte ∷ text) small = absurd (omega arith)
are_lines (suc fuel) (byte ∷ text) small =
    let whole : Text = byte ∷ text in
    let size : ℕ = line_len whole in
    let bounds = line_len-bounds whole (omega arith) in
    let back = length-drop (line_len whole) whole in
    let fits : length (drop (line_len whole) whole) ≤ fuel = omega (arith, bounds.0) in
    subst AreLines (sym (lines-step whole (omega arith)))
    (⊎_elim (λ a. last_cut (take size whole) (drop size whole) a.0 a.1)
    (λ e. line_before (take size whole) (lines_of (drop size whole)) e (are_lines fuel (drop size whole) fits)) (cut_first whole))

concat_cut : (fuel : ℕ) (text : Text) → length text ≤ fuel → concat (lines_of text) ≡ text
concat_cut fuel [] small = ap concat lines-nil
concat_cut zero (byte ∷ text) small = absurd (omega arith)
concat_cut (suc fuel) (byte ∷ text) small =
    let whole : Text = byte ∷ text in
    let bounds = line_len-bounds whole (omega arith) in
    let back = length-drop (line_len whole) whole in
    let fits : length (drop (line_len whole) whole) ≤ fuel = omega (arith, bounds.0) in
    ap concat (lines-step whole (omega arith)) ∙ ap (λ t. take (line_len whole) whole ++ t) (concat_cut fuel (drop (line_len whole) whole) fits)
    ∙ take-append-drop (line_len whole) whole

-- ---- what a last line keeps has no newline

no_longer : (test : Bool) (first second : Text) → length first ≤ length second → length (cond test first second) ≤ length second
no_longer test first second l = grind arith

length-no_cr : (text : Text) → length (no_cr text) ≤ length text
length-no_cr text = no_longer _ (take (length text - 1) text) text (let l = length-take-le (length text - 1) text (omega arith) in omega arith)

-- a line with its newline, and what it is without
pub content_ended : (front : Text) → without_terminator (front ++ 10 ∷ []) ≡ no_cr front
content_ended front = grind (arith, length, length-append, get_or-append_seam, take, take_at, lt-ltb, eq-eqb)

kept_ended : (front : Text) → kept_of_last (front ++ 10 ∷ []) ≤ length front
unfolding kept_of_last
kept_ended front = grind (arith, length, content_ended, length-no_cr)

free_ended : (front : Text) → IsFree front → IsFree (take (kept_of_last (front ++ 10 ∷ [])) (front ++ 10 ∷ []))
free_ended front a = grind (arith, take-append-le, kept_ended, free_take)

free_kept : (line : Text) → IsFree line ⊎ EndsOnce line → IsFree (take (kept_of_last line) line)
free_kept line either = grind (arith, ⊎_elim, free_take, take, free_ended)

-- ---- groups

-- each line but the last is continued, and what the last keeps has no newline
IsGroup : List Text → Type 0
IsGroup [] = ⊥
IsGroup (line ∷ []) = IsFree (take (kept_of_last line) line)
IsGroup (line ∷ next ∷ lines) = EndsOnce line × (is_continued line ≡ true) × IsGroup (next ∷ lines)

AreGroups : List (List Text) → Type 0
AreGroups [] = Unit {0}
AreGroups (group ∷ later) = IsGroup group × AreGroups later

groups_step : (more : Bool) (line next : Text) (lines : List Text) → is_continued line ≡ more → EndsOnce line → AreGroups (groups (next ∷ lines))
    → AreGroups (groups (line ∷ next ∷ lines))
unfolding IsGroup AreGroups
groups_step more line next lines h e a = grind (arith, groups-begins, groups-continued, groups-ended, free_kept)

are_groups : (lines : List Text) → AreLines lines → AreGroups (groups lines)
unfolding AreLines IsGroup AreGroups groups
are_groups [] a = tt
are_groups (line ∷ []) a = subst AreGroups (sym (one_group (is_continued line) line refl)) (free_kept line a, tt)
are_groups (line ∷ next ∷ lines) a = groups_step (is_continued line) line next lines refl a.0 (are_groups (next ∷ lines) a.1)

-- they have the bytes of the lines
concat_onto : (line : Text) (found : List (List Text)) → flat_map concat (onto_first line found) ≡ line ++ flat_map concat found
concat_onto line found = grind (arith, append-nil, append_assoc)

concat_by : (more : Bool) (line : Text) (lines : List Text) → is_continued line ≡ more
    → flat_map concat (groups (line ∷ lines)) ≡ line ++ flat_map concat (groups lines)
concat_by more line lines h = grind (arith, groups-continued, concat_onto, groups-ended, append-nil)

concat_grouped : (lines : List Text) → flat_map concat (groups lines) ≡ concat lines
unfolding groups
concat_grouped [] = refl
concat_grouped (line ∷ lines) = concat_by (is_continued line) line lines refl ∙ ap (λ t. line ++ t) (concat_grouped lines)

-- ---- the text that a group keeps

kept_text : List Text → Text
kept_text [] = []
kept_text (line ∷ []) = take (kept_of_last line) line
kept_text (line ∷ next ∷ lines) = line ++ kept_text (next ∷ lines)

kept_is : (group : List Text) (after : Text) → take (kept_length group) (concat group ++ after) ≡ kept_text group
unfolding kept_length kept_text
kept_is [] after = refl
kept_is (line ∷ []) after = grind (arith, take, append-nil, take-append-le, kept_within)
kept_is (line ∷ next ∷ lines) after = grind (arith, take, length, append_assoc, take-append-add, kept_is (next ∷ lines) after)

-- an ended line is the first piece of a text that begins with it
pub pieces_after : (front after : Text) → IsFree front → newline_pieces ((front ++ 10 ∷ []) ++ after) ≡ (front ++ 10 ∷ []) ∷ newline_pieces after
unfolding newline_pieces IsFree
pieces_after [] after a = refl
pieces_after (byte ∷ front) after a = rw a.0 (ap (onto_first byte) (pieces_after front after a.1))

one_more : (line after : Text) → newline_pieces (line ++ after) ≡ line ∷ newline_pieces after → is_continued line ≡ true → IsLine after → IsLine (line ++ after)
one_more line after cut h one = grind (arith, length, groups-continued, length-onto)

one_more_ended : (line after : Text) → EndsOnce line → is_continued line ≡ true → IsLine after → IsLine (line ++ after)
one_more_ended line after e h one = grind (arith, one_more, pieces_after)

group_is_line : (group : List Text) → IsGroup group → IsLine (kept_text group)
unfolding IsGroup kept_text
group_is_line [] a = absurd a
group_is_line (line ∷ []) a = grind (arith, take, length, one_piece, free_at, one_group)
group_is_line (line ∷ next ∷ lines) a = one_more_ended line (kept_text (next ∷ lines)) a.0 a.1 (group_is_line (next ∷ lines) a.2)

-- ---- logical lines

text_of_group : (text : Text) (start : ℕ) (group : List Text) (after : Text) → drop start text ≡ concat group ++ after
    → slice_range text start (start + kept_length group) ≡ kept_text group
text_of_group text start group after on =
    let size : start + kept_length group - start ≡ kept_length group = omega arith in
    ap (λ n. take n (drop start text)) size ∙ ap (take (kept_length group)) on ∙ kept_is group after

text_after : (text : Text) (start : ℕ) (group : List Text) (after : Text) → drop start text ≡ concat group ++ after
    → drop (start + length (concat group)) text ≡ after
text_after text start group after on =
    sym (drop-drop (length (concat group)) start text) ∙ ap (drop (length (concat group))) on ∙ drop_at (concat group) after (length (concat group)) refl

each_line : (text : Text) (start number : ℕ) (found : List (List Text)) → drop start text ≡ flat_map concat found → AreGroups found
    → (k : ℕ) (d : Line) → k < length (lines_from start number found)
    → IsLine (slice_range text (get_or (lines_from start number found) k d).span.start (get_or (lines_from start number found) k d).span.end)
unfolding AreGroups lines_from
each_line text start number [] on a k d l = absurd (omega arith)
each_line text start number (group ∷ later) on a zero d l = grind (arith, text_of_group, group_is_line)
each_line text start number (group ∷ later) on a (suc k) d l =
    each_line text (start + length (concat group)) (number + length group) later (text_after text start group (flat_map concat later) on) a.1 k d (omega arith)

pub lines_are : (text : Text) → All (λ line. IsLine (slice_range text line.span.start line.span.end)) (logical_lines_of text)
unfolding logical_lines_of
lines_are text = grind (arith, concat_grouped, concat_cut, length, each_line, are_groups, are_lines)
