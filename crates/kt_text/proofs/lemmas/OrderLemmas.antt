-- The logical lines of a text stand in it one after the other.
use Rattle.std.proofs.Common.{◌≡◌, ◌≤◌, ◌<◌, ◌+◌, ℕ, zero, suc, Bool, List, [], ◌∷◌, length, get_or, refl, ap, subst, ◌∙◌, arith, take, drop, length-append}
use Rattle.kt_text.proofs.Common.{nat_tests, concat, onto_first, line_len, lines_of, without_terminator, line_len-bounds, lines-nil, lines-step, length-take-le, length-drop, Line, Text, AreInOrder, is_continued, groups, kept_of_last, kept_length, lines_from, logical_lines_of}
use Rattle.kt_text.proofs.lemmas.GroupLemmas.{groups-ended, groups-continued}

-- ---- sizes

-- how many bytes lines have together, and groups of them
abbrev bytes_of : List Text → ℕ
bytes_of lines = length (concat lines)

bytes_in : List (List Text) → ℕ
bytes_in [] = 0
bytes_in (group ∷ later) = bytes_of group + bytes_in later

bytes_onto : (line : Text) (found : List (List Text)) → bytes_in (onto_first line found) ≡ length line + bytes_in found
unfolding bytes_in
bytes_onto line found = grind (arith, length-append)

bytes_by : (more : Bool) (line : Text) (lines : List Text) → is_continued line ≡ more → bytes_in (groups (line ∷ lines)) ≡ length line + bytes_in (groups lines)
unfolding bytes_in
bytes_by more line lines h = grind (arith, bytes_in, groups-continued, bytes_onto, length-append, groups-ended)

bytes_grouped : (lines : List Text) → bytes_in (groups lines) ≡ bytes_of lines
unfolding bytes_in groups
bytes_grouped [] = refl
bytes_grouped (line ∷ lines) = grind (arith, bytes_by, length, length-append, bytes_grouped lines)

bytes_cut : (fuel : ℕ) (text : Text) → length text ≤ fuel → bytes_of (lines_of text) ≡ length text
bytes_cut fuel [] small = ap bytes_of lines-nil
bytes_cut zero (byte ∷ text) small = absurd (omega arith)
bytes_cut (suc fuel) (byte ∷ text) small =
    let whole : Text = byte ∷ text in
    let bounds = line_len-bounds whole (omega arith) in
    let front = length-take-le (line_len whole) whole bounds.1 in
    let back = length-drop (line_len whole) whole in
    ap bytes_of (lines-step whole (omega arith)) ∙ length-append (take (line_len whole) whole) (concat (lines_of (drop (line_len whole) whole)))
    ∙ ap (λ n. length (take (line_len whole) whole) + n) (bytes_cut fuel (drop (line_len whole) whole) (omega (arith, bounds.0)))
    ∙ omega (arith, bounds.1)

-- ---- what a group keeps of its text

length-content : (line : Text) → length (without_terminator line) ≤ length line
length-content line = grind (arith, take, length, length-take-le, nat_tests)

pub kept_within : (line : Text) → kept_of_last line ≤ length line
unfolding kept_of_last
kept_within line = let l = length-content line in omega arith

kept_in_group : (group : List Text) → kept_length group ≤ bytes_of group
unfolding kept_length
kept_in_group [] = omega arith
kept_in_group (line ∷ []) = let k = kept_within line in let l = length-append line [] in omega arith
kept_in_group (line ∷ next ∷ lines) = grind (arith, length-append, kept_in_group (next ∷ lines))

-- ---- one line after the other

-- lines from a place on
AreFrom : ℕ → ℕ → List Line → Type 0
AreFrom size from [] = Unit {0}
AreFrom size from (line ∷ lines) =
    (from ≤ line.span.start) × (line.span.start ≤ line.span.end) × (line.span.end ≤ size) × AreFrom size line.span.end lines

earlier : (size from later : ℕ) (lines : List Line) → from ≤ later → AreFrom size later lines → AreFrom size from lines
unfolding AreFrom
earlier size from later [] l a = tt
earlier size from later (line ∷ lines) l a = (let low = a.0 in omega arith, a.1, a.2, a.3)

grouped : (size start number : ℕ) (found : List (List Text)) → start + bytes_in found ≤ size → AreFrom size start (lines_from start number found)
unfolding AreFrom lines_from bytes_in
grouped size start number [] room = tt
grouped size start number (group ∷ later) room =
    let kept = kept_in_group group in (
      omega arith,
      omega arith,
      omega arith,
      earlier size (start + kept_length group) (start + bytes_of group) (lines_from (start + bytes_of group) (number + length group) later) (omega arith)
          (grouped size (start + bytes_of group) (number + length group) later (omega arith)),
    )

within : (size from : ℕ) (lines : List Line) → AreFrom size from lines → (k : ℕ) (d : Line) → k < length lines
    → ((get_or lines k d).span.start ≤ (get_or lines k d).span.end) × ((get_or lines k d).span.end ≤ size)
unfolding AreFrom
within size from [] a k d l = absurd (omega arith)
within size from (line ∷ lines) a zero d l = (a.1, a.2)
within size from (line ∷ lines) a (suc k) d l = within size line.span.end lines a.3 k d (omega arith)

next_after : (size from : ℕ) (lines : List Line) → AreFrom size from lines → 0 < length lines → (d : Line) → from ≤ (get_or lines 0 d).span.start
unfolding AreFrom
next_after size from [] a l d = absurd (omega arith)
next_after size from (line ∷ lines) a l d = a.0

ordered : (size from : ℕ) (lines : List Line) → AreFrom size from lines → (k : ℕ) (d : Line) → suc k < length lines
    → (get_or lines k d).span.end ≤ (get_or lines (suc k) d).span.start
unfolding AreFrom
ordered size from [] a k d l = absurd (omega arith)
ordered size from (line ∷ lines) a zero d l = next_after size line.span.end lines a.3 (omega arith) d
ordered size from (line ∷ lines) a (suc k) d l = ordered size line.span.end lines a.3 k d (omega arith)

pub lines_in_order : (text : Text) → AreInOrder (length text) (logical_lines_of text)
unfolding logical_lines_of
lines_in_order text =
    let size = bytes_grouped (lines_of text) ∙ bytes_cut (length text) text (omega arith) in
    let a = grouped (length text) 0 1 (groups (lines_of text)) (omega arith) in
    let lines : List Line = lines_from 0 1 (groups (lines_of text)) in
    record {
      within = within (length text) 0 lines a;
      ordered = λ k d l. subst (λ n. (get_or lines k d).span.end ≤ (get_or lines n d).span.start) (one_more k) (ordered (length text) 0 lines a k d (omega arith));
    }
  where
    one_more : (k : ℕ) → suc k ≡ k + 1
    one_more k = omega arith
