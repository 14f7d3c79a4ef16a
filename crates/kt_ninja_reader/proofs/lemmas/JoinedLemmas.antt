-- Joined lines, line by line of the file.
use Rattle.std.proofs.Common.{◌≡◌, ℕ, suc, zero, ◌+◌, ◌-◌, ◌<◌, ◌≤◌, Bool, true, false, not, ◌==◌, ◌&&◌, unwrap_or, List, [], ◌∷◌, ◌++◌, refl, sym, ◌∙◌, ap, append_assoc, length, length-append, take, drop, get_or, slice_index_or, arith, Option, Some, None, find, if◌then◌else◌, ⊎_elim}
use Rattle.kt_ninja_reader.proofs.Common.{cases_Bool, false≢true, false_from_ne_true, eqb-true, and_parts, not-true, list_all-append, take-append-add, drop-cons, OpenLine as HeldOpenLine, position_or_len_is, IsFirstByte, is_byte, position_or_len, FileLine, JoinedLine, Bytes, ends_in_dollar, file_lines, first_number, is_blank_line, is_comment, joined_from, joined_text, left_over, with_byte, without_indent}
use Rattle.kt_ninja_reader.specs.declared.joined.FileLine.{FileLine as CutLine}
use Rattle.kt_ninja_reader.specs.inner.Joining.{Joins, added_text, file_line, kept_text}
use Rattle.kt_ninja_reader.specs.JoinedLines.{OpenLine}

-- what was begun, if a line goes on
abbrev pub begun_by : Bool → HeldOpenLine → Option OpenLine
begun_by true begun = Some (record { first = begun.number; front = begun.text })
begun_by false begun = None

-- whether a byte that was found is a hash
abbrev pub is_hash : Option ℕ → Bool
is_hash None = false
is_hash (Some b) = b == 35

-- a comment by its first byte that is no space
pub comment_place : (text : Bytes) → is_comment text ≡ is_hash (find (λ b. not (b == 32)) text)
unfolding is_comment
comment_place [] = refl
comment_place (b ∷ bs) = ⊎_elim (λ h. rw h (comment_place bs)) (λ h. rw h refl) (cases_Bool (b == 32))

pub comment_found : (text : Bytes) (found : Option ℕ) → found ≡ find (λ b. not (b == 32)) text → is_hash found ≡ is_comment text
comment_found text found h = ap is_hash h ∙ sym (comment_place text)

-- the place that memchr finds
pub newline_found : (text : Bytes) (found : Option ℕ) → IsFirstByte (is_byte 10) text found → unwrap_or found (length text) ≡ position_or_len (λ b. b == 10) text
newline_found text None h =
    sym (position_or_len_is (λ b. b == 10) text (length text) 0 (omega arith) (λ k l. false_from_ne_true _ (h k (omega arith) l)) (λ l. absurd (omega arith)))
newline_found text (Some place) h = grind (arith, length, position_or_len_is, false_from_ne_true)

-- the file lines of a text by its first newline: what stands after the place
abbrev pub lines_at : Bytes → Bytes → List FileLine
lines_at bytes [] = record { bytes = bytes; ended = false } ∷ []
lines_at bytes (b ∷ after) = record { bytes = bytes; ended = true } ∷ file_lines after

with_lines_at : (b : ℕ) (bytes after : Bytes) → with_byte b (lines_at bytes after) ≡ lines_at (b ∷ bytes) after
with_lines_at b bytes after = grind arith

pub file_lines_at : (text : Bytes) → 0 < length text
    → file_lines text ≡ lines_at (take (position_or_len (λ b. b == 10) text) text) (drop (position_or_len (λ b. b == 10) text) text)
unfolding file_lines
file_lines_at [] some = absurd (omega arith)
file_lines_at (b ∷ []) some = ⊎_elim (λ h. rw h refl) (λ h. rw h refl) (cases_Bool (b == 10))
file_lines_at (b ∷ c ∷ bs) some =
    let n = position_or_len (λ b. b == 10) (c ∷ bs) in
    ⊎_elim (λ h. rw h refl) (λ h. rw h (ap (with_byte b) (file_lines_at (c ∷ bs) (omega arith)) ∙ with_lines_at b (take n (c ∷ bs)) (drop n (c ∷ bs)) ∙ grind arith)) (cases_Bool (b == 10))

-- a text that is cut at its first newline
pub lines_cut : (text bytes rest tail : Bytes) (n : ℕ) → 0 < length text → n ≡ position_or_len (λ b. b == 10) text → bytes ≡ take n text → rest ≡ drop n text → rest ≡ tail
    → file_lines text ≡ lines_at bytes tail
lines_cut text bytes rest tail n some place front back is = grind (arith, file_lines_at)

pub lines_none : (rest : Bytes) → rest ≡ [] → file_lines rest ≡ []
unfolding file_lines
lines_none rest h = rw h refl

-- dollars, byte by byte
pub dollar_step : (pending : Bool) (text : Bytes) (i : ℕ) → i < length text
    → ends_in_dollar pending (drop i text) ≡ ends_in_dollar (not pending && get_or text i 0 == 36) (drop (i + 1) text)
unfolding ends_in_dollar
dollar_step pending text i low = grind (arith, drop-cons)

-- a comment in two parts: the second counts where the first is blank
pub comment-append : (front back : Bytes) → is_comment (front ++ back) ≡ (if is_blank_line front then is_comment back else is_comment front)
unfolding is_comment
comment-append [] back = refl
comment-append (b ∷ bs) back = ⊎_elim (λ h. rw h (comment-append bs back)) (λ h. rw h refl) (cases_Bool (b == 32))

comment_by : (blank : Bool) (front back : Bool) → front ≡ false → (if blank then back else front) ≡ (blank && back)
comment_by blank front back h = grind arith

pub comment-joined : (front back : Bytes) → is_comment front ≡ false → is_comment (front ++ back) ≡ (is_blank_line front && is_comment back)
comment-joined front back h = comment-append front back ∙ comment_by (is_blank_line front) (is_comment front) (is_comment back) h

pub comment-take : (n : ℕ) (text : Bytes) → is_comment text ≡ false → is_comment (take n text) ≡ false
unfolding is_comment
comment-take zero text h = refl
comment-take (suc n) [] h = refl
comment-take (suc n) (b ∷ bs) h = ⊎_elim (λ d. rw d (comment-take n bs (rw d at h))) (λ d. rw d (rw d at h)) (cases_Bool (b == 32))

-- all but the last byte of two parts, the second of which has one
pub last-append : (front back : Bytes) → 0 < length back → take (length (front ++ back) - 1) (front ++ back) ≡ front ++ take (length back - 1) back
last-append front back some =
    let e : length (front ++ back) - 1 ≡ length front + (length back - 1) = omega (arith, length-append front back) in
    rw e (take-append-add front back (length back - 1))

-- a text that ends in a dollar has one after its indent
some-dollar : (pending : Bool) (bs : Bytes) → pending ≡ false → ends_in_dollar pending bs ≡ true → 0 < length (without_indent bs)
unfolding ends_in_dollar
some-dollar pending [] none h = absurd (false≢true (sym none ∙ h))
some-dollar pending (b ∷ bs) none h =
    ⊎_elim
    (λ d. let e : b ≡ 32 = eqb-true _ _ d in let below = some-dollar false bs refl (rw (none, e) at h) in rw (drop-prefix b bs d) below)
    (λ d. rw d (omega arith))
    (cases_Bool (b == 32))
  where
    drop-prefix : (c : ℕ) (cs : Bytes) → (c == 32) ≡ true → without_indent (c ∷ cs) ≡ without_indent cs
    drop-prefix c cs d = rw d (grind arith)

some-text : (bs : Bytes) → ends_in_dollar false bs ≡ true → 0 < length bs
unfolding ends_in_dollar
some-text [] h = absurd (false≢true h)
some-text (b ∷ bs) h = omega arith

pub some-added : (going_on : Bool) (bs : Bytes) → ends_in_dollar false bs ≡ true → 0 < length (added_text going_on bs)
some-added going_on bs h = grind (arith, some-dollar, some-text)

-- what is kept after what was begun, by whether the line goes on
kept-append : (going_on : Bool) (front back : Bytes) → (going_on ≡ true → 0 < length back)
    → front ++ kept_text going_on back ≡ (if going_on then take (length (front ++ back) - 1) (front ++ back) else front ++ back)
kept-append going_on front back some = grind (arith, last-append)

comment-kept : (going_on : Bool) (joined : Bytes) → (going_on ≡ true → is_comment joined ≡ false) → going_on ≡ true
    → is_comment (if going_on then take (length joined - 1) joined else joined) ≡ false
comment-kept going_on joined plain h = grind (arith, comment-take, length, false≢true)

-- a line of the file that is joined
pub joins : (old : HeldOpenLine) (line : CutLine) (new : HeldOpenLine) (bytes kept : Bytes)
    → old.blank ≡ is_blank_line old.text → is_comment old.text ≡ false
    → bytes ≡ added_text old.going_on line.bytes.now
    → new.going_on ≡ (line.ended && (ends_in_dollar false line.bytes.now && not (old.blank && is_comment bytes)))
    → kept ≡ kept_text new.going_on bytes
    → new.blank ≡ (old.blank && is_blank_line kept)
    → new.text ≡ old.text ++ kept
    → new.number ≡ old.number
    → Joins old line new
joins old line new bytes kept blank plain is_added going is_kept is_blank_now text number = grind (arith, comment-joined, not, and_parts, not-true, length, some-added, take, kept-append, list_all-append, comment-kept)

-- the lines from a place on, by what was begun there
joined_text-by : (g : Bool) (begun : HeldOpenLine) (bytes : Bytes) → begun.going_on ≡ g → (g ≡ false → begun.text ≡ [])
    → joined_text (begun_by g begun) bytes ≡ begun.text ++ added_text begun.going_on bytes
joined_text-by g begun bytes h none = grind arith

first_number-by : (g : Bool) (begun : HeldOpenLine) (number : ℕ) → (g ≡ false → begun.number ≡ number) → first_number number (begun_by g begun) ≡ begun.number
first_number-by g begun number h = grind arith

-- what a step leaves
abbrev pub stepped : Bool → ℕ → HeldOpenLine → CutLine → List FileLine → List JoinedLine
stepped true number new line later = joined_from (number + 1) (begun_by true new) later
stepped false number new line later = record { number = new.number; text = new.text; ended = line.ended } ∷ joined_from (number + 1) None later

step_by : (g : Bool) (number first : ℕ) (joined : Bytes) (new : HeldOpenLine) (line : CutLine) (later : List FileLine)
    → new.going_on ≡ g → new.number ≡ first → new.text ≡ (if g then take (length joined - 1) joined else joined)
    → (if g then joined_from (number + 1) (Some (record { first = first; front = take (length joined - 1) joined })) later
    else record { number = first; text = joined; ended = line.ended } ∷ joined_from (number + 1) None later)
    ≡ stepped g number new line later
step_by g number first joined new line later h n t = grind arith

pub joined_step : (number : ℕ) (begun : HeldOpenLine) (line : CutLine) (later : List FileLine) (new : HeldOpenLine)
    → Joins begun line new → (begun.going_on ≡ false → begun.number ≡ number) → (begun.going_on ≡ false → begun.text ≡ [])
    → joined_from number (begun_by begun.going_on begun) (file_line line ∷ later) ≡ stepped new.going_on number new line later
unfolding joined_from
joined_step number begun line later new joins numbered fresh = grind (arith, joined_text-by, first_number-by, step_by)

pub joined_end : (g : Bool) (number : ℕ) (begun : HeldOpenLine) → joined_from number (begun_by g begun) [] ≡ left_over (begun_by g begun)
unfolding joined_from
joined_end g number begun = refl

-- the lines that are left after a step: one ended
pub pushed : (number : ℕ) (lines more : List JoinedLine) (begun new last : HeldOpenLine) (line : CutLine) (rest later : List FileLine) (whole : List JoinedLine)
    → joined_from number (begun_by begun.going_on begun) (file_line line ∷ later) ≡ stepped new.going_on number new line later
    → rest ≡ file_line line ∷ later
    → lines ++ joined_from number (begun_by begun.going_on begun) rest ≡ whole
    → new.going_on ≡ false → more ≡ lines ++ record { number = new.number; text = new.text; ended = line.ended } ∷ [] → last.going_on ≡ new.going_on
    → more ++ joined_from (number + 1) (begun_by last.going_on last) later ≡ whole
pushed number lines more begun new last line rest later whole step cut before off longer same = grind (arith, append_assoc)

-- the same where it goes on
pub passed : (number : ℕ) (lines : List JoinedLine) (begun new : HeldOpenLine) (line : CutLine) (rest later : List FileLine) (whole : List JoinedLine)
    → joined_from number (begun_by begun.going_on begun) (file_line line ∷ later) ≡ stepped new.going_on number new line later
    → rest ≡ file_line line ∷ later
    → lines ++ joined_from number (begun_by begun.going_on begun) rest ≡ whole
    → new.going_on ≡ true
    → lines ++ joined_from (number + 1) (begun_by new.going_on new) later ≡ whole
passed number lines begun new line rest later whole step cut before on = grind arith

-- at the end of the text
pub over : (g : Bool) (number : ℕ) (lines : List JoinedLine) (begun : HeldOpenLine) (rest : List FileLine) (whole : List JoinedLine)
    → begun.going_on ≡ g → rest ≡ [] → lines ++ joined_from number (begun_by begun.going_on begun) rest ≡ whole
    → lines ++ left_over (begun_by g begun) ≡ whole
over g number lines begun rest whole is none before = grind (arith, joined_end)

-- a text that ends in another byte
and_false : (pending : Bool) → (not pending && false) ≡ false
and_false pending = grind arith

pub other_end : (pending : Bool) (text : Bytes) → 1 ≤ length text → (slice_index_or text (length text - 1) 0 ≡ 36 → ⊥) → ends_in_dollar pending text ≡ false
unfolding ends_in_dollar
other_end pending [] some other = absurd (omega (arith, some))
other_end pending (b ∷ []) some other = ⊎_elim (λ h. absurd (other (eqb-true _ _ h))) (λ h. rw h (and_false pending)) (cases_Bool (b == 36))
other_end pending (b ∷ c ∷ bs) some other =
    let long : length (b ∷ c ∷ bs) - 1 ≡ suc (length (c ∷ bs) - 1) = omega arith in
    other_end (not pending && b == 36) (c ∷ bs) (omega arith) (λ e. other (ap (λ n. slice_index_or (b ∷ c ∷ bs) n 0) long ∙ e))

pub no_end : (text : Bytes) → length text < 1 → ends_in_dollar false text ≡ false
unfolding ends_in_dollar
no_end [] none = refl
no_end (b ∷ bs) none = absurd (omega (arith, none))
