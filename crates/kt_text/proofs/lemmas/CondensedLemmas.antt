-- A text condensed physical line by physical line.
use Rattle.std.proofs.Common.{◌≡◌, ℕ, Bool, true, false, List, [], ◌∷◌, ◌++◌, ◌&&◌, ◌==◌, refl, sym, ◌∙◌, ap, append_assoc, append-nil, length, if◌then◌else◌, ⊎_elim, arith, zero, suc, ◌<◌, true≢false, slice_index}
use Rattle.kt_text.proofs.Common.{cases_Bool, eqb-true, eq-eqb, false_from_ne_true, lt-ltb, or_parts, nil_from_length, flat_map, list_any, onto_first, Text, is_continued, is_ended, groups, newline_pieces, condensed_line, condensed_rest, condensed_group, condensed_of}
use Rattle.kt_text.proofs.lemmas.GroupLemmas.{groups-ended, groups-continued, groups-begins}

-- the text of groups of which the first may have begun before
pub left_text : Bool → List (List Text) → Text
left_text continued [] = []
left_text false (group ∷ later) = condensed_group group ++ flat_map condensed_group later
left_text true (group ∷ later) = condensed_rest group ++ flat_map condensed_group later

left_text-false : (found : List (List Text)) → left_text false found ≡ flat_map condensed_group found
unfolding left_text
left_text-false found = grind arith

pub left_text-alone : (continued : Bool) (line : Text) (later : List (List Text)) → left_text continued ((line ∷ []) ∷ later) ≡ condensed_line continued false line ++ flat_map condensed_group later
unfolding left_text condensed_group condensed_rest
left_text-alone continued line later = grind arith

followed : (continued : Bool) (line next : Text) (others : List Text) (later : List (List Text))
    → left_text continued ((line ∷ next ∷ others) ∷ later) ≡ condensed_line continued true line ++ left_text true ((next ∷ others) ∷ later)
unfolding left_text condensed_group condensed_rest
followed continued line next others later = grind (arith, append_assoc)

step_ended : (continued : Bool) (line : Text) (lines : List Text) → is_continued line ≡ false
    → left_text continued (groups (line ∷ lines)) ≡ condensed_line continued false line ++ left_text false (groups lines)
step_ended continued line lines h = grind (arith, left_text, groups-ended, left_text-alone, left_text-false)

step_last : (continued : Bool) (line : Text) → is_continued line ≡ true
    → left_text continued (groups (line ∷ [])) ≡ condensed_line continued false line ++ left_text false (groups [])
unfolding groups
step_last continued line h = ap (left_text continued) (groups-continued line [] h) ∙ left_text-alone continued line [] ∙ ap (λ t. condensed_line continued false line ++ t) (sym (left_text-false []))

step_next : (continued : Bool) (line next : Text) (lines : List Text) → is_continued line ≡ true
    → left_text continued (groups (line ∷ next ∷ lines)) ≡ condensed_line continued true line ++ left_text true (groups (next ∷ lines))
step_next continued line next lines h =
    let begins = groups-begins next lines in
    ap (left_text continued) (groups-continued line (next ∷ lines) h ∙ ap (onto_first line) begins.are)
    ∙ followed continued line next begins.others begins.later
    ∙ ap (λ found. condensed_line continued true line ++ left_text true found) (sym begins.are)

-- an empty last piece that nothing continues to adds nothing
after_last : left_text false (groups (newline_pieces [])) ≡ []
unfolding left_text groups newline_pieces is_continued is_ended condensed_group condensed_line
after_last = refl

-- pieces of which there is a first
pub record HasPiece (found : List Text) : Type 0 where
  pub piece : Text
  pub pieces : List Text
  pub are : found ≡ piece ∷ pieces

-- a byte put before pieces makes a first one
pub onto_piece : (byte : ℕ) (found : List Text) → HasPiece (onto_first byte found)
onto_piece byte found = grind arith

-- a text has a piece
pub pieces-some : (text : Text) → HasPiece (newline_pieces text)
unfolding newline_pieces
pieces-some [] = record { piece = _; pieces = _; are = refl }
pieces-some (byte ∷ text) = grind (arith, ⊎_elim, onto_piece, cases_Bool)

-- a last line without newline
unended : (more : Bool) (continued : Bool) (line : Text) → is_continued line ≡ more
    → left_text continued (groups (line ∷ [])) ≡ condensed_line continued (more && false) line ++ left_text (more && false) (groups (newline_pieces []))
unfolding groups left_text
unended false continued line h = step_ended continued line [] h ∙ ap (λ t. condensed_line continued false line ++ t) (sym after_last)
unended true continued line h = step_last continued line h ∙ ap (λ t. condensed_line continued false line ++ t) (sym after_last)

-- a line with newline
ended : (more : Bool) (continued : Bool) (line after : Text) → is_continued line ≡ more
    → left_text continued (groups (line ∷ newline_pieces after)) ≡ condensed_line continued (more && true) line ++ left_text (more && true) (groups (newline_pieces after))
ended false continued line after h = step_ended continued line (newline_pieces after) h
ended true continued line after h =
    let first = pieces-some after in
    rw first.are (step_next continued line first.piece first.pieces h)

-- one physical line more
pub left_text-step : (continued : Bool) (line after : Text) → (is_ended line ≡ false → length after ≡ 0)
    → left_text continued (groups (line ∷ (if is_ended line then newline_pieces after else [])))
    ≡ condensed_line continued (is_continued line && is_ended line) line ++ left_text (is_continued line && is_ended line) (groups (newline_pieces after))
left_text-step continued line after last = grind (arith, ⊎_elim, ended, nil_from_length, unended, cases_Bool)

pub condensed_of-start : (text : Text) → left_text false (groups (newline_pieces text)) ≡ condensed_of text
unfolding condensed_of
condensed_of-start text = left_text-false (groups (newline_pieces text))

-- the loop's step: what is added and what is left
pub condensed_more : (continued continues : Bool) (line after whole out : Text) (left : List Text) → continues ≡ is_continued line && is_ended line
    → (is_ended line ≡ false → length after ≡ 0) → left ≡ line ∷ (if is_ended line then newline_pieces after else []) → out ++ left_text continued (groups left) ≡ whole
    → (out ++ condensed_line continued continues line) ++ left_text continues (groups (newline_pieces after)) ≡ whole
condensed_more continued continues line after whole out left on last cut before = grind (arith, append_assoc, left_text, left_text-step)

-- and its end: the piece after the last newline
pub condensed_end : (continued : Bool) (rest whole out : Text) → length rest ≡ 0 → out ++ left_text continued (groups (newline_pieces rest)) ≡ whole → out ++ condensed_line continued false [] ≡ whole
unfolding groups newline_pieces left_text is_continued condensed_group condensed_rest
condensed_end true [] whole out none before = ap (λ t. out ++ t) (sym (append-nil _)) ∙ before
condensed_end false [] whole out none before = ap (λ t. out ++ t) (sym (append-nil _)) ∙ before
condensed_end continued (byte ∷ rest) whole out none before = absurd (omega arith)

pub ruleset condensed_steps = (condensed_of-start, condensed_more, condensed_end)

-- ---- a text without newline

abbrev HasNoNewline : Text → Type 0
HasNoNewline text = (k : ℕ) → k < length text → slice_index text k ≡ 10 → ⊥

pub one_piece : (text : Text) → HasNoNewline text → newline_pieces text ≡ text ∷ []
unfolding newline_pieces
one_piece [] free = refl
one_piece (byte ∷ text) free =
    let other : (byte == 10) ≡ false = false_from_ne_true _ (λ h. free 0 (omega arith) (eqb-true byte 10 h)) in
    rw other (ap (onto_first byte) (one_piece text (λ k l e. free (suc k) (omega arith) e)))

pub one_group : (more : Bool) (text : Text) → is_continued text ≡ more → groups (text ∷ []) ≡ (text ∷ []) ∷ []
unfolding groups
one_group more text h = grind (arith, groups-continued, groups-ended)

-- it is one line, and stays as it is
alone_itself : (text : Text) → HasNoNewline text → condensed_line false false text ≡ text
unfolding condensed_line is_ended
alone_itself [] free = refl
alone_itself (byte ∷ text) free = grind (arith, length, false_from_ne_true, eqb-true, lt-ltb, append-nil)

pub condensed_alone : (text : Text) → HasNoNewline text → condensed_of text ≡ text
unfolding condensed_of condensed_group
condensed_alone text free = grind (arith, one_piece, one_group, append-nil, alone_itself)

-- a byte that no look finds stands nowhere
pub nowhere : (sought : ℕ) (text : Text) → list_any (λ byte. byte == sought) text ≡ false → (k : ℕ) → k < length text → slice_index text k ≡ sought → ⊥
nowhere sought [] h k l e = absurd (omega arith)
nowhere sought (byte ∷ text) h zero l e = grind (arith, true≢false, eq-eqb, or_parts)
nowhere sought (byte ∷ text) h (suc k) l e = nowhere sought text (or_parts (byte == sought) (list_any (λ b. b == sought) text) h).1 k (omega arith) e

pub without_newline : (text : Text) → list_any (λ byte. byte == 10) text ≡ false → condensed_of text ≡ text
without_newline text h = condensed_alone text (nowhere 10 text h)
