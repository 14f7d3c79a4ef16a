-- Recipe lines, one physical line at a time.
use Rattle.std.proofs.Common.{◌≡◌, ◌<◌, ◌-◌, ◌+◌, ◌==◌, ℕ, suc, true, false, Some, None, List, [], ◌∷◌, ◌++◌, length, take, drop, length-take-le, append_assoc, refl, sym, ap, ◌∙◌, arith, ⊎_elim, slice_index}
use Rattle.kt_syntax.proofs.Common.{cases_Bool, append-nil, onto_first, position_or_len, IsFirstByte, is_byte, Text, newline_pieces, Joint, Edge, mask_of, first_byte_place}
use Rattle.kt_syntax.specs.Recipes.{joint_of, recipe_lines, recipe_of, spliced_line}
use Rattle.kt_text.proofs.lemmas.CondensedLemmas.{HasPiece, pieces-some}

-- how many bytes stand before the first newline
abbrev run : Text → ℕ
run text = position_or_len (λ byte. byte == 10) text

run-yes : (byte : ℕ) (text : Text) → (byte == 10) ≡ true → run (byte ∷ text) ≡ 0
run-yes byte text h = rw h refl

run-no : (byte : ℕ) (text : Text) → (byte == 10) ≡ false → run (byte ∷ text) ≡ suc (run text)
run-no byte text h = rw h (omega arith)

pieces-yes : (byte : ℕ) (text : Text) → (byte == 10) ≡ true → newline_pieces (byte ∷ text) ≡ (byte ∷ []) ∷ newline_pieces text
unfolding newline_pieces
pieces-yes byte text h = rw h refl

pieces-no : (byte : ℕ) (text : Text) → (byte == 10) ≡ false → newline_pieces (byte ∷ text) ≡ onto_first byte (newline_pieces text)
unfolding newline_pieces
pieces-no byte text h = rw h refl

-- the pieces of a text with a newline
cut_at : (text : Text) → run text < length text → newline_pieces text ≡ take (suc (run text)) text ∷ newline_pieces (drop (suc (run text)) text)
cut_at [] within = absurd (omega arith)
cut_at (byte ∷ text) within =
    ⊎_elim (λ h. let e = run-yes byte text h in
    pieces-yes byte text h ∙ ap (λ n. take (suc n) (byte ∷ text) ∷ newline_pieces (drop (suc n) (byte ∷ text))) (sym e))
    (λ h. let e = run-no byte text h in
    pieces-no byte text h ∙ ap (onto_first byte) (cut_at text (omega arith))
    ∙ ap (λ n. take (suc n) (byte ∷ text) ∷ newline_pieces (drop (suc n) (byte ∷ text))) (sym e))
    (cases_Bool (byte == 10))

-- those of a text without one
pub uncut : (text : Text) → run text ≡ length text → newline_pieces text ≡ text ∷ []
unfolding newline_pieces
uncut [] whole = refl
uncut (byte ∷ text) whole =
    ⊎_elim (λ h. let e = run-yes byte text h in absurd (omega arith))
    (λ h. let e = run-no byte text h in pieces-no byte text h ∙ ap (onto_first byte) (uncut text (omega arith)))
    (cases_Bool (byte == 10))

-- a line before others
pub followed : (before : Joint) (mask : List ℕ) (line : Text) (found : List Text) → HasPiece found
    → recipe_lines before mask (line ∷ found)
    ≡ spliced_line before (joint_of (slice_index mask (length line - 1)) line) line
    ++ recipe_lines (joint_of (slice_index mask (length line - 1)) line) (drop (length line) mask) found
unfolding recipe_lines
followed before mask line found some = rw some.are refl

-- one physical line more
pub recipe_more : (before after : Joint) (mask : List ℕ) (text whole out : Text) (place symbol : ℕ) → IsFirstByte (is_byte 10) text (Some place)
    → symbol ≡ slice_index mask place → after ≡ joint_of symbol (take (place + 1) text)
    → out ++ recipe_lines before mask (newline_pieces text) ≡ whole
    → (out ++ spliced_line before after (take (place + 1) text)) ++ recipe_lines after (drop (place + 1) mask) (newline_pieces (drop (place + 1) text)) ≡ whole
recipe_more before after mask text whole out place symbol found s a so_far =
    let at : place ≡ run text = first_byte_place (λ byte. byte == 10) text (Some place) found in
    let within : run text < length text = omega (arith, found.0.high) in
    let more : suc (run text) ≡ place + 1 = omega arith in
    let cut : newline_pieces text ≡ take (place + 1) text ∷ newline_pieces (drop (place + 1) text) =
    cut_at text within ∙ ap (λ n. take n text ∷ newline_pieces (drop n text)) more in
    let size : length (take (place + 1) text) ≡ place + 1 = length-take-le (place + 1) text (omega arith) in
    let less : length (take (place + 1) text) - 1 ≡ place = omega arith in
    let joint : joint_of (slice_index mask (length (take (place + 1) text) - 1)) (take (place + 1) text) ≡ after =
    ap (λ n. joint_of (slice_index mask n) (take (place + 1) text)) less ∙ sym (a ∙ ap (λ n. joint_of n (take (place + 1) text)) s) in
    append_assoc out (spliced_line before after (take (place + 1) text)) (recipe_lines after (drop (place + 1) mask) (newline_pieces (drop (place + 1) text)))
    ∙ ap (λ t. out ++ t)
    (sym
    (ap (recipe_lines before mask) cut
    ∙ followed before mask (take (place + 1) text) (newline_pieces (drop (place + 1) text)) (pieces-some (drop (place + 1) text))
    ∙ ap (λ j. spliced_line before j (take (place + 1) text) ++ recipe_lines j (drop (length (take (place + 1) text)) mask) (newline_pieces (drop (place + 1) text))) joint
    ∙ ap (λ n. spliced_line before after (take (place + 1) text) ++ recipe_lines after (drop n mask) (newline_pieces (drop (place + 1) text))) size))
    ∙ so_far

-- and the last
pub recipe_end : (before : Joint) (mask : List ℕ) (text whole out : Text) → IsFirstByte (is_byte 10) text None
    → out ++ recipe_lines before mask (newline_pieces text) ≡ whole → out ++ spliced_line before Edge text ≡ whole
unfolding recipe_lines
recipe_end before mask text whole out none so_far =
    let all : length text ≡ run text = first_byte_place (λ byte. byte == 10) text None none in
    ap (λ t. out ++ recipe_lines before mask t) (sym (uncut text (sym all))) ∙ so_far

pub recipe_of-start : (text : Text) → recipe_lines Edge (mask_of text) (newline_pieces text) ≡ recipe_of text
unfolding recipe_of
recipe_of-start text = refl

-- a text of one physical line
pub line_stays : (text : Text) → IsFirstByte (is_byte 10) text None → text ≡ recipe_of text
unfolding spliced_line
line_stays text none = sym (append-nil text) ∙ recipe_end Edge (mask_of text) text (recipe_of text) [] none (recipe_of-start text)
