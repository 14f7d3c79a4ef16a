-- Heads of rule lines from the places of their parts.
use Rattle.std.proofs.Common.{◌≡◌, ◌≤◌, ◌<◌, ◌-◌, ◌+◌, ℕ, true, false, length, take, drop, refl, sym, ap, ◌∙◌, arith, Option, Some, None, is_some, ◌==◌, ◌||◌}
use Rattle.kt_syntax.proofs.Common.{eq-eqb, eqb-true, false_from_ne_true, or_left, or_right, Text, mask_of, IsFirstByte, is_byte, is_byte3, take_rest, less_one, Parts, assignment_parts, comment_place, past_blanks, after_modifier, after_modifiers, head_end, colon_place, after_colon, is_target_specific, head_text, first_recipe, parts_with, rule_texts}
use Rattle.kt_syntax.proofs.lemmas.Masking.{length-front}
use Rattle.kt_syntax.proofs.lemmas.SymbolLemmas.{no_comment, no_semicolon, none_of, not_found, nowhere_any}
use Rattle.kt_syntax.proofs.lemmas.Unsigned.{unsigned_is_unspecific}

-- one more word
pub modifiers_next : (most next from : ℕ) (text mask : Text) → 0 < most → Some next ≡ after_modifier text mask from
    → after_modifiers (most - 1) text mask next ≡ after_modifiers most text mask from
unfolding after_modifiers
modifiers_next most next from text mask some e = grind (arith, less_one)

pub modifiers_end : (most from : ℕ) (text mask : Text) → None ≡ after_modifier text mask from → after_modifiers most text mask from ≡ from
unfolding after_modifiers
modifiers_end most from text mask e = grind arith

pub specific_found : (text : Text) (end colon after from place : ℕ) (parts : Option Parts) → end ≤ length text → Some colon ≡ colon_place 0 0 (take end (mask_of text))
    → after ≡ after_colon (take end (mask_of text)) colon → from ≡ after_modifiers end text (take end (mask_of text)) after
    → place ≡ past_blanks from (take end (mask_of text)) → parts ≡ assignment_parts text (take end (mask_of text)) place
    → is_some parts ≡ is_target_specific text (take end (mask_of text))
unfolding is_target_specific
specific_found text end colon after from place parts within c a f p e = grind (arith, take, length-front, length)

pub texts_none : (text : Text) (recipe : Option Text) (end : ℕ) → end ≡ head_end text → is_target_specific text (take end (mask_of text)) ≡ true
    → None ≡ parts_with text recipe
texts_none text recipe end e h = let here = ap (λ x. is_target_specific text (take x (mask_of text))) (sym e) ∙ h in sym (rw here refl)

pub texts_some : (text head : Text) (recipe : Option Text) (end : ℕ) → end ≡ head_end text → is_target_specific text (take end (mask_of text)) ≡ false
    → head ≡ head_text text → Some (record { head = head; recipe = recipe }) ≡ parts_with text recipe
texts_some text head recipe end e h t = grind (arith, take)

pub recipe_none : (line : Text) (end comment : ℕ) → end ≡ head_end line → comment ≡ comment_place line → end ≡ comment → None ≡ first_recipe line
unfolding first_recipe
recipe_none line end comment e c same = grind (arith, eq-eqb)

pub recipe_some : (line : Text) (end comment recipe : ℕ) → end ≡ head_end line → comment ≡ comment_place line → (end ≡ comment → ⊥) → recipe ≡ past_blanks (end + 1) (mask_of line)
    → Some (take (length line - recipe) (drop recipe line)) ≡ first_recipe line
unfolding first_recipe
recipe_some line end comment recipe e c other r = grind (arith, false_from_ne_true, eqb-true, take_rest)

pub texts_told : (line text : Text) (recipe : Option Text) → recipe ≡ first_recipe line → parts_with text recipe ≡ rule_texts line text
unfolding rule_texts
texts_told line text recipe e = ap (parts_with text) e

-- a text without the bytes that cut a line is its own head
pub uncut_parts : (text : Text) → IsFirstByte (is_byte3 35 59 61) text None → Some (record { head = text; recipe = None }) ≡ rule_texts text text
unfolding rule_texts head_text
uncut_parts text none =
    let no_sign = none_of (is_byte 35) _ text (λ byte is. or_left (byte == 35 || byte == 59) (byte == 61) (or_left (byte == 35) (byte == 59) is)) none in
    let no_semi = none_of (is_byte 59) _ text (λ byte is. or_left (byte == 35 || byte == 59) (byte == 61) (or_right (byte == 35) (byte == 59) is)) none in
    let no_equals = none_of (is_byte 61) _ text (λ byte is. or_right (byte == 35 || byte == 59) (byte == 61) is) none in
    let comment : length text ≡ comment_place text = no_comment text (not_found 35 text no_sign) in
    let end : length text ≡ head_end text = no_semicolon text (length text) (not_found 59 text no_semi) comment (omega arith) in
    let whole : (head_end text == comment_place text) ≡ true = eq-eqb (head_end text) (comment_place text) (sym end ∙ comment) in
    let unspecific = sym (unsigned_is_unspecific text (take (head_end text) (mask_of text)) (nowhere_any 61 text (not_found 61 text no_equals))) in
    texts_some text text None (head_end text) refl unspecific (sym (rw whole refl))
    ∙ ap (parts_with text) (recipe_none text (length text) (length text) end comment refl)
