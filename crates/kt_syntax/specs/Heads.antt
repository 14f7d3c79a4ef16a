-- The parts of a rule line (POSIX.1-2024 make, "Target Rules") and target-specific macros, which are refused (GNU
-- make manual, "Target-specific Variable Values"). The head is that of the line's text, in which continuations are
-- condensed; the recipe is cut from the line as it stands in the file.
use Rattle.std.specs.Prelude.{ℕ, zero, suc, ◌+◌, Bool, false, not, ◌==◌, ◌&&◌, ◌||◌, nat_eq, nat_lt, List, [], ◌∷◌}
use Rattle.std.specs.Prelude.{length, take, drop, codes, Option, Some, None, is_some, if◌then◌else◌}
use Rattle.kt_syntax.specs.Prelude.{starts_with, position_or_len, slice_range, Text, condensed_of, mask_of}
use Rattle.std.specs.Str.{bytes_eq}
use Rattle.kt_syntax.specs.Kinds.{assignment_parts, comment_place, past_blanks, past_word}

-- the head of a rule line, and its first recipe line if there is one
pub record RuleParts : Type 0 where
  pub head : Text
  pub recipe : Option Text

-- where the head ends: at the first semicolon outside references, or where the comment begins
unfoldable pub head_end : Text → ℕ
head_end text = position_or_len (λ symbol. symbol == 59) (take (comment_place text) (mask_of text))

-- where the first colon stands that has no backslash directly before it; the symbol before the mask is given
unfoldable pub colon_place : ℕ → ℕ → List ℕ → Option ℕ
colon_place place previous [] = None
colon_place place previous (symbol ∷ mask) =
    if symbol == 58 && not (previous == 92) then Some place else colon_place (place + 1) symbol mask

-- the place after the colon of a head; a second colon directly after the first belongs to it
abbrev pub after_colon : List ℕ → ℕ → ℕ
after_colon mask place = if starts_with nat_eq (drop (place + 1) mask) (58 ∷ []) then place + 2 else place + 1

-- the words that may stand before a target-specific macro (GNU make manual, "Target-specific Variable Values"; which of
-- them count is kati's own)
unfoldable pub is_modifier : Text → Bool
is_modifier word = bytes_eq word (codes "override")
    || (bytes_eq word (codes "export") || bytes_eq word (codes "private"))

-- the place after a word, if the word is a modifier and a blank comes after it
abbrev pub modifier_at : Text → List ℕ → ℕ → ℕ → Option ℕ
modifier_at text mask begin end = if is_modifier (slice_range text begin end) && nat_lt end (length mask)
    then Some end else None

-- the place after a modifier, if one comes next
unfoldable pub after_modifier : Text → List ℕ → ℕ → Option ℕ
after_modifier text mask from = modifier_at text mask (past_blanks from mask) (past_word (past_blanks from mask) mask)

-- the place that was reached, or what comes of going on from a further place that was found
abbrev pub found_or : ℕ → (ℕ → ℕ) → Option ℕ → ℕ
found_or from further None = from
found_or from further (Some end) = further end

-- the place after all modifiers that come next, of which there are at most as many as is said
unfoldable pub after_modifiers : ℕ → Text → List ℕ → ℕ → ℕ
after_modifiers zero text mask from = from
after_modifiers (suc most) text mask from = found_or from
    (λ end. after_modifiers most text mask end) (after_modifier text mask from)

-- whether what follows a given number of bytes of a head is of assignment form, with modifiers before it or not
abbrev pub assigns_after : Text → List ℕ → Option ℕ → Bool
assigns_after text mask None = false
assigns_after text mask (Some colon) =
    is_some (assignment_parts text mask
    (past_blanks (after_modifiers (length mask) text mask (after_colon mask colon)) mask))

-- whether the head, of which this is the mask, assigns a target-specific macro
unfoldable pub is_target_specific : Text → List ℕ → Bool
is_target_specific text mask = assigns_after text mask (colon_place 0 0 mask)

-- the head: without a semicolon it keeps its comment
unfoldable pub head_text : Text → Text
head_text text = if head_end text == comment_place text then text else take (head_end text) text

-- the recipe after the first semicolon, without the blanks at its begin
unfoldable pub first_recipe : Text → Option Text
first_recipe line = if head_end line == comment_place line then None
    else Some (drop (past_blanks (head_end line + 1) (mask_of line)) line)

-- the parts of a rule line with this text and first recipe line, or none where it assigns a target-specific macro
abbrev pub parts_with : Text → Option Text → Option RuleParts
parts_with text recipe =
    if is_target_specific text (take (head_end text) (mask_of text)) then None
    else Some (record { head = head_text text; recipe = recipe })

-- the parts of a rule line, from the line as written and its condensed text
unfoldable pub rule_texts : Text → Text → Option RuleParts
rule_texts line text = parts_with text (first_recipe line)

-- the parts of a rule line as it is in the file
abbrev pub line_parts : Text → Option RuleParts
line_parts line = rule_texts line (condensed_of line)
