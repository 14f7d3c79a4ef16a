-- The conditions of `ifeq` and `ifneq` (GNU make manual, "Syntax of Conditionals"), found in the unexpanded text, byte
-- by byte (kati's own).
use Rattle.std.specs.Prelude.{ℕ, ◌+◌, ◌-◌, ◌==◌, ◌&&◌, ◌||◌, [], ◌∷◌, take, drop, Option, Some, None, option_map}
use Rattle.std.specs.Prelude.{position, if◌then◌else◌}
use Rattle.std.specs.Option.{option_and_then}
use Rattle.kt_text.specs.Words.{Text, trimmed_start, trimmed_end}

-- the two texts that are compared
pub record ComparedTexts : Type 0 where
  pub first : Text
  pub second : Text

-- the first place of a byte outside parentheses that open in the text; a closing one without its opening one ends the
-- search
unfoldable pub bare_place : ℕ → ℕ → ℕ → Text → Option ℕ
bare_place wanted depth place [] = None
bare_place wanted depth place (byte ∷ text) =
    if depth == 0 && byte == wanted then Some place
    else (if byte == 40 then bare_place wanted (depth + 1) (place + 1) text
    else (if byte == 41 then (if depth == 0 then None else bare_place wanted (depth - 1) (place + 1) text)
    else bare_place wanted depth (place + 1) text))

-- without blanks at either end
abbrev pub trimmed : Text → Text
trimmed text = trimmed_end (trimmed_start text)

-- the text between a comma and the closing parenthesis
abbrev pub second_in : Text → Text → Option ComparedTexts
second_in first rest =
    option_map (λ end. record { first = trimmed first; second = trimmed (take end rest) }) (bare_place 41 0 0 rest)

-- two texts in parentheses, given the text after the opening one
unfoldable pub in_parentheses : Text → Option ComparedTexts
in_parentheses text = option_and_then (λ comma. second_in (take comma text) (drop (comma + 1) text))
    (bare_place 44 0 0 text)

-- the text up to the next quote of the same kind, and the text after it
abbrev pub quoted_by : ℕ → Text → Option (Text × Text)
quoted_by quote text = option_map (λ end. (take end text, drop (end + 1) text)) (position (λ byte. byte == quote) text)

-- a text in quotes of either kind, and the text after it
unfoldable pub quoted_front : Text → Option (Text × Text)
quoted_front [] = None
quoted_front (byte ∷ text) = if byte == 34 || byte == 39 then quoted_by byte text else None

-- two texts in quotes
unfoldable pub in_quotes : Text → Option ComparedTexts
in_quotes text =
    option_and_then (λ first. option_map
    (λ second. record { first = first.0; second = second.0 }) (quoted_front (trimmed_start first.1))) (quoted_front
    text)

-- the two texts of a condition; text after them is ignored
unfoldable pub compared_of : Text → Option ComparedTexts
compared_of [] = None
compared_of (byte ∷ text) = if byte == 40 then in_parentheses text else in_quotes (byte ∷ text)
