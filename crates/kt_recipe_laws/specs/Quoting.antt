-- Texts between single quotes, and what a shell reads them as (POSIX.1-2024 Shell Command Language, "Quoting").
use Rattle.std.specs.Prelude.{◌==◌, [], ◌∷◌, Option, Some, None, option_map, if◌then◌else◌}
use Rattle.kt_text.specs.Words.{Text}

-- where a byte of a word is: outside quotes, directly after a backslash there, or between single quotes
pub data Standing : Type 0 where
  outside : Standing
  escaped : Standing
  inside : Standing

-- how a shell reads a word that is written with quotes only: between single quotes each byte is itself
-- ["Single-Quotes"], and so is a byte after a backslash, except a newline, which is removed with the backslash ["Escape
-- Character (Backslash)"]. A word with anything else outside quotes can't be read here, nor can one whose quotes are
-- open at its end.
unfoldable pub read_quotes : Standing → Text → Option Text
read_quotes outside [] = Some []
read_quotes outside (byte ∷ text) =
    if byte == 39 then read_quotes inside text else (if byte == 92 then read_quotes escaped text else None)
read_quotes escaped [] = None
read_quotes escaped (byte ∷ text) =
    if byte == 10 then read_quotes outside text else option_map (λ word. byte ∷ word) (read_quotes outside text)
read_quotes inside [] = None
read_quotes inside (byte ∷ text) =
    if byte == 39 then read_quotes outside text else option_map (λ word. byte ∷ word) (read_quotes inside text)

-- the word that a text with quotes only is read as
abbrev pub word_of_quotes : Text → Option Text
word_of_quotes text = read_quotes outside text
