-- The words of a text (GNU make manual, "Functions for String Substitution and Analysis": words separated by
-- whitespace).
use Rattle.std.specs.Prelude.{ℕ, Bool, true, false, ◌||◌, ◌==◌, List, [], ◌∷◌, filter, drop, take, length, ◌-◌}
use Rattle.std.specs.List.{slice_split, join_with_byte, prefix_len, suffix_len}

-- bytes, as the language takes its texts
abbrev pub Text : Type 0
Text = List ℕ

-- a space, a tab or a newline: what words are cut at (kati's own)
unfoldable pub is_separator : ℕ → Bool
is_separator byte = byte == 32 || byte == 9 || byte == 10

-- whether a byte is a colon
abbrev pub is_colon : ℕ → Bool
is_colon byte = byte == 58

-- whether a byte is an equals sign
abbrev pub is_equals : ℕ → Bool
is_equals byte = byte == 61

-- whether a text has a byte
abbrev pub is_nonempty : Text → Bool
is_nonempty [] = false
is_nonempty (byte ∷ text) = true

-- a space or a tab (POSIX.1-2024 make, a blank)
unfoldable pub is_blank : ℕ → Bool
is_blank byte = byte == 32 || byte == 9

-- a text without the blanks at its start
abbrev pub trimmed_start : Text → Text
trimmed_start text = drop (prefix_len is_blank text) text

-- a text without the blanks at its end
abbrev pub trimmed_end : Text → Text
trimmed_end text = take (length text - suffix_len is_blank text) text

-- a text without the separators at its start
abbrev pub stripped_start : Text → Text
stripped_start text = drop (prefix_len is_separator text) text

-- a text without the separators at its end
abbrev pub stripped_end : Text → Text
stripped_end text = take (length text - suffix_len is_separator text) text

-- a text without the separators at either end
abbrev pub stripped : Text → Text
stripped text = stripped_end (stripped_start text)

-- the maximal runs without a separator: the pieces of a cut at each separator, without the empty ones
unfoldable pub words_of : Text → List Text
words_of text = filter is_nonempty (slice_split is_separator text)

-- a list of words as a text: empty words are left out, the others are joined by one space
unfoldable pub list_text : List Text → Text
list_text texts = join_with_byte 32 (filter is_nonempty texts)
