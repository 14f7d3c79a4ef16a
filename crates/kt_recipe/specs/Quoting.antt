-- Texts between single quotes (POSIX.1-2024 Shell Command Language, "Quoting").
use Rattle.std.specs.Prelude.{ℕ, ◌==◌, [], ◌∷◌, ◌++◌, flat_map, if◌then◌else◌}
use Rattle.kt_text.specs.Words.{Text}

-- a byte between single quotes: a single quote can't be between them, so it ends them, is after a backslash, and begins
-- new ones
abbrev pub quoted_byte : ℕ → Text
quoted_byte byte = if byte == 39 then 39 ∷ 92 ∷ 39 ∷ 39 ∷ [] else byte ∷ []

-- a text between single quotes
unfoldable pub quoted : Text → Text
quoted text = 39 ∷ (flat_map quoted_byte text ++ (39 ∷ []))
