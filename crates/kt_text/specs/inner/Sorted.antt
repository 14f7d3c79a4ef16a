-- The first bytes of a word, by which words are compared first (kati's own).
use Rattle.std.specs.Prelude.{◌≡◌, ℕ, ◌≤◌, List, length, take}
use Rattle.kt_text.specs.Prelude.{Text}

-- a text that fits is what the head begins with (kati's own)
abbrev pub IsHead : List ℕ → Text → Type 0
IsHead head text = length text ≤ 16 → take (length text) head ≡ text
