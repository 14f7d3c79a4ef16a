-- What the code returns for a symbol of a line (kati's own).
use Rattle.std.specs.Prelude.{ℕ, Option, None, Some}
use Rattle.kt_syntax.specs.Mask.{inside}

-- what stands at a place as a number: a byte outside references, or else one of a reference
abbrev pub symbol_view : Option ℕ → ℕ
symbol_view None = inside
symbol_view (Some byte) = byte
