-- Texts that are paths or values, and their pieces (the reader's own).
use Rattle.kt_ninja_reader.specs.inner.Prelude.{Bool, List, [], is_some, unwrap_or, Piece}
use Rattle.kt_ninja_reader.specs.Prelude.{Bytes, pieces}

-- whether each dollar of the text begins an escape or a variable
abbrev pub is_spelled : Bytes → Bool
is_spelled text = is_some (pieces text)

-- the pieces of such a text
abbrev pub pieces_in : Bytes → List Piece
pieces_in text = unwrap_or (pieces text) []
