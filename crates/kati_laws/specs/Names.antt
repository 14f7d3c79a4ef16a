-- That the lines of names identify the names (kati's own).
use Rattle.std.specs.Prelude.{◌≡◌, List, Bool, false, ◌==◌}
use Rattle.kati.specs.Prelude.{list_any, Text}
use Rattle.kati.specs.Names.{name_lines}

abbrev pub has_newline : Text → Bool
has_newline name = list_any (λ byte. byte == 10) name

-- no two lists of names without newlines are written as the same text
abbrev pub LinesTellNames : Type 0
LinesTellNames = (one other : List Text) → list_any has_newline one ≡ false → list_any has_newline other ≡ false
    → name_lines one ≡ name_lines other → one ≡ other
