-- Patterns as a set of words and of those with a percent sign (kati's own).
use Rattle.std.specs.Prelude.{Bool, ◌||◌, List, is_some}
use Rattle.kt_text.specs.Prelude.{list_any, bytes_eq, Text}
use Rattle.std.specs.Borrow.{Bor}
use Rattle.kt_text.specs.Match.{stem_span}

-- whether one of the patterns does, of which those without percent sign stand in a set
abbrev pub matches_held : List (Bor Text) → List (Bor Text) → Text → Bool
matches_held literals wildcards word =
    list_any (λ literal. bytes_eq word literal.now) literals || list_any
    (λ pattern. is_some (stem_span pattern.now word)) wildcards
