-- Backslashes before the byte at which a rule line is cut. That a backslash quotes only the byte directly after it is
-- kati's own.
use Rattle.std.specs.Prelude.{Bool, ◌==◌, [], ◌∷◌}
use Rattle.kt_rules.specs.Prelude.{Text}

-- whether a text ends in a backslash; an empty text does if the text before it does
abbrev pub ends_in_backslash : Bool → Text → Bool
ends_in_backslash before [] = before
ends_in_backslash before (byte ∷ text) = ends_in_backslash (byte == 92) text
