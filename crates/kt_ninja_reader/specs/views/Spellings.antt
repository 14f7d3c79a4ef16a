-- Where the name of a variable ends that is written without braces (Ninja manual, "Lexical syntax").
use Rattle.std.specs.Prelude.{Bool, false, [], ◌∷◌}
use Rattle.kt_ninja_reader.specs.Prelude.{Bytes}
use Rattle.kt_ninja_reader.specs.Pieces.{is_short_name_byte}

-- whether a name without braces would go on with this text
abbrev pub name_goes_on : Bytes → Bool
name_goes_on [] = false
name_goes_on (b ∷ bs) = is_short_name_byte b
