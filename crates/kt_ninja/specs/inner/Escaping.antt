-- Which of the two kinds of escapes the printer writes (the printer's own).
use Rattle.std.specs.Prelude.{ℕ, Bool}
use Rattle.kt_ninja.specs.declared.escapes.Escapes.{Escapes}
use Rattle.kt_ninja.specs.declared.escapes.Escapes.TheVariants.{InName, InCommand}
use Rattle.kt_ninja.specs.Text.{is_special_in_command, is_special_in_name}

abbrev pub is_escaped : Escapes → ℕ → Bool
is_escaped InName b = is_special_in_name b
is_escaped InCommand b = is_special_in_command b
