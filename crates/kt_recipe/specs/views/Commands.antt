-- What commands are made with, and a command as it is handed out (kati's own).
use Rattle.std.specs.Prelude.{ℕ, [], ◌∷◌, Option, Some, None}
use Rattle.kt_recipe.specs.Prelude.{Macros, Text}

-- the macros and the limit of levels that commands are made with
pub record Commands : Type 0 where
  pub table : Macros
  pub limit : ℕ

-- a command of the code: an empty text is none
abbrev pub command_in : Text → Option Text
command_in [] = None
command_in (byte ∷ text) = Some (byte ∷ text)
