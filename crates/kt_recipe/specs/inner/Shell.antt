-- A command to which pieces are joined, and what its lines are expanded with (kati's own).
use Rattle.std.specs.Prelude.{[], ◌∷◌, ◌++◌, codes}
use Rattle.kt_recipe.specs.Prelude.{Text, Place, automatic_in}
use Rattle.kt_recipe.specs.declared.shell.Shell.{Shell}
use Rattle.kt_recipe.specs.Shell.{Setting, setting_of}

-- a command to which one more piece can be appended
abbrev pub with_joint : Text → Text
with_joint [] = []
with_joint (byte ∷ text) = (byte ∷ text) ++ codes " && "

-- what a line at a place is expanded with
abbrev pub setting_at : Shell → Place → Setting
setting_at shell place = setting_of shell.expander.now.table (automatic_in shell.node.now shell.part)
    shell.expander.now.limit place
