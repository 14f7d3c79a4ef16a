-- A shell whose values expand to themselves.
use Rattle.std.specs.Prelude.{ℕ, Bool, true, not, ◌&&◌, ◌==◌, ◌++◌, codes, Option, Some, None, if◌then◌else◌}
use Rattle.kt_recipe.specs.Prelude.{list_any, Text, Macros}
use Rattle.kt_recipe.specs.inner.Prelude.{find}
use Rattle.kt_eval.specs.declared.macros.Flavour.{Flavour}
use Rattle.kt_eval.specs.declared.macros.Flavour.TheVariants.{Deferred, Immediate}
use Rattle.kt_eval.specs.declared.macros.Macro.{Macro}

-- whether a value expands to itself: it isn't expanded again, or a level is left and it has no dollar
abbrev pub expands_to_itself : ℕ → Flavour → Text → Bool
expands_to_itself limit Immediate value = true
expands_to_itself limit Deferred value = not (limit == 0) && not (list_any (λ byte. byte == 36) value)

abbrev pub if_plain : Bool → Text → Option Text
if_plain plain value = if plain then Some value else None

-- the value of a macro that is defined and plain
unfoldable pub plain_value : ℕ → Option Macro → Option Text
plain_value limit None = None
plain_value limit (Some entry) = if_plain (expands_to_itself limit entry.flavour entry.value) entry.value

abbrev pub spaced : Option Text → Option Text → Option Text
spaced None flags = None
spaced (Some shell) None = None
spaced (Some shell) (Some flags) = Some ((shell ++ codes " ") ++ flags)

unfoldable pub plain_shell : Macros → ℕ → Option Text
plain_shell table limit =
    spaced (plain_value limit (find (codes "SHELL") table)) (plain_value limit (find (codes ".SHELLFLAGS") table))
