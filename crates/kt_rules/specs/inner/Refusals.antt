-- A refusal of the code as one of the definitions, and the fault that a call returns for it (kati's own).
use Rattle.std.specs.Prelude.{◌≡◌}
use Rattle.kt_rules.specs.declared.fault.RuleFault.{RuleFault}
use Rattle.kt_rules.specs.declared.fault.RuleFault.TheVariants.{Memory, Refused}
use Rattle.kt_rules.specs.declared.refusal.Refusal.{Refusal as HeldRefusal}
use Rattle.kt_rules.specs.declared.refusal.Refusal.TheVariants as told
use Rattle.kt_rules.specs.Refusals.{Refusal, bad_group, refused_name, two_recipes, missing_separator, both_colons}
use Rattle.kt_rules.specs.Refusals.{refused_target, bad_static_pattern, RuleLineFault}

-- a refusal of the code as one of the definitions
abbrev pub refusal_view : HeldRefusal → Refusal
refusal_view told.MissingSeparator = missing_separator
refusal_view (told.RefusedName name) = refused_name name.now
refusal_view (told.BadStaticPattern name) = bad_static_pattern name.now
refusal_view (told.RefusedTarget name) = refused_target name.now
refusal_view told.BadGroup = bad_group
refusal_view (told.BothColons name) = both_colons name.now
refusal_view (told.TwoRecipes name) = two_recipes name.now

-- the call returns exactly this fault, or runs out of memory, which is always allowed
abbrev pub ReportsFault : RuleFault → RuleLineFault → Type 0
ReportsFault Memory fault = Unit {0}
ReportsFault (Refused number place words) fault = record { number = number; place = place; words = words } ≡ fault
