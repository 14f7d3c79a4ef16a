-- Why a rule is refused, and the fault for it (kati's own).
use Rattle.std.specs.Prelude.{ℕ, [], Result, Ok, Err}
use Rattle.kt_text.specs.Words.{Text}
use Rattle.kt_rules.specs.declared.fault_kind.FaultKind.{FaultKind}
use Rattle.kt_rules.specs.declared.fault_kind.FaultKind.TheVariants as kind
use Rattle.kt_rules.specs.declared.place.Place.{Place}
use Rattle.kt_rules.specs.FaultKinds.{fault_kind_number, words_with}

-- what is wrong with a rule line, or, from `both_colons` on, with a rule after the rules before it
pub data Refusal : Type 0 where
  missing_separator : Refusal
  refused_name : (name : Text) → Refusal
  bad_static_pattern : (name : Text) → Refusal
  refused_target : (name : Text) → Refusal
  bad_group : Refusal
  both_colons : (name : Text) → Refusal
  two_recipes : (name : Text) → Refusal

-- the kind of the fault, and the name in its message, which is empty if the message has none
abbrev pub kind_and_name : Refusal → FaultKind × Text
kind_and_name missing_separator = (kind.MissingSeparator, [])
kind_and_name (refused_name name) = (kind.RefusedName, name)
kind_and_name (bad_static_pattern name) = (kind.BadStaticPattern, name)
kind_and_name (refused_target name) = (kind.RefusedTarget, name)
kind_and_name bad_group = (kind.BadGroup, [])
kind_and_name (both_colons name) = (kind.SingleAndDoubleColon, name)
kind_and_name (two_recipes name) = (kind.TwoRecipes, name)

-- the fault of a rule line
pub record RuleLineFault : Type 0 where
  pub number : ℕ
  pub place : Place
  pub words : Text

-- the fault for a refusal at a place
abbrev pub rule_line_fault : Place → Refusal → RuleLineFault
rule_line_fault place refusal =
    let told = kind_and_name refusal in
    record { number = fault_kind_number told.0; place = place; words = words_with told.0 told.1 }

-- the result, with the fault at a place instead of a refusal
abbrev pub rule_line_faults : {A : Type 0} → Place → Result A Refusal → Result A RuleLineFault
rule_line_faults place (Ok value) = Ok value
rule_line_faults place (Err refusal) = Err (rule_line_fault place refusal)
