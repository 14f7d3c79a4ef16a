-- What a call returns that can refuse a rule (kati's own).
use Rattle.std.specs.Prelude.{◌≡◌, Result, Ok, Err}
use Rattle.kt_rules.specs.declared.fault.RuleFault.{RuleFault}
use Rattle.kt_rules.specs.declared.fault.RuleFault.TheVariants.{Memory, Refused}
use Rattle.kt_rules.specs.Refusals.{RuleLineFault}

-- the call returns the expected value or fault, or runs out of memory
abbrev pub GivesExpected : {A : Type 0} → Result A RuleFault → Result A RuleLineFault → Type 0
GivesExpected (Ok value) expected = expected ≡ Ok value
GivesExpected (Err Memory) expected = Unit {0}
GivesExpected (Err (Refused number place words)) expected =
    expected ≡ Err (record { number = number; place = place; words = words })
