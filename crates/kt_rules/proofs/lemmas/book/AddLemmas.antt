-- What `add` returns.
use Rattle.std.proofs.Common.{arith, ◌≡◌, Result, Err}
use Rattle.kt_rules.proofs.Common.{RuleFault, RuleLineFault, ReportsFault, GivesExpected}

-- a reported fault is the expected result
pub answers_refused : {A : Type 0} (fault : RuleFault) (expected : Result A RuleLineFault) (told : RuleLineFault) → ReportsFault fault told → expected ≡ Err told
    → GivesExpected {A = A} (Err fault) expected
answers_refused fault expected told h e = grind arith
