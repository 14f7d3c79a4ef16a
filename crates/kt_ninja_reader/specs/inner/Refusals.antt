-- What a refusal within the reading says (the reader's own).
use Rattle.std.specs.Prelude.{◌≡◌, Option, Result, Some, None, MatchResult}
use Rattle.kt_ninja_reader.specs.inner.Prelude.{PartFault, NoReading, Memory}

-- there is no value, or memory was refused, which is always excused
abbrev pub LacksReading : {X : Type 0} → Option X → PartFault → Type 0
LacksReading expected NoReading = expected ≡ None
LacksReading expected Memory = Unit {0}

-- what a step of the reading returns: what is there, or why there is nothing; and the same where it tells what is there
abbrev pub ReadsAs : {X Y : Type 0} → (X → Y) → Result X PartFault → Option Y → Type 0
ReadsAs told result expected = MatchResult result (λ value. expected ≡ Some (told value)) (LacksReading expected)

abbrev pub Reads : {X : Type 0} → Result X PartFault → Option X → Type 0
Reads result expected = ReadsAs (λ value. value) result expected
