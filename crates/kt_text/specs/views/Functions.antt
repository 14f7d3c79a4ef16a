-- What a call of a text function returns (kati's own).
use Rattle.std.specs.Prelude.{◌≡◌, ℕ, true, Option, Some, None, Result, is_some, MatchResult}
use Rattle.kt_text.specs.Prelude.{Text}
use Rattle.std.specs.declared.vec.Vec.{Vec}
use Rattle.std.specs.declared.alloc.Global.{Global}
use Rattle.kt_text.specs.declared.fault.TextFault.{TextFault}
use Rattle.kt_text.specs.declared.fault.TextFault.TheVariants.{BadArgument, Memory}

-- a fault says that there is no text, or that memory was refused for one
abbrev pub Refuses : Option Text → TextFault → Type 0
Refuses expected BadArgument = expected ≡ None
Refuses expected Memory = is_some expected ≡ true

-- the call returns the text that is expected, or `BadArgument` exactly where none is
abbrev pub Answers : Result (Vec ℕ Global) TextFault → Option Text → Type 0
Answers result expected = MatchResult result (λ text. expected ≡ Some text.items) (Refuses expected)
