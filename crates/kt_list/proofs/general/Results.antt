-- Calls that may fail.
use Rattle.std.proofs.Common.{arith, Result, OnErr}

-- where a call failed, what holds anyway
pub on_err : {T E P : Type 0} (r : Result T E) → P → OnErr r P
on_err r p = grind arith
