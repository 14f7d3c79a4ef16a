use Rattle.std.proofs.Common.{◌≡◌, map}
use Rattle.kt_ninja_reader.specs.NinjaRead.{statement_of_pending}
use Rattle.kt_ninja_reader.proofs.pending_statement.statements.Given as goal

abbrev pub invariant-loop-statement : goal.invariant-loop-statement
invariant-loop-statement l = l.statements.items ≡ map (statement_of_pending l.file) (map (λ b. b.value) l.yielded)
