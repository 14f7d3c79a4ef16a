use Rattle.std.proofs.Common.{◌≡◌, ◌≤◌, drop}
use Rattle.kt_syntax.specs.Terms.{closing}
use Rattle.kt_syntax.proofs.next_term.closing.Given as goal

abbrev pub invariant-loop-place : goal.invariant-loop-place
invariant-loop-place l = record { small : l.depth ≤ l.place; rest : closing l.opener l.closer l.place l.depth (drop l.place l.text) ≡ closing l.opener l.closer 0 0 l.text }
