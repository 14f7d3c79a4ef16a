use Rattle.std.proofs.Common.{◌≡◌, ◌<◌, ℕ, false}
use Rattle.kt_graph.proofs.Common.{canon_of, is_reserved, name_at}
use Rattle.kt_graph.proofs.faults.first_trouble.has_plain_names.Given as goal

abbrev pub invariant-loop-number : goal.invariant-loop-number
invariant-loop-number l = (place : ℕ) → place < l.number
    → (canon_of (name_at l.names place) ≡ name_at l.names place) × (is_reserved (name_at l.names place) ≡ false)
