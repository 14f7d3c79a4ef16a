-- Two texts that lie in a name, one after the other.
use Rattle.std.proofs.Common.{◌≡◌, ◌+◌, ◌++◌, ◌∙◌, ℕ, length, take, drop, ap, sym}
use Rattle.std.proofs.Math.Seq.{take-append-add}
use Rattle.kt_graph.proofs.Common.{take-append-drop, Text}
use Rattle.kt_graph.specs.inner.nodes.Stems.{Lies}

pub lie_together : (name front back : Text) (place : ℕ) → take (length front) (drop place name) ≡ front
    → take (length back) (drop (length front) (drop place name)) ≡ back → Lies name front back place
lie_together name front back place first second =
    let rest = drop place name in
    let later = drop (length front) rest in
    ap (take (length front + length back)) (sym (take-append-drop (length front) rest) ∙ ap (λ (t : Text). t ++ later) first)
    ∙ take-append-add front later (length back)
    ∙ ap (λ (t : Text). front ++ t) second
