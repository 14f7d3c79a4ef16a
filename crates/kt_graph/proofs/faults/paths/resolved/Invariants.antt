use Rattle.std.proofs.Common.{◌≡◌, ◌==◌, [], map, drop, fold, reverse, List, ℕ}
use Rattle.kt_graph.proofs.Common.{Bor, slice_split, with_part}
use Rattle.kt_graph.proofs.faults.paths.resolved.Given as goal

abbrev pub invariant-loop-part : goal.invariant-loop-part
invariant-loop-part l =
    fold (with_part l.rooted) (reverse (map (λ (part : Bor (List ℕ)). part.now) l.parts.items))
    (map (λ (piece : Bor (List ℕ)). piece.now) (drop l.part-index l.part-items))
    ≡ fold (with_part l.rooted) [] (slice_split (λ byte. byte == 47) l.name)
