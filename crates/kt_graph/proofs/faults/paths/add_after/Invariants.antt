use Rattle.std.proofs.Common.{◌≡◌, ◌++◌, ◌∷◌, drop, flat_map, List, ℕ}
use Rattle.std.specs.Borrow.{Bor}
use Rattle.kt_graph.proofs.faults.paths.add_after.Given as goal

abbrev pub invariant-loop-part : goal.invariant-loop-part
invariant-loop-part l =
    l.name.items ++ flat_map (λ (part : Bor (List ℕ)). 47 ∷ part.now) (drop l.part-index l.parts)
    ≡ l.fn.name.items ++ flat_map (λ (part : Bor (List ℕ)). 47 ∷ part.now) l.parts
