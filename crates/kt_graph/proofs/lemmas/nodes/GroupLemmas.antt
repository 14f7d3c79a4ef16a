-- When two makings are equal.
use Rattle.std.proofs.Common.{arith, ◌≡◌, true, nat_eq, Option, None, Some, ap}
use Rattle.kt_graph.proofs.Common.{and_from, and_parts, eq-eqb, eqb-true, false≢true, bytes_eq-Decides}
use Rattle.kt_graph.specs.nodes.Groups.{instance_eq, is_one_making}
use Rattle.kt_graph.specs.nodes.Node.{Instance}

instance_same : (one other : Instance) → instance_eq one other ≡ true → one ≡ other
instance_same one other e = grind (arith, bytes_eq-Decides, false≢true, eqb-true, and_parts, nat_eq)

pub one_same : (one other : Option Instance) → is_one_making one other ≡ true → one ≡ other
one_same None other e = absurd (false≢true e)
one_same (Some one) None e = absurd (false≢true e)
one_same (Some one) (Some other) e = ap (λ (i : Instance). Some i) (instance_same one other e)

pub one_itself : (one : Instance) → is_one_making (Some one) (Some one) ≡ true
one_itself one = grind (arith, bytes_eq-Decides, and_from, eq-eqb)
