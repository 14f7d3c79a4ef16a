use Rattle.std.proofs.Common.{◌≡◌, ◌++◌, drop}
use Rattle.kt_recipe.specs.inner.Prepared.{filled, filled_gaps}
use Rattle.kt_recipe.proofs.prepared.PreparedText.fill.Given as goal

abbrev pub invariant-loop-gap : goal.invariant-loop-gap
invariant-loop-gap l =
    l.out.items ++ (filled_gaps l.node l.part (drop l.gap-index l.self.gaps.items) ++ l.self.end.items)
    ≡ l.fn.out.items ++ filled l.node l.part l.self
