use Rattle.std.proofs.Common.{◌≡◌, ◌++◌, List, length, replicate}
use Rattle.kt_syntax.specs.declared.part.BlockPart.{BlockPart}
use Rattle.kt_syntax.specs.declared.step.BlockStep.TheVariants as step
use Rattle.kt_syntax.specs.Steps.{ahead_of, steps_from}
use Rattle.kt_syntax.proofs.nesting.steps.Given as goal

abbrev pub invariant-loop-part : goal.invariant-loop-part
invariant-loop-part l =
    (after : List BlockPart) × (l.parts.items ++ after ≡ l.fn.parts.items)
    × (l.steps ≡ replicate (length l.parts.items) step.Line ++ steps_from (length l.parts.items) after)
    × (l.places ≡ ahead_of (length l.parts.items) after)

abbrev pub decreases-loop-part : goal.decreases-loop-part
decreases-loop-part l = length l.parts.items
