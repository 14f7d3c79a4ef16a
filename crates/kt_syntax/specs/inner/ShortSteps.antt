-- Steps by their parts and places (kati's own).
use Rattle.kt_syntax.specs.inner.Prelude.{ℕ, zero, suc, List, slice_get, unwrap_or}
use Rattle.kt_syntax.specs.Prelude.{BlockPart, BlockStep}
use Rattle.kt_syntax.specs.declared.part.BlockPart.TheVariants as part
use Rattle.kt_syntax.specs.declared.step.BlockStep.TheVariants as step

-- the step of a line with this part, which names these places or none
abbrev pub step_with : BlockPart → ℕ → ℕ → BlockStep
step_with part.Line next after = step.Line
step_with part.Body next after = step.Body
step_with part.Define next after = step.Define next
step_with part.Endef next after = step.Endef
step_with part.Conditional next after = step.Conditional next after
step_with (part.Branch condition) next after = step.Branch condition next after
step_with part.Endif next after = step.Endif
step_with (part.Stray stray) next after = step.Stray stray

-- the places that a step names, 0 for one that it doesn't
abbrev pub places_of_step : BlockStep → ℕ × ℕ
places_of_step step.Line = (0, 0)
places_of_step step.Body = (0, 0)
places_of_step (step.Define end) = (end, 0)
places_of_step step.Endef = (0, 0)
places_of_step (step.Conditional next after) = (next, after)
places_of_step (step.Branch condition next after) = (next, after)
places_of_step step.Endif = (0, 0)
places_of_step (step.Stray stray) = (0, 0)

-- the step of a number: 0 for an ordinary line's, else its place among the held ones, from 1
abbrev pub numbered_step : List BlockStep → ℕ → BlockStep
numbered_step held zero = step.Line
numbered_step held (suc place) = unwrap_or (slice_get held place) step.Line
