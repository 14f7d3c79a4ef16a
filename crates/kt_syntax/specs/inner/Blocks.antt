-- Blocks as the code walks them: how many defines are open, and that each step reads on, and ahead (kati's own).
use Rattle.std.specs.Prelude.{ℕ, Option, Some, None, ◌≡◌, List, length, slice_get}
use Rattle.kt_syntax.specs.declared.part.OpenDefine.{OpenDefine}
use Rattle.kt_syntax.specs.Parts.{Scan}
use Rattle.kt_syntax.specs.declared.step.BlockStep.{BlockStep}
use Rattle.kt_syntax.specs.views.Reading.{ReadsOn, IsAhead}

-- how many defines are open in the body of the open one
abbrev pub depth_of : Scan → ℕ
depth_of open_blocks = depth_in open_blocks.define
  where
    depth_in : Option OpenDefine → ℕ
    depth_in None = 0
    depth_in (Some define) = define.depth

-- each step reads on, and ahead
pub record AreReadable (steps : List BlockStep) : Type 0 where
  pub reads : (place : ℕ) (found : BlockStep) → slice_get steps place ≡ Some found → ReadsOn steps place found
  pub ahead : (place : ℕ) (found : BlockStep) → slice_get steps place ≡ Some found → IsAhead place (length steps) found
