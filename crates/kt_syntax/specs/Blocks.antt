-- The lines of a text as a tree of conditionals and defines (GNU make manual, "Syntax of Conditionals" and "Defining
-- Multi-Line Variables"), and the flat list that stands for it. Places are those of lines, from 0.
use Rattle.std.specs.Prelude.{ℕ, ◌+◌, Bool, List, [], ◌∷◌, Option}
use Rattle.kt_syntax.specs.Prelude.{Missing, Stray, NumberedRole, BlockStep}
use Rattle.kt_syntax.specs.declared.part.Stray.TheVariants as stray
use Rattle.kt_syntax.specs.declared.step.BlockStep.TheVariants as step
use Rattle.kt_syntax.specs.Parts.{block_parts, missing_end}
use Rattle.kt_syntax.specs.Steps.{steps_from}

-- items in the order of the text. A define has its body up to the line at `body_end`. Of a conditional with its first
-- branch and the others one branch is read; what follows an `else` after the plain `else` is a branch that never is,
-- and that `else` a fault, met after the branch that was read
mutual
  pub data Items : Type 0 where
    none : Items
    line : (place : ℕ) (next : Items) → Items
    fault : (kind : Stray) (place : ℕ) (next : Items) → Items
    definition : (place body_end : ℕ) (next : Items) → Items
    conditional : (place : ℕ) (first : Items) (others : Branches) (next : Items) → Items

  -- the further branches of a conditional, in order; `late` is what follows an `else` after the plain `else`
  pub data Branches : Type 0 where
    no_branch : Branches
    branch : (place : ℕ) (condition : Bool) (items : Items) (others : Branches) → Branches
    late : (place : ℕ) (items : Items) (others : Branches) → Branches

-- what is left, from a line on, of the block round it: the items of its branch, and the branches after that
pub record Level : Type 0 where
  pub items : Items
  pub others : Branches

-- what is left of the innermost of the open blocks; a block that the text doesn't end ends with it
abbrev pub innermost_level : List Level → Level
innermost_level [] = record { items = none; others = no_branch }
innermost_level (level ∷ levels) = level

-- what is left of the blocks round the innermost one
abbrev pub outer : List Level → List Level
outer [] = []
outer (level ∷ levels) = levels

-- the open blocks with one more item in the innermost one
abbrev pub with_block_item : (Items → Items) → List Level → List Level
with_block_item item levels =
    record { items = item (innermost_level levels).items; others = (innermost_level levels).others }
    ∷ outer levels

-- the open blocks with one more branch: its items are those that are left, and its block begins before it
abbrev pub with_branch : (Items → Branches → Branches) → List Level → List Level
with_branch more levels =
    record { items = none; others = more (innermost_level levels).items (innermost_level levels).others }
    ∷ outer levels

-- the blocks from a line on, by its step and by the blocks after it
abbrev pub levels_with : ℕ → BlockStep → List Level → List Level
levels_with place step.Line levels = with_block_item (line place) levels
levels_with place step.Body levels = levels
levels_with place (step.Define end) levels = with_block_item (definition place end) levels
levels_with place step.Endef levels = levels
levels_with place (step.Conditional next after) levels =
    with_block_item (conditional place (innermost_level levels).items (innermost_level levels).others) (outer levels)
levels_with place (step.Branch condition next after) levels = with_branch (branch place condition) levels
levels_with place step.Endif levels = record { items = none; others = no_branch } ∷ levels
levels_with place (step.Stray stray.LateElse) levels = with_branch (late place) levels
levels_with place (step.Stray kind) levels = with_block_item (fault kind place) levels

-- the blocks from a place on, by the steps of the lines from there on
unfoldable pub levels_from : ℕ → List BlockStep → List Level
levels_from place [] = []
levels_from place (found ∷ steps) = levels_with place found (levels_from (place + 1) steps)

-- the tree that steps stand for
abbrev pub tree_of : List BlockStep → Items
tree_of steps = (innermost_level (levels_from 0 steps)).items

-- the flat form of a text: a step for each line, and the missing end
pub record Blocks : Type 0 where
  pub steps : List BlockStep
  pub missing : Option Missing

-- the flat form of a text with these lines
abbrev pub blocks_of : List NumberedRole → Blocks
blocks_of heads = record { steps = steps_from 0 (block_parts heads); missing = missing_end heads }
