-- Reading blocks line by line: what is left to be read from a place on, where the branch that the place is in was
-- chosen. Kati's own.
use Rattle.std.specs.Prelude.{◌≡◌, ◌<◌, ◌≤◌, ℕ, ◌+◌, List, [], ◌∷◌, drop, Some, slice_get}
use Rattle.kt_syntax.specs.declared.part.Stray.TheVariants as stray
use Rattle.kt_syntax.specs.declared.step.BlockStep.{BlockStep}
use Rattle.kt_syntax.specs.declared.step.BlockStep.TheVariants as step
use Rattle.kt_syntax.specs.Blocks.{Items, Branches, Level, none, line, fault, definition, conditional, no_branch}
use Rattle.kt_syntax.specs.Blocks.{branch, late, levels_from}

-- items one after another
abbrev pub append : Items → Items → Items
append none others = others
append (line place next) others = line place (append next others)
append (fault kind place next) others = fault kind place (append next others)
append (definition place end next) others = definition place end (append next others)
append (conditional place first branches next) others = conditional place first branches (append next others)

-- what is met after the branch that was chosen: the first late `else`, if there is one, and what follows the
-- conditional
abbrev pub after_branches : Branches → Items → Items
after_branches no_branch next = next
after_branches (branch place condition items others) next = after_branches others next
after_branches (late place items others) next = fault stray.LateElse place next

-- what is left of blocks, the innermost first
abbrev pub items_left : List Level → Items
items_left [] = none
items_left (level ∷ levels) = append level.items (after_branches level.others (items_left levels))

-- what is left from a place on
unfoldable pub left_at : List BlockStep → ℕ → Items
left_at steps place = items_left (levels_from place (drop place steps))

-- these branches are tried from a place on, and after the items of one reading goes on at another
unfoldable pub AreTried : List BlockStep → Branches → (next after : ℕ) → Type 0
AreTried steps no_branch next after = next ≡ after
AreTried steps (late place items others) next after = next ≡ after
AreTried steps (branch place condition items others) next after =
    (place ≡ next) × (left_at steps (place + 1) ≡ append items (left_at steps after))
    × ((further : ℕ) × (slice_get steps place ≡ Some (step.Branch condition further after))
    × AreTried steps others further after)

-- a conditional is left at a place: its first branch comes next, and its other branches are tried from `next` on
pub record IsConditional (steps : List BlockStep) (place next after : ℕ) : Type 0 where
  pub first : Items
  pub others : Branches
  pub rest : Items
  pub left : left_at steps place ≡ conditional place first others rest
  pub inside : left_at steps (place + 1) ≡ append first (left_at steps after)
  pub past : left_at steps after ≡ after_branches others rest
  pub tried : AreTried steps others next after

-- what the step at a place says of what is left there
abbrev pub ReadsOn : List BlockStep → ℕ → BlockStep → Type 0
ReadsOn steps place step.Line = left_at steps place ≡ line place (left_at steps (place + 1))
ReadsOn steps place step.Body = left_at steps place ≡ left_at steps (place + 1)
ReadsOn steps place (step.Define end) = left_at steps place ≡ definition place end (left_at steps end)
ReadsOn steps place step.Endef = left_at steps place ≡ left_at steps (place + 1)
ReadsOn steps place (step.Conditional next after) = IsConditional steps place next after
ReadsOn steps place (step.Branch condition next after) = left_at steps place ≡ left_at steps after
ReadsOn steps place step.Endif = left_at steps place ≡ left_at steps (place + 1)
ReadsOn steps place (step.Stray kind) = (rest : Items) × (left_at steps place ≡ fault kind place rest)

-- a step names later places alone, and none after the end of the text
abbrev pub IsAhead : (place end : ℕ) → BlockStep → Type 0
IsAhead place end (step.Define body_end) = (place < body_end) × (body_end ≤ end)
IsAhead place end (step.Conditional next after) = (place < next) × (next ≤ after) × (after ≤ end)
IsAhead place end (step.Branch condition next after) = (place < next) × (next ≤ after) × (after ≤ end)
IsAhead place end other = Unit {0}
