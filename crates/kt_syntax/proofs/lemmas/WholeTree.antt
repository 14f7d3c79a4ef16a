-- At the first line of a text its whole tree is left.
use Rattle.std.proofs.Common.{arith, ◌≡◌, ℕ, ◌+◌, Bool, false, not, List, [], ◌∷◌, Option, Some, None, refl}
use Rattle.kt_syntax.proofs.Common.{OpenConditional, OpenDefine, NumberedRole, Role}
use Rattle.kt_syntax.specs.declared.role.Role.TheVariants as role
use Rattle.kt_syntax.specs.Blocks.{Level, no_branch, blocks_of, innermost_level, levels_from, outer, tree_of}
use Rattle.kt_syntax.specs.Parts.{after, block_part, parts_from}
use Rattle.kt_syntax.specs.Steps.{ahead_of, places_after, step_of, steps_from}
use Rattle.kt_syntax.specs.views.Reading.{items_left, left_at}
use Rattle.kt_syntax.proofs.lemmas.Sound.{levels_at}
use Rattle.kt_syntax.proofs.lemmas.ItemLemmas.{append-none}

-- after the open conditionals the text itself is left, which has no branches and nothing round it
abbrev IsRooted : List OpenConditional → List Level → Type 0
IsRooted [] levels = ((innermost_level levels).others ≡ no_branch) × (outer levels ≡ [])
IsRooted (open_one ∷ others) levels = IsRooted others (outer levels)

abbrev Rooted : Option OpenDefine → List OpenConditional → ℕ → List NumberedRole → Type 0
Rooted define conditionals place heads = IsRooted conditionals (levels_at (record { define = define; conditionals = conditionals }) place heads)

ended : (conditionals : List OpenConditional) → IsRooted conditionals []
ended [] = (refl, refl)
ended (open_one ∷ others) = ended others

-- an `else` inside a conditional
else_line : (condition : Bool) (number : ℕ) (heads : List NumberedRole) (place opened : ℕ) (plain_else : Bool) (others : List OpenConditional)
    → ((define : Option OpenDefine) (open_ones : List OpenConditional) → Rooted define open_ones (place + 1) heads)
    → Rooted None (record { number = opened; plain_else = plain_else } ∷ others) place (record { role = role.Else condition; number = number } ∷ heads)
unfolding parts_from block_part after steps_from step_of ahead_of places_after levels_from
else_line condition number heads place opened plain_else others more = grind (arith, not)

-- a line outside defines
outside : (line : Role) (number : ℕ) (heads : List NumberedRole) (place : ℕ) (conditionals : List OpenConditional)
    → ((define : Option OpenDefine) (open_ones : List OpenConditional) → Rooted define open_ones (place + 1) heads)
    → Rooted None conditionals place (record { role = line; number = number } ∷ heads)
unfolding parts_from block_part after steps_from step_of ahead_of places_after levels_from
outside role.Ordinary number heads place [] more = more None []
outside role.Ordinary number heads place (open_one ∷ others) more = more None (open_one ∷ others)
outside role.Conditional number heads place [] more = more None (record { number = number; plain_else = false } ∷ [])
outside role.Conditional number heads place (open_one ∷ others) more = more None (record { number = number; plain_else = false } ∷ open_one ∷ others)
outside (role.Else condition) number heads place [] more = more None []
outside (role.Else condition) number heads place (open_one ∷ others) more = else_line condition number heads place open_one.number open_one.plain_else others more
outside role.Endif number heads place [] more = more None []
outside role.Endif number heads place (open_one ∷ others) more = more None others
outside role.Define number heads place [] more = more (Some (record { number = number; depth = 0 })) []
outside role.Define number heads place (open_one ∷ others) more = more (Some (record { number = number; depth = 0 })) (open_one ∷ others)
outside role.Endef number heads place [] more = more None []
outside role.Endef number heads place (open_one ∷ others) more = more None (open_one ∷ others)

-- a line of a define
inside : (line : Role) (number : ℕ) (heads : List NumberedRole) (place opened depth : ℕ) (conditionals : List OpenConditional)
    → ((define : Option OpenDefine) (open_ones : List OpenConditional) → Rooted define open_ones (place + 1) heads)
    → Rooted (Some (record { number = opened; depth = depth })) conditionals place (record { role = line; number = number } ∷ heads)
unfolding parts_from block_part after steps_from step_of ahead_of places_after levels_from
inside line number heads place opened depth conditionals more = grind arith

rooted : (heads : List NumberedRole) (place : ℕ) (define : Option OpenDefine) (conditionals : List OpenConditional) → Rooted define conditionals place heads
unfolding parts_from steps_from levels_from
rooted [] place None conditionals = ended conditionals
rooted [] place (Some define) conditionals = ended conditionals
rooted (head ∷ heads) place None conditionals = outside head.role head.number heads place conditionals (rooted heads (place + 1))
rooted (head ∷ heads) place (Some define) conditionals =
    inside head.role head.number heads place define.number define.depth conditionals (rooted heads (place + 1))

-- where only the text itself is left, its items are all that is
root_items : (levels : List Level) → IsRooted [] levels → items_left levels ≡ (innermost_level levels).items
root_items levels root = grind (arith, append-none)

pub whole_tree_is_left : (heads : List NumberedRole) → left_at (blocks_of heads).steps 0 ≡ tree_of (blocks_of heads).steps
unfolding left_at
whole_tree_is_left heads = root_items (levels_from 0 (blocks_of heads).steps) (rooted heads 0 None [])
