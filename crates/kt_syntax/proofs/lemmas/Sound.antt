-- The tree of the steps of a text's lines is one of these lines.
use Rattle.std.proofs.Common.{arith, ◌≡◌, ℕ, zero, suc, ◌+◌, Bool, true, false, not, List, [], ◌∷◌, Option, Some, None, refl}
use Rattle.kt_syntax.proofs.Common.{Missing, OpenConditional, OpenDefine, NumberedRole, Role}
use Rattle.kt_syntax.specs.declared.part.Missing.TheVariants as missing
use Rattle.kt_syntax.specs.declared.role.Role.TheVariants as role
use Rattle.kt_syntax.specs.Parts.{Scan, after, block_part, missing_in, open_at_end, parts_from}
use Rattle.kt_syntax.specs.Steps.{ahead_of, places_after, step_of, steps_from}
use Rattle.kt_syntax.specs.Blocks.{Level, blocks_of, innermost_level, levels_from, outer, tree_of}
use Rattle.kt_syntax.specs.views.Grammar.{IsTreeOf, TakesBody, TakesBranches, TakesEndif, TakesItems}

-- the lines from a place on are those of what is left of the open blocks, and then this end is missing
abbrev pub TakesLevels : Option Missing → List OpenConditional → List Level → Option Missing → ℕ → List NumberedRole → Type 0
TakesLevels at_end [] levels found place heads =
    TakesItems false (innermost_level levels).items found place heads (λ all end more. (more ≡ []) × (all ≡ at_end))
TakesLevels at_end (open_one ∷ others) levels found place heads =
    TakesItems true (innermost_level levels).items found place heads (λ some begin further.
    TakesBranches open_one.plain_else (innermost_level levels).others some begin further (λ most end ending.
    TakesEndif open_one.number most end ending (λ all next more. TakesLevels at_end others (outer levels) all next more)))

-- what is left, from a line on, where these blocks are open
abbrev pub levels_at : Scan → ℕ → List NumberedRole → List Level
levels_at scan place heads = levels_from place (steps_from place (parts_from scan heads))

-- the end that is missing, where these blocks are open at a line
abbrev pub missing_from : Scan → List NumberedRole → Option Missing
missing_from scan heads = missing_in (open_at_end scan heads)

abbrev pub Sound : Option OpenDefine → List OpenConditional → ℕ → List NumberedRole → Type 0
Sound None conditionals place heads =
    let scan : Scan = record { define = None; conditionals = conditionals } in
    TakesLevels (missing_from scan heads) conditionals (levels_at scan place heads) None place heads
Sound (Some define) conditionals place heads =
    let scan : Scan = record { define = Some define; conditionals = conditionals } in
    TakesBody define.number define.depth (ahead_of place (parts_from scan heads)).body_end None place heads
    (λ found next more. TakesLevels (missing_from scan heads) conditionals (levels_at scan place heads) found next more)

-- at the end of the text nothing is left of any block, and the first end that is missing is so for good
ended_with : (found : Missing) (conditionals : List OpenConditional) (place : ℕ) → TakesLevels (Some found) conditionals [] (Some found) place []
unfolding TakesItems
ended_with found [] place = (refl, refl)
ended_with found (open_one ∷ others) place = ended_with found others place

ended : (conditionals : List OpenConditional) (place : ℕ) → TakesLevels (missing_in (record { define = None; conditionals = conditionals })) conditionals [] None place []
unfolding TakesItems
ended conditionals place = grind (arith, ended_with)

-- an `else` inside a conditional
else_line : (condition : Bool) (number : ℕ) (heads : List NumberedRole) (place opened : ℕ) (plain_else : Bool) (others : List OpenConditional)
    → ((define : Option OpenDefine) (open_ones : List OpenConditional) → Sound define open_ones (place + 1) heads)
    → Sound None (record { number = opened; plain_else = plain_else } ∷ others) place (record { role = role.Else condition; number = number } ∷ heads)
unfolding open_at_end parts_from block_part after steps_from step_of ahead_of places_after levels_from TakesItems TakesBody
else_line condition number heads place opened true others more = (refl, refl, (condition, (refl, more None (record { number = opened; plain_else = true } ∷ others))))
else_line condition number heads place opened false others more =
    (refl, refl, (refl, more None (record { number = opened; plain_else = not condition } ∷ others)))

-- a line outside defines
outside : (line : Role) (number : ℕ) (heads : List NumberedRole) (place : ℕ) (conditionals : List OpenConditional)
    → ((define : Option OpenDefine) (open_ones : List OpenConditional) → Sound define open_ones (place + 1) heads)
    → Sound None conditionals place (record { role = line; number = number } ∷ heads)
unfolding open_at_end parts_from block_part after steps_from step_of ahead_of places_after levels_from TakesItems TakesBody
outside role.Ordinary number heads place [] more = (refl, (refl, more None []))
outside role.Ordinary number heads place (open_one ∷ others) more = (refl, (refl, more None (open_one ∷ others)))
outside role.Conditional number heads place [] more = (refl, (refl, more None (record { number = number; plain_else = false } ∷ [])))
outside role.Conditional number heads place (open_one ∷ others) more =
    (refl, (refl, more None (record { number = number; plain_else = false } ∷ open_one ∷ others)))
outside (role.Else condition) number heads place [] more = (refl, (condition, (refl, more None [])))
outside (role.Else condition) number heads place (open_one ∷ others) more = else_line condition number heads place open_one.number open_one.plain_else others more
outside role.Endif number heads place [] more = (refl, (refl, more None []))
outside role.Endif number heads place (open_one ∷ others) more = (refl, more None others)
outside role.Define number heads place [] more = (refl, (refl, more (Some (record { number = number; depth = 0 })) []))
outside role.Define number heads place (open_one ∷ others) more =
    (refl, (refl, more (Some (record { number = number; depth = 0 })) (open_one ∷ others)))
outside role.Endef number heads place [] more = (refl, (refl, more None []))
outside role.Endef number heads place (open_one ∷ others) more = (refl, (refl, more None (open_one ∷ others)))

-- a line of a define
inside : (line : Role) (number : ℕ) (heads : List NumberedRole) (place opened depth : ℕ) (conditionals : List OpenConditional)
    → ((define : Option OpenDefine) (open_ones : List OpenConditional) → Sound define open_ones (place + 1) heads)
    → Sound (Some (record { number = opened; depth = depth })) conditionals place (record { role = line; number = number } ∷ heads)
unfolding open_at_end parts_from block_part after steps_from step_of ahead_of places_after levels_from TakesItems TakesBody
inside role.Ordinary number heads place opened depth conditionals more = more (Some (record { number = opened; depth = depth })) conditionals
inside role.Conditional number heads place opened depth conditionals more = more (Some (record { number = opened; depth = depth })) conditionals
inside (role.Else condition) number heads place opened depth conditionals more = more (Some (record { number = opened; depth = depth })) conditionals
inside role.Endif number heads place opened depth conditionals more = more (Some (record { number = opened; depth = depth })) conditionals
inside role.Define number heads place opened depth conditionals more = more (Some (record { number = opened; depth = depth + 1 })) conditionals
inside role.Endef number heads place opened zero conditionals more = (refl, more None conditionals)
inside role.Endef number heads place opened (suc depth) conditionals more = more (Some (record { number = opened; depth = depth })) conditionals

sound : (heads : List NumberedRole) (place : ℕ) (define : Option OpenDefine) (conditionals : List OpenConditional) → Sound define conditionals place heads
unfolding open_at_end parts_from steps_from ahead_of levels_from TakesBody
sound [] place None conditionals = ended conditionals place
sound [] place (Some define) conditionals = (refl, ended_with (missing.Endef define.number) conditionals place)
sound (head ∷ heads) place None conditionals = outside head.role head.number heads place conditionals (sound heads (place + 1))
sound (head ∷ heads) place (Some define) conditionals =
    inside head.role head.number heads place define.number define.depth conditionals (sound heads (place + 1))

pub tree_is_of : (heads : List NumberedRole) → IsTreeOf (tree_of (blocks_of heads).steps) (blocks_of heads).missing heads
tree_is_of heads = sound heads 0 None []
