-- Any tree of a text's lines is that of their steps.
use Rattle.std.proofs.Common.{arith, ◌≡◌, ℕ, zero, suc, ◌+◌, Bool, true, false, not, List, [], ◌∷◌, Option, Some, None, refl, sym, ap, subst, ◌∙◌}
use Rattle.kt_syntax.specs.declared.part.Missing.{Missing}
use Rattle.kt_syntax.specs.declared.part.OpenConditional.{OpenConditional}
use Rattle.kt_syntax.specs.declared.role.NumberedRole.{NumberedRole}
use Rattle.kt_syntax.specs.declared.role.Role.{Role}
use Rattle.kt_syntax.specs.declared.part.Stray.TheVariants as stray
use Rattle.kt_syntax.specs.declared.role.Role.TheVariants as role
use Rattle.kt_syntax.specs.Parts.{Scan, after, block_part, open_at_end, parts_from}
use Rattle.kt_syntax.specs.Steps.{ahead_of, places_after, step_of, steps_from}
use Rattle.kt_syntax.specs.Blocks.{Items, Branches, Level, none, line, fault, definition, conditional, no_branch, branch, late, blocks_of, innermost_level, levels_from, outer, tree_of}
use Rattle.kt_syntax.specs.views.Grammar.{IsTreeOf, Rests, TakesBody, TakesBranches, TakesEndif, TakesItems, or_missing}
use Rattle.kt_syntax.specs.views.Reading.{append}
use Rattle.kt_syntax.proofs.lemmas.Sound.{levels_at, missing_from}
use Rattle.kt_syntax.proofs.lemmas.ItemLemmas.{append-none}

-- outside defines
abbrev outside : List OpenConditional → Scan
outside conditionals = record { define = None; conditionals = conditionals }

abbrev is_inside : List OpenConditional → Bool
is_inside [] = false
is_inside (open_one ∷ others) = true

-- the missing end that was found, else that which is to come
abbrev or_option : Option Missing → Option Missing → Option Missing
or_option None later = later
or_option (Some found) later = Some found

or-missing : (found : Option Missing) (outer_one : Missing) (later : Option Missing) → or_option found (Some outer_one) ≡ or_option (or_missing found outer_one) later
or-missing found outer_one later = grind arith

-- the blocks from a place on are these items and then the blocks from another on, of which the rest holds
record Items_then (items : Items) (conditionals : List OpenConditional) (found : Option Missing) (place : ℕ) (heads : List NumberedRole) (Rest : Rests) : Type 0 where
  all : Option Missing
  next : ℕ
  more : List NumberedRole
  rest : Rest all next more
  missing_is : or_option found (missing_from (outside conditionals) heads) ≡ or_option all (missing_from (outside conditionals) more)
  items_are : (innermost_level (levels_at (outside conditionals) place heads)).items ≡ append items (innermost_level (levels_at (outside conditionals) next more)).items
  others_are : (innermost_level (levels_at (outside conditionals) place heads)).others ≡ (innermost_level (levels_at (outside conditionals) next more)).others
  outer_are : outer (levels_at (outside conditionals) place heads) ≡ outer (levels_at (outside conditionals) next more)

-- the same of branches, where no items and no branch follow them
record Branches_then (branches : Branches) (number : ℕ) (plain : Bool) (conditionals : List OpenConditional) (found : Option Missing) (place : ℕ) (heads : List NumberedRole) (Rest : Rests) : Type 0 where
  all : Option Missing
  next : ℕ
  more : List NumberedRole
  plain_after : Bool
  rest : Rest all next more
  missing_is : or_option found (missing_from (outside (record { number = number; plain_else = plain } ∷ conditionals)) heads) ≡ or_option all (missing_from (outside (record { number = number; plain_else = plain_after } ∷ conditionals)) more)
  items_are : innermost_level (levels_at (outside (record { number = number; plain_else = plain_after } ∷ conditionals)) next more) ≡ record { items = none; others = no_branch }
      → (innermost_level (levels_at (outside (record { number = number; plain_else = plain } ∷ conditionals)) place heads)).items ≡ none
  others_are : innermost_level (levels_at (outside (record { number = number; plain_else = plain_after } ∷ conditionals)) next more) ≡ record { items = none; others = no_branch }
      → (innermost_level (levels_at (outside (record { number = number; plain_else = plain } ∷ conditionals)) place heads)).others ≡ branches
  outer_are : outer (levels_at (outside (record { number = number; plain_else = plain } ∷ conditionals)) place heads)
      ≡ outer (levels_at (outside (record { number = number; plain_else = plain_after } ∷ conditionals)) next more)

-- the end of a conditional
record Endif_then (open_one : OpenConditional) (conditionals : List OpenConditional) (found : Option Missing) (place : ℕ) (heads : List NumberedRole) (Rest : Rests) : Type 0 where
  all : Option Missing
  next : ℕ
  more : List NumberedRole
  rest : Rest all next more
  missing_is : or_option found (missing_from (outside (open_one ∷ conditionals)) heads) ≡ or_option all (missing_from (outside conditionals) more)
  nothing : innermost_level (levels_at (outside (open_one ∷ conditionals)) place heads) ≡ record { items = none; others = no_branch }
  outer_are : outer (levels_at (outside (open_one ∷ conditionals)) place heads) ≡ levels_at (outside conditionals) next more

endif_then : (open_one : OpenConditional) (conditionals : List OpenConditional) (found : Option Missing) (place : ℕ) (heads : List NumberedRole) (Rest : Rests)
    → TakesEndif open_one.number found place heads Rest → Endif_then open_one conditionals found place heads Rest
unfolding open_at_end parts_from block_part after steps_from step_of ahead_of places_after levels_from
endif_then open_one conditionals found place heads Rest h = grind (arith, or-missing, missing_from)

-- the body of a define
record Body_then (number depth end : ℕ) (conditionals : List OpenConditional) (found : Option Missing) (place : ℕ) (heads : List NumberedRole) (Rest : Rests) : Type 0 where
  all : Option Missing
  next : ℕ
  more : List NumberedRole
  rest : Rest all next more
  missing_is : or_option found (missing_from (record { define = Some (record { number = number; depth = depth }); conditionals = conditionals }) heads) ≡ or_option all (missing_from (outside conditionals) more)
  end_is : (ahead_of place (parts_from (record { define = Some (record { number = number; depth = depth }); conditionals = conditionals }) heads)).body_end ≡ end
  levels_are : levels_at (record { define = Some (record { number = number; depth = depth }); conditionals = conditionals }) place heads ≡ levels_at (outside conditionals) next more

body_then : (heads : List NumberedRole) (number depth end : ℕ) (conditionals : List OpenConditional) (found : Option Missing) (place : ℕ) (Rest : Rests)
    → TakesBody number depth end found place heads Rest → Body_then number depth end conditionals found place heads Rest
unfolding open_at_end parts_from block_part after steps_from step_of ahead_of places_after levels_from TakesBody
body_then [] number depth end conditionals found place Rest h = grind (arith, or-missing, missing_from)
body_then (head ∷ heads) number depth end conditionals found place Rest h =
    by_role head.role depth h (λ (deeper : ℕ) (g : TakesBody number deeper end found (place + 1) heads Rest). body_then heads number deeper end conditionals found (place + 1) Rest g)
  where
    by_role : (line : Role) (depth : ℕ) → TakesBody number depth end found place (record { role = line; number = head.number } ∷ heads) Rest
        → ((deeper : ℕ) → TakesBody number deeper end found (place + 1) heads Rest → Body_then number deeper end conditionals found (place + 1) heads Rest)
        → Body_then number depth end conditionals found place (record { role = line; number = head.number } ∷ heads) Rest
    by_role role.Ordinary depth h more = let b = more depth h in record { all = b.all; next = b.next; more = b.more; rest = b.rest; missing_is = b.missing_is; end_is = b.end_is; levels_are = b.levels_are }
    by_role role.Conditional depth h more = let b = more depth h in record { all = b.all; next = b.next; more = b.more; rest = b.rest; missing_is = b.missing_is; end_is = b.end_is; levels_are = b.levels_are }
    by_role (role.Else condition) depth h more = let b = more depth h in record { all = b.all; next = b.next; more = b.more; rest = b.rest; missing_is = b.missing_is; end_is = b.end_is; levels_are = b.levels_are }
    by_role role.Endif depth h more = let b = more depth h in record { all = b.all; next = b.next; more = b.more; rest = b.rest; missing_is = b.missing_is; end_is = b.end_is; levels_are = b.levels_are }
    by_role role.Define depth h more = let b = more (depth + 1) h in record { all = b.all; next = b.next; more = b.more; rest = b.rest; missing_is = b.missing_is; end_is = b.end_is; levels_are = b.levels_are }
    by_role role.Endef zero h more = record { all = found; next = place + 1; more = heads; rest = h.1; missing_is = refl; end_is = sym h.0; levels_are = refl }
    by_role role.Endef (suc depth) h more = let b = more depth h in record { all = b.all; next = b.next; more = b.more; rest = b.rest; missing_is = b.missing_is; end_is = b.end_is; levels_are = b.levels_are }

-- an item and what follows it
line_then : (at : ℕ) (next : Items) (conditionals : List OpenConditional) (found : Option Missing) (place number : ℕ) (heads : List NumberedRole) (Rest : Rests) → at ≡ place
    → Items_then next conditionals found (place + 1) heads Rest → Items_then (line at next) conditionals found place (record { role = role.Ordinary; number = number } ∷ heads) Rest
unfolding open_at_end parts_from block_part after steps_from step_of ahead_of places_after levels_from
line_then at next conditionals found place number heads Rest e d = grind (arith, levels_at)

endef_then : (at : ℕ) (next : Items) (conditionals : List OpenConditional) (found : Option Missing) (place number : ℕ) (heads : List NumberedRole) (Rest : Rests) → at ≡ place
    → Items_then next conditionals found (place + 1) heads Rest → Items_then (fault stray.Endef at next) conditionals found place (record { role = role.Endef; number = number } ∷ heads) Rest
unfolding open_at_end parts_from block_part after steps_from step_of ahead_of places_after levels_from
endef_then at next conditionals found place number heads Rest e d = grind (arith, levels_at)

stray_endif_then : (at : ℕ) (next : Items) (found : Option Missing) (place number : ℕ) (heads : List NumberedRole) (Rest : Rests) → at ≡ place
    → Items_then next [] found (place + 1) heads Rest → Items_then (fault stray.Endif at next) [] found place (record { role = role.Endif; number = number } ∷ heads) Rest
unfolding open_at_end parts_from block_part after steps_from step_of ahead_of places_after levels_from
stray_endif_then at next found place number heads Rest e d = grind (arith, levels_at)

stray_else_then : (condition : Bool) (at : ℕ) (next : Items) (found : Option Missing) (place number : ℕ) (heads : List NumberedRole) (Rest : Rests) → at ≡ place
    → Items_then next [] found (place + 1) heads Rest → Items_then (fault stray.Else at next) [] found place (record { role = role.Else condition; number = number } ∷ heads) Rest
unfolding open_at_end parts_from block_part after steps_from step_of ahead_of places_after levels_from
stray_else_then condition at next found place number heads Rest e d = grind (arith, levels_at)

define_then : (at end : ℕ) (next : Items) (conditionals : List OpenConditional) (found : Option Missing) (place number : ℕ) (heads : List NumberedRole) (Rest : Rests) → at ≡ place
    → (b : Body_then number 0 end conditionals found (place + 1) heads (λ all after more. TakesItems (is_inside conditionals) next all after more Rest))
    → Items_then next conditionals b.all b.next b.more Rest
    → Items_then (definition at end next) conditionals found place (record { role = role.Define; number = number } ∷ heads) Rest
unfolding open_at_end parts_from block_part after steps_from step_of ahead_of places_after levels_from
define_then at end next conditionals found place number heads Rest e b d = grind (arith, levels_at)

conditional_then : (at : ℕ) (first : Items) (others : Branches) (next : Items) (conditionals : List OpenConditional) (found : Option Missing) (place number : ℕ) (heads : List NumberedRole)
    (Rest Rest-1 Rest-2 Rest-3 : Rests) → at ≡ place
    → (f : Items_then first (record { number = number; plain_else = false } ∷ conditionals) found (place + 1) heads Rest-1)
    → (b : Branches_then others number false conditionals f.all f.next f.more Rest-2)
    → (x : Endif_then (record { number = number; plain_else = b.plain_after }) conditionals b.all b.next b.more Rest-3)
    → Items_then next conditionals x.all x.next x.more Rest
    → Items_then (conditional at first others next) conditionals found place (record { role = role.Conditional; number = number } ∷ heads) Rest
unfolding open_at_end parts_from block_part after steps_from step_of ahead_of places_after levels_from
conditional_then at first others next conditionals found place number heads Rest Rest-1 Rest-2 Rest-3 e f b x d = grind (arith, levels_at, append-none)

-- a branch and those after it
branch_then : (at : ℕ) (condition : Bool) (items : Items) (others : Branches) (opened : ℕ) (conditionals : List OpenConditional) (found : Option Missing) (place number : ℕ) (heads : List NumberedRole)
    (Rest Rest-1 : Rests) → at ≡ place
    → (f : Items_then items (record { number = opened; plain_else = not condition } ∷ conditionals) found (place + 1) heads Rest-1)
    → Branches_then others opened (not condition) conditionals f.all f.next f.more Rest
    → Branches_then (branch at condition items others) opened false conditionals found place (record { role = role.Else condition; number = number } ∷ heads) Rest
unfolding open_at_end parts_from block_part after steps_from step_of ahead_of places_after levels_from
branch_then at condition items others opened conditionals found place number heads Rest Rest-1 e f b = grind (arith, levels_at, not, append-none)

late_then : (at : ℕ) (condition : Bool) (items : Items) (others : Branches) (opened : ℕ) (conditionals : List OpenConditional) (found : Option Missing) (place number : ℕ) (heads : List NumberedRole)
    (Rest Rest-1 : Rests) → at ≡ place
    → (f : Items_then items (record { number = opened; plain_else = true } ∷ conditionals) found (place + 1) heads Rest-1)
    → Branches_then others opened true conditionals f.all f.next f.more Rest
    → Branches_then (late at items others) opened true conditionals found place (record { role = role.Else condition; number = number } ∷ heads) Rest
unfolding open_at_end parts_from block_part after steps_from step_of ahead_of places_after levels_from
late_then at condition items others opened conditionals found place number heads Rest Rest-1 e f b = grind (arith, levels_at, append-none)

-- by induction on the tree
mutual
  unfolding TakesItems

  items_then : (items : Items) (conditionals : List OpenConditional) (found : Option Missing) (place : ℕ) (heads : List NumberedRole) (Rest : Rests)
      → TakesItems (is_inside conditionals) items found place heads Rest → Items_then items conditionals found place heads Rest
  items_then none conditionals found place heads Rest h = grind arith
  items_then (line at next) conditionals found place [] Rest h = absurd h.1
  items_then (line at next) conditionals found place (head ∷ heads) Rest h =
      let P : Role → Type 0 = λ it. Items_then (line at next) conditionals found place (record { role = it; number = head.number } ∷ heads) Rest in
      subst P (sym h.1.0) (line_then at next conditionals found place head.number heads Rest h.0 (items_then next conditionals found (place + 1) heads Rest h.1.1))
  items_then (fault stray.Endef at next) conditionals found place [] Rest h = absurd h.1
  items_then (fault stray.Endef at next) conditionals found place (head ∷ heads) Rest h =
      let P : Role → Type 0 = λ it. Items_then (fault stray.Endef at next) conditionals found place (record { role = it; number = head.number } ∷ heads) Rest in
      subst P (sym h.1.0) (endef_then at next conditionals found place head.number heads Rest h.0 (items_then next conditionals found (place + 1) heads Rest h.1.1))
  items_then (fault stray.Endif at next) [] found place [] Rest h = absurd h.1
  items_then (fault stray.Endif at next) [] found place (head ∷ heads) Rest h =
      let P : Role → Type 0 = λ it. Items_then (fault stray.Endif at next) [] found place (record { role = it; number = head.number } ∷ heads) Rest in
      subst P (sym h.1.0) (stray_endif_then at next found place head.number heads Rest h.0 (items_then next [] found (place + 1) heads Rest h.1.1))
  items_then (fault stray.Endif at next) (open_one ∷ others) found place heads Rest h = absurd h.1
  items_then (fault stray.Else at next) [] found place [] Rest h = absurd h.1.1
  items_then (fault stray.Else at next) [] found place (head ∷ heads) Rest h =
      let P : Role → Type 0 = λ it. Items_then (fault stray.Else at next) [] found place (record { role = it; number = head.number } ∷ heads) Rest in
      subst P (sym h.1.1.0) (stray_else_then h.1.0 at next found place head.number heads Rest h.0 (items_then next [] found (place + 1) heads Rest h.1.1.1))
  items_then (fault stray.Else at next) (open_one ∷ others) found place heads Rest h = absurd h.1
  items_then (fault stray.LateElse at next) conditionals found place heads Rest h = absurd h.1
  items_then (definition at end next) conditionals found place [] Rest h = absurd h.1
  items_then (definition at end next) conditionals found place (head ∷ heads) Rest h =
      let P : Role → Type 0 = λ it. Items_then (definition at end next) conditionals found place (record { role = it; number = head.number } ∷ heads) Rest in
      let b = body_then heads head.number 0 end conditionals found (place + 1) (λ all after more. TakesItems (is_inside conditionals) next all after more Rest) h.1.1 in
      subst P (sym h.1.0) (define_then at end next conditionals found place head.number heads Rest h.0 b (items_then next conditionals b.all b.next b.more Rest b.rest))
  items_then (conditional at first others next) conditionals found place [] Rest h = absurd h.1
  items_then (conditional at first others next) conditionals found place (head ∷ heads) Rest h =
      let P : Role → Type 0 = λ it. Items_then (conditional at first others next) conditionals found place (record { role = it; number = head.number } ∷ heads) Rest in
      let f = items_then first (record { number = head.number; plain_else = false } ∷ conditionals) found (place + 1) heads _ h.1.1 in
      let b = branches_then others head.number false conditionals f.all f.next f.more _ f.rest in
      let x = endif_then (record { number = head.number; plain_else = b.plain_after }) conditionals b.all b.next b.more _ b.rest in
      subst P (sym h.1.0) (conditional_then at first others next conditionals found place head.number heads Rest _ _ _ h.0 f b x
      (items_then next conditionals x.all x.next x.more Rest x.rest))

  branches_then : (branches : Branches) (number : ℕ) (plain : Bool) (conditionals : List OpenConditional) (found : Option Missing) (place : ℕ) (heads : List NumberedRole) (Rest : Rests)
      → TakesBranches plain branches found place heads Rest → Branches_then branches number plain conditionals found place heads Rest
  branches_then no_branch number plain conditionals found place heads Rest h = record {
    all = found;
    next = place;
    more = heads;
    plain_after = plain;
    rest = h;
    missing_is = refl;
    items_are = λ n. ap (λ (x : Level). x.items) n;
    others_are = λ n. ap (λ (x : Level). x.others) n;
    outer_are = refl;
  }
  branches_then (branch at condition items others) number plain conditionals found place [] Rest h = absurd h.2
  branches_then (branch at condition items others) number plain conditionals found place (head ∷ heads) Rest h =
      let P : Role → Type 0 = λ it. Branches_then (branch at condition items others) number plain conditionals found place (record { role = it; number = head.number } ∷ heads) Rest in
      let Q : Bool → Type 0 = λ came. Branches_then (branch at condition items others) number came conditionals found place (record { role = role.Else condition; number = head.number } ∷ heads) Rest in
      let f = items_then items (record { number = number; plain_else = not condition } ∷ conditionals) found (place + 1) heads _ h.2.1 in
      subst P (sym h.2.0) (subst Q (sym h.1) (branch_then at condition items others number conditionals found place head.number heads Rest _ h.0 f
      (branches_then others number (not condition) conditionals f.all f.next f.more Rest f.rest)))
  branches_then (late at items others) number plain conditionals found place [] Rest h = absurd h.2.1
  branches_then (late at items others) number plain conditionals found place (head ∷ heads) Rest h =
      let P : Role → Type 0 = λ it. Branches_then (late at items others) number plain conditionals found place (record { role = it; number = head.number } ∷ heads) Rest in
      let Q : Bool → Type 0 = λ came. Branches_then (late at items others) number came conditionals found place (record { role = role.Else h.2.0; number = head.number } ∷ heads) Rest in
      let f = items_then items (record { number = number; plain_else = true } ∷ conditionals) found (place + 1) heads _ h.2.1.1 in
      subst P (sym h.2.1.0) (subst Q (sym h.1) (late_then at h.2.0 items others number conditionals found place head.number heads Rest _ h.0 f
      (branches_then others number true conditionals f.all f.next f.more Rest f.rest)))

-- the tree of lines and their missing end are one alone
pub tree_is_one : (heads : List NumberedRole) (items : Items) (missing_one : Option Missing) → IsTreeOf items missing_one heads
    → (items ≡ tree_of (blocks_of heads).steps) × (missing_one ≡ (blocks_of heads).missing)
unfolding open_at_end parts_from steps_from levels_from
tree_is_one heads items missing_one h =
    let done = items_then items [] None 0 heads (λ all end more. (more ≡ []) × (all ≡ missing_one)) h in
    let nothing : (innermost_level (levels_at (outside []) done.next done.more)).items ≡ none = ended done.more done.next done.rest.0 in
    let last : or_option done.all (missing_from (outside []) done.more) ≡ done.all = all_found done.more done.all done.rest.0 in
    (sym (done.items_are ∙ ap (append items) nothing ∙ append-none items), sym (done.missing_is ∙ last ∙ done.rest.1))
  where
    ended : (more : List NumberedRole) (next : ℕ) → more ≡ [] → (innermost_level (levels_at (outside []) next more)).items ≡ none
    ended [] next e = refl
    ended (head ∷ more) next e = absurd (cc)

    all_found : (more : List NumberedRole) (all : Option Missing) → more ≡ [] → or_option all (missing_from (outside []) more) ≡ all
    all_found [] None e = refl
    all_found [] (Some found) e = refl
    all_found (head ∷ more) all e = absurd (cc)
