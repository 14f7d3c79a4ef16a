-- Reading the blocks of a page line by line is reading their tree.
use Rattle.std.proofs.Common.{◌≡◌, ℕ, ◌+◌, ◌<◌, Bool, true, false, cond, List, Option, Some, None, refl, arith}
use Rattle.kt_eval.proofs.Common.{slice_get, Items, Branches, none, line, fault, definition, conditional, no_branch, branch, late, append, after_branches, left_at, AreTried, IsConditional, Fault, World, StepEnd, Gave, Stopped, then_do, Step, Evaluator, Page, at_line, line_at, body_at, read_line, read_define, read_stray, late_else, branch_holds, read_items, read_branches}
use Rattle.kt_syntax.specs.declared.step.BlockStep.{BlockStep as Found}
use Rattle.kt_syntax.specs.declared.step.BlockStep.TheVariants as step

-- a step longer by what comes after it
then_more : {A B C : Type 0} (o : StepEnd World A) (f : A → Step B) (g : B → Step C) (h : A → Step C)
    → ((x : A) (w : World) → h x w ≡ then_do (f x w) g) → then_do o h ≡ then_do (then_do o f) g
then_more (Gave w x) f g h e = e x w
then_more (Stopped w x) f g h e = refl

-- the same steps after one
then_same : {A B : Type 0} (o : StepEnd World A) (f g : A → Step B) → ((x : A) (w : World) → f x w ≡ g x w) → then_do o f ≡ then_do o g
then_same (Gave w x) f g e = e x w
then_same (Stopped w x) f g e = refl

module _ (e : Evaluator) (sheet : Page) where
  -- items and then others
  read_append : (items others : Items) (w : World) → read_items e sheet (append items others) w ≡ then_do (read_items e sheet items w) (λ _. read_items e sheet others)
  unfolding read_items
  read_append none others w = refl
  read_append (line place next) others w =
      then_more (read_line e (line_at sheet.lines place) (at_line sheet place w)) _ _ _ (λ _ w1. read_append next others w1)
  read_append (fault kind place next) others w =
      then_more (read_stray kind (at_line sheet place w)) _ _ _ (λ _ w1. read_append next others w1)
  read_append (definition place end next) others w =
      then_more (read_define e _ (body_at sheet (place + 1) end) (at_line sheet place w)) _ _ _ (λ _ w1. read_append next others w1)
  read_append (conditional place first branches next) others w =
      then_more (branch_holds e sheet place true w) _ _ _ (λ chosen w1.
      then_more (cond chosen (read_items e sheet first) (read_branches e sheet branches) w1) _ _ _ (λ _ w2.
      then_more (late_else sheet branches w2) _ _ _ (λ _ w3. read_append next others w3)))

  -- what comes after the branch that was read
  read_after : (branches : Branches) (next : Items) (w : World)
      → read_items e sheet (after_branches branches next) w ≡ then_do (late_else sheet branches w) (λ _. read_items e sheet next)
  unfolding read_items late_else
  read_after no_branch next w = refl
  read_after (branch place condition items others) next w = read_after others next w
  read_after (late place items others) next w = refl

  -- reading the whole, from a place on
  abbrev left : List Found → ℕ → Step (Unit {0})
  left steps place = read_items e sheet (left_at steps place)

  -- some branches remain to be tried, from a place on
  pub record Tries (steps : List Found) (at after : ℕ) (w : World) (whole : StepEnd World (Unit {0})) : Type 0 where
    pub others : Branches
    pub tried : AreTried steps others at after
    pub rest : whole ≡ then_do (read_branches e sheet others w) (λ _. read_items e sheet (left_at steps after))

  -- the first branch is taken
  pub first_taken : (steps : List Found) (place next after : ℕ) (w w1 : World) → IsConditional steps place next after
      → branch_holds e sheet place true w ≡ Gave w1 true → left steps place w ≡ left steps (place + 1) w1
  unfolding read_items
  first_taken steps place next after w w1 c h = grind (arith, then_same, read_after, read_append)

  -- it isn't, and the others are tried
  pub first_passed : (steps : List Found) (place next after : ℕ) (w w1 : World) → IsConditional steps place next after
      → branch_holds e sheet place true w ≡ Gave w1 false → Tries steps next after w1 (left steps place w)
  unfolding read_items
  first_passed steps place next after w w1 c h = grind (arith, then_same, read_after)

  pub first_halted : (steps : List Found) (place : ℕ) (first : Items) (others : Branches) (rest : Items) (w w1 : World) (x : Fault)
      → left_at steps place ≡ conditional place first others rest
      → branch_holds e sheet place true w ≡ Stopped w1 x → left steps place w ≡ Stopped w1 x
  unfolding read_items
  first_halted steps place first others rest w w1 x is h = rw (is, h) refl

  condition_in : Option Found → Bool
  condition_in None = false
  condition_in (Some step.Line) = false
  condition_in (Some step.Body) = false
  condition_in (Some (step.Define end)) = false
  condition_in (Some step.Endef) = false
  condition_in (Some (step.Conditional next after)) = false
  condition_in (Some (step.Branch condition next after)) = condition
  condition_in (Some step.Endif) = false
  condition_in (Some (step.Stray kind)) = false

  next_in : Option Found → ℕ
  next_in None = 0
  next_in (Some step.Line) = 0
  next_in (Some step.Body) = 0
  next_in (Some (step.Define end)) = 0
  next_in (Some step.Endef) = 0
  next_in (Some (step.Conditional next after)) = 0
  next_in (Some (step.Branch condition next after)) = next
  next_in (Some step.Endif) = 0
  next_in (Some (step.Stray kind)) = 0

  module _ (steps : List Found) (at after : ℕ) (w w1 : World) (whole : StepEnd World (Unit {0})) (condition : Bool) (next more : ℕ) where
    taken_in : (others : Branches) → AreTried steps others at after
        → whole ≡ then_do (read_branches e sheet others w) (λ _. left steps after)
        → at < after → slice_get steps at ≡ Some (step.Branch condition next more)
        → branch_holds e sheet at condition w ≡ Gave w1 true → whole ≡ left steps (at + 1) w1
    unfolding AreTried read_items condition_in next_in
    taken_in no_branch tried rest lt found h = absurd (omega (arith, tried, lt))
    taken_in (late place items others) tried rest lt found h = absurd (omega (arith, tried, lt))
    taken_in (branch place test items others) tried rest lt found h = grind (arith, condition_in, read_append)

    passed_in : (others : Branches) → AreTried steps others at after
        → whole ≡ then_do (read_branches e sheet others w) (λ _. left steps after)
        → at < after → slice_get steps at ≡ Some (step.Branch condition next more)
        → branch_holds e sheet at condition w ≡ Gave w1 false → Tries steps next after w1 whole
    unfolding AreTried read_items condition_in next_in
    passed_in no_branch tried rest lt found h = absurd (omega (arith, tried, lt))
    passed_in (late place items others) tried rest lt found h = absurd (omega (arith, tried, lt))
    passed_in (branch place test items others) tried rest lt found h = grind (arith, condition_in, next_in)

    stopped_in : (x : Fault) (others : Branches) → AreTried steps others at after
        → whole ≡ then_do (read_branches e sheet others w) (λ _. left steps after)
        → at < after → slice_get steps at ≡ Some (step.Branch condition next more)
        → branch_holds e sheet at condition w ≡ Stopped w1 x → whole ≡ Stopped w1 x
    unfolding AreTried read_items condition_in next_in
    stopped_in x no_branch tried rest lt found h = absurd (omega (arith, tried, lt))
    stopped_in x (late place items others) tried rest lt found h = absurd (omega (arith, tried, lt))
    stopped_in x (branch place test items others) tried rest lt found h = grind (arith, condition_in)

    pub branch_taken : Tries steps at after w whole → at < after → slice_get steps at ≡ Some (step.Branch condition next more)
        → branch_holds e sheet at condition w ≡ Gave w1 true → whole ≡ left steps (at + 1) w1
    branch_taken t lt found h = taken_in t.others t.tried t.rest lt found h

    pub branch_passed : Tries steps at after w whole → at < after → slice_get steps at ≡ Some (step.Branch condition next more)
        → branch_holds e sheet at condition w ≡ Gave w1 false → Tries steps next after w1 whole
    branch_passed t lt found h = passed_in t.others t.tried t.rest lt found h

    pub branch_stopped : (x : Fault) → Tries steps at after w whole → at < after → slice_get steps at ≡ Some (step.Branch condition next more)
        → branch_holds e sheet at condition w ≡ Stopped w1 x → whole ≡ Stopped w1 x
    branch_stopped x t lt found h = stopped_in x t.others t.tried t.rest lt found h

  module _ (steps : List Found) (at after : ℕ) (w : World) (whole : StepEnd World (Unit {0})) where
    tried_in : (others : Branches) → AreTried steps others at after
        → whole ≡ then_do (read_branches e sheet others w) (λ _. left steps after)
        → ((condition : Bool) (next : ℕ) → slice_get steps at ≡ Some (step.Branch condition next after) → ⊥)
        → whole ≡ left steps after w
    unfolding AreTried read_items condition_in next_in
    tried_in no_branch tried rest none_there = rest
    tried_in (late place items others) tried rest none_there = rest
    tried_in (branch place test items others) tried rest none_there = grind arith

    pub all_passed : Tries steps at after w whole
        → ((condition : Bool) (next : ℕ) → slice_get steps at ≡ Some (step.Branch condition next after) → ⊥)
        → whole ≡ left steps after w
    all_passed t none_there = tried_in t.others t.tried t.rest none_there

pub ruleset branch_steps = (first_taken, first_passed, first_halted, branch_taken, branch_passed, branch_stopped, all_passed)
