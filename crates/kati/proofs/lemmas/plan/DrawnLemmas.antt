-- The statements read from a sketch are those of the plan.
use Rattle.std.proofs.Common.{rules, ◌≡◌, ℕ, ◌+◌, Bool, true, false, not, List, [], ◌∷◌, ◌++◌, length, Option, Some, None, refl, sym, ap, ◌∙◌, arith, zero, suc, ◌||◌, min, slice_get}
use Rattle.kati.proofs.Common.{list_any, length-append, Text, Entry, without_repeats, StepEnd, Gave, Stopped, Fails, done, then_do, Macros, Stop, Node, Statement, is_empty, command_for, has_implicit, implicit_of, plan_groups, statement_of, with_always_built}
use Rattle.kt_eval.specs.declared.stop.Stop.TheVariants as stops
use Rattle.kati.specs.inner.plan.Drawn.{AlwaysFirst, GroupSketch, always_drawn, drawn_of, statement_drawn}
use Rattle.kati.specs.inner.plan.Drawn.{statements_drawn}
use Rattle.kati.proofs.lemmas.plan.SingleLemmas.{own_inputs, own_order_only}

-- what is stored for a group gives its statement
pub told_is : (rules : List Entry) (group : List Node) (command : Option Text) → statement_drawn group (drawn_of rules group command) ≡ statement_of rules group command
unfolding statement_of without_repeats
told_is rules [] command = refl
told_is rules (node ∷ []) command = grind (arith, own_inputs, own_order_only)
told_is rules (node ∷ other ∷ others) command = refl

-- ---- statements one after another

pub told_more : (groups : List (List Node)) (drawn : List GroupSketch) (group : List Node) (one : GroupSketch) → length groups ≡ length drawn
    → statements_drawn (groups ++ group ∷ []) (drawn ++ one ∷ []) ≡ statements_drawn groups drawn ++ statement_drawn group one ∷ []
told_more [] [] group one same = refl
told_more [] (first ∷ drawn) group one same = absurd (omega (arith, same))
told_more (first ∷ groups) [] group one same = absurd (omega (arith, same))
told_more (first ∷ groups) (next ∷ drawn) group one same =
    ap (λ (l : List Statement). statement_drawn first next ∷ l) (told_more groups drawn group one (omega (arith, same)))

abbrev pub drawn_found : Option (List Node) → Option GroupSketch → Option Statement
drawn_found None one = None
drawn_found (Some group) None = None
drawn_found (Some group) (Some one) = Some (statement_drawn group one)

pub told_at : (groups : List (List Node)) (drawn : List GroupSketch) (i : ℕ) → slice_get (statements_drawn groups drawn) i ≡ drawn_found (slice_get groups i) (slice_get drawn i)
told_at [] drawn i = refl
told_at (group ∷ groups) [] zero = refl
told_at (group ∷ groups) [] (suc i) = grind arith
told_at (group ∷ groups) (one ∷ drawn) zero = refl
told_at (group ∷ groups) (one ∷ drawn) (suc i) = told_at groups drawn i

pub told_size : (groups : List (List Node)) (drawn : List GroupSketch) → length (statements_drawn groups drawn) ≡ min (length groups) (length drawn)
told_size [] drawn = omega arith
told_size (group ∷ groups) [] = omega arith
told_size (group ∷ groups) (one ∷ drawn) = omega (arith, told_size groups drawn)

-- ---- the statement `always_built`

implicit_if : (always : Bool) → not (is_empty (implicit_of always)) ≡ always
implicit_if true = refl
implicit_if false = refl

any_always : (groups : List (List Node)) (drawn : List GroupSketch) → length groups ≡ length drawn
    → list_any has_implicit (statements_drawn groups drawn) ≡ list_any (λ one. one.always) drawn
any_always [] [] same = refl
any_always [] (one ∷ drawn) same = absurd (omega (arith, same))
any_always (group ∷ groups) [] same = absurd (omega (arith, same))
any_always (group ∷ groups) (one ∷ drawn) same =
    ap (λ (b : Bool). b || list_any has_implicit (statements_drawn groups drawn)) (implicit_if one.always)
    ∙ ap (λ (b : Bool). one.always || b) (any_always groups drawn (omega (arith, same)))

pub always_first : (groups : List (List Node)) (drawn : List GroupSketch) → length groups ≡ length drawn → AlwaysFirst groups drawn
unfolding with_always_built
always_first groups drawn same = ap (λ (b : Bool). always_drawn b (statements_drawn groups drawn)) (sym (any_always groups drawn same))

-- ---- group by group

module _ (rules : List Entry) (table : Macros) (limit : ℕ) (groups : List (List Node)) (sketch : List GroupSketch) (group : List Node) (said : List Text) where
  -- the outcome after the next group is stored
  abbrev pub next_drawn : StepEnd (List Text) (List GroupSketch)
  next_drawn = then_do (command_for table limit group said) (λ command. done (sketch ++ drawn_of rules group command ∷ []))

  pub size_next : (drawn : List GroupSketch) (heard : List Text) → next_drawn ≡ Gave heard drawn → length drawn ≡ length sketch + 1
  size_next drawn heard is = grind (arith, length, length-append)

  module _ (left : List (List Node)) (same : length groups ≡ length sketch) where
    abbrev from_next : List GroupSketch → List Text → StepEnd (List Text) (List Statement)
    from_next drawn heard = plan_groups rules table limit left (statements_drawn (groups ++ group ∷ []) drawn) heard

    on_next : plan_groups rules table limit (group ∷ left) (statements_drawn groups sketch) said ≡ then_do next_drawn from_next
    unfolding plan_groups
    on_next = by (command_for table limit group said)
      where
        by : (o : StepEnd (List Text) (Option Text))
            → then_do o (λ command. plan_groups rules table limit left (statements_drawn groups sketch ++ statement_of rules group command ∷ []))
            ≡ then_do (then_do o (λ command. done (sketch ++ drawn_of rules group command ∷ []))) from_next
        by (Gave heard command) =
            ap (λ (l : List Statement). plan_groups rules table limit left l heard)
            (sym (told_more groups sketch group (drawn_of rules group command) same
            ∙ ap (λ (s : Statement). statements_drawn groups sketch ++ s ∷ []) (told_is rules group command)))
        by (Stopped heard fault) = refl

    pub plan_next : (groups' : List (List Node)) (drawn : List GroupSketch) (heard : List Text) → groups' ≡ groups ++ group ∷ [] → next_drawn ≡ Gave heard drawn
        → plan_groups rules table limit left (statements_drawn groups' drawn) heard
        ≡ plan_groups rules table limit (group ∷ left) (statements_drawn groups sketch) said
    plan_next groups' drawn heard grown is = grind (arith, on_next)

    pub plan_stops : (stop : Stop) (heard : List Text) → Fails stop heard next_drawn
        → Fails stop heard (plan_groups rules table limit (group ∷ left) (statements_drawn groups sketch) said)
    plan_stops (stops.Fault fault) heard is = on_next ∙ ap (λ (o : StepEnd (List Text) (List GroupSketch)). then_do o from_next) is
    plan_stops (stops.Device name) heard is = tt
    plan_stops stops.Memory heard is = tt

-- no group is left
pub plan_ends : (rules : List Entry) (table : Macros) (limit : ℕ) (left : List (List Node)) (statements : List Statement) (said : List Text) → left ≡ []
    → plan_groups rules table limit left statements said ≡ Gave said statements
unfolding plan_groups
plan_ends rules table limit left statements said none = ap (λ (gs : List (List Node)). plan_groups rules table limit gs statements said) none
