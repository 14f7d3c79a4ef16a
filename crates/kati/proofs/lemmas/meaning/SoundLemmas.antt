-- No plan that a run means has a cycle, two outputs of one file or a reserved name.
use Rattle.std.proofs.Common.{arith, ◌≡◌, ◌≢◌, ◌⊎◌, ℕ, Bool, true, false, not, List, [], ◌∷◌, ◌++◌, flat_map, Option, Result, Ok, Err, refl, sym, ap, ◌∙◌, subst, ⊎_elim, inl, inr, IfOk}
use Rattle.kati.proofs.Common.{Contains, bytes_eq, true≢false, Contains-append_cases, Contains-append_left, Contains-append_right, bytes_eq-Decides, Text, Entry, is_among, without_repeats, Stop, Makefile, Trace, Ends, groups_of, Node, all_inputs, inputs_of, order_only_of, always_name, canon_of, is_reserved, HasEdge, IsInGroup, IsMade, IsReached, Leads, reached_on, Contains-from_map, Contains-map, Contains-none, kept_by_filter, from_without_repeats, outputs, Plan, Statement, IsWritable, Meaning, MeansGoals, WantedGoals, always_build, always_built, implicit_of, joined_inputs, joined_order_only, outs_of, statement_of, first_or_rest, from_flat_map, in_flat_map}
use Rattle.kati.specs.Exact.{IsAlwaysBuilt, IsOfGroup, TellsGraph}
use Rattle.kati.specs.Sound.{IsSoundPlan, IsUnreserved, NeedsInput, NeedsItself}
use Rattle.kati.specs.views.Plans.{PlansAreSound}
use Rattle.kati.specs.inner.Views.{GoalsEnd}
use Rattle.kati.proofs.lemmas.meaning.ExactLemmas.{are_graphs, goals_told, of_group}
use Rattle.kati.proofs.lemmas.MeaningLemmas.{meant}
use Rattle.kati.proofs.lemmas.plan.PlanLemmas.{always_reserved, law, name_in, outs_in}
use Rattle.kt_graph.proofs.lemmas.nodes.FoundLemmas.{of_node}
use Rattle.kt_graph.proofs.lemmas.nodes.GroupLaw.{in_graph}

-- ---- the inputs of a group's statement

-- a name that a member of the group has among its inputs
pub record IsNeededBy (group : List Node) (input : Text) : Type 0 where
  pub member : Node
  pub among : Contains group member
  pub needs : Contains (all_inputs member) input

joined_needed : (group : List Node) (input : Text) → Contains (joined_inputs group) input → IsNeededBy group input
joined_needed group input has =
    let from = from_flat_map inputs_of group input (from_without_repeats (flat_map inputs_of group) input has) in
    record { member = from.0; among = from.1; needs = Contains-append_left (inputs_of from.0) (order_only_of from.0) input from.2 }

order_only_needed : (group : List Node) (input : Text) → Contains (joined_order_only group) input → IsNeededBy group input
order_only_needed group input has =
    let kept = kept_by_filter (λ name. not (is_among (joined_inputs group) name)) (without_repeats (flat_map order_only_of group)) input has in
    let from = from_flat_map order_only_of group input (from_without_repeats (flat_map order_only_of group) input kept.0) in
    record { member = from.0; among = from.1; needs = Contains-append_right (inputs_of from.0) (order_only_of from.0) input from.2 }

implicit_is : (always : Bool) (input : Text) → Contains (implicit_of always) input → input ≡ always_build
implicit_is true input has = grind (arith, ⊎_elim, Contains-none, first_or_rest)
implicit_is false input has = Contains-none input has

group_needs : (rules : List Entry) (group : List Node) (command : Option Text) (input : Text)
    → Contains ((statement_of rules group command).inputs ++ ((statement_of rules group command).implicit ++ (statement_of rules group command).order_only)) input
    → IsNeededBy group input ⊎ (input ≡ always_build)
unfolding statement_of
group_needs rules group command input has = ⊎_elim
    (λ (needed : Contains (joined_inputs group) input). inl (joined_needed group input needed))
    (λ (others : Contains ((statement_of rules group command).implicit ++ joined_order_only group) input). ⊎_elim
    (λ (always : Contains (statement_of rules group command).implicit input). inr (implicit_is _ input always))
    (λ (later : Contains (joined_order_only group) input). inl (order_only_needed group input later))
    (Contains-append_cases (statement_of rules group command).implicit (joined_order_only group) input others))
    (Contains-append_cases (joined_inputs group) ((statement_of rules group command).implicit ++ joined_order_only group) input has)

group_makes : (rules : List Entry) (group : List Node) (command : Option Text) (name : Text)
    → Contains (statement_of rules group command).outs name → Contains (outs_of group) name
unfolding statement_of
group_makes rules group command name has = has

group_names : (rules : List Entry) (group : List Node) (command : Option Text) (name : Text)
    → Contains ((statement_of rules group command).outs ++ ((statement_of rules group command).inputs ++ (statement_of rules group command).order_only)) name
    → Contains (outs_of group) name ⊎ IsNeededBy group name
unfolding statement_of
group_names rules group command name has = ⊎_elim
    (λ (made : Contains (outs_of group) name). inl made)
    (λ (needed : Contains (joined_inputs group ++ joined_order_only group) name). ⊎_elim
    (λ (input : Contains (joined_inputs group) name). inr (joined_needed group name input))
    (λ (later : Contains (joined_order_only group) name). inr (order_only_needed group name later))
    (Contains-append_cases (joined_inputs group) (joined_order_only group) name needed))
    (Contains-append_cases (outs_of group) (joined_inputs group ++ joined_order_only group) name has)

group_implicit : (rules : List Entry) (group : List Node) (command : Option Text) (name : Text)
    → Contains (statement_of rules group command).implicit name → name ≡ always_build
unfolding statement_of
group_implicit rules group command name has = implicit_is _ name has

module _ (read : Makefile) (limit : ℕ) (known goals : List Text) (plan : Plan) (tells : TellsGraph read limit known goals plan) where
  -- a made name isn't reserved
  free : (name : Text) → IsMade read.book known goals name → is_reserved name ≡ true → ⊥
  free name made reserved = tells.graph.0.free.free name (record { reached = made.reached; reserved = reserved })

  always_free : IsMade read.book known goals always_build → ⊥
  always_free made = free always_build made always_reserved

  -- a step of the plan is one of the graph, or leads to `always_build`
  step_of : (name input : Text) → NeedsInput plan.statements name input → HasEdge read.book known goals name input ⊎ (input ≡ always_build)
  step_of name input step = by (tells.grouped step.statement step.among)
    where
      edge : (group : List Node) → Contains (groups_of tells.nodes) group → Contains (outs_of group) name → IsNeededBy group input
          → HasEdge read.book known goals name input
      edge group is_group makes needed =
          let node = Contains-from_map name_in group name makes in
          let groups = law read.book known goals tells.nodes tells.graph.1 in
          let made_one = groups.made group node.0 is_group node.1 in
          let made_other = groups.made group needed.member is_group needed.among in
          let together = (groups.together node.0 needed.member made_one made_other).0 (group, is_group, node.1, needed.among) in
          record {
            member = needed.member.name;
            grouped = subst (λ (n : Text). IsInGroup read.book known goals n needed.member.name) node.2 together;
            needed = subst (λ (one : Node). Contains (all_inputs one) input)
                (sym (of_node read.book known goals tells.nodes tells.graph.1 needed.member
                (in_graph read.book known goals tells.nodes tells.graph.1 needed.member made_other))) needed.needs;
          }

      by : IsOfGroup read limit (groups_of tells.nodes) step.statement ⊎ IsAlwaysBuilt plan.statements step.statement
          → HasEdge read.book known goals name input ⊎ (input ≡ always_build)
      by (inl of) = ⊎_elim
          (λ (needed : IsNeededBy of.group input). inl (edge of.group of.among
          (group_makes read.book of.group of.command name (subst (λ (s : Statement). Contains s.outs name) of.is step.makes)) needed))
          (λ (always : input ≡ always_build). inr always)
          (group_needs read.book of.group of.command input
          (subst (λ (s : Statement). Contains (s.inputs ++ (s.implicit ++ s.order_only)) input) of.is step.needs))
      by (inr always) = Contains-none input (subst (λ (s : Statement). Contains (s.inputs ++ (s.implicit ++ s.order_only)) input) always.0 step.needs)

  -- `always_build` needs nothing
  no_step : (name input : Text) → name ≡ always_build → NeedsInput plan.statements name input → ⊥
  no_step name input is step = by (tells.grouped step.statement step.among)
    where
      by : IsOfGroup read limit (groups_of tells.nodes) step.statement ⊎ IsAlwaysBuilt plan.statements step.statement → ⊥
      by (inl of) = always_free (subst (λ (n : Text). IsMade read.book known goals n) is
          (of_group read.book known goals tells.nodes tells.graph.1 name of.group of.among
          (group_makes read.book of.group of.command name (subst (λ (s : Statement). Contains s.outs name) of.is step.makes))))
      by (inr always) = Contains-none input (subst (λ (s : Statement). Contains (s.inputs ++ (s.implicit ++ s.order_only)) input) always.0 step.needs)

  -- a path of the plan to what is made is one of the graph
  path_of : (from : Text) (steps : List Text) (to : Text) → to ≢ always_build → Leads (NeedsInput plan.statements) from steps to
      → Leads (HasEdge read.book known goals) from steps to
  path_of from [] to other same = same
  path_of from (step ∷ steps) to other (first, rest) = by (path_of step steps to other rest) (step_of from step first)
    where
      ended : (left : List Text) → step ≡ always_build → Leads (NeedsInput plan.statements) step left to → ⊥
      ended [] is same = other (sym same ∙ is)
      ended (next ∷ left) is (second, later) = no_step step next is second

      by : Leads (HasEdge read.book known goals) step steps to → HasEdge read.book known goals from step ⊎ (step ≡ always_build)
          → Leads (HasEdge read.book known goals) from (step ∷ steps) to
      by more (inl edge) = (edge, more)
      by more (inr is) = absurd (ended steps is rest)

  uncircled : (name : Text) → NeedsItself plan.statements name → ⊥
  uncircled name round = by (step_of name round.next round.step)
    where
      other : name ≢ always_build
      other is = no_step name round.next is round.step

      made : IsMade read.book known goals name ⊎ (name ≡ always_build)
      made = tells.only name (in_flat_map outs_in plan.statements round.step.statement name round.step.among round.step.makes)

      circular : IsMade read.book known goals name → HasEdge read.book known goals name round.next → ⊥
      circular is_made edge = tells.graph.0.free.uncircled.uncircled name (record {
        reached = is_made.reached;
        next = round.next;
        step = edge;
        path = (round.path.0, path_of round.next round.path.0 name other round.path.1);
      })

      ended : (steps : List Text) → round.next ≡ always_build → Leads (NeedsInput plan.statements) round.next steps name → ⊥
      ended [] is same = other (sym same ∙ is)
      ended (step ∷ steps) is (first, rest) = no_step round.next step is first

      by : HasEdge read.book known goals name round.next ⊎ (round.next ≡ always_build) → ⊥
      by (inl edge) = ⊎_elim (λ (is_made : IsMade read.book known goals name). circular is_made edge)
          (λ (is : name ≡ always_build). other is) made
      by (inr is) = ended round.path.0 is round.path.1

  -- a name of the same file as `always_build` is reserved
  reserved_by : (name : Text) → canon_of name ≡ canon_of always_build → is_reserved name ≡ true
  reserved_by name same = ap (λ (path : Text). bytes_eq path always_name) same ∙ always_reserved

  differ : (one other : Text) → Contains (outputs plan.statements) one → Contains (outputs plan.statements) other
      → canon_of one ≡ canon_of other → one ≡ other
  differ one other has_one has_other same = by (tells.only one has_one) (tells.only other has_other)
    where
      decided : IsMade read.book known goals one → IsMade read.book known goals other → (b : Bool) → bytes_eq one other ≡ b → one ≡ other
      decided made_one made_other true is = (bytes_eq-Decides one other).0 is
      decided made_one made_other false is = absurd (tells.graph.0.single one (record {
        made = made_one;
        other = other;
        other_made = made_other;
        differ = λ (equal : one ≡ other). true≢false (sym ((bytes_eq-Decides one other).1 equal) ∙ is);
        same = same;
      }))

      by : IsMade read.book known goals one ⊎ (one ≡ always_build) → IsMade read.book known goals other ⊎ (other ≡ always_build) → one ≡ other
      by (inl made_one) (inl made_other) = decided made_one made_other (bytes_eq one other) refl
      by (inl made_one) (inr always) = absurd (free one made_one (reserved_by one (same ∙ ap canon_of always)))
      by (inr always) (inl made_other) = absurd (free other made_other (reserved_by other (sym same ∙ ap canon_of always)))
      by (inr always_one) (inr always_other) = always_one ∙ sym always_other

  -- the inputs of a member of a group are reached
  needed_reached : (group : List Node) → Contains (groups_of tells.nodes) group → (input : Text) → IsNeededBy group input
      → IsReached read.book known goals input
  needed_reached group is_group input needed =
      let made = (law read.book known goals tells.nodes tells.graph.1).made group needed.member is_group needed.among in
      reached_on read.book known goals needed.member.name input
      (of_group read.book known goals tells.nodes tells.graph.1 needed.member.name group is_group
      (Contains-map name_in group needed.member needed.among)).reached
      (subst (λ (one : Node). Contains (all_inputs one) input)
      (sym (of_node read.book known goals tells.nodes tells.graph.1 needed.member
      (in_graph read.book known goals tells.nodes tells.graph.1 needed.member made))) needed.needs)

  not_reserved : (name : Text) → IsReached read.book known goals name → (b : Bool) → is_reserved name ≡ b → b ≡ false
  not_reserved name reached true is = absurd (tells.graph.0.free.free name (record { reached = reached; reserved = is }))
  not_reserved name reached false is = refl

  free_group : (group : List Node) (command : Option Text) → Contains (groups_of tells.nodes) group → IsUnreserved (statement_of read.book group command)
  free_group group command is_group = record {
    free = λ name has. ⊎_elim
        (λ (made : Contains (outs_of group) name). not_reserved name (of_group read.book known goals tells.nodes tells.graph.1 name group is_group made).reached
        (is_reserved name) refl)
        (λ (needed : IsNeededBy group name). not_reserved name (needed_reached group is_group name needed) (is_reserved name) refl)
        (group_names read.book group command name has);
    implicit = group_implicit read.book group command;
  }

  unreserved : (statement : Statement) → Contains plan.statements statement → IsUnreserved statement ⊎ (statement ≡ always_built)
  unreserved statement has = ⊎_elim
      (λ (of : IsOfGroup read limit (groups_of tells.nodes) statement).
      inl (subst (λ (one : Statement). IsUnreserved one) (sym of.is) (free_group of.group of.command of.among)))
      (λ (always : IsAlwaysBuilt plan.statements statement). inr always.0)
      (tells.grouped statement has)

  pub sound_plan : IsSoundPlan plan
  sound_plan = record { uncircled = uncircled; files_differ = differ; unreserved = unreserved }

pub goals_sound : (limit : ℕ) (want : WantedGoals) (trace : Trace) (m : Meaning) (plan : Plan) → m.result ≡ Ok plan → IsWritable plan
    → MeansGoals limit want trace m → IsSoundPlan plan
goals_sound limit want trace m plan ok fine means =
    sound_plan want.read limit want.known want.goals plan (goals_told limit want trace m plan ok fine means)

pub are_sound : PlansAreSound
are_sound args store asked m plan means ok =
    let graph = are_graphs args store asked m plan means ok in
    sound_plan graph.want.read args.limit graph.want.known graph.want.goals plan graph.tells

-- ---- the plan that a call returns

pub sound_if_ok : {A : Type 0} (see : A → Plan) (limit : ℕ) (want : WantedGoals) (trace left : Trace) (result : Result A Stop)
    → Ends (GoalsEnd limit want) trace see result left → IfOk result (λ plan. IsWritable (see plan)) → IfOk result (λ plan. IsSoundPlan (see plan))
sound_if_ok see limit want trace left (Ok plan) means fine =
    goals_sound limit want trace (meant left.said left.asked (Ok (see plan))) (see plan) refl fine means
sound_if_ok see limit want trace left (Err stop) means fine = tt
