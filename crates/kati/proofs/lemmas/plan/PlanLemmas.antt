-- The plan of what goals need can be written, if its names and commands can.
use Rattle.std.proofs.Common.{rules, ◌≡◌, ◌≢◌, ℕ, ◌+◌, Bool, true, false, not, ◌&&◌, if◌then◌else◌, cond, List, [], ◌∷◌, ◌++◌, map, filter, find, flat_map, Option, Some, None, refl, sym, ap, ◌∙◌, subst, ⊎_elim, append-nil, arith, IfOk, MatchOption, Result, Ok, Err, slice_get}
use Rattle.kati.proofs.Common.{option_and_then, option_map_or, All, AllPairs, Contains, list_all, list_any, IsStrictlySortedBy, is_eq, nat_cmp, Ordering, Less, slice_cmp, false≢true, true≢false, append_assoc, map-append, flat_map-cons, All-contains, All-cons, All-nil, Contains-append_cases, flat_map-map, sorted_tail, All-after_first, bytes_eq-Decides, Text, from_flat_map, in_first, in_flat_map, in_rest, Entry, Fault, Stop, StepEnd, Gave, Stopped, Macros, IsSoundGraph, AreGroups, are_together, groups_among, groups_of, is_leading, leader_name, made_nodes, Node, is_leaf, node_of, canon_of, is_reserved, components_of, IsGraph, IsReached, unmade_goal, Contains-from_map, Contains-map, Contains-none, in_filter, found_nowhere, kept_by_filter, Plan, Statement, outputs, IsWritable, HasWritableTexts, Obstacle, bad_name, bad_command, is_empty, is_writable_making, is_name, obstacle_of_statements, always_build, always_built, command_for, first_output, has_implicit, outs_of, plan_groups, plan_of, statement_of, text_fault, unwritable_in, with_always_built, gave_both, none-some, same_Some}
use Rattle.std.proofs.lemmas.List.Kept.{AllPairs-cons}
use Rattle.std.proofs.lemmas.Map.Text.{is_eq-slice_cmp}
use Rattle.kt_graph.proofs.lemmas.nodes.GroupLaw.{are_groups, in_graph, itself_together}
use Rattle.kt_ninja.specs.Plan as plans
use Rattle.kt_ninja.specs.views.View.{statement_names}
use Rattle.kati.specs.inner.Stops.{IsFaultOf}
use Rattle.kati.specs.inner.Views.{is_text_trouble}
use Rattle.kt_graph.proofs.lemmas.nodes.FoundLemmas.{of_node}

abbrev pub order : Text → Text → Ordering
order = slice_cmp nat_cmp

abbrev pub name_in : Node → Text
name_in node = node.name

abbrev pub outs_in : Statement → List Text
outs_in statement = statement.outs

-- ---- names that differ

all_if : {A : Type 0} (P : A → Type 0) (xs : List A) → ((x : A) → Contains xs x → P x) → All P xs
all_if P [] each = All-nil P
all_if P (x ∷ xs) each = All-cons P x xs (each x (in_first x xs)) (all_if P xs (λ y has. each y (in_rest x y xs has)))

-- a name isn't less than itself
pub not_less : (name other : Text) → order name other ≡ Less → name ≢ other
not_less name other less same =
    true≢false (sym ((bytes_eq-Decides name other).1 same) ∙ sym (is_eq-slice_cmp name other) ∙ ap is_eq less)

apart : (names rest : List Text) → IsStrictlySortedBy order names → ((x : Text) → Contains names x → Contains rest x → ⊥)
    → AllPairs (λ (a b : Text). a ≢ b) rest → AllPairs (λ (a b : Text). a ≢ b) (names ++ rest)
apart [] rest rises off differ = differ
apart (name ∷ names) rest rises off differ =
    AllPairs-cons (λ (a b : Text). a ≢ b) name (names ++ rest)
    (all_if (λ (x : Text). name ≢ x) (names ++ rest) (λ x has. ⊎_elim
    (λ (later : Contains names x). not_less name x (All-contains (λ (q : Text). order name q ≡ Less) names x (All-after_first order name names rises) later))
    (λ (after : Contains rest x) (same : name ≡ x). off name (in_first name names) (subst (λ (y : Text). Contains rest y) (sym same) after))
    (Contains-append_cases names rest x has)))
    (apart names rest (sorted_tail order name names rises) (λ x has after. off x (in_rest name x names has) after) differ)

no_pairs : AllPairs (λ (a b : Text). a ≢ b) []
no_pairs i j d below within = absurd (omega arith)

-- ---- the groups of a graph

nonempty_names : (group : List Node) (node : Node) → Contains group node → is_empty (outs_of group) ≡ false
nonempty_names [] node has = Contains-none node has
nonempty_names (first ∷ group) node has = refl

leader_among : (nodes : List Node) (group : List Node) → Contains (groups_among nodes) group
    → (node : Node) × Contains (filter (is_leading nodes) nodes) node × (filter (are_together node) nodes ≡ group)
unfolding groups_among
leader_among nodes group is_group =
    Contains-from_map (λ (leader : Node). filter (are_together leader) nodes) (filter (is_leading nodes) nodes) group is_group

module _ (rules : List Entry) (known goals : List Text) (nodes : List Node) (graph : IsGraph rules known goals nodes) where
  pub law : AreGroups rules known goals nodes (groups_of nodes)
  law = are_groups rules known goals nodes graph

  -- groups with a common name are one group
  one_group : (group other : List Node) (name : Text) → Contains (groups_of nodes) group → Contains (groups_of nodes) other
      → Contains (outs_of group) name → Contains (outs_of other) name → group ≡ other
  one_group group other name is_group is_other in_group in_other =
      let a = Contains-from_map name_in group name in_group in
      let b = Contains-from_map name_in other name in_other in
      let made_a : Contains (made_nodes nodes) a.0 = law.made group a.0 is_group a.1 in
      let made_b : Contains (made_nodes nodes) b.0 = law.made other b.0 is_other b.1 in
      let same : b.0 ≡ a.0
      = sym (of_node rules known goals nodes graph b.0 (in_graph rules known goals nodes graph b.0 made_b)) ∙ ap (node_of rules known) (b.2 ∙ sym a.2) ∙ of_node rules known goals nodes graph a.0 (in_graph rules known goals nodes graph a.0 made_a) in
      let one = law.each a.0 made_a in
      one.single group is_group a.1 ∙ sym (one.single other is_other (subst (λ (node : Node). Contains other node) same b.1))

  differ_among : (groups : List (List Node)) → ((group : List Node) → Contains groups group → Contains (groups_of nodes) group)
      → IsStrictlySortedBy order (map leader_name groups) → AllPairs (λ (a b : Text). a ≢ b) (flat_map outs_of groups)
  differ_among [] within rises = no_pairs
  differ_among (group ∷ groups) within rises =
      subst (λ (names : List Text). AllPairs (λ (a b : Text). a ≢ b) names) (sym (flat_map-cons outs_of group groups))
      (apart (outs_of group) (flat_map outs_of groups)
      (All-contains (λ (one : List Node). IsStrictlySortedBy order (map name_in one)) (groups_of nodes) group law.members is_group)
      (λ name here after.
      let other = from_flat_map outs_of groups name after in
      let same : group ≡ other.0
      = one_group group other.0 name is_group (within other.0 (in_rest group other.0 groups other.1)) here other.2 in
      not_less (leader_name group) (leader_name other.0)
      (All-contains (λ (q : Text). order (leader_name group) q ≡ Less) (map leader_name groups) (leader_name other.0)
      (All-after_first order (leader_name group) (map leader_name groups) rises) (Contains-map leader_name groups other.0 other.1))
      (ap leader_name same))
      (differ_among groups (λ one has. within one (in_rest group one groups has)) (sorted_tail order (leader_name group) (map leader_name groups) rises)))
    where
      is_group : Contains (groups_of nodes) group
      is_group = within group (in_first group groups)

  -- each group has a name
  begun : (group : List Node) → Contains (groups_of nodes) group → is_empty (outs_of group) ≡ false
  begun group is_group = nonempty_names group leader.0 (subst (λ (one : List Node). Contains one leader.0) leader.2 stands)
    where
      leader : (node : Node) × Contains (filter (is_leading (made_nodes nodes)) (made_nodes nodes)) node × (filter (are_together node) (made_nodes nodes) ≡ group)
      leader = leader_among (made_nodes nodes) group is_group

      stands : Contains (filter (are_together leader.0) (made_nodes nodes)) leader.0
      stands = in_filter (are_together leader.0) (made_nodes nodes) leader.0
          (kept_by_filter (is_leading (made_nodes nodes)) (made_nodes nodes) leader.0 leader.1).0 (itself_together leader.0)

  -- a goal is one of the names
  goal_named : unmade_goal rules known goals ≡ None → (goal : Text) → Contains goals goal → Contains (flat_map outs_of (groups_of nodes)) goal
  goal_named all_made goal has = in_flat_map outs_of (groups_of nodes) (law.each node.0 made).group goal (law.each node.0 made).among
      (subst (λ (name : Text). Contains (outs_of (law.each node.0 made).group) name) node.2
      (Contains-map name_in (law.each node.0 made).group node.0 (law.each node.0 made).stands))
    where
      node : (one : Node) × Contains nodes one × (one.name ≡ goal)
      node = Contains-from_map name_in nodes goal ((graph.reached goal).1 (record { goal = goal; named = has; path = ([], refl) }))

      made : Contains (made_nodes nodes) node.0
      made = in_filter (λ (one : Node). not (is_leaf one.kind)) nodes node.0 node.1
          (ap (λ (one : Node). not (is_leaf one.kind)) (sym (of_node rules known goals nodes graph node.0 node.1))
          ∙ ap (λ (name : Text). not (is_leaf (node_of rules known name).kind)) node.2
          ∙ ap not (found_nowhere (λ (name : Text). is_leaf (node_of rules known name).kind) goals all_made goal has))

  -- a name of the groups is reached
  pub name_reached : (name : Text) → Contains (flat_map outs_of (groups_of nodes)) name → IsReached rules known goals name
  name_reached name has = (graph.reached name).0 (subst (λ (one : Text). Contains (map name_in nodes) one) node.2
      (Contains-map name_in nodes node.0 (in_graph rules known goals nodes graph node.0 (law.made group.0 node.0 group.1 node.1))))
    where
      group : (one : List Node) × Contains (groups_of nodes) one × Contains (outs_of one) name
      group = from_flat_map outs_of (groups_of nodes) name has

      node : (one : Node) × Contains group.0 one × (one.name ≡ name)
      node = Contains-from_map name_in group.0 name group.2

-- ---- the statements of groups

abbrev pub statements_in : StepEnd (List Text) (List Statement) → List Statement
statements_in (Gave said statements) = statements
statements_in (Stopped said fault) = []

pub outs_told : (rules : List Entry) (table : Macros) (limit : ℕ) (groups : List (List Node)) (before : List Statement) (said : List Text)
    (heard : List Text) (statements : List Statement) → plan_groups rules table limit groups before said ≡ Gave heard statements
    → map outs_in statements ≡ map outs_in before ++ map outs_of groups
unfolding plan_groups statement_of
outs_told rules table limit [] before said heard statements e = grind (arith, append-nil)
outs_told rules table limit (group ∷ groups) before said heard statements e =
    let both = gave_both (command_for table limit group said)
    (λ command. plan_groups rules table limit groups (before ++ statement_of rules group command ∷ [])) heard statements e in
    outs_told rules table limit groups (before ++ statement_of rules group both.given ∷ []) both.middle heard statements both.rest
    ∙ ap (λ (names : List (List Text)). names ++ map outs_of groups) (map-append outs_in before (statement_of rules group both.given ∷ []))
    ∙ append_assoc (map outs_in before) (outs_of group ∷ []) (map outs_of groups)

-- ---- the plan

all_begun : (statements : List Statement) → ((outs : List Text) → Contains (map outs_in statements) outs → is_empty outs ≡ false)
    → list_all (λ (s : Statement). not (is_empty s.outs)) statements ≡ true
all_begun [] each = refl
all_begun (s ∷ statements) each =
    ap (λ b. not b && list_all (λ (one : Statement). not (is_empty one.outs)) statements) (each s.outs (in_first s.outs (map outs_in statements)))
    ∙ all_begun statements (λ outs has. each outs (in_rest s.outs outs (map outs_in statements) has))

pub always_reserved : is_reserved always_build ≡ true
unfolding canon_of components_of
always_reserved = refl

module _ (rules : List Entry) (known goals : List Text) (nodes : List Node) (sound : IsSoundGraph rules known goals nodes)
    (statements : List Statement) (outs : map outs_in statements ≡ map outs_of (groups_of nodes)) where
  names_are : outputs statements ≡ flat_map outs_of (groups_of nodes)
  names_are =
      sym (flat_map-map (λ (names : List Text). names) outs_in statements)
      ∙ ap (flat_map (λ (names : List Text). names)) outs
      ∙ flat_map-map (λ (names : List Text). names) outs_of (groups_of nodes)

  each_begun : list_all (λ (s : Statement). not (is_empty s.outs)) statements ≡ true
  each_begun = all_begun statements (λ names has.
      let group = Contains-from_map outs_of (groups_of nodes) names (subst (λ (l : List (List Text)). Contains l names) outs has) in
      ap is_empty (sym group.2) ∙ begun rules known goals nodes sound.1 group.0 group.1)

  all_differ : AllPairs (λ (a b : Text). a ≢ b) (outputs statements)
  all_differ = subst (λ (names : List Text). AllPairs (λ (a b : Text). a ≢ b) names) (sym names_are)
      (differ_among rules known goals nodes sound.1 (groups_of nodes) (λ group has. has)
      (law rules known goals nodes sound.1).leaders)

  each_goal : (goal : Text) → Contains goals goal → Contains (outputs statements) goal
  each_goal goal has = subst (λ (names : List Text). Contains names goal) (sym names_are)
      (goal_named rules known goals nodes sound.1 sound.0.free.uncircled.goals_made.made goal has)

  always_apart : (name : Text) → Contains (outputs statements) name → always_build ≢ name
  always_apart name has same = grind (arith, name_reached, names_are, always_reserved)

  pub can_be_written : HasWritableTexts (plan_of statements goals) → IsWritable (plan_of statements goals)
  unfolding with_always_built
  can_be_written texts = by (list_any has_implicit statements) texts
    where
      by : (b : Bool) → HasWritableTexts (record { statements = cond b (always_built ∷ statements) statements; defaults = goals })
          → IsWritable (record { statements = cond b (always_built ∷ statements) statements; defaults = goals })
      by false t = record {
        made = each_begun;
        texts = t;
        different = all_differ;
        defaults = all_if (λ (goal : Text). Contains (outputs statements) goal) goals each_goal;
      }
      by true t = record {
        made = each_begun;
        texts = t;
        different = AllPairs-cons (λ (a b : Text). a ≢ b) always_build (outputs statements) (all_if (λ (x : Text). always_build ≢ x) (outputs statements) always_apart) all_differ;
        defaults = all_if (λ (goal : Text). Contains (always_build ∷ outputs statements) goal) goals
            (λ goal has. in_rest always_build goal (outputs statements) (each_goal goal has));
      }

-- the plan of a sound graph can be written, if its texts can
pub plan_writable : {A : Type 0} (see : A → Plan) (rules : List Entry) (table : Macros) (limit : ℕ) (known goals : List Text) (nodes : List Node) (said heard : List Text) (statements : List Statement)
    → IsSoundGraph rules known goals nodes → plan_groups rules table limit (groups_of nodes) [] said ≡ Gave heard statements
    → (plan : Plan) → plan ≡ plan_of statements goals
    → (result : Result A Stop) → IfOk result (λ p. see p ≡ plan) → IfOk result (λ p. HasWritableTexts (see p)) → IfOk result (λ p. IsWritable (see p))
plan_writable see rules table limit known goals nodes said heard statements sound planned_so plan is (Ok p) same texts =
    subst IsWritable (sym (same ∙ is))
    (can_be_written rules known goals nodes sound statements (outs_told rules table limit (groups_of nodes) [] said heard statements planned_so)
    (subst HasWritableTexts (same ∙ is) texts))
plan_writable see rules table limit known goals nodes said heard statements sound planned_so plan is (Err stop) same texts = tt

-- ---- what can't be written

text_by : (trouble other : Obstacle) → Some trouble ≡ Some other → is_text_trouble other ≡ true → is_text_trouble trouble ≡ true
text_by trouble other e is = ap is_text_trouble (same_Some trouble other e) ∙ is

-- what is wrong with names and commands is never anything else
pub text_troubles : (number : ℕ) (statements : List Statement) (trouble : Obstacle) → Some trouble ≡ obstacle_of_statements number statements
    → is_text_trouble trouble ≡ true
text_troubles number [] trouble e = absurd (none-some trouble (sym e))
text_troubles number (s ∷ statements) trouble e =
    by (λ f. text_troubles (number + 1) statements trouble f) (find (λ (n : Text). not (is_name n)) (plans.names_of s)) (is_writable_making s.made) e
  where
    rest : Option Obstacle
    rest = obstacle_of_statements (number + 1) statements

    by : (Some trouble ≡ obstacle_of_statements (number + 1) statements → is_text_trouble trouble ≡ true) → (found : Option Text) (made : Bool)
        → Some trouble ≡ Rattle.std.specs.Option.option_or (Rattle.std.specs.Option.option_or (Rattle.std.specs.Prelude.option_map bad_name found) (if made then None else Some (bad_command number))) (obstacle_of_statements (number + 1) statements)
        → is_text_trouble trouble ≡ true
    by more (Some name) made f = text_by trouble (bad_name name) f refl
    by more None false f = text_by trouble (bad_command number) f refl
    by more None true f = more f

pub text_settled : (plan : Plan) (trouble : Obstacle) (result : Option Stop) → Some trouble ≡ obstacle_of_statements 0 plan.statements
    → MatchOption result ((text_fault plan.statements trouble ≡ None) × (is_text_trouble trouble ≡ false))
    (λ stop. (fault : Fault) × (text_fault plan.statements trouble ≡ Some fault) × IsFaultOf fault stop)
    → MatchOption result ((unwritable_in plan.statements ≡ None) × HasWritableTexts plan)
    (λ stop. (fault : Fault) × (unwritable_in plan.statements ≡ Some fault) × IsFaultOf fault stop)
unfolding unwritable_in
text_settled plan trouble None is h = absurd (false≢true (sym h.1 ∙ text_troubles 0 plan.statements trouble is))
text_settled plan trouble (Some stop) is h = (h.0, ap (option_and_then (text_fault plan.statements)) (sym is) ∙ h.1, h.2)

-- the least output of a statement at a place
pub least_here : (found : Option Statement) (name : Text) → slice_get (statement_names (λ s. s.outs) found) 0 ≡ Some name
    → name ≡ option_map_or (λ statement. first_output statement.outs) found []
least_here None name is = absurd (cc is)
least_here (Some s) name is = grind arith

pub least_none : (found : Option Statement) → None ≡ slice_get (statement_names (λ s. s.outs) found) 0
    → [] ≡ option_map_or (λ statement. first_output statement.outs) found []
least_none None is = refl
least_none (Some s) is = grind arith
