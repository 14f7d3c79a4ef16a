-- Each plan that a run means is the graph of what its goals need.
use Rattle.std.proofs.Common.{◌≡◌, ◌≢◌, ◌⊎◌, ℕ, zero, suc, Bool, true, false, not, cond, List, [], ◌∷◌, ◌++◌, map, Option, Ok, refl, sym, ap, ◌∙◌, subst, ⊎_elim, inl, inr, arith}
use Rattle.kati.proofs.Common.{AllPairs, Contains, list_any, IsStrictlySortedBy, false≢true, flat_map-cons, Contains-append_cases, Contains-append_right, Text, Entry, Makefile, Trace, traced, Gave, IsSoundGraph, groups_of, leader_name, made_nodes, Node, is_leaf, node_of, IsGraph, IsMade, Contains-from_map, Contains-map, Contains-none, in_filter, kept_by_filter, outputs, IsWritable, Plan, Statement, Meaning, MeansGoals, WantedGoals, prepared, always_build, always_built, command_for, first_output, has_implicit, outs_of, plan_groups, plan_of, statement_of, with_always_built, gave_both, first_or_rest, from_flat_map, in_first, in_flat_map, in_rest}
use Rattle.kati.specs.Exact.{IsAlwaysBuilt, IsMadeOnce, IsOfGroup, StandInOrder, TellsGraph}
use Rattle.kati.specs.views.Plans.{PlansAreGraphs}
use Rattle.kati.proofs.lemmas.plan.PlanLemmas.{law, name_in, name_reached, order, outs_in, outs_told, statements_in}
use Rattle.kati.proofs.lemmas.meaning.ReadBackLemmas.{has_plan, plan_given, read_back, went_on}
use Rattle.kt_graph.proofs.lemmas.nodes.FoundLemmas.{of_node}

-- ---- names that differ

later_differ : {A : Type 0} (x : A) (xs : List A) → AllPairs (λ (a b : A). a ≢ b) (x ∷ xs) → AllPairs (λ (a b : A). a ≢ b) xs
later_differ x xs differ i j d lt within = differ (suc i) (suc j) d (omega arith) (omega arith)

first_differs : {A : Type 0} (x : A) (xs : List A) (y : A) → AllPairs (λ (a b : A). a ≢ b) (x ∷ xs) → Contains xs y → x ≢ y
first_differs x xs y differ has same =
    differ zero (suc has.0) y (omega arith) (let within = has.1 in omega arith) (same ∙ sym has.2)

rest_differ : (names rest : List Text) → AllPairs (λ (a b : Text). a ≢ b) (names ++ rest) → AllPairs (λ (a b : Text). a ≢ b) rest
rest_differ [] rest differ = differ
rest_differ (name ∷ names) rest differ = rest_differ names rest (later_differ name (names ++ rest) differ)

never_both : (names rest : List Text) (name : Text) → AllPairs (λ (a b : Text). a ≢ b) (names ++ rest) → Contains names name → Contains rest name → ⊥
never_both [] rest name differ here there = Contains-none name here
never_both (first ∷ names) rest name differ here there = ⊎_elim
    (λ (same : first ≡ name). first_differs first (names ++ rest) name differ (Contains-append_right names rest name there) same)
    (λ (later : Contains names name). never_both names rest name (later_differ first (names ++ rest) differ) later there)
    (first_or_rest first name names here)

-- a name is an output of one statement at most
single_output : (statements : List Statement) (one other : Statement) (name : Text) → AllPairs (λ (a b : Text). a ≢ b) (outputs statements)
    → Contains statements one → Contains one.outs name → Contains statements other → Contains other.outs name → other ≡ one
single_output [] one other name differ has_one in_one has_other in_other = Contains-none one has_one
single_output (first ∷ statements) one other name differ has_one in_one has_other in_other =
    by (λ rest later_one later_other. single_output statements one other name rest later_one in_one later_other in_other)
    (first_or_rest first one statements has_one) (first_or_rest first other statements has_other)
  where
    apart : AllPairs (λ (a b : Text). a ≢ b) (first.outs ++ outputs statements)
    apart = subst (λ (names : List Text). AllPairs (λ (a b : Text). a ≢ b) names) (flat_map-cons outs_in first statements) differ

    by : (AllPairs (λ (a b : Text). a ≢ b) (outputs statements) → Contains statements one → Contains statements other → other ≡ one)
        → (first ≡ one) ⊎ Contains statements one → (first ≡ other) ⊎ Contains statements other → other ≡ one
    by more (inl is_one) (inl is_other) = sym is_other ∙ is_one
    by more (inl is_one) (inr later) = absurd (never_both first.outs (outputs statements) name apart
        (subst (λ (s : Statement). Contains s.outs name) (sym is_one) in_one) (in_flat_map outs_in statements other name later in_other))
    by more (inr later) (inl is_other) = absurd (never_both first.outs (outputs statements) name apart
        (subst (λ (s : Statement). Contains s.outs name) (sym is_other) in_other) (in_flat_map outs_in statements one name later in_one))
    by more (inr later_one) (inr later_other) = more (rest_differ first.outs (outputs statements) apart) later_one later_other

-- ---- the statements of groups

group_later : (read : Makefile) (limit : ℕ) (first : List Node) (groups : List (List Node)) (statement : Statement)
    → IsOfGroup read limit groups statement → IsOfGroup read limit (first ∷ groups) statement
group_later read limit first groups statement of = grind (arith, in_rest)

groups_told : (read : Makefile) (limit : ℕ) (groups : List (List Node)) (before : List Statement) (said : List Text) (heard : List Text)
    (statements : List Statement) → plan_groups read.book read.table limit groups before said ≡ Gave heard statements
    → (statement : Statement) → Contains statements statement → Contains before statement ⊎ IsOfGroup read limit groups statement
unfolding plan_groups
groups_told read limit [] before said heard statements e statement has = grind (arith, statements_in)
groups_told read limit (group ∷ groups) before said heard statements e statement has =
    let both = gave_both (command_for read.table limit group said)
    (λ command. plan_groups read.book read.table limit groups (before ++ statement_of read.book group command ∷ [])) heard statements e in
    ⊎_elim
    (λ (among : Contains (before ++ statement_of read.book group both.given ∷ []) statement). of_this both.middle both.given both.is among)
    (λ (of : IsOfGroup read limit groups statement). inr (group_later read limit group groups statement of))
    (groups_told read limit groups (before ++ statement_of read.book group both.given ∷ []) both.middle heard statements both.rest statement has)
  where
    of_this : (told : List Text) (command : Option Text) → command_for read.table limit group said ≡ Gave told command
        → Contains (before ++ statement_of read.book group command ∷ []) statement
        → Contains before statement ⊎ IsOfGroup read limit (group ∷ groups) statement
    of_this told command is among = ⊎_elim
        (λ (earlier : Contains before statement). inl earlier)
        (λ (here : Contains (statement_of read.book group command ∷ []) statement). inr (record {
          group = group;
          among = in_first group groups;
          command = command;
          is_command = record { said = said; heard = told; expanded = is };
          is = ⊎_elim
              (λ (same : statement_of read.book group command ≡ statement). sym same)
              (λ (none : Contains [] statement). Contains-none statement none)
              (first_or_rest (statement_of read.book group command) statement [] here);
        }))
        (Contains-append_cases before (statement_of read.book group command ∷ []) statement among)

-- ---- in order

map_twice : {A B C : Type 0} (f : A → B) (g : B → C) (xs : List A) → map g (map f xs) ≡ map (λ (x : A). g (f x)) xs
map_twice f g [] = refl
map_twice {A} {B} {C} f g (x ∷ xs) = ap (λ (ys : List C). g (f x) ∷ ys) (map_twice f g xs)

first_out : (group : List Node) → first_output (outs_of group) ≡ leader_name group
first_out [] = refl
first_out (node ∷ nodes) = refl

first_outs : (groups : List (List Node)) → map (λ (group : List Node). first_output (outs_of group)) groups ≡ map leader_name groups
first_outs [] = refl
first_outs (group ∷ groups) = grind (arith, first_out, first_outs groups)

-- the least outputs of the statements of groups are the least members
least_are : (statements : List Statement) (groups : List (List Node)) → map outs_in statements ≡ map outs_of groups
    → map leader_name groups ≡ map (λ (statement : Statement). first_output statement.outs) statements
least_are statements groups outs =
    sym (first_outs groups) ∙ sym (map_twice outs_of first_output groups) ∙ ap (map first_output) (sym outs) ∙ map_twice outs_in first_output statements

-- ---- the plan of a sound graph

module _ (rules : List Entry) (known goals : List Text) (nodes : List Node) (graph : IsGraph rules known goals nodes) where
  -- a name of a group is made
  pub of_group : (name : Text) (group : List Node) → Contains (groups_of nodes) group → Contains (outs_of group) name → IsMade rules known goals name
  of_group name group is_group has =
      let node = Contains-from_map name_in group name has in
      let made = (law rules known goals nodes graph).made group node.0 is_group node.1 in
      let kept = kept_by_filter (λ (one : Node). not (is_leaf one.kind)) nodes node.0 made in
      record {
        reached = name_reached rules known goals nodes graph name (in_flat_map outs_of (groups_of nodes) group name is_group has);
        made = ap (λ (n : Text). is_leaf (node_of rules known n).kind) (sym node.2)
            ∙ ap (λ (one : Node). is_leaf one.kind) (of_node rules known goals nodes graph node.0 kept.0)
            ∙ not_made (is_leaf node.0.kind) kept.1;
      }
    where
      not_made : (b : Bool) → not b ≡ true → b ≡ false
      not_made true e = absurd (false≢true e)
      not_made false e = refl

module _ (read : Makefile) (limit : ℕ) (known goals : List Text) (nodes : List Node) (sound : IsSoundGraph read.book known goals nodes)
    (said heard : List Text) (statements : List Statement)
    (groups_are : plan_groups read.book read.table limit (groups_of nodes) [] said ≡ Gave heard statements)
    (fine : IsWritable (plan_of statements goals)) where
  abbrev all : List Statement
  all = with_always_built statements

  among_all : (statement : Statement) → Contains statements statement → Contains all statement
  unfolding with_always_built
  among_all statement has = by (list_any has_implicit statements)
    where
      by : (b : Bool) → Contains (cond b (always_built ∷ statements) statements) statement
      by true = in_rest always_built statement statements has
      by false = has

  outs : map outs_in statements ≡ map outs_of (groups_of nodes)
  outs = outs_told read.book read.table limit (groups_of nodes) [] said heard statements groups_are

  -- the node of a made name
  node_named : (name : Text) → IsMade read.book known goals name → (node : Node) × Contains (made_nodes nodes) node × (node.name ≡ name)
  node_named name made =
      let node = Contains-from_map name_in nodes name ((sound.1.reached name).1 made.reached) in (
        node.0,
        in_filter (λ (one : Node). not (is_leaf one.kind)) nodes node.0 node.1
            (ap (λ (one : Node). not (is_leaf one.kind)) (sym (of_node read.book known goals nodes sound.1 node.0 node.1))
            ∙ ap (λ (n : Text). not (is_leaf (node_of read.book known n).kind)) node.2 ∙ ap not made.made),
        node.2,
      )

  made_once : (name : Text) → IsMade read.book known goals name → IsMadeOnce all name
  made_once name made =
      let node = node_named name made in
      let one = (law read.book known goals nodes sound.1).each node.0 node.1 in
      let statement = Contains-from_map outs_in statements (outs_of one.group)
      (subst (λ (l : List (List Text)). Contains l (outs_of one.group)) (sym outs) (Contains-map outs_of (groups_of nodes) one.group one.among)) in
      let stands : Contains statement.0.outs name
      = subst (λ (names : List Text). Contains names name) (sym statement.2)
      (subst (λ (n : Text). Contains (outs_of one.group) n) node.2 (Contains-map name_in one.group node.0 one.stands)) in
      record {
        statement = statement.0;
        among = among_all statement.0 statement.1;
        stands = stands;
        single = λ other has in_other. single_output all statement.0 other name fine.different (among_all statement.0 statement.1) stands has in_other;
      }

  of_statements : (name : Text) → Contains (outputs statements) name → IsMade read.book known goals name
  of_statements name has =
      let statement = from_flat_map outs_in statements name has in
      let group = Contains-from_map outs_of (groups_of nodes) statement.0.outs
      (subst (λ (l : List (List Text)). Contains l statement.0.outs) outs (Contains-map outs_in statements statement.0 statement.1)) in
      of_group read.book known goals nodes sound.1 name group.0 group.1 (subst (λ (names : List Text). Contains names name) (sym group.2) statement.2)

  only_made : (name : Text) → Contains (outputs all) name → IsMade read.book known goals name ⊎ (name ≡ always_build)
  unfolding with_always_built
  only_made name has = grind (arith, cond, of_statements, ⊎_elim, first_or_rest)

  grouped : (statement : Statement) → Contains all statement → IsOfGroup read limit (groups_of nodes) statement ⊎ IsAlwaysBuilt all statement
  unfolding with_always_built
  grouped statement has = grind (arith, ⊎_elim, Contains-none, groups_told, cond, first_or_rest)

  always : list_any has_implicit all ≡ true → Contains all always_built
  unfolding with_always_built
  always needs = grind (arith, cond, in_first, false≢true)

  ordered : StandInOrder all
  ordered = record {
    groups = statements;
    are = refl;
    rise = subst (λ (names : List Text). IsStrictlySortedBy order names) (least_are statements (groups_of nodes) outs)
        (law read.book known goals nodes sound.1).leaders;
  }

  pub tells_graph : TellsGraph read limit known goals (plan_of statements goals)
  tells_graph = grind (arith, made_once, only_made, grouped, always, ordered)

-- ---- the whole

-- a run whose goals are chosen
pub goals_told : (limit : ℕ) (want : WantedGoals) (trace : Trace) (m : Meaning) (plan : Plan) → m.result ≡ Ok plan → IsWritable plan
    → MeansGoals limit want trace m → TellsGraph want.read limit want.known want.goals plan
goals_told limit want trace m plan ok fine (inl p) =
    let of = plan_given limit want p.nodes trace plan (sym (ap (λ (n : Meaning). n.result) p.means) ∙ ok) in
    subst (λ (q : Plan). TellsGraph want.read limit want.known want.goals q) (sym of.is)
    (tells_graph want.read limit want.known want.goals p.nodes p.graph trace.said of.heard of.statements of.groups (subst IsWritable of.is fine))
goals_told limit want trace m plan ok fine (inr trouble) = grind (arith, false≢true, has_plan)

pub are_graphs : PlansAreGraphs
are_graphs args store asked m plan means ok =
    let fine = (read_back args store asked m plan means ok).0 in
    let found = went_on args.limit (prepared args store (traced [] asked)) m plan ok means in
    record {
      want = found.want;
      trace = found.trace;
      is_prepared = found.is;
      tells = goals_told args.limit found.want found.trace m plan ok fine found.next;
    }
