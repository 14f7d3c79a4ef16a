-- Each run has a meaning: the result of its goals can be decided, since the names that they may need are in a list.
use Rattle.std.proofs.Common.{arith, ◌≡◌, ◌⊎◌, ℕ, Bool, true, false, List, [], ◌∷◌, ◌++◌, map, filter, find, flat_map, Option, Some, None, refl, sym, ap, subst, ⊎_elim, inl, inr}
use Rattle.kati.proofs.Common.{Contains, list_any, IsStrictlySortedBy, nat_cmp, slice_cmp, Text, word_set, Entry, IsSoundGraph, trouble_number, trouble_words, is_one_making, Instance, Node, all_inputs, node_of, is_reserved, AreOneMaking, ComesFirst, HasEdge, HasInput, IsCyclic, IsFirst, IsGraph, IsInGroup, IsReached, Leads, Reaches, Trouble, beside, itself, circular, no_rule, one_file, reserved_name, unmade_goal, first_or_rest, from_flat_map, in_first, in_flat_map, in_rest, reached_on, node_name, comes_first, file_trouble, in_filter, kept_by_filter, is_reserved_there, none_below, group_cases, Trace, traced, Gave, StepEnd, Stopped, fault_at, Meaning, MeansAfter, MeansGoals, WantedGoals, meaning_of, prepared, planned}
use Rattle.kt_text.proofs.lemmas.SortLemmas.{word_set-sorts}
use Rattle.kt_graph.specs.views.faults.Files.{is_repeated}
use Rattle.kt_graph.specs.views.nodes.Groups.{made_names}
use Rattle.kt_graph.proofs.lemmas.nodes.GroupLemmas.{one_itself}
use Rattle.kt_graph.proofs.lemmas.nodes.ReachLemmas.{goal_reached, leads_on}
use Rattle.kati_laws.specs.Once.{HasAMeaning}
use Rattle.kati.specs.Steps.{telling}
use Rattle.kati_laws.proofs.BoundLemmas.{closed_names}
use Rattle.kati_laws.proofs.ClosingLemmas.{Closed, Decided, FirstOf, IsClosed, closing, decide_in, first_or_none}
use Rattle.kt_graph.proofs.lemmas.nodes.GroupLaw.{making_told}

-- the result of goals: the first thing that is wrong, or the graph
abbrev pub ComesTo : List Entry → List Text → List Text → Type 0
ComesTo rules known goals =
    ((trouble : Trouble) × ComesFirst rules known goals (Some trouble)) ⊎ ((nodes : List Node) × IsSoundGraph rules known goals nodes)

-- what is met by steps is in a list that is closed under them
along : (Edge : Text → Text → Type 0) (names : List Text) → ((one other : Text) → Contains names one → Edge one other → Contains names other)
    → (from : Text) (steps : List Text) (to : Text) → Contains names from → Leads Edge from steps to → Contains names to
along Edge names closed from [] to has same = subst (Contains names) same has
along Edge names closed from (step ∷ steps) to has path = along Edge names closed step steps to (closed from step has path.0) path.1

one_making : (one other : Option Instance) (making : Instance) → one ≡ Some making → other ≡ Some making → is_one_making one other ≡ true
one_making one other making first second = grind (arith, one_itself)

module _ (rules : List Entry) (known goals names : List Text) (are : IsClosed rules known goals names) where
  reach : Closed (λ name. all_inputs (node_of rules known name)) goals (IsReached rules known goals)
  reach = closing (λ name. all_inputs (node_of rules known name)) goals names (IsReached rules known goals) are.begun are.closed
      (goal_reached rules known goals) (reached_on rules known goals)

  all_reached : (name : Text) → IsReached rules known goals name → Contains reach.names name
  all_reached name reached =
      along (HasInput rules known) reach.names reach.closed reached.goal reached.path.0 name (reach.begun reached.goal reached.named) reached.path.1

  -- ---- the graph

  abbrev sorted : List Text
  sorted = word_set reach.names

  in_sorted : (name : Text) → IsReached rules known goals name → Contains sorted name
  in_sorted name reached = ((word_set-sorts reach.names).members name).1 (all_reached name reached)

  from_sorted : (name : Text) → Contains sorted name → Contains reach.names name
  from_sorted name has = ((word_set-sorts reach.names).members name).0 has

  abbrev nodes : List Node
  nodes = map (node_of rules known) sorted

  named_alike : (ns : List Text) → map (λ (node : Node). node.name) (map (node_of rules known) ns) ≡ ns
  named_alike [] = refl
  named_alike (name ∷ ns) = grind (arith, node_name, named_alike ns)

  graph : IsGraph rules known goals nodes
  graph = record {
    rises = subst (IsStrictlySortedBy (slice_cmp nat_cmp)) (sym (named_alike sorted)) (word_set-sorts reach.names).rises;
    reached = λ name. (
      λ has. reach.met name (from_sorted name (subst (λ (l : List Text). Contains l name) (named_alike sorted) has)),
      λ reached. subst (λ (l : List Text). Contains l name) (sym (named_alike sorted)) (in_sorted name reached),
    );
    stored = ap (map (node_of rules known)) (sym (named_alike sorted));
  }

  -- ---- cycles

  abbrev members : Text → List Text
  members name = name ∷ filter (λ other. is_one_making (node_of rules known name).made_with (node_of rules known other).made_with) reach.names

  abbrev edges : Text → List Text
  edges name = flat_map (λ member. all_inputs (node_of rules known member)) (members name)

  grouped : (name member : Text) → Contains (members name) member → IsInGroup rules known goals name member
  grouped name member has = ⊎_elim
      (λ (same : name ≡ member). subst (IsInGroup rules known goals name) same itself)
      (λ (h : Contains (filter (λ other. is_one_making (node_of rules known name).made_with (node_of rules known other).made_with) reach.names) member).
      let kept = kept_by_filter (λ other. is_one_making (node_of rules known name).made_with (node_of rules known other).made_with) reach.names member h in
      let making = making_told (node_of rules known name).made_with (node_of rules known member).made_with kept.1 in
      beside (reach.met member kept.0) (record { making = making.0; first = making.1; second = making.2 }))
      (first_or_rest name member (filter (λ other. is_one_making (node_of rules known name).made_with (node_of rules known other).made_with) reach.names) has)

  is_member : (name member : Text) → IsInGroup rules known goals name member → Contains (members name) member
  is_member name member in_group = grind (arith, ⊎_elim, in_first, in_rest, in_filter, all_reached, one_making, group_cases)

  edge_of : (name input : Text) → Contains (edges name) input → HasEdge rules known goals name input
  edge_of name input has =
      let found = from_flat_map (λ member. all_inputs (node_of rules known member)) (members name) input has in
      record { member = found.0; grouped = grouped name found.0 found.1; needed = found.2 }

  is_edge : (name input : Text) → HasEdge rules known goals name input → Contains (edges name) input
  is_edge name input edge = in_flat_map (λ member. all_inputs (node_of rules known member)) (members name) edge.member input
      (is_member name edge.member edge.grouped) edge.needed

  edge_in : (name input : Text) → Contains reach.names name → Contains (edges name) input → Contains reach.names input
  edge_in name input has edge =
      let of = edge_of name input edge in ⊎_elim
      (λ (same : name ≡ of.member). reach.closed name input has (subst (λ (n : Text). HasInput rules known n input) (sym same) of.needed))
      (λ (p : IsReached rules known goals of.member × AreOneMaking rules known name of.member). reach.closed of.member input (all_reached of.member p.0) of.needed)
      (group_cases rules known goals name of.member of.grouped)

  -- what a name reaches in a step or more
  abbrev Circles : Text → Text → Type 0
  Circles name other = (next : Text) × HasEdge rules known goals name next × Reaches (HasEdge rules known goals) next other

  circle : (name : Text) → Contains reach.names name → Closed edges (edges name) (Circles name)
  circle name has = closing edges (edges name) reach.names (Circles name) (λ next edge. edge_in name next has edge) edge_in
      (λ next edge. (next, edge_of name next edge, ([], refl)))
      (λ other input met edge. (
        met.0,
        met.1,
        (
          met.2.0 ++ input ∷ [],
          leads_on (HasEdge rules known goals) met.0 met.2.0 other input met.2.1 (edge_of other input edge),
        ),
      ))

  decide_cyclic : (name : Text) → Contains sorted name → Decided (IsCyclic rules known goals name)
  decide_cyclic name has = by (circle name (from_sorted name has))
    where
      by : Closed edges (edges name) (Circles name) → Decided (IsCyclic rules known goals name)
      by round = ⊎_elim
          (λ (there : Contains round.names name). inl (let met = round.met name there in
          record { reached = reach.met name (from_sorted name has); next = met.0; step = met.1; path = met.2 }))
          (λ (none : Contains round.names name → ⊥). inr (λ cyclic. none
          (along (HasEdge rules known goals) round.names (λ one other h edge. round.closed one other h (is_edge one other edge))
          cyclic.next cyclic.path.0 name (round.begun cyclic.next (is_edge name cyclic.next cyclic.step)) cyclic.path.1)))
          (decide_in round.names name)

  first_cyclic : (found : FirstOf (IsCyclic rules known goals) sorted) → IsFirst (IsCyclic rules known goals) found.one
  first_cyclic found = record {
    holds = found.holds;
    least = λ other cyclic less. ⊎_elim
        (λ (h : Contains found.earlier other). found.none_earlier other h cyclic)
        (λ (h : Contains (found.one ∷ found.later) other). none_below found.earlier found.one found.later
        (subst (IsStrictlySortedBy (slice_cmp nat_cmp)) found.cut (word_set-sorts reach.names).rises) other h less)
        (Rattle.std.proofs.lemmas.List.Elements.Contains-append_cases found.earlier (found.one ∷ found.later) other
        (subst (λ (l : List Text). Contains l other) found.cut (in_sorted other cyclic.reached)));
  }

  -- ---- what comes first

  by_files : unmade_goal rules known goals ≡ None → ((name : Text) → IsCyclic rules known goals name → ⊥) → (found : Option Text)
      → list_any (λ (node : Node). is_reserved node.name) nodes ≡ false → found ≡ find (is_repeated (made_names nodes)) (made_names nodes)
      → ComesTo rules known goals
  by_files made uncircled None off is =
      inr (nodes, (comes_first rules known goals None made uncircled (file_trouble rules known goals nodes graph None off is), graph))
  by_files made uncircled (Some name) off is =
      inl (one_file name, comes_first rules known goals (Some (one_file name)) made uncircled (file_trouble rules known goals nodes graph (Some name) off is))

  by_reserved : unmade_goal rules known goals ≡ None → ((name : Text) → IsCyclic rules known goals name → ⊥) → (b : Bool)
      → list_any (λ (node : Node). is_reserved node.name) nodes ≡ b → ComesTo rules known goals
  by_reserved made uncircled true on =
      inl (reserved_name, comes_first rules known goals (Some reserved_name) made uncircled (is_reserved_there rules known goals nodes graph on))
  by_reserved made uncircled false off = by_files made uncircled (find (is_repeated (made_names nodes)) (made_names nodes)) off refl

  by_cycles : unmade_goal rules known goals ≡ None
      → FirstOf (IsCyclic rules known goals) sorted ⊎ ((name : Text) → Contains sorted name → IsCyclic rules known goals name → ⊥) → ComesTo rules known goals
  by_cycles made (inl found) = inl (circular found.one, (record { made = made }, first_cyclic found))
  by_cycles made (inr none) =
      by_reserved made (λ name cyclic. none name (in_sorted name cyclic.reached) cyclic) (list_any (λ (node : Node). is_reserved node.name) nodes) refl

  by_goals : (goal : Option Text) → unmade_goal rules known goals ≡ goal → ComesTo rules known goals
  by_goals (Some goal) is = inl (no_rule goal, is)
  by_goals None is = by_cycles is (first_or_none (IsCyclic rules known goals) sorted decide_cyclic)

  comes_to_in : ComesTo rules known goals
  comes_to_in = by_goals (unmade_goal rules known goals) refl

-- ---- the whole

goals_come_to : (rules : List Entry) (known goals : List Text) → ComesTo rules known goals
goals_come_to rules known goals = comes_to_in rules known goals _ (closed_names rules known goals 4096 refl)

goals_mean : (limit : ℕ) (want : WantedGoals) (trace : Trace) → ComesTo want.read.book want.known want.goals → (m : Meaning) × MeansGoals limit want trace m
goals_mean limit want trace (inl found) = (
  meaning_of (Stopped trace (fault_at None (trouble_number found.0) (trouble_words found.0))),
  inr (record { trouble = found.0; first = found.1; means = refl }),
)
goals_mean limit want trace (inr found) = (
  meaning_of (telling (planned want.read.book want.read.table limit want.goals found.0) trace),
  inl (record { nodes = found.0; graph = found.1; means = refl }),
)

after_means : (limit : ℕ) (outcome : StepEnd Trace WantedGoals) → (m : Meaning) × MeansAfter limit outcome m
after_means limit (Gave trace want) = goals_mean limit want trace (goals_come_to want.read.book want.known want.goals)
after_means limit (Stopped trace fault) = (meaning_of (Stopped trace fault), refl)

pub has_a_meaning : HasAMeaning
has_a_meaning args store asked = after_means args.limit (prepared args store (traced [] asked))
