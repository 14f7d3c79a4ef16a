-- A graph's vertices and the names that they are: a name depends on itself if its vertex leads back to itself.
use Rattle.std.proofs.Common.{rules, ◌≡◌, ℕ, ◌+◌, ◌<◌, ◌⊎◌, ⊎_elim, inl, inr, List, [], ◌∷◌, length, get_or, Option, None, Some, IfSome, slice_get, refl, sym, ap, ◌∙◌, subst, arith}
use Rattle.kt_graph.proofs.Common.{Contains, map-append, none-some, slice_get-get_or, slice_get_within, Text, Entry, Edges, StoredNode, AreEdgesOf, AreNeededBelow, HasNext, IsEdge, LeadsBack, LeadsOn, LeadsTo, needed_numbers, Node, all_inputs, node_of, AreOneMaking, HasEdge, HasInput, IsCyclic, IsGraph, IsReached, Leads, Reaches, itself, beside, instance_at, name_at, names_at, nodes_view, NodeTable}
use Rattle.kt_graph.specs.nodes.Node.{Instance}
use Rattle.kt_graph.specs.inner.nodes.Graph.{IsWhole}
use Rattle.kt_graph.proofs.lemmas.faults.CircleLemmas.{Reaches-join, Reaches-none, Reaches-step, on_step, on_more}
use Rattle.kt_graph.proofs.lemmas.MemberLemmas.{Contains-from_map, Contains-map}
use Rattle.kt_graph.proofs.lemmas.nodes.NodeLemmas.{inputs_are, others_are}
use Rattle.kt_graph.proofs.lemmas.nodes.WholeLemmas.{numbers_of, node_there, needed_in, is_node, number_reached, reached_number, instance_there, group_cases}

module _ (table : NodeTable) (order : List ℕ) (whole : IsWhole table order) where
  pub needed_below : AreNeededBelow table.nodes
  needed_below k d within l e inside =
      let long = whole.as_many in
      let at : slice_get table.nodes k ≡ Some (get_or table.nodes k d) = slice_get-get_or table.nodes k d within in
      let below = needed_in table order whole k (get_or table.nodes k d) (get_or (needed_numbers (get_or table.nodes k d)) l e) at
      (Rattle.std.proofs.lemmas.List.Elements.Contains-get_or (needed_numbers (get_or table.nodes k d)) l e inside) in
      subst (λ n. get_or (needed_numbers (get_or table.nodes k d)) l e < n) (sym long) below

module _ (table : NodeTable) (order : List ℕ) (whole : IsWhole table order)
    (rules : List Entry) (known goals : List Text) (graph : IsGraph rules known goals (nodes_view table order)) where
  -- ---- inputs

  inputs_named : (number : ℕ) (node : StoredNode) → slice_get table.nodes number ≡ Some node
      → names_at table.names (needed_numbers node) ≡ all_inputs (node_of rules known (name_at table.names number))
  inputs_named number node at = grind (arith, map-append, inputs_are, numbers_of table order whole, others_are, is_node table order whole rules known goals graph)

  input_number : (number : ℕ) (node : StoredNode) (input : Text) → slice_get table.nodes number ≡ Some node → HasInput rules known (name_at table.names number) input
      → (to : ℕ) × Contains (needed_numbers node) to × (name_at table.names to ≡ input)
  input_number number node input at has =
      Contains-from_map (name_at table.names) (needed_numbers node) input
      (subst (λ (xs : List Text). Contains xs input) (sym (inputs_named number node at)) has)

  number_input : (number : ℕ) (node : StoredNode) (to : ℕ) → slice_get table.nodes number ≡ Some node → Contains (needed_numbers node) to
      → HasInput rules known (name_at table.names number) (name_at table.names to)
  number_input number node to at has =
      subst (λ (xs : List Text). Contains xs (name_at table.names to)) (inputs_named number node at) (Contains-map (name_at table.names) (needed_numbers node) to has)

  -- ---- makings

  made_told : (number : ℕ) (node : StoredNode) → slice_get table.nodes number ≡ Some node
      → (node_of rules known (name_at table.names number)).made_with ≡ instance_at table.instances node.made_with
  made_told number node at = ap (λ (one : Node). one.made_with) (is_node table order whole rules known goals graph number node at)

  made_by : (number : ℕ) (node : StoredNode) (making : ℕ) → slice_get table.nodes number ≡ Some node → node.made_with ≡ Some making → making < length table.instances
  made_by number node making at is = subst (λ (o : Option ℕ). IfSome o (λ n. n < length table.instances)) is (numbers_of table order whole number node at).made_with

  made_together : (one : ℕ) (first : StoredNode) (other : ℕ) (second : StoredNode) (making : ℕ) → slice_get table.nodes one ≡ Some first → slice_get table.nodes other ≡ Some second
      → first.made_with ≡ Some making → second.made_with ≡ Some making → AreOneMaking rules known (name_at table.names one) (name_at table.names other)
  made_together one first other second making at there is also =
      let told : (instance : Instance) × (instance_at table.instances (Some making) ≡ Some instance) = instance_there table.instances making (made_by one first making at is) in
      record {
        making = told.0;
        first = made_told one first at ∙ ap (instance_at table.instances) is ∙ told.1;
        second = made_told other second there ∙ ap (instance_at table.instances) also ∙ told.1;
      }

  -- if one making makes two names, their nodes have the same making
  together_made : (one : ℕ) (first : StoredNode) (other : ℕ) (second : StoredNode) → slice_get table.nodes one ≡ Some first → slice_get table.nodes other ≡ Some second
      → AreOneMaking rules known (name_at table.names one) (name_at table.names other)
      → (making : ℕ) × (first.made_with ≡ Some making) × (second.made_with ≡ Some making)
  together_made one first other second at there together = grind (arith, made_told, none-some, made_by)

  -- ---- edges

  module _ (edges : Edges) (drawn : AreEdgesOf table.nodes edges) where
    -- the vertex of a making that makes a name
    abbrev AtMaking : ℕ → ℕ → Type 0
    AtMaking vertex number =
        (making : ℕ) × (node : StoredNode) × (slice_get table.nodes number ≡ Some node) × (node.made_with ≡ Some making) × (vertex ≡ length table.nodes + making)

    -- a step leads to a name's vertex, or to that of its making
    abbrev Onward : ℕ → ℕ → Type 0
    Onward number to = ((to < length table.names) × HasEdge rules known goals (name_at table.names number) (name_at table.names to)) ⊎ AtMaking to number

    from_name : (number to : ℕ) → number < length table.names → HasNext edges number to → Onward number to
    from_name number to below step =
        let edge : IsEdge table.nodes number to = (drawn number to).0 step in
        let long = whole.as_many in
        ⊎_elim
        (λ (h : (number ≡ edge.number) × LeadsTo (length table.nodes) edge.node edge.node.made_with to).
        let at : slice_get table.nodes number ≡ Some edge.node = ap (slice_get table.nodes) h.0 ∙ edge.place in
        by edge.node at edge.node.made_with refl h.1)
        (λ (h : (making : ℕ) × (edge.node.made_with ≡ Some making) × (number ≡ length table.nodes + making) × Contains (needed_numbers edge.node) to).
        let same = h.2 in absurd (omega arith))
        edge.way
      where
        by : (node : StoredNode) → slice_get table.nodes number ≡ Some node → (o : Option ℕ) → node.made_with ≡ o → LeadsTo (length table.nodes) node o to → Onward number to
        by node at None e has = inl (
          needed_in table order whole number node to at has,
          record {
            member = name_at table.names number;
            grouped = itself;
            needed = number_input number node to at has;
          },
        )
        by node at (Some making) e same = inr (making, node, at, e, same)

    from_making : (vertex number to : ℕ) → number < length table.names → AtMaking vertex number → HasNext edges vertex to → Onward number to
    from_making vertex number to below at step =
        let edge : IsEdge table.nodes vertex to = (drawn vertex to).0 step in
        let long = whole.as_many in
        let is = at.4 in
        ⊎_elim
        (λ (h : (vertex ≡ edge.number) × LeadsTo (length table.nodes) edge.node edge.node.made_with to).
        let same = h.0 in let within = slice_get_within table.nodes edge.number edge.node edge.place in absurd (omega arith))
        (λ (h : (making : ℕ) × (edge.node.made_with ≡ Some making) × (vertex ≡ length table.nodes + making) × Contains (needed_numbers edge.node) to).
        let also = h.2 in
        let same : h.0 ≡ at.0 = omega arith in
        let within : edge.number < length table.names = subst (λ n. edge.number < n) long (slice_get_within table.nodes edge.number edge.node edge.place) in
        inl (
          needed_in table order whole edge.number edge.node to edge.place h.3,
          record {
            member = name_at table.names edge.number;
            grouped = beside (number_reached table order whole rules known goals graph edge.number within)
                (made_together number at.1 edge.number edge.node at.0 at.2 edge.place at.3 (h.1 ∙ ap (λ (k : ℕ). Some k) same));
            needed = number_input edge.number edge.node to edge.place h.3;
          },
        ))
        edge.way

    -- a path from a name or its making to a name
    ways : (steps : List ℕ) (vertex number last : ℕ) → number < length table.names → last < length table.names → (vertex ≡ number) ⊎ AtMaking vertex number
        → Leads (HasNext edges) vertex steps last → Reaches (HasEdge rules known goals) (name_at table.names number) (name_at table.names last)
    ways [] vertex number last below end at same = grind (arith, ⊎_elim, Reaches-none)
    ways (step ∷ steps) vertex number last below end at way =
        let onward : Onward number step = ⊎_elim
        (λ (e : vertex ≡ number). from_name number step below (subst (λ v. HasNext edges v step) e way.0))
        (λ (h : AtMaking vertex number). from_making vertex number step below h way.0)
        at in
        ⊎_elim
        (λ (h : (step < length table.names) × HasEdge rules known goals (name_at table.names number) (name_at table.names step)).
        Reaches-join (HasEdge rules known goals) (name_at table.names number) (name_at table.names step) (name_at table.names last)
        (Reaches-step (HasEdge rules known goals) (name_at table.names number) (name_at table.names step) h.1)
        (ways steps step step last h.0 end (inl refl) way.1))
        (λ (h : AtMaking step number). ways steps step number last below end (inr h) way.1)
        onward

    -- what comes after the first step of a path back
    cyclic_at : (vertex number : ℕ) (steps : List ℕ) → number < length table.names
        → (vertex < length table.names) × HasEdge rules known goals (name_at table.names number) (name_at table.names vertex) → Leads (HasNext edges) vertex steps number
        → IsCyclic rules known goals (name_at table.names number)
    cyclic_at vertex number steps below h way = record {
      reached = number_reached table order whole rules known goals graph number below;
      next = name_at table.names vertex;
      step = h.1;
      path = ways steps vertex vertex number h.0 below (inl refl) way;
    }

    cyclic_from : (steps : List ℕ) (vertex number : ℕ) → number < length table.names → Onward number vertex → Leads (HasNext edges) vertex steps number
        → IsCyclic rules known goals (name_at table.names number)
    cyclic_from [] vertex number below onward same = ⊎_elim
        (λ (h : (vertex < length table.names) × HasEdge rules known goals (name_at table.names number) (name_at table.names vertex)). cyclic_at vertex number [] below h same)
        (λ (h : AtMaking vertex number). let is = h.4 in let long = whole.as_many in absurd (omega arith))
        onward
    cyclic_from (step ∷ steps) vertex number below onward way = ⊎_elim
        (λ (h : (vertex < length table.names) × HasEdge rules known goals (name_at table.names number) (name_at table.names vertex)). cyclic_at vertex number (step ∷ steps) below h way)
        (λ (h : AtMaking vertex number). cyclic_from steps step number below (from_making vertex number step below h way.0) way.1)
        onward

    pub is_cyclic : (number : ℕ) → number < length table.names → LeadsBack edges number → IsCyclic rules known goals (name_at table.names number)
    is_cyclic number below back = cyclic_from back.path.0 back.next number below (from_name number back.next below back.step) back.path.1

    -- ---- and back

    on_beside : (number : ℕ) (node : StoredNode) (other : ℕ) (second : StoredNode) (making to : ℕ) → slice_get table.nodes number ≡ Some node → slice_get table.nodes other ≡ Some second
        → node.made_with ≡ Some making → second.made_with ≡ Some making → Contains (needed_numbers second) to → LeadsOn edges number to
    on_beside number node other second making to at there e f has =
        on_more edges number (length table.nodes + making) to
        (on_step edges number (length table.nodes + making) ((drawn number (length table.nodes + making)).1 (record {
          number = number;
          node = node;
          place = at;
          way = inl (refl, subst (λ (o : Option ℕ). LeadsTo (length table.nodes) node o (length table.nodes + making)) (sym e) refl);
        })))
        ((drawn (length table.nodes + making) to).1 (record {
          number = other;
          node = second;
          place = there;
          way = inr (making, f, refl, has);
        }))

    on_needed : (number : ℕ) (node : StoredNode) (to : ℕ) → slice_get table.nodes number ≡ Some node → Contains (needed_numbers node) to → LeadsOn edges number to
    on_needed number node to at has = by node.made_with refl
      where
        by : (o : Option ℕ) → node.made_with ≡ o → LeadsOn edges number to
        by None e = on_step edges number to ((drawn number to).1 (record {
          number = number;
          node = node;
          place = at;
          way = inl (refl, subst (λ (o : Option ℕ). LeadsTo (length table.nodes) node o to) (sym e) has);
        }))
        by (Some making) e = on_beside number node number node making to at at e e has

    edge_on : (number : ℕ) (next : Text) → number < length table.names → HasEdge rules known goals (name_at table.names number) next
        → (to : ℕ) × (to < length table.names) × (name_at table.names to ≡ next) × LeadsOn edges number to
    edge_on number next below edge =
        let at : (node : StoredNode) × (slice_get table.nodes number ≡ Some node) = node_there table order whole number below in
        ⊎_elim
        (λ (same : name_at table.names number ≡ edge.member).
        let of : (to : ℕ) × Contains (needed_numbers at.0) to × (name_at table.names to ≡ next) =
        input_number number at.0 next at.1 (subst (λ (name : Text). HasInput rules known name next) (sym same) edge.needed) in
        (of.0, needed_in table order whole number at.0 of.0 at.1 of.1, of.2, on_needed number at.0 of.0 at.1 of.1))
        (λ (h : IsReached rules known goals edge.member × AreOneMaking rules known (name_at table.names number) edge.member).
        let there : (other : ℕ) × (other < length table.names) × (name_at table.names other ≡ edge.member) = reached_number table order whole rules known goals graph edge.member h.0 in
        let held : (node : StoredNode) × (slice_get table.nodes there.0 ≡ Some node) = node_there table order whole there.0 there.1 in
        let made : (making : ℕ) × (at.0.made_with ≡ Some making) × (held.0.made_with ≡ Some making) =
        together_made number at.0 there.0 held.0 at.1 held.1
        (subst (λ (name : Text). AreOneMaking rules known (name_at table.names number) name) (sym there.2) h.1) in
        let of : (to : ℕ) × Contains (needed_numbers held.0) to × (name_at table.names to ≡ next) =
        input_number there.0 held.0 next held.1 (subst (λ (name : Text). HasInput rules known name next) (sym there.2) edge.needed) in
        (of.0, needed_in table order whole there.0 held.0 of.0 held.1 of.1, of.2, on_beside number at.0 there.0 held.0 made.0 of.0 at.1 held.1 made.1 made.2 of.1))
        (group_cases rules known goals (name_at table.names number) edge.member edge.grouped)

    reach_on : (steps : List Text) (number : ℕ) (last : Text) → number < length table.names → Leads (HasEdge rules known goals) (name_at table.names number) steps last
        → (to : ℕ) × (to < length table.names) × (name_at table.names to ≡ last) × Reaches (HasNext edges) number to
    reach_on [] number last below same = (number, below, same, Reaches-none (HasNext edges) number)
    reach_on (step ∷ steps) number last below way =
        let one : (to : ℕ) × (to < length table.names) × (name_at table.names to ≡ step) × LeadsOn edges number to = edge_on number step below way.0 in
        let rest : (to : ℕ) × (to < length table.names) × (name_at table.names to ≡ last) × Reaches (HasNext edges) one.0 to =
        reach_on steps one.0 last one.1 (subst (λ (name : Text). Leads (HasEdge rules known goals) name steps last) (sym one.2) way.1) in (
          rest.0,
          rest.1,
          rest.2,
          Reaches-join (HasNext edges) number one.3.next rest.0 (Reaches-step (HasNext edges) number one.3.next one.3.step)
              (Reaches-join (HasNext edges) one.3.next one.0 rest.0 one.3.path rest.3),
        )

    pub cyclic_back : (number : ℕ) → number < length table.names → IsCyclic rules known goals (name_at table.names number) → LeadsBack edges number
    cyclic_back number below cyclic =
        let one : (to : ℕ) × (to < length table.names) × (name_at table.names to ≡ cyclic.next) × LeadsOn edges number to = edge_on number cyclic.next below cyclic.step in
        let rest : (to : ℕ) × (to < length table.names) × (name_at table.names to ≡ name_at table.names number) × Reaches (HasNext edges) one.0 to =
        reach_on cyclic.path.0 one.0 (name_at table.names number) one.1
        (subst (λ (name : Text). Leads (HasEdge rules known goals) name cyclic.path.0 (name_at table.names number)) (sym one.2) cyclic.path.1) in
        let same : rest.0 ≡ number = whole.held.distinct rest.0 number rest.1 below rest.2 in
        record {
          next = one.3.next;
          step = one.3.step;
          path = Reaches-join (HasNext edges) one.3.next one.0 number one.3.path (subst (λ n. Reaches (HasNext edges) one.0 n) same rest.3);
        }
