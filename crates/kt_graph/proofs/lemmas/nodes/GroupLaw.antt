-- The groups of a graph are the names that one making makes.
use Rattle.std.proofs.Common.{arith, rules, ◌≡◌, ◌↔◌, Bool, true, false, ◌||◌, ◌⊎◌, ⊎_elim, inl, inr, cond, List, [], ◌∷◌, map, filter, find, All, Option, None, Some, refl, sym, ap, ◌∙◌, subst}
use Rattle.kt_graph.proofs.Common.{Contains, IsStrictlySortedBy, option_map_or, nat_cmp, Ordering, slice_cmp, bytes_eq, false≢true, or_cases, All-map, none-some, same_Some, bytes_eq-Decides, equal_when, Text, Entry, Node, is_leaf, node_of, AreOneMaking, IsGraph, IsInGroup, IsReached, beside, itself}
use Rattle.kt_graph.specs.views.nodes.Groups.{AreGroups, HasBoth, IsInOne, leader_name}
use Rattle.kt_graph.specs.nodes.Groups.{are_together, groups_among, is_leading, is_one_making, made_nodes}
use Rattle.kt_graph.specs.nodes.Node.{Instance}
use Rattle.kt_graph.proofs.lemmas.nodes.GroupLemmas.{one_itself, one_same}
use Rattle.kt_graph.proofs.lemmas.nodes.MadeLemmas.{found_in}
use Rattle.kt_graph.proofs.lemmas.MemberLemmas.{Contains-from_map, Contains-map}
use Rattle.kt_graph.proofs.lemmas.Membership.{in_filter, kept_by_filter}
use Rattle.kt_graph.proofs.lemmas.nodes.FoundLemmas.{find_agree, found_nowhere, kept_rises, rises_made, of_node}
use Rattle.kt_graph.proofs.lemmas.nodes.WholeLemmas.{group_cases}

abbrev order : Text → Text → Ordering
order = slice_cmp nat_cmp

abbrev name_in : Node → Text
name_in node = node.name

abbrev group_in : List Node → Node → List Node
group_in nodes leader = filter (are_together leader) nodes

pub itself_together : (node : Node) → are_together node node ≡ true
itself_together node = ap (λ b. b || is_one_making node.made_with node.made_with) ((bytes_eq-Decides node.name node.name).1 refl)

-- ---- what a group begins with

first_kept : (p : Node → Bool) (nodes : List Node) (node : Node) → find p nodes ≡ Some node → leader_name (filter p nodes) ≡ node.name
first_kept p [] node e = absurd (none-some node e)
first_kept p (first ∷ nodes) node e = grind (arith, cond, first_kept p nodes node)

-- ---- the nodes of a graph

pub making_told : (one other : Option Instance) → is_one_making one other ≡ true → (making : Instance) × (one ≡ Some making) × (other ≡ Some making)
making_told one other e = grind (arith, false≢true, one_same)

-- equal, or made by one making
abbrev AreOne : Node → Node → Type 0
AreOne one other = (one ≡ other) ⊎ ((making : Instance) × (one.made_with ≡ Some making) × (other.made_with ≡ Some making))

swapped : (one other : Node) → AreOne one other → AreOne other one
swapped one other h = grind arith

joined : (one middle other : Node) → AreOne one middle → AreOne middle other → AreOne one other
joined one middle other h more = grind arith

as_test : (one other : Node) → AreOne one other → are_together one other ≡ true
as_test one other h = grind (arith, itself_together, one_itself)

module _ (rules : List Entry) (known goals : List Text) (nodes : List Node) (graph : IsGraph rules known goals nodes) where
  same_node : (one other : Node) → Contains nodes one → Contains nodes other → one.name ≡ other.name → one ≡ other
  same_node one other first second same = sym (of_node rules known goals nodes graph one first) ∙ ap (node_of rules known) same ∙ of_node rules known goals nodes graph other second

  pub in_graph : (node : Node) → Contains (made_nodes nodes) node → Contains nodes node
  in_graph node has =
      (kept_by_filter (λ (one : Node). Rattle.std.proofs.Common.not (is_leaf one.kind)) nodes node has).0

  by_test : (one other : Node) → Contains (made_nodes nodes) one → Contains (made_nodes nodes) other → are_together one other ≡ true → AreOne one other
  by_test one other first second e = grind (arith, ⊎_elim, same_node, in_graph, bytes_eq-Decides, making_told, or_cases)

  -- nodes that are equal are in groups with the same nodes
  alike : (one other : Node) → Contains (made_nodes nodes) one → Contains (made_nodes nodes) other → AreOne one other
      → (node : Node) → Contains (made_nodes nodes) node → are_together one node ≡ are_together other node
  alike one other first second same node has = grind (arith, equal_when, as_test, joined, swapped, by_test)

  same_leader : (one other : Node) → Contains (made_nodes nodes) one → Contains (made_nodes nodes) other → AreOne one other
      → find (are_together one) (made_nodes nodes) ≡ find (are_together other) (made_nodes nodes)
  same_leader one other first second same = find_agree (are_together one) (are_together other) (made_nodes nodes) (alike one other first second same)

  -- the first in a leader's group is the leader itself
  leads_itself : (leader : Node) → Contains (made_nodes nodes) leader → is_leading (made_nodes nodes) leader ≡ true
      → find (are_together leader) (made_nodes nodes) ≡ Some leader
  leads_itself leader has leads = grind (arith, false≢true, same_node, in_graph, found_in, bytes_eq-Decides)

  abbrev IsLeader : Node → Type 0
  IsLeader leader = Contains (filter (is_leading (made_nodes nodes)) (made_nodes nodes)) leader

  of_leader : (leader : Node) → IsLeader leader → Contains (made_nodes nodes) leader × (find (are_together leader) (made_nodes nodes) ≡ Some leader)
  of_leader leader has =
      let from = kept_by_filter (is_leading (made_nodes nodes)) (made_nodes nodes) leader has in
      (from.0, leads_itself leader from.0 from.1)

  -- each node has a leader, and only one
  leader_of : (node : Node) → Contains (made_nodes nodes) node → (leader : Node) × IsLeader leader × AreOne leader node
  leader_of node has = by (find (are_together node) (made_nodes nodes)) refl
    where
      by : (o : Option Node) → find (are_together node) (made_nodes nodes) ≡ o → (leader : Node) × IsLeader leader × AreOne leader node
      by None is = absurd (false≢true (sym (found_nowhere (are_together node) (made_nodes nodes) is node has) ∙ itself_together node))
      by (Some leader) is =
          let found = found_in (are_together node) (made_nodes nodes) leader is in
          let one : AreOne leader node = swapped node leader (by_test node leader has found.0 found.1) in
          let leads : is_leading (made_nodes nodes) leader ≡ true
          = ap (λ (o : Option Node). option_map_or (λ first. bytes_eq first.name leader.name) o false) (same_leader leader node found.0 has one ∙ is)
          ∙ (bytes_eq-Decides leader.name leader.name).1 refl in
          (leader, in_filter (is_leading (made_nodes nodes)) (made_nodes nodes) leader found.0 leads, one)

  only_leader : (one other : Node) → IsLeader one → IsLeader other → AreOne one other → one ≡ other
  only_leader one other first second same =
      let this = of_leader one first in
      let that = of_leader other second in
      same_Some one other (sym this.1 ∙ same_leader one other this.0 that.0 same ∙ that.1)

  -- the group of a leader has all that are one with it
  in_group : (leader node : Node) → Contains (made_nodes nodes) node → AreOne leader node → Contains (group_in (made_nodes nodes) leader) node
  in_group leader node has one = in_filter (are_together leader) (made_nodes nodes) node has (as_test leader node one)

  from_group : (leader node : Node) → IsLeader leader → Contains (group_in (made_nodes nodes) leader) node → Contains (made_nodes nodes) node × AreOne leader node
  from_group leader node leads has =
      let from = kept_by_filter (are_together leader) (made_nodes nodes) node has in
      (from.0, by_test leader node (of_leader leader leads).0 from.0 from.1)

  -- ---- groups and names

  names_in : (one other : Node) → Contains (made_nodes nodes) one → Contains (made_nodes nodes) other → AreOne one other → IsInGroup rules known goals one.name other.name
  names_in one other first second (inl same) = subst (λ (n : Node). IsInGroup rules known goals one.name n.name) same itself
  names_in one other first second (inr (making, made, also)) =
      let reached : IsReached rules known goals other.name = (graph.reached other.name).0 (Contains-map name_in nodes other (in_graph other second)) in
      let one_making : AreOneMaking rules known one.name other.name = record {
        making = making;
        first = ap (λ (n : Node). n.made_with) (of_node rules known goals nodes graph one (in_graph one first)) ∙ made;
        second = ap (λ (n : Node). n.made_with) (of_node rules known goals nodes graph other (in_graph other second)) ∙ also;
      } in
      beside reached one_making

  from_names : (one other : Node) → Contains (made_nodes nodes) one → Contains (made_nodes nodes) other → IsInGroup rules known goals one.name other.name → AreOne one other
  from_names one other first second grouped = ⊎_elim
      (λ (same : one.name ≡ other.name). inl (same_node one other (in_graph one first) (in_graph other second) same))
      (λ (made : IsReached rules known goals other.name × AreOneMaking rules known one.name other.name). inr (
        made.1.making,
        ap (λ (n : Node). n.made_with) (sym (of_node rules known goals nodes graph one (in_graph one first))) ∙ made.1.first,
        ap (λ (n : Node). n.made_with) (sym (of_node rules known goals nodes graph other (in_graph other second))) ∙ made.1.second,
      ))
      (group_cases rules known goals one.name other.name grouped)

  -- ---- the law

  abbrev groups : List (List Node)
  groups = map (group_in (made_nodes nodes)) (filter (is_leading (made_nodes nodes)) (made_nodes nodes))

  group_of_leader : (group : List Node) → Contains groups group → (leader : Node) × IsLeader leader × (group_in (made_nodes nodes) leader ≡ group)
  group_of_leader group has = Contains-from_map (group_in (made_nodes nodes)) (filter (is_leading (made_nodes nodes)) (made_nodes nodes)) group has

  among : (leader : Node) → IsLeader leader → Contains groups (group_in (made_nodes nodes) leader)
  among leader leads = Contains-map (group_in (made_nodes nodes)) (filter (is_leading (made_nodes nodes)) (made_nodes nodes)) leader leads

  stands_in : (leader : Node) → IsLeader leader → (node : Node) → (group : List Node) → group_in (made_nodes nodes) leader ≡ group → Contains group node
      → Contains (made_nodes nodes) node × AreOne leader node
  stands_in leader leads node group is has = from_group leader node leads (subst (λ (ns : List Node). Contains ns node) (sym is) has)

  in_one : (node : Node) → Contains (made_nodes nodes) node → IsInOne groups node
  in_one node has =
      let leader = leader_of node has in record {
        group = group_in (made_nodes nodes) leader.0;
        among = among leader.0 leader.1;
        stands = in_group leader.0 node has leader.2;
        single = λ other there inside.
            let also = group_of_leader other there in
            let one = (stands_in also.0 also.1 node other also.2 inside).1 in
            sym also.2 ∙ ap (group_in (made_nodes nodes)) (only_leader also.0 leader.0 also.1 leader.1 (joined also.0 node leader.0 one (swapped leader.0 node leader.2)));
      }

  tied : (one other : Node) → Contains (made_nodes nodes) one → Contains (made_nodes nodes) other → HasBoth groups one other ↔ IsInGroup rules known goals one.name other.name
  tied one other first second = (
    λ both.
        let leader = group_of_leader both.0 both.1 in
        let this = (stands_in leader.0 leader.1 one both.0 leader.2 both.2).1 in
        let that = (stands_in leader.0 leader.1 other both.0 leader.2 both.3).1 in
        names_in one other first second (joined one leader.0 other (swapped leader.0 one this) that),
    λ grouped.
        let leader = leader_of one first in (
          group_in (made_nodes nodes) leader.0,
          among leader.0 leader.1,
          in_group leader.0 one first leader.2,
          in_group leader.0 other second (joined leader.0 one other leader.2 (from_names one other first second grouped)),
        ),
  )

  made_rises : IsStrictlySortedBy order (map name_in (made_nodes nodes))
  made_rises = rises_made nodes graph.rises

  led_names : (leaders : List Node) → All (λ (leader : Node). find (are_together leader) (made_nodes nodes) ≡ Some leader) leaders
      → map leader_name (map (group_in (made_nodes nodes)) leaders) ≡ map name_in leaders
  led_names [] all = refl
  led_names (leader ∷ leaders) all =
      ap (λ (name : Text). name ∷ map leader_name (map (group_in (made_nodes nodes)) leaders))
      (first_kept (are_together leader) (made_nodes nodes) leader
      (Rattle.std.proofs.lemmas.List.Elements.All-head (λ (one : Node). find (are_together one) (made_nodes nodes) ≡ Some one) leader leaders all))
      ∙ ap (λ (names : List Text). leader.name ∷ names)
      (led_names leaders (Rattle.std.proofs.lemmas.List.Elements.All-tail (λ (one : Node). find (are_together one) (made_nodes nodes) ≡ Some one) leader leaders all))

  abbrev leading_nodes : List Node
  leading_nodes = filter (is_leading (made_nodes nodes)) (made_nodes nodes)

  pub are_groups : AreGroups rules known goals nodes (groups_among (made_nodes nodes))
  unfolding groups_among
  are_groups = record {
    filled = λ group there.
        let leader = group_of_leader group there in
        let has = (of_leader leader.0 leader.1).0 in (
          leader.0,
          subst (λ (members : List Node). Contains members leader.0) leader.2
              (in_group leader.0 leader.0 has (by_test leader.0 leader.0 has has (itself_together leader.0))),
        );
    made = λ group node there inside.
        let leader = group_of_leader group there in
        (stands_in leader.0 leader.1 node group leader.2 inside).0;
    each = in_one;
    together = tied;
    members = All-map (λ (group : List Node). IsStrictlySortedBy order (map name_in group)) (group_in (made_nodes nodes)) leading_nodes
        (λ k d within. kept_rises (are_together (Rattle.std.proofs.Common.get_or leading_nodes k d)) (made_nodes nodes) made_rises);
    leaders = subst (IsStrictlySortedBy order)
        (sym (led_names leading_nodes (λ k d within. (of_leader (Rattle.std.proofs.Common.get_or leading_nodes k d)
        (Rattle.std.proofs.lemmas.List.Elements.Contains-get_or leading_nodes k d within)).1)))
        (kept_rises (is_leading (made_nodes nodes)) (made_nodes nodes) made_rises);
  }
