-- What is wrong with a graph, from its nodes.
use Rattle.std.proofs.Common.{rules, ◌≡◌, ◌<◌, Bool, true, false, not, cond, ◌⊎◌, ⊎_elim, List, [], ◌∷◌, length, map, filter, find, All, Option, None, Some, option_map, refl, sym, ap, ◌∙◌, subst, arith}
use Rattle.kt_graph.proofs.Common.{Contains, list_any, option_map_or, Less, bytes_eq, false≢true, lt-ltb, ltb-true, All-contains, sorted_tail, All-after_first, bytes_eq-Decides, Text, Entry, is_repeated, made_names, Node, is_leaf, node_of, canon_of, is_reserved, ComesFirst, IsCyclic, IsDoubled, IsGraph, IsMade, IsReached, IsReserved, Trouble, one_file, is_unmade, unmade_goal, first_or_rest, in_first, in_rest}
use Rattle.kt_graph.specs.inner.faults.Troubles.{IsFileTrouble}
use Rattle.kt_graph.specs.views.faults.Files.{spelling_count}
use Rattle.kt_graph.specs.nodes.Groups.{made_nodes}
use Rattle.kt_graph.specs.inner.nodes.Graph.{makes_among}
use Rattle.kt_graph.proofs.lemmas.MemberLemmas.{Contains-from_map, Contains-map, Contains-none}
use Rattle.kt_graph.proofs.lemmas.Membership.{in_filter, kept_by_filter}
use Rattle.kt_text.proofs.lemmas.SortLemmas.{never_itself}
use Rattle.kt_graph.proofs.lemmas.nodes.FoundLemmas.{order, Rises, any_there, any_nowhere, find_agree, found_is, found_nowhere, first_of, rises_made, of_node}

-- two that pass make the count two, and the other way round
one_passes : {A : Type 0} (p : A → Bool) (xs : List A) (x : A) → Contains xs x → p x ≡ true → 0 < length (filter p xs)
one_passes p xs x has on = let at = (in_filter p xs x has on).1 in omega arith

two_pass : {A : Type 0} (p : A → Bool) (xs : List A) (x y : A) → Contains xs x → Contains xs y → ¬ (x ≡ y) → p x ≡ true → p y ≡ true → 1 < length (filter p xs)
two_pass p [] x y one other differ on also = Contains-none x one
two_pass {A} p (first ∷ xs) x y one other differ on also = ⊎_elim
    (λ (same : first ≡ x). ⊎_elim
    (λ (e : first ≡ y). absurd (differ (sym same ∙ e)))
    (λ (h : Contains xs y). here (ap p same ∙ on) (one_passes p xs y h also))
    (first_or_rest first y xs other))
    (λ (h : Contains xs x). ⊎_elim
    (λ (e : first ≡ y). here (ap p e ∙ also) (one_passes p xs x h on))
    (λ (g : Contains xs y). by (p first) (two_pass p xs x y h g differ on also))
    (first_or_rest first y xs other))
    (first_or_rest first x xs one)
  where
    here : p first ≡ true → 0 < length (filter p xs) → 1 < length (filter p (first ∷ xs))
    here e some = subst (λ b. 1 < length (cond b (first ∷ filter p xs) (filter p xs))) (sym e) (omega arith)

    by : (b : Bool) → 1 < length (filter p xs) → 1 < length (cond b (first ∷ filter p xs) (filter p xs))
    by true h = omega arith
    by false h = h

some_passes : {A : Type 0} (p : A → Bool) (xs : List A) → 0 < length (filter p xs) → (x : A) × Contains xs x × (p x ≡ true)
some_passes {A} p xs some = by (filter p xs) refl some
  where
    by : (ys : List A) → filter p xs ≡ ys → 0 < length ys → (x : A) × Contains xs x × (p x ≡ true)
    by [] e none = absurd (omega arith)
    by (y ∷ ys) e more =
        let in' = kept_by_filter p xs y (subst (λ (zs : List A). Contains zs y) (sym e) (in_first y ys)) in
        (y, in'.0, in'.1)

-- of two that pass in a list that rises, one isn't a given one
another : (p : Text → Bool) (names : List Text) (name : Text) → Rises names → 1 < length (filter p names)
    → (other : Text) × Contains names other × (p other ≡ true) × ¬ (name ≡ other)
another p [] name rises two = absurd (omega arith)
another p (first ∷ names) name rises two =
    by (λ h. another p names name (sorted_tail order first names rises) h) (p first) refl two
  where
    later : 0 < length (filter p names) → bytes_eq name first ≡ true → (other : Text) × Contains (first ∷ names) other × (p other ≡ true) × ¬ (name ≡ other)
    later some same =
        let one : (x : Text) × Contains names x × (p x ≡ true) = some_passes p names some in
        let is : name ≡ first = (bytes_eq-Decides name first).0 same in (
          one.0,
          in_rest first one.0 names one.1,
          one.2,
          λ e. never_itself one.0
              (subst (λ (n : Text). order n one.0 ≡ Less) (sym is ∙ e)
              (All-contains (λ n. order first n ≡ Less) names one.0 (All-after_first order first names rises) one.1)),
        )

    at : p first ≡ true → 0 < length (filter p names) → (b : Bool) → bytes_eq name first ≡ b → (other : Text) × Contains (first ∷ names) other × (p other ≡ true) × ¬ (name ≡ other)
    at on some true same = later some same
    at on some false differ = (first, in_first first names, on, λ e. false≢true (sym differ ∙ (bytes_eq-Decides name first).1 e))

    by : (1 < length (filter p names) → (other : Text) × Contains names other × (p other ≡ true) × ¬ (name ≡ other)) → (b : Bool) → p first ≡ b
        → 1 < length (cond b (first ∷ filter p names) (filter p names)) → (other : Text) × Contains (first ∷ names) other × (p other ≡ true) × ¬ (name ≡ other)
    by more true e h = at e (omega arith) (bytes_eq name first) refl
    by more false e h =
        let rest : (other : Text) × Contains names other × (p other ≡ true) × ¬ (name ≡ other) =
        more h in
        (rest.0, in_rest first rest.0 names rest.1, rest.2, rest.3)

-- ---- names that are the canonical spelling of their file

find_none : {A : Type 0} (xs : List A) → find (λ x. false) xs ≡ None
find_none [] = refl
find_none (x ∷ xs) = find_none xs

-- of names that rise, no two have one file
single_file : (names : List Text) (name : Text) → Rises names → All (λ one. canon_of one ≡ one) names → Contains names name → is_repeated names name ≡ false
single_file names name rises canonical has = by (is_repeated names name) refl
  where
    by : (b : Bool) → is_repeated names name ≡ b → b ≡ false
    by true on =
        let at : (other : Text) × Contains names other × (bytes_eq (canon_of other) (canon_of name) ≡ true) × ¬ (name ≡ other) =
        another (λ one. bytes_eq (canon_of one) (canon_of name)) names name rises (ltb-true 1 (spelling_count names (canon_of name)) on) in
        let one : canon_of name ≡ name = All-contains (λ one. canon_of one ≡ one) names name canonical has in
        let two : canon_of at.0 ≡ at.0 = All-contains (λ one. canon_of one ≡ one) names at.0 canonical at.1 in
        absurd (at.3 (sym one ∙ sym ((bytes_eq-Decides (canon_of at.0) (canon_of name)).0 at.2) ∙ two))
    by false off = refl

pub none_repeated : (nodes : List Node) → Rises (map (λ node. node.name) nodes) → All (λ name. canon_of name ≡ name) (made_names nodes)
    → None ≡ find (is_repeated (made_names nodes)) (made_names nodes)
none_repeated nodes rises canonical =
    sym (find_agree (is_repeated (made_names nodes)) (λ name. false) (made_names nodes)
    (λ name has. single_file (made_names nodes) name (rises_made nodes rises) canonical has)
    ∙ find_none (made_names nodes))

-- ---- a graph

module _ (rules : List Entry) (known goals : List Text) (nodes : List Node) (graph : IsGraph rules known goals nodes) where
  node_reached : (node : Node) → Contains nodes node → IsReached rules known goals node.name
  node_reached node has = (graph.reached node.name).0 (Contains-map (λ (one : Node). one.name) nodes node has)

  reached_node : (name : Text) → IsReached rules known goals name → (node : Node) × Contains nodes node × (node.name ≡ name)
  reached_node name reached = Contains-from_map (λ (one : Node). one.name) nodes name ((graph.reached name).1 reached)

  -- ---- goals

  makes_is : (name : Text) → IsReached rules known goals name → not (makes_among nodes name) ≡ is_unmade rules known name
  makes_is name reached = by (find (λ (node : Node). bytes_eq name node.name) nodes) refl
    where
      by : (o : Option Node) → find (λ (node : Node). bytes_eq name node.name) nodes ≡ o
          → not (option_map_or (λ (node : Node). not (is_leaf node.kind)) o false) ≡ is_unmade rules known name
      by None e =
          let at : (node : Node) × Contains nodes node × (node.name ≡ name) = reached_node name reached in
          absurd (false≢true (sym (found_nowhere (λ (node : Node). bytes_eq name node.name) nodes e at.0 at.1) ∙ (bytes_eq-Decides name at.0.name).1 (sym at.2)))
      by (Some node) e =
          let found = found_is (λ (one : Node). bytes_eq name one.name) nodes node e in
          let same : name ≡ node.name = (bytes_eq-Decides name node.name).0 found.passes in
          let inside : Contains nodes node = subst (λ (ns : List Node). Contains ns node) (sym found.cut)
          (Rattle.std.proofs.lemmas.List.Elements.Contains-append_right found.earlier (node ∷ found.later) node (in_first node found.later)) in
          twice (is_leaf node.kind)
          ∙ ap (λ (one : Node). is_leaf one.kind) (sym (of_node rules known goals nodes graph node inside))
          ∙ ap (λ (n : Text). is_leaf (node_of rules known n).kind) (sym same)
        where
          twice : (b : Bool) → not (not b) ≡ b
          twice true = refl
          twice false = refl

  pub goals_are : find (λ goal. not (makes_among nodes goal)) goals ≡ unmade_goal rules known goals
  goals_are = grind (arith, find_agree, not, makes_is)

  -- ---- files

  made_is : (name : Text) → Contains (made_names nodes) name → IsMade rules known goals name
  made_is name has =
      let at : (node : Node) × Contains (made_nodes nodes) node × (node.name ≡ name) = Contains-from_map (λ (one : Node). one.name) (made_nodes nodes) name has in
      let inside = kept_by_filter (λ (one : Node). not (is_leaf one.kind)) nodes at.0 at.1 in
      record {
        reached = subst (IsReached rules known goals) at.2 (node_reached at.0 inside.0);
        made = ap (λ (n : Text). is_leaf (node_of rules known n).kind) (sym at.2)
            ∙ ap (λ (one : Node). is_leaf one.kind) (of_node rules known goals nodes graph at.0 inside.0) ∙ turned (is_leaf at.0.kind) inside.1;
      }
    where
      turned : (b : Bool) → not b ≡ true → b ≡ false
      turned true e = absurd (false≢true e)
      turned false e = refl

  is_made : (name : Text) → IsMade rules known goals name → Contains (made_names nodes) name
  is_made name made =
      let at : (node : Node) × Contains nodes node × (node.name ≡ name) = reached_node name made.reached in
      let leaf : is_leaf at.0.kind ≡ false =
      ap (λ (one : Node). is_leaf one.kind) (sym (of_node rules known goals nodes graph at.0 at.1)) ∙ ap (λ (n : Text). is_leaf (node_of rules known n).kind) at.2 ∙ made.made in
      subst (Contains (made_names nodes)) at.2
      (Contains-map (λ (one : Node). one.name) (made_nodes nodes) at.0 (in_filter (λ (one : Node). not (is_leaf one.kind)) nodes at.0 at.1 (ap not leaf)))

  repeated_doubled : (name : Text) → Contains (made_names nodes) name → is_repeated (made_names nodes) name ≡ true → IsDoubled rules known goals name
  repeated_doubled name has on =
      let p : Text → Bool = λ one. bytes_eq (canon_of one) (canon_of name) in
      let at : (other : Text) × Contains (made_names nodes) other × (bytes_eq (canon_of other) (canon_of name) ≡ true) × ¬ (name ≡ other) =
      another (λ one. bytes_eq (canon_of one) (canon_of name)) (made_names nodes) name (rises_made nodes graph.rises) (ltb-true 1 (spelling_count (made_names nodes) (canon_of name)) on) in
      record {
        made = made_is name has;
        other = at.0;
        other_made = made_is at.0 at.1;
        differ = at.3;
        same = sym ((bytes_eq-Decides (canon_of at.0) (canon_of name)).0 at.2);
      }

  doubled_repeated : (name : Text) → IsDoubled rules known goals name → Contains (made_names nodes) name × (is_repeated (made_names nodes) name ≡ true)
  doubled_repeated name doubled =
      let one = is_made name doubled.made in
      let two = is_made doubled.other doubled.other_made in (
        one,
        lt-ltb 1 (spelling_count (made_names nodes) (canon_of name))
            (two_pass (λ n. bytes_eq (canon_of n) (canon_of name)) (made_names nodes) name doubled.other one two doubled.differ
            ((bytes_eq-Decides (canon_of name) (canon_of name)).1 refl) ((bytes_eq-Decides (canon_of doubled.other) (canon_of name)).1 (sym doubled.same))),
      )

  pub is_reserved_there : list_any (λ node. is_reserved node.name) nodes ≡ true → (name : Text) × IsReserved rules known goals name
  is_reserved_there on =
      let at : (node : Node) × Contains nodes node × (is_reserved node.name ≡ true) = any_there (λ (node : Node). is_reserved node.name) nodes on in
      (at.0.name, record { reached = node_reached at.0 at.1; reserved = at.2 })

  pub none_reserved : list_any (λ node. is_reserved node.name) nodes ≡ false → (name : Text) → ¬ IsReserved rules known goals name
  none_reserved off name reserved =
      let at : (node : Node) × Contains nodes node × (node.name ≡ name) = reached_node name reserved.reached in
      false≢true (sym (any_nowhere (λ (node : Node). is_reserved node.name) nodes off at.0 at.1) ∙ ap is_reserved at.2 ∙ reserved.reserved)

  -- what is wrong with files, from the two results
  pub file_trouble : (found : Option Text) → list_any (λ node. is_reserved node.name) nodes ≡ false
      → found ≡ find (is_repeated (made_names nodes)) (made_names nodes) → IsFileTrouble rules known goals (option_map one_file found)
  file_trouble None off is = (
    none_reserved off,
    λ name doubled.
        let at = doubled_repeated name doubled in
        false≢true (sym (found_nowhere (is_repeated (made_names nodes)) (made_names nodes) (sym is) name at.0) ∙ at.1),
  )
  file_trouble (Some name) off is =
      let found = found_is (is_repeated (made_names nodes)) (made_names nodes) name (sym is) in
      let inside : Contains (made_names nodes) name = subst (λ (ns : List Text). Contains ns name) (sym found.cut)
      (Rattle.std.proofs.lemmas.List.Elements.Contains-append_right found.earlier (name ∷ found.later) name (in_first name found.later)) in (
        none_reserved off,
        first_of (IsDoubled rules known goals) (is_repeated (made_names nodes)) (made_names nodes) name (rises_made nodes graph.rises) found
            (repeated_doubled name inside found.passes) doubled_repeated,
      )

-- the parts of what comes first
pub comes_first : (rules : List Entry) (known goals : List Text) (trouble : Option Trouble) → unmade_goal rules known goals ≡ None
    → ((name : Text) → ¬ IsCyclic rules known goals name) → IsFileTrouble rules known goals trouble → ComesFirst rules known goals trouble
comes_first rules known goals trouble made uncircled files = grind arith
