-- A whole graph: its nodes, the numbers of their names, and what is found among them.
use Rattle.std.proofs.Common.{rules, ◌≡◌, ℕ, ◌<◌, Bool, true, false, ◌⊎◌, ⊎_elim, inl, inr, List, [], ◌∷◌, length, get_or, map, filter_map, find, cond, Option, None, Some, option_map, slice_get, refl, sym, ap, ◌∙◌, subst, arith}
use Rattle.kt_graph.proofs.Common.{Contains, cons_option, bytes_eq, false≢true, bytes_eq-Decides, get_or-map, length-map, All-contains, All-head, All-tail, Contains-append_cases, same_Some, slice_get_within, at_place, Text, Entry, Instance as Held, StoredNode, needed_numbers, Node, node_of, HasNumbers, AreBelow, AreOneMaking, IsGraph, IsInGroup, IsReached, itself, beside, instance_at, instance_view, name_at, names_at, node_at, node_view, nodes_view, first_or_rest, in_first, in_rest, NodeTable}
use Rattle.kt_graph.specs.nodes.Node.{Instance}
use Rattle.kt_graph.specs.inner.nodes.Graph.{IsWhole}
use Rattle.kt_graph.proofs.lemmas.MemberLemmas.{Contains-from_map, Contains-map, Contains-none, Contains-slice_get}
use Rattle.kt_graph.proofs.lemmas.nodes.NodeLemmas.{inputs_below, others_below}

-- ---- lists

pub Contains-filter_map : {A B : Type 0} (f : A → Option B) (xs : List A) (x : A) (y : B) → Contains xs x → f x ≡ Some y → Contains (filter_map f xs) y
Contains-filter_map f [] x y has is = Contains-none x has
Contains-filter_map {A} {B} f (first ∷ xs) x y has is = ⊎_elim
    (λ (e : first ≡ x).
    subst (λ (o : Option B). Contains (cons_option o (filter_map f xs)) y) (sym (ap f e ∙ is)) (in_first y (filter_map f xs)))
    (λ (h : Contains xs x). later (f first) (Contains-filter_map f xs x y h is))
    (first_or_rest first x xs has)
  where
    later : (o : Option B) → Contains (filter_map f xs) y → Contains (cons_option o (filter_map f xs)) y
    later None h = h
    later (Some z) h = in_rest z y (filter_map f xs) h

pub Contains-from_filter_map : {A B : Type 0} (f : A → Option B) (xs : List A) (y : B) → Contains (filter_map f xs) y → (x : A) × Contains xs x × (f x ≡ Some y)
Contains-from_filter_map f [] y has = Contains-none y has
Contains-from_filter_map {A} {B} f (first ∷ xs) y has = by (λ h. Contains-from_filter_map f xs y h) (f first) refl has
  where
    from : (x : A) × Contains xs x × (f x ≡ Some y) → (x : A) × Contains (first ∷ xs) x × (f x ≡ Some y)
    from rest = (rest.0, in_rest first rest.0 xs rest.1, rest.2)

    by : (Contains (filter_map f xs) y → (x : A) × Contains xs x × (f x ≡ Some y)) → (o : Option B) → f first ≡ o
        → Contains (cons_option o (filter_map f xs)) y → (x : A) × Contains (first ∷ xs) x × (f x ≡ Some y)
    by more None e h = from (more h)
    by more (Some z) e h = ⊎_elim
        (λ (same : z ≡ y). (first, in_first first xs, e ∙ ap (λ (w : B). Some w) same))
        (λ (g : Contains (filter_map f xs) y). from (more g))
        (first_or_rest z y (filter_map f xs) h)

pub find_only : {A : Type 0} (p : A → Bool) (xs : List A) (y : A) → Contains xs y → p y ≡ true → ((x : A) → Contains xs x → p x ≡ true → x ≡ y) → find p xs ≡ Some y
find_only p [] y has on only = Contains-none y has
find_only {A} p (first ∷ xs) y has on only =
    by (λ h. find_only p xs y h on (λ x in' passes. only x (in_rest first x xs in') passes)) (p first) refl
  where
    by : (Contains xs y → find p xs ≡ Some y) → (b : Bool) → p first ≡ b → cond b (Some first) (find p xs) ≡ Some y
    by more true e = ap (λ (x : A). Some x) (only first (in_first first xs) e)
    by more false e = ⊎_elim
        (λ (same : first ≡ y). absurd (false≢true (sym e ∙ ap p same ∙ on)))
        (λ (h : Contains xs y). more h)
        (first_or_rest first y xs has)

pub find_none : {A : Type 0} (p : A → Bool) (xs : List A) → ((x : A) → Contains xs x → p x ≡ false) → find p xs ≡ None
find_none p [] none = refl
find_none {A} p (first ∷ xs) none =
    ap (λ b. cond b (Some first) (find p xs)) (none first (in_first first xs))
    ∙ find_none p xs (λ x has. none x (in_rest first x xs has))

-- each of a list that is mapped to itself is
pub mapped_itself : {A B : Type 0} (f : B → A) (v : A → B) (xs : List A) (x : A) → xs ≡ map f (map v xs) → Contains xs x → f (v x) ≡ x
mapped_itself {A} f v xs x same has =
    let within : has.0 < length xs = has.1 in
    let inside : has.0 < length (map v xs) = subst (λ n. has.0 < n) (sym (length-map xs v)) within in
    ap (λ (y : A). f (v y)) (sym has.2)
    ∙ ap f (sym (get_or-map v xs has.0 x (v x) within))
    ∙ sym (get_or-map f (map v xs) has.0 (v x) x inside)
    ∙ ap (λ (ys : List A). get_or ys has.0 x) (sym same)
    ∙ has.2

-- ---- a whole graph

pub instance_there : (instances : List Held) (making : ℕ) → making < length instances → (told : Instance) × (instance_at instances (Some making) ≡ Some told)
instance_there instances making within =
    let at : (one : Held) × (slice_get instances making ≡ Some one) = at_place instances making within in
    (instance_view at.0, ap (option_map instance_view) at.1)

pub group_cases : (rules : List Entry) (known goals : List Text) (name member : Text) → IsInGroup rules known goals name member
    → (name ≡ member) ⊎ (IsReached rules known goals member × AreOneMaking rules known name member)
group_cases rules known goals name _ itself = inl refl
group_cases rules known goals name _ (beside reached made) = inr (reached, made)

module _ (table : NodeTable) (order : List ℕ) (whole : IsWhole table order) where
  pub numbers_of : (number : ℕ) (node : StoredNode) → slice_get table.nodes number ≡ Some node → HasNumbers (length table.names) (length table.instances) node
  numbers_of number node at = All-contains (HasNumbers (length table.names) (length table.instances)) table.nodes node whole.held.numbers (Contains-slice_get table.nodes number node at)

  pub node_there : (number : ℕ) → number < length table.names → (node : StoredNode) × (slice_get table.nodes number ≡ Some node)
  node_there number within = let long = whole.as_many in at_place table.nodes number (omega arith)

  pub needed_in : (number : ℕ) (node : StoredNode) (to : ℕ) → slice_get table.nodes number ≡ Some node → Contains (needed_numbers node) to → to < length table.names
  needed_in number node to at has = ⊎_elim
      (λ (h : Contains node.inputs to).
      All-contains (λ n. n < length table.names) node.inputs to (inputs_below (length table.names) (length table.instances) node (numbers_of number node at)) h)
      (λ (h : Contains node.order_only to).
      All-contains (λ n. n < length table.names) node.order_only to (others_below (length table.names) (length table.instances) node (numbers_of number node at)) h)
      (Contains-append_cases node.inputs node.order_only to has)

  pub all_below : AreBelow (length table.names) order
  all_below k d within = (whole.rises.all (get_or order k d)).0 (Rattle.std.proofs.lemmas.List.Elements.Contains-get_or order k d within)

  names_view : (numbers : List ℕ) → AreBelow (length table.names) numbers → map (λ (node : Node). node.name) (nodes_view table numbers) ≡ names_at table.names numbers
  names_view [] below = refl
  names_view (number ∷ numbers) below =
      let at = node_there number (All-head (λ n. n < length table.names) number numbers below) in
      ap (λ (o : Option StoredNode). map (λ (node : Node). node.name) (cons_option (option_map (node_view table.names table.instances number) o) (nodes_view table numbers))) at.1
      ∙ ap (λ (rest : List Text). name_at table.names number ∷ rest) (names_view numbers (All-tail (λ n. n < length table.names) number numbers below))

  -- the nodes have the names of the order
  pub names_in_order : map (λ (node : Node). node.name) (nodes_view table order) ≡ names_at table.names order
  names_in_order = names_view order all_below

  told_in : (number : ℕ) (node : StoredNode) → slice_get table.nodes number ≡ Some node → Contains (nodes_view table order) (node_view table.names table.instances number node)
  told_in number node at =
      let within = slice_get_within table.nodes number node at in
      let long = whole.as_many in
      let below : number < length table.names = omega arith in
      Contains-filter_map (node_at table) order number (node_view table.names table.instances number node) ((whole.rises.all number).1 below)
      (ap (option_map (node_view table.names table.instances number)) at)

  from_told : (node : Node) → Contains (nodes_view table order) node
      → (number : ℕ) × (held : StoredNode) × (number < length table.names) × (slice_get table.nodes number ≡ Some held) × (node_view table.names table.instances number held ≡ node)
  from_told node has =
      let from : (number : ℕ) × Contains order number × (node_at table number ≡ Some node) =
      Contains-from_filter_map (node_at table) order node has in
      let below : from.0 < length table.names = (whole.rises.all from.0).0 from.1 in
      let at : (held : StoredNode) × (slice_get table.nodes from.0 ≡ Some held) = node_there from.0 below in (
        from.0,
        at.0,
        below,
        at.1,
        same_Some (node_view table.names table.instances from.0 at.0) node (sym (ap (option_map (node_view table.names table.instances from.0)) at.1) ∙ from.2),
      )

  -- the node of a name is found among those of all, by the name's number
  pub find_there : (name : Text) (number : ℕ) (node : StoredNode) → slice_get table.nodes number ≡ Some node → name_at table.names number ≡ name
      → find (λ (one : Node). bytes_eq name one.name) (nodes_view table order) ≡ Some (node_view table.names table.instances number node)
  find_there name number node at named =
      find_only (λ (one : Node). bytes_eq name one.name) (nodes_view table order) (node_view table.names table.instances number node) (told_in number node at)
      ((bytes_eq-Decides name (name_at table.names number)).1 (sym named))
      (λ other has same.
      let of : (m : ℕ) × (held : StoredNode) × (m < length table.names) × (slice_get table.nodes m ≡ Some held) × (node_view table.names table.instances m held ≡ other) = from_told other has in
      let within = slice_get_within table.nodes number node at in
      let long = whole.as_many in
      let below : number < length table.names = omega arith in
      let equal : of.0 ≡ number = whole.held.distinct of.0 number of.2 below
      (ap (λ (one : Node). one.name) of.4 ∙ sym ((bytes_eq-Decides name other.name).0 same) ∙ sym named) in
      let held_same : of.1 ≡ node = same_Some of.1 node (sym of.3 ∙ ap (slice_get table.nodes) equal ∙ at) in
      sym of.4 ∙ ap (λ m. node_view table.names table.instances m of.1) equal ∙ ap (node_view table.names table.instances number) held_same)

  pub find_nowhere : (name : Text) → ((number : ℕ) → number < length table.names → ¬ (name_at table.names number ≡ name))
      → find (λ (one : Node). bytes_eq name one.name) (nodes_view table order) ≡ None
  find_nowhere name nowhere =
      find_none (λ (one : Node). bytes_eq name one.name) (nodes_view table order)
      (λ other has.
      let of : (m : ℕ) × (held : StoredNode) × (m < length table.names) × (slice_get table.nodes m ≡ Some held) × (node_view table.names table.instances m held ≡ other) = from_told other has in
      by other of (bytes_eq name other.name) refl)
    where
      by : (other : Node) → ((m : ℕ) × (held : StoredNode) × (m < length table.names) × (slice_get table.nodes m ≡ Some held) × (node_view table.names table.instances m held ≡ other))
          → (b : Bool) → bytes_eq name other.name ≡ b → bytes_eq name other.name ≡ false
      by other of false e = e
      by other of true e = absurd (nowhere of.0 of.2 (ap (λ (one : Node). one.name) of.4 ∙ sym ((bytes_eq-Decides name other.name).0 e)))

  module _ (rules : List Entry) (known goals : List Text) (graph : IsGraph rules known goals (nodes_view table order)) where
    pub is_node : (number : ℕ) (node : StoredNode) → slice_get table.nodes number ≡ Some node → node_of rules known (name_at table.names number) ≡ node_view table.names table.instances number node
    is_node number node at =
        mapped_itself (node_of rules known) (λ (one : Node). one.name) (nodes_view table order) (node_view table.names table.instances number node)
        graph.stored (told_in number node at)

    pub number_reached : (number : ℕ) → number < length table.names → IsReached rules known goals (name_at table.names number)
    number_reached number below =
        let at : (node : StoredNode) × (slice_get table.nodes number ≡ Some node) = node_there number below in
        (graph.reached (name_at table.names number)).0
        (Contains-map (λ (one : Node). one.name) (nodes_view table order) (node_view table.names table.instances number at.0) (told_in number at.0 at.1))

    pub reached_number : (name : Text) → IsReached rules known goals name → (number : ℕ) × (number < length table.names) × (name_at table.names number ≡ name)
    reached_number name reached =
        let from : (node : Node) × Contains (nodes_view table order) node × (node.name ≡ name) =
        Contains-from_map (λ (one : Node). one.name) (nodes_view table order) name ((graph.reached name).1 reached) in
        let of : (number : ℕ) × (held : StoredNode) × (number < length table.names) × (slice_get table.nodes number ≡ Some held) × (node_view table.names table.instances number held ≡ from.0) =
        from_told from.0 from.1 in
        (of.0, of.2, ap (λ (one : Node). one.name) of.4 ∙ from.2)
