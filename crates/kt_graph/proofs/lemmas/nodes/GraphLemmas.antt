-- A graph of the nodes of all reached names.
use Rattle.std.proofs.Common.{rules, ◌≡◌, ℕ, ◌<◌, Bool, true, ⊎_elim, List, [], ◌∷◌, ◌++◌, length, get_or, map, find, Option, None, Some, option_map, slice_get, refl, sym, ap, ◌∙◌, subst}
use Rattle.kt_graph.proofs.Common.{Contains, cons_option, list_any, position, IsStrictlySortedBy, nat_cmp, slice_cmp, bytes_eq, cases_order, false≢true, map-append, All-contains, All-head, All-tail, get_or_from_slice_get, slice_get_within, bytes_eq-Decides, at_place, Text, Entry, Instance as Held, StoredNode, needed_numbers, AreDistinct, Node, all_inputs, inputs_of, node_of, AreBelow, HasInput, IsGraph, IsReached, Leads, instance_view, name_at, names_at, node_at, node_view, nodes_view, IsDone, NodeTable}
use Rattle.std.proofs.lemmas.List.Quantifiers.{position-Some}
use Rattle.kt_graph.specs.inner.nodes.Graph.{AreDifferent, IsWhole}
use Rattle.kt_graph.proofs.lemmas.MemberLemmas.{Contains-from_map, Contains-map, Contains-slice_get, slice_get-Contains}
use Rattle.kt_graph.proofs.lemmas.nodes.NodeLemmas.{inputs_are, others_are}
use Rattle.kt_graph.proofs.lemmas.nodes.FoundLemmas.{any_nowhere}
use Rattle.kt_graph.proofs.lemmas.nodes.WholeLemmas.{all_below, find_nowhere, find_there, names_in_order, needed_in, node_there, numbers_of}

-- ---- keys of sets

-- keys that all differ have different places if the values seen of them differ
pub places_apart : {A : Type 0} {B : Type 0} (same : A → A → Bool) (told : A → B) → ((x y : A) → told x ≡ told y → same x y ≡ true)
    → (keys : List A) → ((i j : ℕ) (d : A) → i < j → j < length keys → same (get_or keys i d) (get_or keys j d) ≡ Rattle.std.proofs.Common.false)
    → (one other : ℕ) (x y : A) → slice_get keys one ≡ Some x → slice_get keys other ≡ Some y → told x ≡ told y → one ≡ other
places_apart same told is keys apart one other x y at there e = ⊎_elim
    (λ (equal : one ≡ other). equal)
    (λ h. ⊎_elim
    (λ (less : one < other).
    let within = slice_get_within keys other y there in
    absurd (false≢true (sym (apart one other x less within)
    ∙ ap (λ z. same z (get_or keys other x)) (get_or_from_slice_get keys one x x at)
    ∙ ap (same x) (get_or_from_slice_get keys other y x there) ∙ is x y e)))
    (λ (more : other < one).
    let within = slice_get_within keys one x at in
    absurd (false≢true (sym (apart other one x more within)
    ∙ ap (λ z. same z (get_or keys one x)) (get_or_from_slice_get keys other y x there)
    ∙ ap (same y) (get_or_from_slice_get keys one x x at) ∙ is y x (sym e))))
    h)
    (cases_order one other)

name_there : (names : List Text) (number : ℕ) → number < length names → (name : Text) × (slice_get names number ≡ Some name) × (name_at names number ≡ name)
name_there names number within =
    let at : (name : Text) × (slice_get names number ≡ Some name) = at_place names number within in
    (at.0, at.1, ap (λ (o : Option Text). Rattle.std.specs.Option.unwrap_or o []) at.1)

pub names_distinct : (names : List Text)
    → ((i j : ℕ) (d : Text) → i < j → j < length names → bytes_eq (get_or names i d) (get_or names j d) ≡ Rattle.std.proofs.Common.false)
    → AreDistinct names
names_distinct names apart one other first second e =
    let x : (name : Text) × (slice_get names one ≡ Some name) × (name_at names one ≡ name) = name_there names one first in
    let y : (name : Text) × (slice_get names other ≡ Some name) × (name_at names other ≡ name) = name_there names other second in
    places_apart bytes_eq (λ (a : Text). a)
    (λ a b same. (bytes_eq-Decides a b).1 same) names apart one other x.0 y.0 x.1 y.1 (sym x.2 ∙ e ∙ y.2)

pub makings_apart : (same : Held → Held → Bool) → ((x y : Held) → instance_view x ≡ instance_view y → same x y ≡ true) → (instances : List Held)
    → ((i j : ℕ) (d : Held) → i < j → j < length instances → same (get_or instances i d) (get_or instances j d) ≡ Rattle.std.proofs.Common.false)
    → AreDifferent instances
makings_apart same is instances apart one other first second e =
    let x : (held : Held) × (slice_get instances one ≡ Some held) = at_place instances one first in
    let y : (held : Held) × (slice_get instances other ≡ Some held) = at_place instances other second in
    places_apart same instance_view is instances apart one other x.0 y.0 x.1 y.1
    (Rattle.std.proofs.lemmas.Option.same_Some (instance_view x.0) (instance_view y.0)
    (sym (ap (option_map instance_view) x.1) ∙ e ∙ ap (option_map instance_view) y.1))

-- ---- what the nodes are

module _ (table : NodeTable) (order : List ℕ) (whole : IsWhole table order)
    (rules : List Entry) (known goals : List Text) (done : IsDone rules known goals table.names table.instances table.nodes) where
  is_told : (number : ℕ) (node : StoredNode) → slice_get table.nodes number ≡ Some node → node_view table.names table.instances number node ≡ node_of rules known (name_at table.names number)
  is_told number node at = (done.stored number node at).told number refl

  told_at : (number : ℕ) → number < length table.names → (node : Node) × (node_at table number ≡ Some node)
      × (node.name ≡ name_at table.names number) × (node ≡ node_of rules known (name_at table.names number))
  told_at number below =
      let at : (node : StoredNode) × (slice_get table.nodes number ≡ Some node) = node_there table order whole number below in
      (node_view table.names table.instances number at.0, ap (option_map (node_view table.names table.instances number)) at.1, refl, is_told number at.0 at.1)

  each_stored : (numbers : List ℕ) → AreBelow (length table.names) numbers
      → nodes_view table numbers ≡ map (node_of rules known) (map (λ (node : Node). node.name) (nodes_view table numbers))
  each_stored [] below = refl
  each_stored (number ∷ numbers) below =
      let at = told_at number (All-head (λ n. n < length table.names) number numbers below) in
      let rest = each_stored numbers (All-tail (λ n. n < length table.names) number numbers below) in
      let own : at.0 ≡ node_of rules known at.0.name = at.3 ∙ ap (node_of rules known) (sym at.2) in
      subst (λ (o : Option Node). cons_option o (nodes_view table numbers)
      ≡ map (node_of rules known) (map (λ (node : Node). node.name) (cons_option o (nodes_view table numbers)))) (sym at.1)
      (ap (λ (node : Node). node ∷ nodes_view table numbers) own
      ∙ ap (λ (others : List Node). node_of rules known at.0.name ∷ others) rest)

  -- ---- what is reached

  input_at : (number : ℕ) (input : Text) → number < length table.names → HasInput rules known (name_at table.names number) input
      → (to : ℕ) × (to < length table.names) × (name_at table.names to ≡ input)
  input_at number input below has =
      let at : (node : StoredNode) × (slice_get table.nodes number ≡ Some node) = node_there table order whole number below in
      let own = numbers_of table order whole number at.0 at.1 in
      let named : names_at table.names (needed_numbers at.0) ≡ all_inputs (node_of rules known (name_at table.names number)) =
      map-append (name_at table.names) at.0.inputs at.0.order_only
      ∙ ap (λ (xs : List Text). xs ++ names_at table.names at.0.order_only) (inputs_are table.names table.instances number at.0 whole.held.distinct own)
      ∙ ap (λ (xs : List Text). inputs_of (node_view table.names table.instances number at.0) ++ xs) (others_are table.names table.instances number at.0 whole.held.distinct own)
      ∙ ap all_inputs (is_told number at.0 at.1) in
      let of : (to : ℕ) × Contains (needed_numbers at.0) to × (name_at table.names to ≡ input) =
      Contains-from_map (name_at table.names) (needed_numbers at.0) input (subst (λ (xs : List Text). Contains xs input) (sym named) has) in
      (of.0, needed_in table order whole number at.0 of.0 at.1 of.1, of.2)

  all_reached : (steps : List Text) (number : ℕ) (last : Text) → number < length table.names → Leads (HasInput rules known) (name_at table.names number) steps last
      → (to : ℕ) × (to < length table.names) × (name_at table.names to ≡ last)
  all_reached [] number last below same = (number, below, same)
  all_reached (step ∷ steps) number last below way =
      let one : (to : ℕ) × (to < length table.names) × (name_at table.names to ≡ step) = input_at number step below way.0 in
      all_reached steps one.0 last one.1 (subst (λ (name : Text). Leads (HasInput rules known) name steps last) (sym one.2) way.1)

  goal_at : (goal : Text) → Contains goals goal → (number : ℕ) × (number < length table.names) × (name_at table.names number ≡ goal)
  goal_at goal has =
      let has_name : Contains table.names goal = All-contains (Contains table.names) goals goal done.named has in
      let at : (number : ℕ) × (slice_get table.names number ≡ Some goal) = slice_get-Contains table.names goal has_name in (
        at.0,
        slice_get_within table.names at.0 goal at.1,
        ap (λ (o : Option Text). Rattle.std.specs.Option.unwrap_or o []) at.1,
      )

  name_reached : (number : ℕ) → number < length table.names → IsReached rules known goals (name_at table.names number)
  name_reached number below =
      let at : (name : Text) × (slice_get table.names number ≡ Some name) × (name_at table.names number ≡ name) = name_there table.names number below in
      subst (IsReached rules known goals) (sym at.2)
      (All-contains (IsReached rules known goals) table.names at.0 done.reached (Contains-slice_get table.names number at.0 at.1))

  pub graph_is : IsGraph rules known goals (nodes_view table order)
  graph_is = record {
    rises = subst (IsStrictlySortedBy (slice_cmp nat_cmp)) (sym (names_in_order table order whole)) whole.rises.rises;
    reached = λ name. (
      λ has.
          let from : (number : ℕ) × Contains order number × (name_at table.names number ≡ name) =
          Contains-from_map (name_at table.names) order name (subst (λ (xs : List Text). Contains xs name) (names_in_order table order whole) has) in
          subst (IsReached rules known goals) from.2 (name_reached from.0 ((whole.rises.all from.0).0 from.1)),
      λ reached.
          let begun : (number : ℕ) × (number < length table.names) × (name_at table.names number ≡ reached.goal) = goal_at reached.goal reached.named in
          let at : (to : ℕ) × (to < length table.names) × (name_at table.names to ≡ name) =
          all_reached reached.path.0 begun.0 name begun.1
          (subst (λ (n : Text). Leads (HasInput rules known) n reached.path.0 name) (sym begun.2) reached.path.1) in
          subst (λ (xs : List Text). Contains xs name) (sym (names_in_order table order whole))
          (subst (λ (n : Text). Contains (names_at table.names order) n) at.2 (Contains-map (name_at table.names) order at.0 ((whole.rises.all at.0).1 at.1))),
    );
    stored = each_stored order (all_below table order whole);
  }

-- ---- names by keys

abbrev is_key : Text → Text → Bool
is_key name key = bytes_eq name key

indexed : (names : List Text) (name : Text) (number : ℕ) → position (is_key name) names ≡ Some number
    → (number < length names) × (name_at names number ≡ name)
indexed names name number is =
    let below : number < length names = (position-Some (is_key name) names number (vec_of names number is) is).0 in
    let at : (key : Text) × (slice_get names number ≡ Some key) × (name_at names number ≡ key) = name_there names number below in
    let passes : is_key name (get_or names number at.0) ≡ true = (position-Some (is_key name) names number at.0 is).1 in (
      below,
      at.2 ∙ sym (get_or_from_slice_get names number at.0 at.0 at.1)
          ∙ sym ((bytes_eq-Decides name (get_or names number at.0)).0 passes),
    )
  where
    vec_of : (xs : List Text) (n : ℕ) → position (is_key name) xs ≡ Some n → Text
    vec_of [] n e = absurd (Rattle.std.proofs.lemmas.Option.none-some n e)
    vec_of (x ∷ xs) n e = x

-- the node of a name, by its number, is the one that is found
pub node_found : (table : NodeTable) (order : List ℕ) → IsWhole table order
    → (name : Text) (number : ℕ) → position (is_key name) table.names ≡ Some number
    → node_at table number ≡ find (λ (one : Node). bytes_eq name one.name) (nodes_view table order)
node_found table order whole name number is =
    let at = indexed table.names name number is in
    let held : (node : StoredNode) × (slice_get table.nodes number ≡ Some node) = node_there table order whole number at.0 in
    ap (option_map (node_view table.names table.instances number)) held.1 ∙ sym (find_there table order whole name number held.0 held.1 at.1)

pub node_missing : (table : NodeTable) (order : List ℕ) → IsWhole table order
    → (name : Text) → list_any (is_key name) table.names ≡ Rattle.std.proofs.Common.false
    → find (λ (one : Node). bytes_eq name one.name) (nodes_view table order) ≡ None
node_missing table order whole name none =
    find_nowhere table order whole name
    (λ number below e.
    let at : (key : Text) × (slice_get table.names number ≡ Some key) × (name_at table.names number ≡ key) = name_there table.names number below in
    false≢true (sym (any_nowhere (is_key name) table.names none at.0 (Contains-slice_get table.names number at.0 at.1))
    ∙ (bytes_eq-Decides name at.0).1 (sym e ∙ at.2)))

-- ---- nodes that were settled
