-- One more name gets its node, from the goals on to the last of all.
use Rattle.std.proofs.Common.{rules, ◌≡◌, ℕ, suc, zero, Bool, ◌-◌, ◌<◌, ◌≤◌, if◌then◌else◌, List, [], ◌∷◌, ◌++◌, length, map, fold, take, drop, get_or, Option, Some, None, slice_get, Contains, All, refl, sym, ap, subst, ◌∙◌, arith, ◌⊎◌, inl, inr, ⊎_elim}
use Rattle.kt_graph.proofs.Common.{option_map, length-append, length_push, take-append-drop, All-nil, All-cons, All-weaker, All-contains_itself, none-some, slice_get_within, slice_get-get_or, get_or_from_slice_get, Text, Target, explicit_rules, Entry, with_name, GraphBuilder, Instance as Held, NodeKind, StoredPart, StoredNode, Candidate, needed_by, Node, Part, all_inputs, node_by, node_of, HasNumbers, IsMaking, IsNumbered, IsStoredAs, SaysNode, SaysPart, SayParts, named_at, names_read, numbers_below, IsReached, AllSay, AreTold, BuildsNode, IsBegun, IsDone, IsOver, reached_text, instance_at, instance_view, name_at, part_view}
use Rattle.kt_graph.specs.declared.nodes.reached_name.ReachedName.{ReachedName}
use Rattle.kt_graph.specs.nodes.Node.{Instance}
use Rattle.kt_graph.proofs.lemmas.nodes.NumberLemmas.{parts_kept}
use Rattle.kt_graph.proofs.lemmas.nodes.StepLemmas.{over_kept}
use Rattle.kt_graph.proofs.lemmas.nodes.ReachLemmas.{goal_reached, inputs_all, reached_all, reached_on, reached_only, reached_stays}
use Rattle.kt_rules.proofs.lemmas.book.FindLemmas.{names_grow}
use Rattle.kt_list.proofs.PrefixLemmas.{slice_get-left}

-- what was reached is needed by goals
pub record IsUnderWay (rules : List Entry) (known goals names : List Text) (nodes : List StoredNode) : Type 0 where
  pub reached : All (IsReached rules known goals) names
  pub named : All (Contains names) goals
  pub within : length nodes ≤ length names

-- ---- places in lists that grow

place_same : {A : Type 0} (xs more : List A) (k : ℕ) → k < length xs → slice_get (xs ++ more) k ≡ slice_get xs k
place_same [] more k h = absurd (omega arith)
place_same (x ∷ xs) more zero h = refl
place_same (x ∷ xs) more (suc k) h = place_same xs more k (omega arith)

push_cases : {A : Type 0} (xs : List A) (x : A) (k : ℕ) (y : A) → slice_get (xs ++ x ∷ []) k ≡ Some y
    → (slice_get xs k ≡ Some y) ⊎ ((k ≡ length xs) × (y ≡ x))
push_cases [] x zero y h = inr (refl, cc)
push_cases [] x (suc k) y h = cc
push_cases (z ∷ xs) x zero y h = inl h
push_cases (z ∷ xs) x (suc k) y h = ⊎_elim (λ e. inl e) (λ e. inr (ap suc e.0, e.1)) (push_cases xs x k y h)

holds_at : {A : Type 0} (P : A → Type 0) (xs : List A) (k : ℕ) (x : A) → All P xs → slice_get xs k ≡ Some x → P x
holds_at P xs k x all at = subst P (get_or_from_slice_get xs k x x at) (all k x (slice_get_within xs k x at))

-- ---- what is said stays

making_kept : (instances new : List Held) (expected : Option Instance) (number : Option ℕ) → take (length instances) new ≡ instances
    → IsMaking instances expected number → IsMaking new expected number
making_kept instances new expected None kept h = record { numbers = tt; told = h.told }
making_kept instances new expected (Some number) kept h =
    let more = drop (length instances) new in
    let whole : new ≡ instances ++ more = sym (take-append-drop (length instances) new) ∙ ap (λ l. l ++ more) kept in
    let within : number < length instances = h.numbers in
    record {
      numbers = omega (arith, ap length whole, length-append instances more);
      told = ap (λ l. option_map instance_view (slice_get l number)) whole ∙ ap (option_map instance_view) (place_same instances more number within) ∙ h.told;
    }

node_kept : (names needed : List Text) (instances new : List Held) (expected : Node) (node : StoredNode) → take (length instances) new ≡ instances
    → SaysNode names instances expected node → SaysNode (fold with_name names needed) new expected node
node_kept names needed instances new expected node kept h = record {
  kind = h.kind;
  parts = parts_kept names needed expected.name expected.parts node.parts h.parts;
  making = making_kept instances new expected.made_with node.made_with kept h.making;
  inputs = h.inputs;
  order_only = h.order_only;
}

-- ---- the work

-- goals are reached, and nothing else is done
pub begun : (rules : List Entry) (known goals names : List Text) (nodes : List StoredNode) → names ≡ fold with_name [] goals → nodes ≡ []
    → IsUnderWay rules known goals names nodes
begun rules known goals names nodes reached none =
    subst (λ l. IsUnderWay rules known goals l nodes) (sym reached)
    (subst (λ l. IsUnderWay rules known goals (fold with_name [] goals) l) (sym none) (record {
      reached = reached_only (IsReached rules known goals) goals [] (All-nil (IsReached rules known goals))
          (All-weaker (Contains goals) (IsReached rules known goals) (λ goal h. goal_reached rules known goals goal h) goals (All-contains_itself goals));
      named = reached_all goals [];
      within = omega arith;
    }))

pub told_none : (builder : GraphBuilder) → builder.nodes ≡ [] → AreTold builder
told_none builder none = grind (arith, none-some)

grown_within : (needed names : List Text) → length names ≤ length (fold with_name names needed)
grown_within needed names =
    let grown = names_grow names needed in
    omega (arith, ap length grown.1, length-append names grown.0)

grown_at : (needed names : List Text) (k : ℕ) (name : Text) → slice_get names k ≡ Some name → slice_get (fold with_name names needed) k ≡ Some name
grown_at needed names k name at =
    let grown = names_grow names needed in
    ap (λ l. slice_get l k) grown.1 ∙ slice_get-left names grown.0 k name at

grown_same : (needed names : List Text) (k : ℕ) → k < length names → slice_get (fold with_name names needed) k ≡ slice_get names k
grown_same needed names k h =
    let grown = names_grow names needed in
    ap (λ l. slice_get l k) grown.1 ∙ place_same names grown.0 k h

-- the next name gets its node
one_more : (rules : List Entry) (known goals names : List Text) (nodes : List StoredNode) (name : Text) (node : StoredNode)
    → IsUnderWay rules known goals names nodes → slice_get names (length nodes) ≡ Some name
    → IsUnderWay rules known goals (fold with_name names (needed_by (node_of rules known name))) (nodes ++ node ∷ [])
one_more rules known goals names nodes name node h at =
    let needed = needed_by (node_of rules known name) in
    let here : IsReached rules known goals name = holds_at (IsReached rules known goals) names (length nodes) name h.reached at in
    let within : length nodes < length names = slice_get_within names (length nodes) name at in
    record {
      reached = reached_only (IsReached rules known goals) needed names h.reached
          (All-weaker (Contains (all_inputs (node_of rules known name))) (IsReached rules known goals)
          (λ input k. reached_on rules known goals name input here k) needed (inputs_all (node_of rules known name)));
      named = All-weaker (Contains names) (Contains (fold with_name names needed)) (λ goal k. reached_stays needed names goal k) goals h.named;
      within = omega (arith, within, grown_within needed names, length_push nodes node);
    }

-- and each node is still that of its name
told_more : (rules : List Entry) (known names : List Text) (instances new : List Held) (nodes : List StoredNode) (name : Text) (node : StoredNode)
    → AllSay rules known names instances nodes → slice_get names (length nodes) ≡ Some name → take (length instances) new ≡ instances
    → SaysNode (fold with_name names (needed_by (node_of rules known name))) new (node_of rules known name) node
    → AllSay rules known (fold with_name names (needed_by (node_of rules known name))) new (nodes ++ node ∷ [])
told_more rules known names instances new nodes name node h at kept says = λ number other stored there held.
    ⊎_elim
    (λ before.
    let within = slice_get_within names (length nodes) name at in
    let old : slice_get names number ≡ Some other
    = sym (grown_same needed names number (omega (arith, slice_get_within nodes number stored before, within))) ∙ there in
    node_kept names needed instances new (node_of rules known other) stored kept (h number other stored old before))
    (λ last.
    let same : Some other ≡ Some name = sym there ∙ ap (slice_get (fold with_name names needed)) last.0 ∙ grown_at needed names (length nodes) name at in
    let e : name ≡ other = cc in
    subst (λ n. SaysNode (fold with_name names needed) new (node_of rules known n) stored) e
    (subst (λ s. SaysNode (fold with_name names needed) new (node_of rules known name) s) (sym last.1) says))
    (push_cases nodes node number stored held)
  where
    needed : List Text
    needed = needed_by (node_of rules known name)

-- what holds between one name and the next
pub record HasBuilt (start now : GraphBuilder) : Type 0 where
  pub over : IsOver now
  pub book : now.book ≡ start.book
  pub known_names : now.known ≡ start.known
  pub told : AreTold now
  pub right : (goals : List Text) → IsBegun goals start → IsUnderWay start.book.now start.known.now goals now.numbers now.nodes

pub built_more : (start now built : GraphBuilder) (name : Text) → HasBuilt start now → slice_get now.numbers (length now.nodes) ≡ Some name
    → BuildsNode now (node_of now.book.now now.known.now name) built → HasBuilt start built
built_more start now built name h at builds =
    let grown = builds.grown in
    record {
      over = over_kept now built _ _ grown h.over;
      book = grown.book ∙ h.book;
      known_names = grown.known_names ∙ h.known_names;
      told = record {
        told = rw (grown.book, grown.known_names, grown.names, grown.nodes)
            (told_more now.book.now now.known.now now.numbers now.instances.keys built.instances.keys now.nodes name builds.node h.told.told at grown.instances
            (subst (λ (l : List Text). SaysNode l built.instances.keys (node_of now.book.now now.known.now name) builds.node) grown.names builds.says));
      };
      right = λ goals begins.
          rw (grown.names, grown.nodes, h.book, h.known_names)
          (one_more start.book.now start.known.now goals now.numbers now.nodes name builds.node (h.right goals begins) at);
    }

-- fewer nodes are left
pub fewer_left : (names : List Text) (nodes more : List StoredNode) (name : Text) (node : StoredNode) (limit : ℕ) → slice_get names (length nodes) ≡ Some name
    → length names < limit → more ≡ nodes ++ node ∷ [] → limit - length more < limit - length nodes
fewer_left names nodes more name node limit at small pushed = grind (arith, length, length_push, slice_get_within)

-- ---- at the end

-- no name remains
pub none_left : (found : Option ReachedName) (at : Option Text) → ((x : ReachedName) → found ≡ Some x → ⊥) → option_map reached_text found ≡ at → None ≡ at
none_left found at h e = grind arith

parts_numbered : (names : List Text) (name : Text) (expected : List Part) (parts : List StoredPart) → SayParts names name expected parts
    → All (λ part. IsNumbered (length names) part) parts
parts_numbered names name [] [] h = All-nil (λ part. IsNumbered (length names) part)
parts_numbered names name [] (part ∷ parts) h = absurd h
parts_numbered names name (one ∷ expected) [] h = absurd h
parts_numbered names name (one ∷ expected) (part ∷ parts) h =
    All-cons (λ p. IsNumbered (length names) p) part parts
    (record {
      prerequisites = numbers_below names part.prerequisites one.needs.prerequisites h.0.needs.prerequisites;
      order_only = numbers_below names part.order_only one.needs.order_only h.0.needs.order_only;
    })
    (parts_numbered names name expected parts h.1)

abbrev node_from : Text → NodeKind → List Part → Option Instance → Node
node_from name kind parts made_with = record { name = name; kind = kind; parts = parts; made_with = made_with }

part_read : (keys : List Text) (name : Text) (expected : Part) (part : StoredPart) → SaysPart keys name expected part
    → part_view keys name part ≡ expected
part_read keys name expected part h = grind (arith, names_read)

parts_read : (keys : List Text) (name : Text) (expected : List Part) (parts : List StoredPart) → SayParts keys name expected parts
    → map (part_view keys name) parts ≡ expected
parts_read keys name [] [] h = refl
parts_read keys name [] (part ∷ parts) h = absurd h
parts_read keys name (one ∷ expected) [] h = absurd h
parts_read keys name (one ∷ expected) (part ∷ parts) h =
    let e = part_read keys name one part h.0 in
    let es = parts_read keys name expected parts h.1 in
    cc

-- what a node says where the names are keys
says_told : (keys : List Text) (instances : List Held) (name : Text) (expected : Node) (node : StoredNode) → expected.name ≡ name
    → SaysNode keys instances expected node → IsStoredAs keys instances name expected node
says_told keys instances name expected node named h = record {
  numbers = record {
    parts = parts_numbered keys expected.name expected.parts node.parts h.parts;
    inputs = h.inputs;
    order_only = h.order_only;
    made_with = h.making.numbers;
  };
  told = λ number at.
      ap (λ n. node_from n node.kind (map (part_view keys n) node.parts) (instance_at instances node.made_with)) (at ∙ sym named)
      ∙ ap (λ k. node_from expected.name k (map (part_view keys expected.name) node.parts) (instance_at instances node.made_with)) h.kind
      ∙ ap (λ l. node_from expected.name expected.kind l (instance_at instances node.made_with)) (parts_read keys expected.name expected.parts node.parts h.parts)
      ∙ ap (λ m. node_from expected.name expected.kind expected.parts m) h.making.told;
}

one_named : (b : Bool) (one other : Node) (name : Text) → one.name ≡ name → other.name ≡ name → (if b then one else other).name ≡ name
one_named b one other name h k = grind arith

by_named : (rules : List Entry) (name : Text) (made : List (Entry × Target)) (used : Option (Entry × Target)) (found : Option (Candidate × Entry))
    → (node_by rules name made used found).name ≡ name
by_named rules name made used found = grind arith

-- the node of a name has that name
pub node_named : (rules : List Entry) (known : List Text) (name : Text) → (node_of rules known name).name ≡ name
unfolding node_of
node_named rules known name = one_named _ _ _ name refl (by_named rules name (explicit_rules rules name) _ _)

past : {A : Type 0} (xs : List A) (k : ℕ) → None ≡ slice_get xs k → length xs ≤ k
past [] k e = omega arith
past (x ∷ xs) zero e = cc
past (x ∷ xs) (suc k) e = omega (arith, past xs k e)

-- nothing remains
pub all_done : (rules : List Entry) (known goals names : List Text) (instances : List Held) (nodes : List StoredNode)
    → AllSay rules known names instances nodes → IsUnderWay rules known goals names nodes → None ≡ slice_get names (length nodes)
    → IsDone rules known goals names instances nodes
all_done rules known goals names instances nodes told h none =
    let count : length nodes ≡ length names = omega (arith, h.within, past names (length nodes) none) in
    record {
      reached = h.reached;
      named = h.named;
      stored = λ number node at.
          let name = name_at names number in
          let within : number < length names = omega (arith, slice_get_within nodes number node at, count) in
          says_told names instances name (node_of rules known name) node (node_named rules known name) (told number name node (named_at names number within) at);
      all = count;
    }

-- all numbers of each node are those of names and makings
pub done_numbers : (rules : List Entry) (known goals names : List Text) (instances : List Held) (nodes : List StoredNode)
    → IsDone rules known goals names instances nodes → All (HasNumbers (length names) (length instances)) nodes
done_numbers rules known goals names instances nodes h = λ k d l. (h.stored k (get_or nodes k d) (slice_get-get_or nodes k d l)).numbers
