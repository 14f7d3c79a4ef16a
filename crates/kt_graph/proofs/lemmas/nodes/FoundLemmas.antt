-- What is found first in a list, and lists of names that rise.
use Rattle.std.proofs.Common.{rules, ◌≡◌, ◌<◌, Bool, true, false, not, ◌||◌, cond, ◌⊎◌, ⊎_elim, List, [], ◌∷◌, ◌++◌, length, map, filter, find, All, Option, None, Some, refl, sym, ap, ◌∙◌, subst, arith}
use Rattle.kt_graph.proofs.Common.{Contains, list_any, IsStrictlySortedBy, nat_cmp, Ordering, Less, slice_cmp, false≢true, true≢false, length-map, All-contains, All-filter, All-map, sorted_tail, All-after_first, none-some, same_Some, Text, Entry, made_names, Node, is_leaf, node_of, IsFirst, IsGraph, first_or_rest, in_first, in_rest}
use Rattle.kt_graph.proofs.lemmas.MemberLemmas.{Contains-none}
use Rattle.kt_graph.proofs.lemmas.nodes.WholeLemmas.{mapped_itself}
use Rattle.kt_text.proofs.lemmas.SortLemmas.{never_itself, never_both, rises_more}

abbrev pub order : Text → Text → Ordering
order = slice_cmp nat_cmp

abbrev pub Rises : List Text → Type 0
Rises = IsStrictlySortedBy order

-- ---- tests on lists

pub any_there : {A : Type 0} (p : A → Bool) (xs : List A) → list_any p xs ≡ true → (x : A) × Contains xs x × (p x ≡ true)
any_there p [] e = absurd (false≢true e)
any_there {A} p (first ∷ xs) e = by (λ f. any_there p xs f) (p first) refl e
  where
    by : (list_any p xs ≡ true → (x : A) × Contains xs x × (p x ≡ true)) → (b : Bool) → p first ≡ b → (b || list_any p xs) ≡ true → (x : A) × Contains (first ∷ xs) x × (p x ≡ true)
    by more true on f = (first, in_first first xs, on)
    by more false off f =
        let rest : (x : A) × Contains xs x × (p x ≡ true) = more f in
        (rest.0, in_rest first rest.0 xs rest.1, rest.2)

pub any_nowhere : {A : Type 0} (p : A → Bool) (xs : List A) → list_any p xs ≡ false → (x : A) → Contains xs x → p x ≡ false
any_nowhere p [] e x has = Contains-none x has
any_nowhere {A} p (first ∷ xs) e x has = by (λ f h. any_nowhere p xs f x h) (p first) refl e
  where
    by : (list_any p xs ≡ false → Contains xs x → p x ≡ false) → (b : Bool) → p first ≡ b → (b || list_any p xs) ≡ false → p x ≡ false
    by more true on f = absurd (true≢false f)
    by more false off f = ⊎_elim
        (λ (same : first ≡ x). ap p (sym same) ∙ off)
        (λ (h : Contains xs x). more f h)
        (first_or_rest first x xs has)

pub find_agree : {A : Type 0} (p q : A → Bool) (xs : List A) → ((x : A) → Contains xs x → p x ≡ q x) → find p xs ≡ find q xs
find_agree p q [] same = refl
find_agree {A} p q (x ∷ xs) same =
    ap (λ b. cond b (Some x) (find p xs)) (same x (in_first x xs))
    ∙ ap (λ (rest : Option A). cond (q x) (Some x) rest) (find_agree p q xs (λ y has. same y (in_rest x y xs has)))

-- what is found passes, and nothing before it does
pub record IsFound {A : Type 0} (p : A → Bool) (xs : List A) (x : A) : Type 0 where
  pub passes : p x ≡ true
  pub earlier : List A
  pub later : List A
  pub cut : xs ≡ earlier ++ x ∷ later
  pub none_earlier : (y : A) → Contains earlier y → p y ≡ false

pub found_is : {A : Type 0} (p : A → Bool) (xs : List A) (x : A) → find p xs ≡ Some x → IsFound p xs x
found_is p [] x e = absurd (none-some x e)
found_is {A} p (first ∷ xs) x e = by (λ f. found_is p xs x f) (p first) refl e
  where
    by : (find p xs ≡ Some x → IsFound p xs x) → (b : Bool) → p first ≡ b → cond b (Some first) (find p xs) ≡ Some x → IsFound p (first ∷ xs) x
    by more true on f =
        let same : first ≡ x = same_Some first x f in
        record {
          passes = ap p (sym same) ∙ on;
          earlier = [];
          later = xs;
          cut = ap (λ (y : A). y ∷ xs) same;
          none_earlier = λ y has. Contains-none y has;
        }
    by more false off f =
        let rest = more f in
        record {
          passes = rest.passes;
          earlier = first ∷ rest.earlier;
          later = rest.later;
          cut = ap (λ (ys : List A). first ∷ ys) rest.cut;
          none_earlier = λ y has. ⊎_elim
              (λ (same : first ≡ y). ap p (sym same) ∙ off)
              (λ (h : Contains rest.earlier y). rest.none_earlier y h)
              (first_or_rest first y rest.earlier has);
        }

pub found_nowhere : {A : Type 0} (p : A → Bool) (xs : List A) → find p xs ≡ None → (x : A) → Contains xs x → p x ≡ false
found_nowhere p [] e x has = Contains-none x has
found_nowhere {A} p (first ∷ xs) e x has = by (λ f h. found_nowhere p xs f x h) (p first) refl e
  where
    by : (find p xs ≡ None → Contains xs x → p x ≡ false) → (b : Bool) → p first ≡ b → cond b (Some first) (find p xs) ≡ None → p x ≡ false
    by more true on f = absurd (none-some first (sym f))
    by more false off f = ⊎_elim
        (λ (same : first ≡ x). ap p (sym same) ∙ off)
        (λ (h : Contains xs x). more f h)
        (first_or_rest first x xs has)

-- ---- lists that rise

rises_none : Rises []
unfolding IsStrictlySortedBy
rises_none = tt

-- the names after a name in a list that rises aren't below it
pub none_below : (earlier : List Text) (name : Text) (later : List Text) → Rises (earlier ++ name ∷ later) → (other : Text)
    → Contains (name ∷ later) other → ¬ (order other name ≡ Less)
none_below [] name later rises other has less = grind (arith, ⊎_elim, never_itself, never_both, All-contains, All-after_first, first_or_rest)
none_below (first ∷ earlier) name later rises other has less =
    none_below earlier name later (sorted_tail order first (earlier ++ name ∷ later) rises) other has less

pub in_cut : {A : Type 0} (earlier : List A) (x : A) (later : List A) (y : A) → Contains (earlier ++ x ∷ later) y → Contains earlier y ⊎ Contains (x ∷ later) y
in_cut earlier x later y has = Rattle.std.proofs.lemmas.List.Elements.Contains-append_cases earlier (x ∷ later) y has

-- the first that passes in a list that rises is the first that has the property
pub first_of : (P : Text → Type 0) (p : Text → Bool) (names : List Text) (name : Text) → Rises names → IsFound p names name
    → P name → ((other : Text) → P other → Contains names other × (p other ≡ true)) → IsFirst P name
first_of P p names name rises found holds back = record {
  holds = holds;
  least = λ other is less.
      let has = back other is in
      let inside : Contains (found.earlier ++ name ∷ found.later) other = subst (λ (ns : List Text). Contains ns other) found.cut has.0 in
      ⊎_elim
      (λ (h : Contains found.earlier other). false≢true (sym (found.none_earlier other h) ∙ has.1))
      (λ (h : Contains (name ∷ found.later) other).
      none_below found.earlier name found.later (subst Rises found.cut rises) other h less)
      (in_cut found.earlier name found.later other inside);
}

-- ---- made names

-- the rest of names that rise rises
pub kept_rises : (p : Node → Bool) (nodes : List Node) → Rises (map (λ node. node.name) nodes) → Rises (map (λ node. node.name) (filter p nodes))
kept_rises p [] rises = rises_none
kept_rises p (node ∷ nodes) rises =
    by (kept_rises p nodes (sorted_tail order node.name (map (λ (one : Node). one.name) nodes) rises)) (p node)
  where
    above : All (λ (one : Node). order node.name one.name ≡ Less) nodes
    above k d within =
        let all = All-after_first order node.name (map (λ (one : Node). one.name) nodes) rises in
        let inside : k < length (map (λ (one : Node). one.name) nodes) = subst (λ n. k < n) (sym (length-map nodes (λ (one : Node). one.name))) within in
        subst (λ (name : Text). order node.name name ≡ Less) (Rattle.std.proofs.lemmas.List.get_or-map (λ (one : Node). one.name) nodes k d d.name within) (all k d.name inside)

    by : Rises (map (λ (one : Node). one.name) (filter p nodes)) → (b : Bool) → Rises (map (λ (one : Node). one.name) (cond b (node ∷ filter p nodes) (filter p nodes)))
    by rest true = rises_more node.name (map (λ (one : Node). one.name) (filter p nodes))
        (All-map (λ (name : Text). order node.name name ≡ Less) (λ (one : Node). one.name) (filter p nodes)
        (All-filter p (λ (one : Node). order node.name one.name ≡ Less) nodes above)) rest
    by rest false = rest

pub rises_made : (nodes : List Node) → Rises (map (λ node. node.name) nodes) → Rises (made_names nodes)
rises_made nodes rises = kept_rises (λ (node : Node). not (is_leaf node.kind)) nodes rises

-- a node of a graph is what the rules say of its name
pub of_node : (rules : List Entry) (known goals : List Text) (nodes : List Node) → IsGraph rules known goals nodes → (node : Node)
    → Contains nodes node → node_of rules known node.name ≡ node
of_node rules known goals nodes graph node has = mapped_itself (node_of rules known) (λ (one : Node). one.name) nodes node graph.stored has
