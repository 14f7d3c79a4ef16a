-- Names that are reached one after another, and what their nodes need.
use Rattle.std.proofs.Common.{rules, ◌≡◌, Bool, true, false, not, cond, if◌then◌else◌, List, [], ◌∷◌, ◌++◌, filter, fold, Contains, All, refl, sym, ap, subst, arith}
use Rattle.kt_graph.proofs.Common.{flat_map, All-nil, All-cons, All-head, All-tail, All-push, All-append, All-weaker, All-contains, Contains-append_left, Contains-append_right, Contains-push, Contains-get_or, Text, Entry, is_among, with_name, without_repeats, needed_by, Node, all_inputs, inputs_of, node_of, order_only_of, HasInput, IsReached, Leads}
use Rattle.kt_graph.proofs.lemmas.search.UnknownLemmas.{from_among}
use Rattle.kt_rules.proofs.lemmas.book.FindLemmas.{names_grow}

-- ---- names after others

added : (names : List Text) (name : Text) (b : Bool) → is_among names name ≡ b → Contains (if b then names else names ++ name ∷ []) name
added names name true h = from_among names name h
added names name false h = Contains-push names name

-- a name that was there stays there
pub reached_stays : (needed names : List Text) (name : Text) → Contains names name → Contains (fold with_name names needed) name
reached_stays needed names name h =
    let grown = names_grow names needed in
    subst (λ l. Contains l name) (sym grown.1) (Contains-append_left names grown.0 name h)

-- all that is needed is there
pub reached_all : (needed names : List Text) → All (Contains (fold with_name names needed)) needed
reached_all [] names = All-nil (Contains names)
reached_all (name ∷ needed) names =
    All-cons (Contains (fold with_name names (name ∷ needed))) name needed
    (reached_stays needed (with_name names name) name (added names name (is_among names name) refl))
    (reached_all needed (with_name names name))

added_only : (P : Text → Type 0) (names : List Text) (name : Text) (b : Bool) → All P names → P name → All P (if b then names else names ++ name ∷ [])
added_only P names name true h p = h
added_only P names name false h p = All-push P names name h p

-- and nothing else
pub reached_only : (P : Text → Type 0) (needed names : List Text) → All P names → All P needed → All P (fold with_name names needed)
reached_only P [] names h k = h
reached_only P (name ∷ needed) names h k = grind (arith, added_only, All-head, All-tail, reached_only P needed (with_name names name) (added_only P names name (is_among names name) h (All-head P name needed k)) (All-tail P name needed k))

-- ---- what a node needs

kept_in : {A : Type 0} (p : A → Bool) (x y : A) (xs : List A) (b : Bool) → Contains xs x → Contains (cond b (y ∷ xs) xs) x
kept_in p x y xs true h = Contains-append_right (y ∷ []) xs x h
kept_in p x y xs false h = h

-- a filter keeps what passes
filter_keeps : {A : Type 0} (p : A → Bool) (xs : List A) → All (λ x. p x ≡ true → Contains (filter p xs) x) xs
filter_keeps p [] = All-nil (λ x. p x ≡ true → Contains [] x)
filter_keeps p (y ∷ xs) = grind (arith, All-cons, cond, Contains-get_or, All-weaker, kept_in, filter_keeps p xs)

beside : (inputs others : List Text) (name : Text) (b : Bool) → is_among inputs name ≡ b → Contains others name
    → Contains (inputs ++ filter (λ other. not (is_among inputs other)) others) name
beside inputs others name true h at = Contains-append_left inputs (filter (λ other. not (is_among inputs other)) others) name (from_among inputs name h)
beside inputs others name false h at =
    Contains-append_right inputs (filter (λ other. not (is_among inputs other)) others) name
    (All-contains (λ x. not (is_among inputs x) ≡ true → Contains (filter (λ other. not (is_among inputs other)) others) x) others name
    (filter_keeps (λ other. not (is_among inputs other)) others) at (ap not h))

front_holds : {A : Type 0} (P : A → Type 0) (xs ys : List A) → All P (xs ++ ys) → All P xs
front_holds P [] ys h = All-nil P
front_holds P (x ∷ xs) ys h = All-cons P x xs (All-head P x (xs ++ ys) h) (front_holds P xs ys (All-tail P x (xs ++ ys) h))

back_holds : {A : Type 0} (P : A → Type 0) (xs ys : List A) → All P (xs ++ ys) → All P ys
back_holds P [] ys h = h
back_holds P (x ∷ xs) ys h = back_holds P xs ys (All-tail P x (xs ++ ys) h)

in_turn : {A B : Type 0} (P : B → Type 0) (f g : A → List B) (xs : List A) → All P (flat_map f xs) → All P (flat_map g xs)
    → All P (flat_map (λ x. f x ++ g x) xs)
in_turn P f g [] h k = h
in_turn P f g (x ∷ xs) h k =
    All-append P (f x ++ g x) (flat_map (λ y. f y ++ g y) xs)
    (All-append P (f x) (g x) (front_holds P (f x) (flat_map f xs) h) (front_holds P (g x) (flat_map g xs) k))
    (in_turn P f g xs (back_holds P (f x) (flat_map f xs) h) (back_holds P (g x) (flat_map g xs) k))

-- each name that gets a number is one of the node's inputs
pub inputs_all : (node : Node) → All (Contains (all_inputs node)) (needed_by node)
unfolding inputs_of order_only_of without_repeats
inputs_all node =
    let front : List Text = flat_map (λ part. part.needs.prerequisites) node.parts in
    let back : List Text = flat_map (λ part. part.needs.order_only) node.parts in
    let inputs : List Text = fold with_name [] front in
    let others : List Text = fold with_name [] back in
    in_turn (Contains (all_inputs node)) (λ part. part.needs.prerequisites) (λ part. part.needs.order_only) node.parts
    (All-weaker (Contains inputs) (Contains (all_inputs node)) (λ name h. Contains-append_left inputs (order_only_of node) name h) front (reached_all front []))
    (All-weaker (Contains others) (Contains (all_inputs node)) (λ name h. beside inputs others name (is_among inputs name) refl h) back (reached_all back []))

-- ---- paths

pub leads_on : {A : Type 0} (Edge : A → A → Type 0) (from : A) (steps : List A) (middle to : A) → Leads Edge from steps middle → Edge middle to
    → Leads Edge from (steps ++ to ∷ []) to
leads_on Edge from [] middle to h e = (subst (λ x. Edge x to) (sym h) e, refl)
leads_on Edge from (step ∷ steps) middle to h e = (h.0, leads_on Edge step steps middle to h.1 e)

-- what a reached name needs is reached
pub reached_on : (rules : List Entry) (known goals : List Text) (name input : Text) → IsReached rules known goals name
    → Contains (all_inputs (node_of rules known name)) input → IsReached rules known goals input
reached_on rules known goals name input h needed = record {
  goal = h.goal;
  named = h.named;
  path = (h.path.0 ++ input ∷ [], leads_on (HasInput rules known) h.goal h.path.0 name input h.path.1 needed);
}

-- a goal is reached
pub goal_reached : (rules : List Entry) (known goals : List Text) (goal : Text) → Contains goals goal → IsReached rules known goals goal
goal_reached rules known goals goal h = record { goal = goal; named = h; path = ([], refl) }
