-- The groups of the first numbers are those of the nodes.
use Rattle.std.proofs.Common.{◌≡◌, ℕ, suc, ◌+◌, ◌<◌, ◌≤◌, Bool, true, false, not, ◌&&◌, ◌||◌, ⊎_elim, cond, if◌then◌else◌, List, [], ◌∷◌, ◌++◌, length, drop, get_or, map, filter, find, nat_eq, Option, None, Some, IfSome, option_map, slice_get, refl, sym, ap, ◌∙◌, subst, arith}
use Rattle.kt_graph.proofs.Common.{Contains, cons_option, prefix_len, IsStrictlySortedBy, option_and_then, option_map_or, nat_cmp, is_eq, Less, slice_cmp, bytes_eq, and_parts, cases_eq, eq-eqb, eqb-true, false≢true, true≢false, append-nil, append_assoc, drop_all, drop_more, get_or-replicate, get_or-set_other, get_or-set_same, length-replicate, length-set, map-append, All-contains, filter-append, filter_agree, prefix_len_stops, sorted_tail, is_eq-slice_cmp, All-after_first, bytes_eq-Decides, equal_when, Text, StoredNode, bare_rows, Node, instance_at, name_at, names_at, node_view, nodes_view, first_or_rest, in_first, in_rest, NodeTable}
use Rattle.kt_graph.specs.inner.nodes.Grouping.{HasMembers, group_at, groups_left, is_first, is_made_at, is_made_with}
use Rattle.kt_graph.specs.inner.nodes.Grouping.{is_same_making, leads_at, leads_by, making_at, members_by, members_of}
use Rattle.kt_graph.specs.inner.nodes.Grouping.{with_member}
use Rattle.kt_graph.specs.nodes.Groups.{are_together, groups_among, groups_of, is_leading, is_one_making, made_nodes}
use Rattle.kt_graph.specs.nodes.Node.{Instance}
use Rattle.kt_graph.specs.inner.nodes.Graph.{IsWhole}
use Rattle.kt_graph.proofs.lemmas.nodes.GroupLemmas.{one_itself, one_same}
use Rattle.kt_graph.proofs.lemmas.MemberLemmas.{Contains-map, Contains-none, Contains-slice_get}
use Rattle.kt_graph.proofs.lemmas.Membership.{kept_by_filter}
use Rattle.kt_graph.proofs.lemmas.nodes.WholeLemmas.{instance_there}

-- ---- the numbers of each making

pub none_noted : (nodes : List StoredNode) (count : ℕ) (members : List (List ℕ)) → members ≡ bare_rows count → HasMembers nodes count [] members
none_noted nodes count members is = grind (arith, length-replicate, get_or-replicate)

pub one_noted : (nodes : List StoredNode) (count number : ℕ) (numbers : List ℕ) (members new : List (List ℕ)) → HasMembers nodes count numbers members
    → new ≡ with_member nodes members number → HasMembers nodes count (numbers ++ number ∷ []) new
one_noted nodes count number numbers members new so_far is = grind (arith, filter-append, nat_eq, eqb-true, length, length-set, get_or, cond, append-nil, ⊎_elim, get_or-set_same, eq-eqb, get_or-set_other, cases_eq)

-- ---- lists

abbrev head_of : {A : Type 0} → List A → Option A
head_of [] = None
head_of (x ∷ xs) = Some x

find_head : {A : Type 0} (p : A → Bool) (xs : List A) → find p xs ≡ head_of (filter p xs)
find_head p [] = refl
find_head {A} p (x ∷ xs) = grind (arith, cond, find_head p xs)

filter_one : {A : Type 0} (p : A → Bool) (x : A) (xs : List A) → filter p (x ∷ xs) ≡ cond (p x) (x ∷ []) [] ++ filter p xs
filter_one {A} p x xs = grind (arith, cond)

-- ---- the groups of an order

module _ (table : NodeTable) (order : List ℕ) (whole : IsWhole table order)
    (members : List (List ℕ)) (has : HasMembers table.nodes (length table.instances) order members) where
  abbrev told : List ℕ → List Node
  told numbers = nodes_view table numbers

  abbrev made : List ℕ → List Node
  made numbers = made_nodes (told numbers)

  told_one : (number : ℕ) (numbers : List ℕ) → told (number ∷ numbers) ≡ told (number ∷ []) ++ told numbers
  told_one number numbers = grind arith

  made_one : (number : ℕ) (numbers : List ℕ) → made (number ∷ numbers) ≡ (if is_made_at table.nodes number then told (number ∷ []) else []) ++ made numbers
  made_one number numbers = grind (arith, cond, not)

  -- ---- two numbers

  same_name : (one other : ℕ) → Contains order one → Contains order other → bytes_eq (name_at table.names one) (name_at table.names other) ≡ nat_eq one other
  same_name one other first second = equal_when (bytes_eq (name_at table.names one) (name_at table.names other)) (nat_eq one other)
      (λ e. eq-eqb one other (whole.held.distinct one other ((whole.rises.all one).0 first) ((whole.rises.all other).0 second)
      ((bytes_eq-Decides (name_at table.names one) (name_at table.names other)).0 e)))
      (λ e. (bytes_eq-Decides (name_at table.names one) (name_at table.names other)).1 (ap (name_at table.names) (eqb-true one other e)))

  -- the makings of two numbers are equal
  abbrev is_same : Option ℕ → Option ℕ → Bool
  is_same None other = false
  is_same (Some making) other = is_same_making making other

  abbrev IsBelow : Option ℕ → Type 0
  IsBelow making = IfSome making (λ number. number < length table.instances)

  same_making : (one other : Option ℕ) → IsBelow one → IsBelow other → is_one_making (instance_at table.instances one) (instance_at table.instances other) ≡ is_same one other
  same_making None other first second = refl
  same_making (Some one) None first second = grind (arith, instance_there)
  same_making (Some one) (Some other) first second = equal_when (is_one_making (instance_at table.instances (Some one)) (instance_at table.instances (Some other))) (nat_eq one other)
      (λ e. eq-eqb one other (whole.held.apart one other first second (one_same (instance_at table.instances (Some one)) (instance_at table.instances (Some other)) e)))
      (λ e.
      let there : (told : Instance) × (instance_at table.instances (Some one) ≡ Some told) = instance_there table.instances one first in
      let also : instance_at table.instances (Some other) ≡ Some there.0 = ap (λ n. instance_at table.instances (Some n)) (sym (eqb-true one other e)) ∙ there.1 in
      ap (λ (o : Option Instance). is_one_making o (instance_at table.instances (Some other))) there.1 ∙ ap (is_one_making (Some there.0)) also ∙ one_itself there.0)

  below : (number : ℕ) (node : StoredNode) → slice_get table.nodes number ≡ Some node → IsBelow node.made_with
  below number node at = grind (arith, All-contains, length, Contains-slice_get)

  -- whether a number is in one group with another
  abbrev stands_with : ℕ → ℕ → Bool
  stands_with leader number = is_made_at table.nodes number && (nat_eq leader number || is_same (making_at table.nodes leader) (making_at table.nodes number))

  -- ---- the numbers of a group

  -- those in the group of a node, with more numbers
  with_one : (leader : ℕ) (node : StoredNode) → Contains order leader → slice_get table.nodes leader ≡ Some node → (number : ℕ) → Contains order number
      → filter (are_together (node_view table.names table.instances leader node)) (if is_made_at table.nodes number then told (number ∷ []) else [])
      ≡ told (cond (stands_with leader number) (number ∷ []) [])
  with_one leader node first at number second = grind (arith, nat_eq, cond, same_name, same_making, below, not)

  with_all : (leader : ℕ) (node : StoredNode) → Contains order leader → slice_get table.nodes leader ≡ Some node → (numbers : List ℕ)
      → ((number : ℕ) → Contains numbers number → Contains order number)
      → filter (are_together (node_view table.names table.instances leader node)) (made numbers) ≡ told (filter (stands_with leader) numbers)
  with_all leader node first at [] inside = refl
  with_all leader node first at (number ∷ numbers) inside =
      let rest = with_all leader node first at numbers (λ other h. inside other (in_rest number other numbers h)) in
      ap (filter (are_together (node_view table.names table.instances leader node))) (made_one number numbers)
      ∙ filter-append (are_together (node_view table.names table.instances leader node)) (if is_made_at table.nodes number then told (number ∷ []) else []) (made numbers)
      ∙ ap (λ (front : List Node). front ++ filter (are_together (node_view table.names table.instances leader node)) (made numbers))
      (with_one leader node first at number (inside number (in_first number numbers)))
      ∙ ap (λ (back : List Node). told (cond (stands_with leader number) (number ∷ []) []) ++ back) rest
      ∙ joined (stands_with leader number)
      ∙ ap told (sym (filter_one (stands_with leader) number numbers))
    where
      joined : (b : Bool) → told (cond b (number ∷ []) []) ++ told (filter (stands_with leader) numbers) ≡ told (cond b (number ∷ []) [] ++ filter (stands_with leader) numbers)
      joined true = sym (told_one number (filter (stands_with leader) numbers))
      joined false = refl

  -- a number is in a list once if the names rise
  none_later : (leader : ℕ) (numbers : List ℕ) (p : ℕ → Bool) → ((number : ℕ) → p number ≡ true → leader ≡ number)
      → IsStrictlySortedBy (slice_cmp nat_cmp) (names_at table.names (leader ∷ numbers)) → filter p numbers ≡ []
  none_later leader numbers p only rises = kept_none numbers (λ number h. by number h (p number) refl)
    where
      kept_none : (others : List ℕ) → ((number : ℕ) → Contains others number → p number ≡ false) → filter p others ≡ []
      kept_none [] none = refl
      kept_none (first ∷ others) none =
          ap (λ b. cond b (first ∷ filter p others) (filter p others)) (none first (in_first first others))
          ∙ kept_none others (λ number h. none number (in_rest first number others h))

      by : (number : ℕ) → Contains numbers number → (b : Bool) → p number ≡ b → p number ≡ false
      by number h false e = e
      by number h true e =
          let less : slice_cmp nat_cmp (name_at table.names leader) (name_at table.names number) ≡ Less =
          All-contains (λ (name : Text). slice_cmp nat_cmp (name_at table.names leader) name ≡ Less) (names_at table.names numbers) (name_at table.names number)
          (All-after_first (slice_cmp nat_cmp) (name_at table.names leader) (names_at table.names numbers) rises) (Contains-map (name_at table.names) numbers number h) in
          let differ : bytes_eq (name_at table.names leader) (name_at table.names number) ≡ false =
          sym (is_eq-slice_cmp (name_at table.names leader) (name_at table.names number)) ∙ ap is_eq less in
          let same : bytes_eq (name_at table.names leader) (name_at table.names number) ≡ true =
          (bytes_eq-Decides (name_at table.names leader) (name_at table.names number)).1 (ap (name_at table.names) (only number e)) in
          absurd (false≢true (sym differ ∙ same))

  once : (leader : ℕ) (numbers : List ℕ) (p : ℕ → Bool) → p leader ≡ true → ((number : ℕ) → p number ≡ true → leader ≡ number)
      → IsStrictlySortedBy (slice_cmp nat_cmp) (names_at table.names numbers) → Contains numbers leader → filter p numbers ≡ leader ∷ []
  once leader [] p on only rises inside = Contains-none leader inside
  once leader (first ∷ numbers) p on only rises inside = by (λ rise h. once leader numbers p on only rise h) (p first) refl
    where
      by : (IsStrictlySortedBy (slice_cmp nat_cmp) (names_at table.names numbers) → Contains numbers leader → filter p numbers ≡ leader ∷ []) → (b : Bool) → p first ≡ b → filter p (first ∷ numbers) ≡ leader ∷ []
      by more true e =
          let same = only first e in
          let later : filter p numbers ≡ [] =
          none_later leader numbers p only (subst (λ n. IsStrictlySortedBy (slice_cmp nat_cmp) (names_at table.names (n ∷ numbers))) (sym same) rises) in
          ap (λ b. cond b (first ∷ filter p numbers) (filter p numbers)) e ∙ ap (λ (ns : List ℕ). first ∷ ns) later ∙ ap (λ n. n ∷ []) (sym same)
      by more false e =
          ap (λ b. cond b (first ∷ filter p numbers) (filter p numbers)) e
          ∙ more (sorted_tail (slice_cmp nat_cmp) (name_at table.names first) (names_at table.names numbers) rises)
          (⊎_elim
          (λ (same : first ≡ leader). absurd (false≢true (sym e ∙ ap p same ∙ on)))
          (λ (h : Contains numbers leader). h)
          (first_or_rest first leader numbers inside))

  -- the numbers in the group of a number are its members
  members_are : (leader : ℕ) → Contains order leader → is_made_at table.nodes leader ≡ true → (making : Option ℕ) → making_at table.nodes leader ≡ making → IsBelow making
      → filter (stands_with leader) order ≡ members_by members leader making
  members_are leader inside on None is within = once leader order (stands_with leader)
      (ap (λ b. b && (nat_eq leader leader || is_same (making_at table.nodes leader) (making_at table.nodes leader))) on
      ∙ ap (λ b. b || is_same (making_at table.nodes leader) (making_at table.nodes leader)) (eq-eqb leader leader refl))
      (λ number e.
      let both = and_parts (is_made_at table.nodes number) (nat_eq leader number || is_same (making_at table.nodes leader) (making_at table.nodes number)) e in
      let named : (nat_eq leader number || false) ≡ true = sym (ap (λ (o : Option ℕ). nat_eq leader number || is_same o (making_at table.nodes number)) is) ∙ both.1 in
      eqb-true leader number (or_none (nat_eq leader number) named))
      whole.rises.rises inside
    where
      or_none : (b : Bool) → (b || false) ≡ true → b ≡ true
      or_none true e = refl
      or_none false e = e
  members_are leader inside on (Some making) is within = grind (arith, filter_agree, nat_eq, eqb-true, eq-eqb)

  -- ---- the group of a first number

  making_of : (number : ℕ) (node : StoredNode) → slice_get table.nodes number ≡ Some node → making_at table.nodes number ≡ node.made_with
  making_of number node at = ap (λ (o : Option StoredNode). option_and_then (λ one. one.made_with) o) at

  -- its nodes
  group_is : (leader : ℕ) (node : StoredNode) → Contains order leader → slice_get table.nodes leader ≡ Some node → is_made_at table.nodes leader ≡ true
      → filter (are_together (node_view table.names table.instances leader node)) (made order) ≡ told (members_of table.nodes members leader)
  group_is leader node inside at on = grind (arith, with_all, members_are, making_of, below)

  -- a number that is made has a node
  there_made : (number : ℕ) → is_made_at table.nodes number ≡ true → (node : StoredNode) × (slice_get table.nodes number ≡ Some node)
  there_made number on = grind (arith, not, false≢true)

  -- whether it is the first in the group
  abbrev is_named : ℕ → List Node → Bool
  is_named leader group = option_map_or (λ first. bytes_eq first.name (name_at table.names leader)) (head_of group) false

  leads_is : (leader : ℕ) (node : StoredNode) → Contains order leader → slice_get table.nodes leader ≡ Some node → is_made_at table.nodes leader ≡ true
      → is_leading (made order) (node_view table.names table.instances leader node) ≡ leads_by members leader (making_at table.nodes leader)
  leads_is leader node inside at on =
      ap (λ (o : Option Node). option_map_or (λ first. bytes_eq first.name (name_at table.names leader)) o false)
      (find_head (are_together (node_view table.names table.instances leader node)) (made order) ∙ ap head_of (group_is leader node inside at on))
      ∙ by (making_at table.nodes leader) (subst IsBelow (sym (making_of leader node at)) (below leader node at))
    where
      first_of : (making : ℕ) → making < length table.instances → (numbers : List ℕ) → get_or members making [] ≡ numbers → is_named leader (told numbers) ≡ is_first numbers leader
      first_of making less [] is = refl
      first_of making less (first ∷ others) is =
          let from = kept_by_filter (is_made_with table.nodes making) order first
          (subst (λ (ns : List ℕ). Contains ns first) (sym is ∙ has.each making less) (in_first first others)) in
          let made_there : is_made_at table.nodes first ≡ true = (and_parts (is_made_at table.nodes first) (is_same_making making (making_at table.nodes first)) from.1).0 in
          let there : (one : StoredNode) × (slice_get table.nodes first ≡ Some one) = there_made first made_there in
          ap (λ (o : Option StoredNode). is_named leader (cons_option (option_map (node_view table.names table.instances first) o) (told others))) there.1
          ∙ same_name first leader from.0 inside

      by : (making : Option ℕ) → IsBelow making → is_named leader (told (members_by members leader making)) ≡ leads_by members leader making
      by None within =
          ap (λ (o : Option StoredNode). is_named leader (cons_option (option_map (node_view table.names table.instances leader) o) [])) at
          ∙ (bytes_eq-Decides (name_at table.names leader) (name_at table.names leader)).1 refl
      by (Some making) within = first_of making within (get_or members making []) refl

  -- ---- all groups

  abbrev group_in : Node → List Node
  group_in leader = filter (are_together leader) (made order)

  one_group : (number : ℕ) → Contains order number
      → map group_in (filter (is_leading (made order)) (if is_made_at table.nodes number then told (number ∷ []) else [])) ≡ group_at table members number
  one_group number inside = grind (arith, cond, there_made, group_is, leads_is)

  all_groups : (numbers : List ℕ) → ((number : ℕ) → Contains numbers number → Contains order number)
      → map group_in (filter (is_leading (made order)) (made numbers)) ≡ groups_left table members numbers
  all_groups [] inside = refl
  all_groups (number ∷ numbers) inside =
      let rest = all_groups numbers (λ other h. inside other (in_rest number other numbers h)) in
      ap (λ (ns : List Node). map group_in (filter (is_leading (made order)) ns)) (made_one number numbers)
      ∙ ap (map group_in) (filter-append (is_leading (made order)) (if is_made_at table.nodes number then told (number ∷ []) else []) (made numbers))
      ∙ map-append group_in (filter (is_leading (made order)) (if is_made_at table.nodes number then told (number ∷ []) else [])) (filter (is_leading (made order)) (made numbers))
      ∙ ap (λ (front : List (List Node)). front ++ map group_in (filter (is_leading (made order)) (made numbers))) (one_group number (inside number (in_first number numbers)))
      ∙ ap (λ (back : List (List Node)). group_at table members number ++ back) rest

  pub groups_are : groups_left table members order ≡ groups_of (nodes_view table order)
  unfolding groups_among
  groups_are = sym (all_groups order (λ number h. h))

-- ---- the next group

module _ (table : NodeTable) (members : List (List ℕ)) where
  abbrev stays : ℕ → Bool
  stays number = not (leads_at table.nodes members number)

  abbrev left_of : List ℕ → List (List Node)
  left_of numbers = groups_left table members numbers

  skipped : (numbers : List ℕ) → left_of numbers ≡ left_of (drop (prefix_len stays numbers) numbers)
  skipped [] = refl
  skipped (number ∷ numbers) = by (skipped numbers) (leads_at table.nodes members number) refl
    where
      by : left_of numbers ≡ left_of (drop (prefix_len stays numbers) numbers) → (b : Bool) → leads_at table.nodes members number ≡ b → left_of (number ∷ numbers) ≡ left_of (drop (cond (not b) (1 + prefix_len stays numbers) 0) (number ∷ numbers))
      by more true e = refl
      by more false e =
          let next : suc (prefix_len stays numbers) ≡ 1 + prefix_len stays numbers = omega arith in
          ap (λ b. (if b then nodes_view table (members_of table.nodes members number) ∷ [] else []) ++ left_of numbers) e
          ∙ more ∙ ap (λ n. left_of (drop n (number ∷ numbers))) next

  pub none_next : (numbers : List ℕ) (place : ℕ) → place ≡ prefix_len stays numbers → length numbers ≤ place → left_of numbers ≡ []
  none_next numbers place is past = grind (arith, skipped, drop_all)

  pub some_next : (numbers : List ℕ) (place number : ℕ) (group : List Node) (rest : List ℕ) → place ≡ prefix_len stays numbers → place < length numbers
      → number ≡ get_or numbers place number → group ≡ nodes_view table (members_of table.nodes members number)
      → rest ≡ drop (place + 1) numbers → left_of numbers ≡ group ∷ left_of rest
  some_next numbers place number group rest is within at told rest_is = grind (arith, not, get_or, prefix_len_stops, length, skipped, drop_more, true≢false)

  -- nodes after others
  pub put_more : (numbers : List ℕ) (place number : ℕ) (before after : List Node) → place < length numbers → number ≡ get_or numbers place number
      → after ≡ before ++ nodes_view table (number ∷ [])
      → after ++ nodes_view table (drop (place + 1) numbers) ≡ before ++ nodes_view table (drop place numbers)
  put_more numbers place number before after within at put = grind (arith, append_assoc, drop_more)
