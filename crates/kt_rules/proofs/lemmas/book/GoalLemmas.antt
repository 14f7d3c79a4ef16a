-- Explicit rules and goals, rule by rule.
use Rattle.std.proofs.Common.{arith, rules, ◌≡◌, Bool, false, cond, not, ◌&&◌, ◌||◌, if◌then◌else◌, List, [], ◌∷◌, ◌++◌, filter, find, Option, Some, None, refl, sym, ap, ◌∙◌, is_some}
use Rattle.kt_rules.proofs.Common.{false≢true, or_parts, option_map, option_or, option_map_or, All, filter_map, flat_map, cons_option, list_any, bytes_eq, All-append, All-filter, All-head, All-map, All-nil, All-tail, All-weaker, list_any_none, Text, Kind, Target, Spot, Entry, is_bare_at, is_bare, suffix_patterns, suffixes_of, goal_in, has_recipe, is_goal, made_targets, first_goal_by, target_rules, explicit_rules, rules_of, recipes_of, is_double, is_group, xor, differ_in_colons, is_beside_group, spots_at, found, first_of, first_found, spot_rule, unless, explicit_left, IsKept}
use Rattle.kt_rules.specs.inner.Lists.{Notes}
use Rattle.kt_rules.proofs.lemmas.book.BookLemmas.{alike_first}

goal_step : {A B : Type 0} (f : A → B) (x : A) (both one other : Option A) (b : Bool) → option_map f both ≡ option_or (option_map f one) (option_map f other)
    → option_map f (cond b (Some x) both) ≡ option_or (option_map f (cond b (Some x) one)) (option_map f other)
goal_step f x both one other b h = grind arith

goal_append : {A B : Type 0} (test : A → Bool) (f : A → B) (xs ys : List A)
    → option_map f (find test (xs ++ ys)) ≡ option_or (option_map f (find test xs)) (option_map f (find test ys))
goal_append test f [] ys = refl
goal_append test f (x ∷ xs) ys = goal_step f x (find test (xs ++ ys)) (find test xs) (find test ys) (test x) (goal_append test f xs ys)

-- the goal of the first remaining rule, or else that of the others
pub goal_left : (suffixes : List Text) (left rest : List Entry) (rule : Entry) → left ≡ rule ∷ rest
    → first_goal_by suffixes left ≡ option_or (goal_in suffixes rule) (first_goal_by suffixes rest)
unfolding first_goal_by
goal_left suffixes left rest rule is = grind (arith, goal_append)

pub goal_none : (suffixes : List Text) (left : List Entry) → left ≡ [] → first_goal_by suffixes left ≡ None
unfolding first_goal_by
goal_none suffixes left is = ap (λ rules. option_map (λ (made : Entry × Target). made.1.name) (find (is_goal suffixes) (flat_map target_rules rules))) is

unless_kept : {B : Type 0} (test : B → Bool) (y : B) (rest : List B) (b : Bool)
    → cons_option (if b then None else Some y) rest ≡ cond (not b) (y ∷ rest) rest
unless_kept test y rest b = grind arith

unless_one : {B : Type 0} (test : B → Bool) (o : Option B) (left rest : List B) → left ≡ filter (λ y. not (test y)) rest
    → cons_option (unless test o) left ≡ filter (λ y. not (test y)) (cons_option o rest)
unless_one test o left rest h = grind (arith, unless_kept, cond, not)

filter_unless : {A B : Type 0} (test : B → Bool) (f : A → Option B) (xs : List A)
    → filter_map (λ x. unless test (f x)) xs ≡ filter (λ y. not (test y)) (filter_map f xs)
filter_unless test f [] = refl
filter_unless test f (x ∷ xs) = unless_one test (f x) (filter_map (λ z. unless test (f z)) xs) (filter_map f xs) (filter_unless test f xs)

-- the explicit rules at spots are those found there that are explicit
pub explicit_found : (skips : Bool) (held : List Entry) (spots : List Spot)
    → explicit_left skips held spots ≡ filter (λ made. not (is_bare made && skips)) (found held spots)
unfolding explicit_left found
explicit_found skips held spots = filter_unless (λ made. is_bare made && skips) (spot_rule held) spots

-- the rules of a target are among all
made_are : (test : Kind → Bool) (rules : List Entry) → All (λ rule. test rule.kind ≡ false) rules
    → All (λ (made : Entry × Target). test made.0.kind ≡ false) (flat_map target_rules rules)
made_are test [] none = All-nil (λ (made : Entry × Target). test made.0.kind ≡ false)
made_are test (rule ∷ rules) none =
    let is_other = λ (made : Entry × Target). test made.0.kind ≡ false in
    let own = All-head (λ (one : Entry). test one.kind ≡ false) rule rules none in
    All-append is_other (target_rules rule) (flat_map target_rules rules)
    (All-map is_other (λ (target : Target). (rule, target)) (made_targets rule) (λ k d within. own))
    (made_are test rules (All-tail (λ (one : Entry). test one.kind ≡ false) rule rules none))

rules_are : (test : Kind → Bool) (rules : List Entry) (name : Text) → All (λ rule. test rule.kind ≡ false) rules
    → All (λ (made : Entry × Target). test made.0.kind ≡ false) (rules_of rules name)
unfolding rules_of
rules_are test rules name none =
    All-filter (λ (made : Entry × Target). bytes_eq name made.1.name) (λ (made : Entry × Target). test made.0.kind ≡ false) (flat_map target_rules rules) (made_are test rules none)

-- where no rule has two colons, none differs from one that has one
pub none_differs : (rules : List Entry) (rule : Entry) (name : Text) → is_double rule.kind ≡ false → All (λ one. is_double one.kind ≡ false) rules
    → list_any (differ_in_colons rule) (rules_of rules name) ≡ false
none_differs rules rule name own none =
    list_any_none (differ_in_colons rule) (rules_of rules name)
    (All-weaker (λ (made : Entry × Target). is_double made.0.kind ≡ false) (λ made. differ_in_colons rule made ≡ false)
    (λ made other. λ j. xor (other j) (own j)) (rules_of rules name) (rules_are is_double rules name none))

-- where there is no group, none of two rules is one
pub none_beside : (rules : List Entry) (rule : Entry) (name : Text) → is_group rule.kind ≡ false → All (λ one. is_group one.kind ≡ false) rules
    → list_any (is_beside_group rule) (recipes_of rules name) ≡ false
unfolding recipes_of
none_beside rules rule name own none =
    list_any_none (is_beside_group rule) (recipes_of rules name)
    (All-weaker (λ (made : Entry × Target). is_group made.0.kind ≡ false) (λ made. is_beside_group rule made ≡ false)
    (λ made other. λ j. own j || other j) (recipes_of rules name)
    (All-filter has_recipe (λ (made : Entry × Target). is_group made.0.kind ≡ false) (rules_of rules name) (rules_are is_group rules name none)))

module _ (held : List Entry) (targets recipes : Notes) (phony suffixes : List Text) (kept : IsKept held targets recipes phony suffixes)
    (rules : List Entry) (view : held ≡ rules) (rule : Entry) (name : Text) (first : Option (Entry × Target)) where
  -- the first rule of a target decides how many colons its rules have
  pub colons_by_first : first ≡ first_found held (spots_at targets name)
      → option_map_or (λ (made : Entry × Target). xor (is_double made.0.kind) (is_double rule.kind)) first false ≡ list_any (differ_in_colons rule) (rules_of rules name)
  colons_by_first at =
      ap (λ o. option_map_or (λ (made : Entry × Target). xor (is_double made.0.kind) (is_double rule.kind)) o false) (at ∙ ap first_of (kept.targets_view.all name))
      ∙ sym (alike_first (λ t. xor t (is_double rule.kind)) (λ (made : Entry × Target). is_double made.0.kind) (rules_of held name) (kept.colons name))
      ∙ ap (λ rs. list_any (differ_in_colons rule) (rules_of rs name)) view

  -- the first rule with a recipe decides whether they are groups
  pub group_by_first : first ≡ first_found held (spots_at recipes name)
      → option_map_or (λ (made : Entry × Target). is_group rule.kind || is_group made.0.kind) first false ≡ list_any (is_beside_group rule) (recipes_of rules name)
  group_by_first at =
      ap (λ o. option_map_or (λ (made : Entry × Target). is_group rule.kind || is_group made.0.kind) o false) (at ∙ ap first_of (kept.recipes_told.all name))
      ∙ sym (alike_first (λ t. is_group rule.kind || t) (λ (made : Entry × Target). is_group made.0.kind) (recipes_of held name) (kept.groups name))
      ∙ ap (λ rs. list_any (is_beside_group rule) (recipes_of rs name)) view

bare_cons : (one : Option (Entry × Target)) (rest : List (Entry × Target)) (b : Bool) → b ≡ list_any is_bare rest
    → (option_map_or is_bare one false || b) ≡ list_any is_bare (cons_option one rest)
bare_cons one rest b h = grind arith

-- testing the rules at spots is testing the rules found there
bare_found : (held : List Entry) (spots : List Spot) → list_any (is_bare_at held) spots ≡ list_any is_bare (found held spots)
unfolding found
bare_found held [] = refl
bare_found held (spot ∷ spots) = bare_cons (spot_rule held spot) (found held spots) (list_any (is_bare_at held) spots) (bare_found held spots)

keep_one : (made : Entry × Target) (rest one other : List (Entry × Target)) (skips a b : Bool) → is_bare made ≡ a → (a || b) ≡ false → one ≡ other
    → cond (not (a && false)) (made ∷ one) one ≡ cond (not (a && skips)) (made ∷ other) other
keep_one made rest one other skips a b e h same = grind (arith, false≢true)

-- if no rule has the form of a suffix rule, none is skipped
none_bare : (skips : Bool) (rules : List (Entry × Target)) → list_any is_bare rules ≡ false
    → filter (λ made. not (is_bare made && false)) rules ≡ filter (λ made. not (is_bare made && skips)) rules
none_bare skips [] h = refl
none_bare skips (made ∷ rules) h = grind (arith, keep_one, not, or_parts, none_bare skips rules (or_parts (is_bare made) (list_any is_bare rules) h).1)

guarded : (skips any : Bool) (rules : List (Entry × Target)) → list_any is_bare rules ≡ any
    → filter (λ made. not (is_bare made && (any && skips))) rules ≡ filter (λ made. not (is_bare made && skips)) rules
guarded skips any rules h = grind (arith, none_bare)

module _ (held : List Entry) (targets recipes : Notes) (phony suffixes : List Text) (kept : IsKept held targets recipes phony suffixes)
    (rules : List Entry) (view : held ≡ rules) (name : Text) where
  -- the explicit rules of a target
  pub explicit_by_spots : (skips : Bool) (all : List Entry) (spots : List Spot) → skips ≡ (list_any (is_bare_at all) spots && is_some (suffix_patterns suffixes name))
      → all ≡ held → spots ≡ spots_at targets name → explicit_left skips all spots ≡ explicit_rules rules name
  unfolding explicit_rules
  explicit_by_spots skips all spots skip one two =
      explicit_found skips all spots
      ∙ ap (λ b. filter (λ (made : Entry × Target). not (is_bare made && b)) (found all spots)) skip
      ∙ guarded (is_some (suffix_patterns suffixes name)) (list_any (is_bare_at all) spots) (found all spots) (sym (bare_found all spots))
      ∙ ap (λ xs. filter (λ (made : Entry × Target). not (is_bare made && is_some (suffix_patterns suffixes name))) (found xs spots)) one
      ∙ ap (λ xs. filter (λ (made : Entry × Target). not (is_bare made && is_some (suffix_patterns suffixes name))) (found held xs)) two
      ∙ ap (filter (λ (made : Entry × Target). not (is_bare made && is_some (suffix_patterns suffixes name)))) (kept.targets_view.all name)
      ∙ ap (λ names. filter (λ (made : Entry × Target). not (is_bare made && is_some (suffix_patterns names name))) (rules_of held name)) kept.suffixes_told
      ∙ ap (λ rs. filter (λ (made : Entry × Target). not (is_bare made && is_some (suffix_patterns (suffixes_of rs) name))) (rules_of rs name)) view
