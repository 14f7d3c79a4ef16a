-- A plan can be written exactly where it has no trouble.
use Rattle.std.proofs.Common.{◌≡◌, ◌≢◌, ◌∙◌, ℕ, ◌+◌, List, [], ◌∷◌, ◌++◌, refl, sym, ap, arith, zero, suc, Bool, true, false, not, ◌&&◌, ◌||◌, nat_eq, Option, Some, None, option_map, Result, IsOk, find, All, Contains, if◌then◌else◌, ◌↔◌}
use Rattle.kt_ninja.proofs.Common.{list_all, position_from, IsDistinct, AllByRecursion, option_or, pointwise, same_text, other_text, and_from, or_from, or_parts, list_any-append, Statement, is_among, HasWritableTexts, IsWritable, Obstacle, no_output, bad_name, bad_command, repeated, not_an_output, first_obstacle, is_empty, is_writable_making, is_name, not_made, repeated_after, obstacle_in, obstacle_of_statement, obstacle_of_statements}
use Rattle.std.specs.Bool.{Decides}
use Rattle.std.proofs.lemmas.Map.Made.{AllPairs-from_IsDistinct, IsDistinct-from_AllPairs}
use Rattle.std.proofs.lemmas.Map.Views.{list_any-from_Contains}
use Rattle.std.proofs.lemmas.Cmp.{nat_list_eq_equiv}
use Rattle.kt_list.proofs.general.Booleans.{and_first, and_second, or_nothing}
use Rattle.kt_ninja.specs.declared.plan.Plan.{Plan}
use Rattle.kt_ninja.specs.declared.checking.Unwritable.{Unwritable}
use Rattle.kt_ninja.specs.Plan.{names_of, outputs}

-- ---- a list all of whose elements pass has no first that fails

-- of the first element and the rest: with no first that fails, all pass
pass_case : {A : Type 0} (here : Bool) (x : A) (later : Option A) (rest : Bool)
    → (if not here then Some x else later) ≡ None → (later ≡ None → rest ≡ true) → (here && rest) ≡ true
pass_case here x later rest none more = grind arith

none_case : {A : Type 0} (here : Bool) (x : A) (later : Option A) (rest : Bool)
    → (here && rest) ≡ true → (rest ≡ true → later ≡ None) → (if not here then Some x else later) ≡ None
none_case here x later rest pass more = grind arith

pub pass_from_find : {A : Type 0} (p : A → Bool) (xs : List A) → find (λ x. not (p x)) xs ≡ None → list_all p xs ≡ true
pass_from_find p [] none = refl
pass_from_find p (x ∷ xs) none = pass_case (p x) x (find (λ y. not (p y)) xs) (list_all p xs) none (pass_from_find p xs)

pub find_from_pass : {A : Type 0} (p : A → Bool) (xs : List A) → list_all p xs ≡ true → find (λ x. not (p x)) xs ≡ None
find_from_pass p [] pass = refl
find_from_pass p (x ∷ xs) pass = none_case (p x) x (find (λ y. not (p y)) xs) (list_all p xs) pass (find_from_pass p xs)

empty_case : (here : Bool) (i : ℕ) (later : Option ℕ) (rest : Bool)
    → (if here then Some i else later) ≡ None → (later ≡ None → rest ≡ true) → (not here && rest) ≡ true
empty_case here i later rest none more = grind arith

empty_none : (here : Bool) (i : ℕ) (later : Option ℕ) (rest : Bool)
    → (not here && rest) ≡ true → (rest ≡ true → later ≡ None) → (if here then Some i else later) ≡ None
empty_none here i later rest pass more = grind arith

pass_from_position : {A : Type 0} (p : A → Bool) (i : ℕ) (xs : List A) → position_from p i xs ≡ None → list_all (λ x. not (p x)) xs ≡ true
pass_from_position p i [] none = refl
pass_from_position p i (x ∷ xs) none = grind (arith, empty_case, not, pass_from_position p (i + 1) xs)

position_from_pass : {A : Type 0} (p : A → Bool) (i : ℕ) (xs : List A) → list_all (λ x. not (p x)) xs ≡ true → position_from p i xs ≡ None
position_from_pass p i [] pass = refl
position_from_pass p i (x ∷ xs) pass = grind (arith, empty_none, not, position_from_pass p (i + 1) xs)

-- ---- names and commands

or_none : {A : Type 0} (a b : Option A) → a ≡ None → b ≡ None → option_or a b ≡ None
or_none a b one two = ap (λ o. option_or o b) one ∙ two

or_first : {A : Type 0} (a b : Option A) → option_or a b ≡ None → a ≡ None
or_first a b e = grind arith

or_second : {A : Type 0} (a b : Option A) → option_or a b ≡ None → b ≡ None
or_second a b e = grind arith

map_none : {A B : Type 0} (f : A → B) (o : Option A) → option_map f o ≡ None → o ≡ None
map_none f o e = grind arith

made_true : (b : Bool) (t : Obstacle) → (if b then None else Some t) ≡ None → b ≡ true
made_true b t e = grind arith

made_none : (b : Bool) (t : Obstacle) → b ≡ true → (if b then None else Some t) ≡ None
made_none b t e = ap (λ x. if x then None else Some t) e

abbrev fine : Statement → Bool
fine s = list_all is_name (names_of s) && is_writable_making s.made

fine_from_none : (n : ℕ) (s : Statement) → obstacle_of_statement n s ≡ None → fine s ≡ true
fine_from_none n s e = grind (arith, not, and_from, pass_from_find, map_none, or_first, made_true, or_second)

none_from_fine : (n : ℕ) (s : Statement) → fine s ≡ true → obstacle_of_statement n s ≡ None
none_from_fine n s e =
    or_none _ _ (ap (option_map bad_name) (find_from_pass is_name (names_of s) (and_first (list_all is_name (names_of s)) (is_writable_making s.made) e)))
    (made_none (is_writable_making s.made) (bad_command n) (and_second (list_all is_name (names_of s)) (is_writable_making s.made) e))

all_fine : (n : ℕ) (ss : List Statement) → obstacle_of_statements n ss ≡ None → list_all fine ss ≡ true
all_fine n [] e = refl
all_fine n (s ∷ ss) e = grind (arith, and_from, fine_from_none, or_first, or_second, all_fine (n + 1) ss (or_second (obstacle_of_statement n s) _ e))

no_obstacle : (n : ℕ) (ss : List Statement) → list_all fine ss ≡ true → obstacle_of_statements n ss ≡ None
no_obstacle n [] e = refl
no_obstacle n (s ∷ ss) e =
    or_none (obstacle_of_statement n s) _ (none_from_fine n s (and_first (fine s) (list_all fine ss) e))
    (no_obstacle (n + 1) ss (and_second (fine s) (list_all fine ss) e))

-- ---- outputs

decided : (r : Bool) (a b : List ℕ) → (true ≡ r → a ≡ b) → (false ≡ r → a ≢ b) → Decides r (a ≡ b)
decided r a b same differ = grind arith

-- the test of two names tells whether they are one
pub names_decide : (a b : List ℕ) → Decides (pointwise nat_eq a b) (a ≡ b)
names_decide a b = decided (pointwise nat_eq a b) a b (same_text a b) (other_text a b)

flip_false : (r : Bool) (a b : List ℕ) → Decides r (a ≡ b) → pointwise nat_eq b a ≡ false → r ≡ false
flip_false r a b same differ = grind (arith, names_decide)

other_way : (a b : List ℕ) → pointwise nat_eq b a ≡ false → pointwise nat_eq a b ≡ false
other_way a b differ = flip_false (pointwise nat_eq a b) a b (names_decide a b) differ

among_more : (before : List (List ℕ)) (x y : List ℕ) → is_among (before ++ x ∷ []) y ≡ (is_among before y || pointwise nat_eq y x)
among_more before x y = grind (arith, list_any-append, pointwise, nat_eq, or_nothing)

-- none of the names is among these
abbrev Apart : List (List ℕ) → List (List ℕ) → Type 0
Apart before xs = AllByRecursion (λ y. is_among before y ≡ false) xs

-- none of the names is this one
abbrev Other : List ℕ → List (List ℕ) → Type 0
Other x xs = AllByRecursion (λ y. pointwise nat_eq x y ≡ false) xs

apart_less : (before : List (List ℕ)) (x : List ℕ) (xs : List (List ℕ)) → Apart (before ++ x ∷ []) xs → Apart before xs × Other x xs
apart_less before x [] apart = (tt, tt)
apart_less before x (y ∷ ys) apart =
    let here = sym (among_more before x y) ∙ apart.0 in
    let later = apart_less before x ys apart.1 in
    let parts = or_parts (is_among before y) (pointwise nat_eq y x) here in (
      (parts.0, later.0),
      (other_way x y parts.1, later.1),
    )

apart_more : (before : List (List ℕ)) (x : List ℕ) (xs : List (List ℕ)) → Apart before xs → Other x xs → Apart (before ++ x ∷ []) xs
apart_more before x [] apart other = tt
apart_more before x (y ∷ ys) apart other = (
  among_more before x y ∙ or_from (is_among before y) (pointwise nat_eq y x) apart.0 (other_way y x other.0),
  apart_more before x ys apart.1 other.1,
)

here_false : (here : Bool) (x : List ℕ) (later : Option (List ℕ)) → (if here then Some x else later) ≡ None → here ≡ false
here_false here x later e = grind arith

later_none : (here : Bool) (x : List ℕ) (later : Option (List ℕ)) → (if here then Some x else later) ≡ None → later ≡ None
later_none here x later e = grind arith

distinct_from_none : (before xs : List (List ℕ)) → repeated_after before xs ≡ None → Apart before xs × IsDistinct (pointwise nat_eq) xs
unfolding IsDistinct
distinct_from_none before [] e = (tt, tt)
distinct_from_none before (x ∷ xs) e =
    let rest = repeated_after (before ++ x ∷ []) xs in
    let later = distinct_from_none (before ++ x ∷ []) xs (later_none (is_among before x) x rest e) in
    let less = apart_less before x xs later.0 in
    ((here_false (is_among before x) x rest e, less.0), (less.1, later.1))

pub none_from_distinct : (before xs : List (List ℕ)) → Apart before xs → IsDistinct (pointwise nat_eq) xs → repeated_after before xs ≡ None
unfolding IsDistinct
none_from_distinct before [] apart distinct = refl
none_from_distinct before (x ∷ xs) apart distinct =
    let rest = repeated_after (before ++ x ∷ []) xs in
    ap (λ b. if b then Some x else rest) apart.0
    ∙ none_from_distinct (before ++ x ∷ []) xs (apart_more before x xs apart.1 distinct.0) distinct.1

pub apart_from_none : (xs : List (List ℕ)) → Apart [] xs
apart_from_none [] = tt
apart_from_none (x ∷ xs) = (refl, apart_from_none xs)

-- ---- default targets

among_case : (here later : Bool) (x : List ℕ) (y : List ℕ) (ys : List (List ℕ)) → (here ≡ true → x ≡ y)
    → (later ≡ true → Contains ys x) → (here || later) ≡ true → Contains (y ∷ ys) x
among_case true later x y ys same more e = (0, omega arith, sym (same refl))
among_case false later x y ys same more e = let rest = more e in (suc rest.0, omega (arith, rest.1), rest.2)

contains_from_among : (names : List (List ℕ)) (name : List ℕ) → is_among names name ≡ true → Contains names name
contains_from_among [] name e = absurd (cc e)
contains_from_among (n ∷ ns) name e =
    among_case (pointwise nat_eq name n) (is_among ns name) name n ns (names_decide name n).0 (contains_from_among ns name) e

all_from_pass : (outs names : List (List ℕ)) → list_all (is_among outs) names ≡ true → All (λ d. Contains outs d) names
all_from_pass outs [] e k d below = absurd (omega arith)
all_from_pass outs (n ∷ ns) e zero d below = contains_from_among outs n (and_first (is_among outs n) (list_all (is_among outs) ns) e)
all_from_pass outs (n ∷ ns) e (suc k) d below =
    all_from_pass outs ns (and_second (is_among outs n) (list_all (is_among outs) ns) e) k d (omega arith)

among_from_contains : (names : List (List ℕ)) (name : List ℕ) → Contains names name → is_among names name ≡ true
among_from_contains names name within = list_any-from_Contains nat_list_eq_equiv name names within

pub pass_from_all : (outs names : List (List ℕ)) → All (λ d. Contains outs d) names → list_all (is_among outs) names ≡ true
pass_from_all outs [] all = refl
pass_from_all outs (n ∷ ns) all =
    and_from (is_among outs n) (list_all (is_among outs) ns) (among_from_contains outs n (all 0 n (omega arith)))
    (pass_from_all outs ns (λ k d below. all (suc k) d (omega arith)))

-- ---- the plan

writable_from_none : (plan : Plan) → first_obstacle plan ≡ None → IsWritable plan
writable_from_none plan e =
    let outs = outputs plan.statements in
    let none = option_map no_output (position_from (λ s. is_empty s.outs) 0 plan.statements) in
    let texts = obstacle_of_statements 0 plan.statements in
    let twice = option_map repeated (repeated_after [] outs) in
    let defaults = option_map not_an_output (not_made outs plan.defaults) in
    let after_none = or_second none (option_or texts (option_or twice defaults)) e in
    let after_texts = or_second texts (option_or twice defaults) after_none in
    record {
      made = pass_from_position (λ s. is_empty s.outs) 0 plan.statements
          (map_none no_output _ (or_first none (option_or texts (option_or twice defaults)) e));
      texts = all_fine 0 plan.statements (or_first texts (option_or twice defaults) after_none);
      different = AllPairs-from_IsDistinct names_decide outs
          (distinct_from_none [] outs (map_none repeated _ (or_first twice defaults after_texts))).1;
      defaults = all_from_pass outs plan.defaults
          (pass_from_find (is_among outs) plan.defaults (map_none not_an_output _ (or_second twice defaults after_texts)));
    }

pub none_from_writable : (plan : Plan) → IsWritable plan → first_obstacle plan ≡ None
none_from_writable plan w =
    let outs = outputs plan.statements in
    or_none _ _ (ap (option_map no_output) (position_from_pass (λ s. is_empty s.outs) 0 plan.statements w.made))
    (or_none _ _ (no_obstacle 0 plan.statements w.texts)
    (or_none _ _ (ap (option_map repeated) (none_from_distinct [] outs (apart_from_none outs) (IsDistinct-from_AllPairs names_decide outs w.different)))
    (ap (option_map not_an_output) (find_from_pass (is_among outs) plan.defaults (pass_from_all outs plan.defaults w.defaults)))))

ok_exactly : (r : Result (Unit {0}) Unwritable) → (IsOk r → obstacle_in r ≡ None) × (obstacle_in r ≡ None → IsOk r)
ok_exactly r = grind arith

pub writable_exactly : (plan : Plan) (r : Result (Unit {0}) Unwritable) → obstacle_in r ≡ first_obstacle plan → IsOk r ↔ IsWritable plan
writable_exactly plan r is = grind (arith, writable_from_none, ok_exactly, none_from_writable)

-- there is no obstacle where all texts can be written
pub texts_unobstructed : (plan : Plan) → HasWritableTexts plan → obstacle_of_statements 0 plan.statements ≡ None
texts_unobstructed plan texts = no_obstacle 0 plan.statements texts

pub texts_exactly : (plan : Plan) (r : Result (Unit {0}) Unwritable) → obstacle_in r ≡ obstacle_of_statements 0 plan.statements
    → IsOk r ↔ HasWritableTexts plan
texts_exactly plan r is = grind (arith, all_fine, ok_exactly, no_obstacle)
