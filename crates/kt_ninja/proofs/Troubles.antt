-- What keeps a plan from being written, along its lists.
use Rattle.std.proofs.Common.{arith, ◌≡◌, ◌∙◌, ℕ, ◌+◌, List, [], ◌∷◌, ◌++◌, take, drop, refl, sym, ap, append_assoc, append-nil, Bool, true, false, ◌||◌, not, nat_eq, Option, Some, None, find, slice_get, if◌then◌else◌}
use Rattle.kt_ninja.proofs.Common.{list_any, option_or, pointwise, find-append, list_any-append, Statement, is_among, Obstacle, is_name, repeated_after, obstacle_of_statements}
use Rattle.std.proofs.lemmas.List.Concat.{flat_map-append}
use Rattle.kt_ninja.specs.Plan.{names_of, outputs}
use Rattle.kt_ninja.specs.inner.View.{obstacle_at}
use Rattle.kt_ninja.specs.views.View.{statement_names}
use Rattle.kt_ninja.proofs.Places.{drop_at, take_at}

pub is_among-outputs : (ss : List Statement) (name : List ℕ) → is_among (outputs ss) name ≡ list_any (λ s. is_among s.outs name) ss
is_among-outputs [] name = refl
is_among-outputs (s ∷ ss) name = grind (arith, list_any-append, pointwise, nat_eq, is_among-outputs ss name)

-- among a statement's names, list by list
pub find_in_names : (s : Statement) → find (λ n. not (is_name n)) (names_of s)
    ≡ option_or (find (λ n. not (is_name n)) s.outs) (option_or (find (λ n. not (is_name n)) s.inputs)
    (option_or (find (λ n. not (is_name n)) s.implicit) (find (λ n. not (is_name n)) s.order_only)))
find_in_names s =
    let bad : List ℕ → Bool = λ n. not (is_name n) in
    find-append bad s.outs (s.inputs ++ (s.implicit ++ s.order_only))
    ∙ ap (λ o. option_or (find bad s.outs) o) (find-append bad s.inputs (s.implicit ++ s.order_only)
    ∙ ap (λ o. option_or (find bad s.inputs) o) (find-append bad s.implicit s.order_only))

or_cases : {A : Type 0} (here : Bool) (x : A) (a b : Option A)
    → (if here then Some x else option_or a b) ≡ option_or (if here then Some x else a) b
or_cases here x a b = grind arith

-- the names of one list after another
pub repeated_after-append : (before xs ys : List (List ℕ))
    → repeated_after before (xs ++ ys) ≡ option_or (repeated_after before xs) (repeated_after (before ++ xs) ys)
repeated_after-append before [] ys = ap (λ b. repeated_after b ys) (sym (append-nil before))
repeated_after-append before (x ∷ xs) ys = grind (arith, append_assoc, or_cases, repeated_after-append (before ++ x ∷ []) xs ys)

-- the same where the statement is found at a place, if there is one
pub find_in_found : (found : Option Statement) → find (λ n. not (is_name n)) (statement_names names_of found)
    ≡ option_or (find (λ n. not (is_name n)) (statement_names (λ s. s.outs) found)) (option_or (find (λ n. not (is_name n)) (statement_names (λ s. s.inputs) found))
    (option_or (find (λ n. not (is_name n)) (statement_names (λ s. s.implicit) found)) (find (λ n. not (is_name n)) (statement_names (λ s. s.order_only) found))))
find_in_found found = grind (arith, find_in_names)

-- the outputs up to a statement, and with its own
pub outputs_at : (ss : List Statement) (i : ℕ) (s : Statement) → slice_get ss i ≡ Some s → outputs (take (i + 1) ss) ≡ outputs (take i ss) ++ s.outs
outputs_at ss i s is =
    ap outputs (take_at ss i s is)
    ∙ flat_map-append (λ (t : Statement). t.outs) (take i ss) (s ∷ []) ∙ ap (λ t. outputs (take i ss) ++ t) (append-nil s.outs)

-- from the statement at i on
pub repeated_after-next : (ss : List Statement) (i : ℕ) (s : Statement) → slice_get ss i ≡ Some s
    → repeated_after (outputs (take i ss)) (outputs (drop i ss))
    ≡ option_or (repeated_after (outputs (take i ss)) s.outs) (repeated_after (outputs (take (i + 1) ss)) (outputs (drop (i + 1) ss)))
repeated_after-next ss i s is = grind (arith, take, drop_at, repeated_after-append, outputs_at)

-- a name more of one list, after other outputs
abbrev pub Repeats : List (List ℕ) → List (List ℕ) → ℕ → Type 0
Repeats before names i = repeated_after (before ++ take i names) (drop i names) ≡ repeated_after before names

module _ (before names : List (List ℕ)) (i : ℕ) (x : List ℕ) (is : slice_get names i ≡ Some x) where
  repeats_by : (b : Bool) → (is_among before x || is_among (take i names) x) ≡ b
      → repeated_after (before ++ take i names) (drop i names)
      ≡ (if b then Some x else repeated_after (before ++ take (i + 1) names) (drop (i + 1) names))
  repeats_by b e =
      let rest = drop (i + 1) names in
      let all : before ++ take (i + 1) names ≡ (before ++ take i names) ++ x ∷ [] =
      ap (λ t. before ++ t) (take_at names i x is) ∙ sym (append_assoc before (take i names) (x ∷ [])) in
      let among : is_among (before ++ take i names) x ≡ b = list_any-append (pointwise nat_eq x) before (take i names) ∙ e in
      ap (repeated_after (before ++ take i names)) (drop_at names i x is)
      ∙ ap (λ (c : Bool). if c then Some x else repeated_after ((before ++ take i names) ++ x ∷ []) rest) among
      ∙ ap (λ (l : List (List ℕ)). if b then Some x else repeated_after l rest) (sym all)

  pub repeats_here : (is_among before x || is_among (take i names) x) ≡ true → Repeats before names i → Some x ≡ repeated_after before names
  repeats_here e so = sym (repeats_by true e) ∙ so

  pub repeats_later : (is_among before x || is_among (take i names) x) ≡ false → Repeats before names i → Repeats before names (i + 1)
  repeats_later e so = sym (repeats_by false e) ∙ so

-- what keeps statements from being written, from one on
module _ (ss : List Statement) (i : ℕ) (s : Statement) (is : slice_get ss i ≡ Some s) where
  obstacles_by : (o : Option Obstacle) → o ≡ obstacle_at i (slice_get ss i)
      → obstacle_of_statements i (drop i ss) ≡ option_or o (obstacle_of_statements (i + 1) (drop (i + 1) ss))
  obstacles_by o e =
      ap (obstacle_of_statements i) (drop_at ss i s is)
      ∙ ap (λ (t : Option Obstacle). option_or t (obstacle_of_statements (i + 1) (drop (i + 1) ss))) (sym (e ∙ ap (obstacle_at i) is))

  pub obstacles_here : (t : Obstacle) (all : Option Obstacle) → Some t ≡ obstacle_at i (slice_get ss i) → obstacle_of_statements i (drop i ss) ≡ all → Some t ≡ all
  obstacles_here t all e so = sym (obstacles_by (Some t) e) ∙ so

  pub obstacles_later : (all : Option Obstacle) → None ≡ obstacle_at i (slice_get ss i) → obstacle_of_statements i (drop i ss) ≡ all
      → obstacle_of_statements (i + 1) (drop (i + 1) ss) ≡ all
  obstacles_later all e so = sym (obstacles_by None e) ∙ so
