-- What a book keeps beside its rules, as rules are added.
use Rattle.std.proofs.Common.{rules, ◌≡◌, ℕ, ◌+◌, Bool, true, false, cond, ◌||◌, if◌then◌else◌, List, [], ◌∷◌, ◌++◌, length, map, filter, fold, find, drop, take, slice_get, ◌≤◌, Option, Some, None, refl, sym, ap, ◌∙◌, arith, subst, is_some, ◌⊎◌, inl, ⊎_elim, length-append, true≢false}
use Rattle.kt_rules.proofs.Common.{option_map, take-append_seam, option_and_then, option_or, option_map_or, list_any, bytes_eq, or_parts, append-nil, length_push, filter-append, list_any-append, flat_map-append, fold-append, bytes_eq-Decides, or_nothing, Text, Target, Spot, HoldsAll, Entry, is_among, with_name, suffixes_after, start_suffixes, AreApart, is_made, made_targets, target_rules, rules_of, recipes_of, has_recipe, is_double, is_group, phony_of, is_phony, xor, differ_in_colons, is_beside_group, both_colons_in, beside_group_in, two_recipes_in, refusal_of, spots_at, target_rule, spot_rule, found, first_of, spot_at, target_spots, spots_from, spots_for, AreBefore, AreIn, ForgotFrom, GrewIn, GotSpots, GotRecipes, AllAgree, IsIndexOf, IsKept}
use Rattle.kt_list.specs.views.Prefixes.{HasMore}
use Rattle.std.proofs.lemmas.List.Quantifiers.{all_pairs_push}
use Rattle.kt_rules.specs.inner.Lists.{Notes}
use Rattle.kt_rules.proofs.lemmas.book.FindLemmas.{find_none, some_none}
use Rattle.kt_rules.proofs.lemmas.book.GroupLemmas.{apart_last}
use Rattle.kt_rules.proofs.lemmas.book.NoteLemmas.{names_after}
use Rattle.kt_rules.proofs.lemmas.book.SpotLemmas.{found-before, found-append, before_more, before_in, before_append, in_spots_from, first_target, rule_last, taken_back}

-- the rules of a name among those of one rule
abbrev of_name : Entry → Text → List (Entry × Target)
of_name rule name = filter (λ (made : Entry × Target). bytes_eq name made.1.name) (target_rules rule)

rules_of-more : (rules : List Entry) (rule : Entry) (name : Text) → rules_of (rules ++ rule ∷ []) name ≡ rules_of rules name ++ of_name rule name
unfolding rules_of
rules_of-more rules rule name = grind (arith, flat_map-append, append-nil, filter-append)

own_step : (rule : Entry) (target : Target) (rest : List (Entry × Target)) (b c : Bool) → is_some rule.recipe ≡ b → filter has_recipe rest ≡ (if b then rest else [])
    → filter has_recipe (cond c ((rule, target) ∷ rest) rest) ≡ (if b then cond c ((rule, target) ∷ rest) rest else [])
own_step rule target rest b c e h = grind (arith, cond)

-- a rule's own recipe
own_recipes : (rule : Entry) (name : Text) (targets : List Target) (b : Bool) → is_some rule.recipe ≡ b
    → filter has_recipe (filter (λ (made : Entry × Target). bytes_eq name made.1.name) (map (λ target. (rule, target)) targets))
    ≡ (if b then filter (λ (made : Entry × Target). bytes_eq name made.1.name) (map (λ target. (rule, target)) targets) else [])
own_recipes rule name [] true e = refl
own_recipes rule name [] false e = refl
own_recipes rule name (target ∷ targets) b e = grind (arith, own_step, own_recipes rule name targets b e)

recipes_of-more : (rules : List Entry) (rule : Entry) (name : Text)
    → recipes_of (rules ++ rule ∷ []) name ≡ recipes_of rules name ++ (if is_some rule.recipe then of_name rule name else [])
unfolding recipes_of
recipes_of-more rules rule name =
    ap (filter has_recipe) (rules_of-more rules rule name)
    ∙ filter-append has_recipe (rules_of rules name) (of_name rule name)
    ∙ ap (λ xs. filter has_recipe (rules_of rules name) ++ xs) (own_recipes rule name (made_targets rule) (is_some rule.recipe) refl)

-- ---- what the spots of a new rule find

one_found : (rules : List Entry) (spot : Spot) (rule : Entry) (target : Target) (name : Text) (rest : List (Entry × Target)) (others : List Target)
    → spot_rule rules spot ≡ Some (rule, target)
    → rest ≡ filter (λ (made : Entry × Target). bytes_eq name made.1.name) (map (λ t. (rule, t)) others)
    → (b c : Bool) → bytes_eq name target.name ≡ c
    → found rules (if b then (if c then spot ∷ [] else []) else []) ++ rest
    ≡ filter (λ (made : Entry × Target). bytes_eq name made.1.name) (map (λ t. (rule, t)) (cond b (target ∷ others) others))
unfolding found
one_found rules spot rule target name rest others at tail b c e = grind (arith, cond)

found-own : (rules : List Entry) (rule : Entry) (name : Text) (number : ℕ) (targets : List Target) → targets ≡ drop number rule.targets
    → found (rules ++ rule ∷ []) (spots_from rule (length rules) number targets name)
    ≡ filter (λ (made : Entry × Target). bytes_eq name made.1.name) (map (λ t. (rule, t)) (filter (is_made rule) targets))
unfolding spots_from found
found-own rules rule name number [] h = refl
found-own rules rule name number (target ∷ targets) h =
    let at = first_target rule.targets number target targets h in
    let here : spot_rule (rules ++ rule ∷ []) (spot_at (length rules) number) ≡ Some (rule, target)
    = ap (λ r. option_and_then (λ x. target_rule x number) r) (rule_last rules rule) ∙ ap (option_map (λ t. (rule, t))) at.0 in
    found-append (rules ++ rule ∷ []) (target_spots rule target (spot_at (length rules) number) name) (spots_from rule (length rules) (number + 1) targets name)
    ∙ one_found (rules ++ rule ∷ []) (spot_at (length rules) number) rule target name _ (filter (is_made rule) targets) here
    (found-own rules rule name (number + 1) targets at.1) (is_made rule target) (bytes_eq name target.name) refl

found-for : (rules : List Entry) (rule : Entry) (name : Text) (b : Bool)
    → found (rules ++ rule ∷ []) (if b then spots_for rule (length rules) name else []) ≡ (if b then of_name rule name else [])
unfolding found
found-for rules rule name b = grind (arith, found-own)

-- ---- what an index finds

before_new : (rules : List Entry) (rule : Entry) (spots more : List Spot) → AreBefore (length rules) spots → AreIn (length rules) more
    → AreBefore (length (rules ++ rule ∷ [])) (spots ++ more)
before_new rules rule spots more h k = grind (arith, length_push, before_append, length, before_more, before_in)

in_if_spots : (rule : Entry) (place : ℕ) (name : Text) (b : Bool) → AreIn place (if b then spots_for rule place name else [])
in_if_spots rule place name b = grind (arith, in_spots_from)

-- one more rule is found
pub tells_more : (rules : List Entry) (rule : Entry) (old new : Notes) (first later : Text → List (Entry × Target)) (b : Bool)
    → IsIndexOf rules old first
    → ((name : Text) → spots_at new name ≡ spots_at old name ++ (if b then spots_for rule (length rules) name else []))
    → ((name : Text) → later name ≡ first name ++ (if b then of_name rule name else []))
    → IsIndexOf (rules ++ rule ∷ []) new later
tells_more rules rule old new first later b told got is = record {
  all = grind (arith, found-append, length, found-before, found-for);
  before = λ name.
      subst (AreBefore (length (rules ++ rule ∷ []))) (sym (got name))
      (before_new rules rule (spots_at old name) _ (told.before name) (in_if_spots rule (length rules) name b));
}

-- ---- rules that are alike

or_same : (b : Bool) → (b || b) ≡ b
or_same b = grind arith

pub or_assoc : (a b c : Bool) → ((a || b) || c) ≡ (a || (b || c))
or_assoc a b c = grind arith

xor_same : (b : Bool) → xor b b ≡ false
xor_same b = grind arith

-- two values that don't differ
xor_split : (t b r : Bool) → (xor t b || r) ≡ false → (t ≡ b) × (r ≡ false)
xor_split t b r h = grind (arith, true≢false)

all_same : {A : Type 0} (f : Bool → Bool) (test : A → Bool) (t : Bool) (xs : List A) → list_any (λ y. xor (test y) t) xs ≡ false
    → (f t || list_any (λ y. f (test y)) xs) ≡ f t
all_same f test t [] h = or_nothing (f t)
all_same f test t (y ∷ ys) h =
    let one = xor_split (test y) t (list_any (λ z. xor (test z) t) ys) h in
    ap (λ c. f t || (f c || list_any (λ z. f (test z)) ys)) one.0
    ∙ ap (λ c. f t || c) (all_same f test t ys one.1) ∙ or_same (f t)

-- the first one decides for all
pub alike_first : {A : Type 0} (f : Bool → Bool) (test : A → Bool) (xs : List A) → AllAgree test xs
    → list_any (λ x. f (test x)) xs ≡ option_map_or (λ x. f (test x)) (first_of xs) false
alike_first f test xs h = grind (arith, xor_split, all_same)

refused_step : {A : Type 0} (one : A) (rest : List A) (test : Text → Bool) (name other : Text) (b : Bool) → bytes_eq name other ≡ b → test other ≡ false
    → (rest ≡ []) ⊎ (test name ≡ false) → (cond b (one ∷ rest) rest ≡ []) ⊎ (test name ≡ false)
refused_step one rest test name other b e clean others = grind (arith, bytes_eq-Decides)

-- where no target fails a test, a name that passes is none of them
none_refused : (rule : Entry) (name : Text) (test : Text → Bool) (targets : List Target) → find (λ (target : Target). test target.name) targets ≡ None
    → (filter (λ (made : Entry × Target). bytes_eq name made.1.name) (map (λ target. (rule, target)) targets) ≡ []) ⊎ (test name ≡ false)
none_refused rule name test [] h = inl refl
none_refused rule name test (target ∷ targets) h =
    let one = find_none (test target.name) target (find (λ (t : Target). test t.name) targets) h in
    refused_step (rule, target) (filter (λ (made : Entry × Target). bytes_eq name made.1.name) (map (λ t. (rule, t)) targets)) test name target.name
    (bytes_eq name target.name) refl one.0 (none_refused rule name test targets one.1)

alike_step : {A : Type 0} (test : A → Bool) (x : A) (rest : List A) (c : Bool) → test x ≡ false → list_any test rest ≡ false → list_any test (cond c (x ∷ rest) rest) ≡ false
alike_step test x rest c h k = grind arith

own_alike : (rule : Entry) (name : Text) (test : Entry → Bool) (targets : List Target)
    → list_any (λ (made : Entry × Target). xor (test made.0) (test rule)) (filter (λ (made : Entry × Target). bytes_eq name made.1.name) (map (λ target. (rule, target)) targets)) ≡ false
own_alike rule name test [] = refl
own_alike rule name test (target ∷ targets) = grind (arith, alike_step, xor_same, own_alike rule name test targets)

join_alike : (rule : Entry) (name : Text) (test : Entry → Bool) (old : List (Entry × Target))
    → list_any (λ (made : Entry × Target). xor (test made.0) (test rule)) old ≡ false
    → AllAgree (λ (made : Entry × Target). test made.0) (old ++ of_name rule name)
join_alike rule name test old h = (
  test rule,
  list_any-append (λ (made : Entry × Target). xor (test made.0) (test rule)) old (of_name rule name)
      ∙ ap (λ c. c || list_any (λ (made : Entry × Target). xor (test made.0) (test rule)) (of_name rule name)) h
      ∙ own_alike rule name test (made_targets rule),
)

colons_more : (rules : List Entry) (rule : Entry) (name : Text) → AllAgree (λ (made : Entry × Target). is_double made.0.kind) (rules_of rules name)
    → both_colons_in rules rule ≡ None → AllAgree (λ (made : Entry × Target). is_double made.0.kind) (rules_of (rules ++ rule ∷ []) name)
colons_more rules rule name alike h =
    let P : List (Entry × Target) → Type 0 = AllAgree (λ (made : Entry × Target). is_double made.0.kind) in
    subst P (sym (rules_of-more rules rule name))
    (⊎_elim (λ none. subst P (sym (ap (λ xs. rules_of rules name ++ xs) none ∙ append-nil (rules_of rules name))) alike)
    (λ clean. join_alike rule name (λ r. is_double r.kind) (rules_of rules name) clean)
    (none_refused rule name (λ n. list_any (differ_in_colons rule) (rules_of rules n)) (made_targets rule) h))

beside_alike : {A : Type 0} (g : Bool) (test : A → Bool) (xs : List A) → list_any (λ x. g || test x) xs ≡ false → list_any (λ x. xor (test x) g) xs ≡ false
beside_alike true test [] h = refl
beside_alike true test (x ∷ xs) h = absurd (true≢false h)
beside_alike false test [] h = refl
beside_alike false test (x ∷ xs) h = grind (arith, or_parts)

groups_more : (rules : List Entry) (rule : Entry) (name : Text) (b : Bool) → is_some rule.recipe ≡ b
    → AllAgree (λ (made : Entry × Target). is_group made.0.kind) (recipes_of rules name)
    → (if b then beside_group_in rules rule else None) ≡ None
    → AllAgree (λ (made : Entry × Target). is_group made.0.kind) (recipes_of rules name ++ (if b then of_name rule name else []))
groups_more rules rule name false e alike h = grind (arith, append-nil)
groups_more rules rule name true e alike h =
    let P : List (Entry × Target) → Type 0 = AllAgree (λ (made : Entry × Target). is_group made.0.kind) in
    ⊎_elim (λ none. subst P (sym (ap (λ xs. recipes_of rules name ++ xs) none ∙ append-nil (recipes_of rules name))) alike)
    (λ clean. join_alike rule name (λ r. is_group r.kind) (recipes_of rules name)
    (beside_alike (is_group rule.kind) (λ (made : Entry × Target). is_group made.0.kind) (recipes_of rules name) clean))
    (none_refused rule name (λ n. list_any (is_beside_group rule) (recipes_of rules n)) (made_targets rule) h)

-- ---- what isn't refused

both_none : {A B C : Type 0} (f : A → C) (g : B → C) (a : Option A) (b : Option B) → option_or (option_map f a) (option_map g b) ≡ None → (a ≡ None) × (b ≡ None)
both_none f g a b h = grind (arith, some_none)

else_none : {A : Type 0} (b : Bool) (x : A) (rest : Option A) → (if b then Some x else rest) ≡ None → rest ≡ None
else_none b x rest h = grind (arith, some_none)

refused_none : (rules : List Entry) (rule : Entry) → refusal_of rules rule ≡ None → (both_colons_in rules rule ≡ None) × (two_recipes_in rules rule ≡ None)
unfolding refusal_of
refused_none rules rule h = grind (arith, both_none, else_none)

-- ---- names

pub among_with : (names : List Text) (name other : Text) → is_among (with_name names name) other ≡ (is_among names other || bytes_eq other name)
among_with names name other = grind (arith, bytes_eq-Decides, or_nothing, list_any-append)

pub among_fold : (names added : List Text) (other : Text) → is_among (fold with_name names added) other ≡ (is_among names other || is_among added other)
among_fold names [] other = sym (or_nothing (is_among names other))
among_fold names (name ∷ added) other = grind (arith, among_with, or_assoc, among_fold (with_name names name) added other)

phony_more : (rules : List Entry) (rule : Entry) (name : Text) → is_phony (rules ++ rule ∷ []) name ≡ (is_phony rules name || is_among (phony_of rule) name)
unfolding is_phony
phony_more rules rule name = grind (arith, flat_map-append, append-nil, list_any-append)

-- ---- a book

-- without rules
pub kept_new : (targets recipes : Notes) → ((name : Text) → spots_at targets name ≡ []) → ((name : Text) → spots_at recipes name ≡ [])
    → IsKept [] targets recipes [] start_suffixes
unfolding rules_of recipes_of found is_phony
kept_new targets recipes t r = record {
  targets_view = record {
    all = λ name. ap (found []) (t name);
    before = λ name. subst (AreBefore 0) (sym (t name)) tt;
  };
  recipes_told = record {
    all = λ name. ap (found []) (r name);
    before = λ name. subst (AreBefore 0) (sym (r name)) tt;
  };
  phony_told = λ name. refl;
  suffixes_told = refl;
  colons = λ name. (true, refl);
  groups = λ name. (true, refl);
  apart = λ i j d before within. absurd (omega arith);
}

-- without rules, as the parts are made
pub kept_made : (rules : List Entry) (targets recipes : Notes) (phony suffixes : List Text)
    → rules ≡ [] → ((name : Text) → spots_at targets name ≡ []) → ((name : Text) → spots_at recipes name ≡ []) → phony ≡ [] → suffixes ≡ start_suffixes
    → IsKept rules targets recipes phony suffixes
kept_made rules targets recipes phony suffixes s t r p f =
    subst (λ xs. IsKept xs targets recipes phony suffixes) (sym s)
    (subst (λ xs. IsKept [] targets recipes xs suffixes) (sym p)
    (subst (λ xs. IsKept [] targets recipes [] xs) (sym f) (kept_new targets recipes t r)))

-- names that are added at the end change nothing
tells_same : (rules : List Entry) (old new : Notes) (own : Text → List (Entry × Target)) → ((name : Text) → spots_at new name ≡ spots_at old name)
    → IsIndexOf rules old own → IsIndexOf rules new own
tells_same rules old new own same told = record {
  all = λ name. ap (found rules) (same name) ∙ told.all name;
  before = λ name. subst (AreBefore (length rules)) (sym (same name)) (told.before name);
}

pub holds_grown : (old new : List Text × List Entry) (targets recipes : List (List Spot)) (phony suffixes : List Text)
    → HasMore old.0 new.0 → new.1 ≡ old.1 → HoldsAll old targets recipes phony suffixes → HoldsAll new targets recipes phony suffixes
holds_grown old new targets recipes phony suffixes got same holds =
    let longer : length new.0 ≡ length old.0 + length got.0 = ap length got.1 ∙ length-append old.0 got.0 in
    let kept = holds.kept in
    let t : (name : Text) → spots_at (new.0, targets) name ≡ spots_at (old.0, targets) name
    = λ name. ap (λ ns. spots_at (ns, targets) name) got.1 ∙ names_after old.0 got.0 targets name holds.targets_within in
    let r : (name : Text) → spots_at (new.0, recipes) name ≡ spots_at (old.0, recipes) name
    = λ name. ap (λ ns. spots_at (ns, recipes) name) got.1 ∙ names_after old.0 got.0 recipes name holds.recipes_within in
    record {
      kept = subst (λ rules. IsKept rules (new.0, targets) (new.0, recipes) phony suffixes) (sym same) (record {
        targets_view = tells_same old.1 (old.0, targets) (new.0, targets) _ t kept.targets_view;
        recipes_told = tells_same old.1 (old.0, recipes) (new.0, recipes) _ r kept.recipes_told;
        phony_told = kept.phony_told;
        suffixes_told = kept.suffixes_told;
        colons = kept.colons;
        groups = kept.groups;
        apart = kept.apart;
      });
      targets_within = omega (arith, holds.targets_within, longer);
      recipes_within = omega (arith, holds.recipes_within, longer);
    }

-- one more rule
pub kept_some : (rules : List Entry) (rule : Entry) (targets targets' recipes recipes' : Notes) (phony phony' suffixes suffixes' : List Text)
    → IsKept rules targets recipes phony suffixes → refusal_of rules rule ≡ None
    → GotSpots rule (length rules) targets targets' → GotRecipes rule (length rules) recipes recipes'
    → phony' ≡ fold with_name phony (phony_of rule) → suffixes' ≡ suffixes_after suffixes rule
    → IsKept (rules ++ rule ∷ []) targets' recipes' phony' suffixes'
kept_some rules rule targets targets' recipes recipes' phony phony' suffixes suffixes' kept fine t r p s =
    let none = refused_none rules rule fine in
    record {
      targets_view = tells_more rules rule targets targets' _ _ true kept.targets_view t (rules_of-more rules rule);
      recipes_told = tells_more rules rule recipes recipes' _ _ (is_some rule.recipe) kept.recipes_told r (recipes_of-more rules rule);
      phony_told = grind (arith, among_fold, phony_more);
      suffixes_told = s ∙ ap (λ names. suffixes_after names rule) kept.suffixes_told ∙ sym (fold-append suffixes_after start_suffixes rules (rule ∷ []));
      colons = λ name. colons_more rules rule name (kept.colons name) none.0;
      groups = λ name.
          subst (AllAgree (λ (made : Entry × Target). is_group made.0.kind)) (sym (recipes_of-more rules rule name))
          (groups_more rules rule name (is_some rule.recipe) refl (kept.groups name) none.1);
      apart = all_pairs_push AreApart rules rule kept.apart (apart_last rules rule none.1);
    }

-- ---- a rule that a book got, with its names

module _ (old pushed : List Text × List Entry) (entry : Entry) (place : ℕ) (targets targets' recipes recipes' : List (List Spot))
    (phony phony' suffixes suffixes' : List Text) (holds : HoldsAll old targets recipes phony suffixes) (got : HasMore old.0 pushed.0)
    (is : pushed.1 ≡ old.1 ++ entry ∷ []) (at : place ≡ length old.1) where
  -- it is at its place
  pub pushed_rule : slice_get pushed.1 place ≡ Some entry
  pushed_rule = ap (λ rules. slice_get rules place) is ∙ ap (slice_get (old.1 ++ entry ∷ [])) at ∙ rule_last old.1 entry

  named : HoldsAll (pushed.0, old.1) targets recipes phony suffixes
  named = holds_grown old (pushed.0, old.1) targets recipes phony suffixes got refl holds

  -- what it says was added
  pub holds_learned : refusal_of old.1 entry ≡ None
      → GotSpots entry place (pushed.0, targets) (pushed.0, targets') → GotRecipes entry place (pushed.0, recipes) (pushed.0, recipes')
      → phony' ≡ fold with_name phony (phony_of entry) → suffixes' ≡ suffixes_after suffixes entry
      → (length targets ≤ length pushed.0 → length targets' ≤ length pushed.0) → (length recipes ≤ length pushed.0 → length recipes' ≤ length pushed.0)
      → HoldsAll pushed targets' recipes' phony' suffixes'
  holds_learned fine t r p s targets_in recipes_in = record {
    kept = subst (λ rules. IsKept rules (pushed.0, targets') (pushed.0, recipes') phony' suffixes') (sym is)
        (kept_some old.1 entry (pushed.0, targets) (pushed.0, targets') (pushed.0, recipes) (pushed.0, recipes') phony phony' suffixes suffixes' named.kept fine
        (subst (λ n. GotSpots entry n (pushed.0, targets) (pushed.0, targets')) at t)
        (subst (λ n. GotRecipes entry n (pushed.0, recipes) (pushed.0, recipes')) at r) p s);
    targets_within = targets_in named.targets_within;
    recipes_within = recipes_in named.recipes_within;
  }

  -- the rules are as they were
  pub rules_back : (new : List Entry) → new ≡ take place pushed.1 → new ≡ old.1
  rules_back new taken = taken ∙ (λ j. take (at j) (is j)) ∙ take-append_seam old.1 (entry ∷ [])

  -- it was taken back, with its spots
  pub holds_back : (new : List Text × List Entry) (targets'' recipes'' : List (List Spot)) → new.0 ≡ pushed.0 → new.1 ≡ take place pushed.1
      → GrewIn place (pushed.0, targets) (pushed.0, targets') → GrewIn place (pushed.0, recipes) (pushed.0, recipes')
      → ForgotFrom place targets' targets'' → ForgotFrom place recipes' recipes''
      → length targets'' ≡ length targets' → length recipes'' ≡ length recipes' → phony' ≡ phony → suffixes' ≡ suffixes
      → (length targets ≤ length pushed.0 → length targets' ≤ length pushed.0) → (length recipes ≤ length pushed.0 → length recipes' ≤ length pushed.0)
      → HoldsAll new targets'' recipes'' phony' suffixes'
  holds_back new targets'' recipes'' same taken t r t_back r_back t_many r_many p s targets_in recipes_in =
      let kept = named.kept in
      let t_before : (name : Text) → AreBefore place (spots_at (pushed.0, targets) name)
      = λ name. subst (λ n. AreBefore n (spots_at (pushed.0, targets) name)) (sym at) (kept.targets_view.before name) in
      let r_before : (name : Text) → AreBefore place (spots_at (pushed.0, recipes) name)
      = λ name. subst (λ n. AreBefore n (spots_at (pushed.0, recipes) name)) (sym at) (kept.recipes_told.before name) in
      let held : HoldsAll (pushed.0, old.1) targets'' recipes'' phony' suffixes' = record {
        kept = record {
          targets_view = tells_same old.1 (pushed.0, targets) (pushed.0, targets'') _
              (λ name. taken_back pushed.0 place targets targets' targets'' name (t_before name) t t_back) kept.targets_view;
          recipes_told = tells_same old.1 (pushed.0, recipes) (pushed.0, recipes'') _
              (λ name. taken_back pushed.0 place recipes recipes' recipes'' name (r_before name) r r_back) kept.recipes_told;
          phony_told = λ name. ap (λ names. is_among names name) p ∙ kept.phony_told name;
          suffixes_told = s ∙ kept.suffixes_told;
          colons = kept.colons;
          groups = kept.groups;
          apart = kept.apart;
        };
        targets_within = subst (λ n. n ≤ length pushed.0) (sym t_many) (targets_in named.targets_within);
        recipes_within = subst (λ n. n ≤ length pushed.0) (sym r_many) (recipes_in named.recipes_within);
      } in
      subst (λ (names : List Text). HoldsAll (names, new.1) targets'' recipes'' phony' suffixes') (sym same)
      (subst (λ (rules : List Entry). HoldsAll (pushed.0, rules) targets'' recipes'' phony' suffixes') (sym (rules_back new.1 taken)) held)
