-- Groups share no target with other rules that have a recipe.
use Rattle.std.proofs.Common.{rules, ◌≡◌, ℕ, zero, suc, ◌<◌, Bool, true, false, cond, ◌||◌, List, [], ◌∷◌, length, map, filter, find, get_or, None, refl, sym, ap, ◌∙◌, arith, is_some}
use Rattle.kt_rules.proofs.Common.{or_parts, list_any, bytes_eq, filter-append, list_any-append, Text, Target, Entry, AreApart, has_recipe, is_beside_group, is_group, made_targets, makes, recipes_of, rules_of, two_recipes_in}
use Rattle.kt_rules.proofs.lemmas.book.FindLemmas.{find_none}

-- if none passes a test, none passes a stricter one
none_left : (test other : Target → Bool) → ((target : Target) → test target ≡ false → other target ≡ false) → (targets : List Target)
    → find test targets ≡ None → list_any other targets ≡ false
none_left test other h [] e = refl
none_left test other h (target ∷ targets) e =
    let one = find_none (test target) target (find test targets) e in
    ap (λ b. b || list_any other targets) (h target one.0) ∙ none_left test other h targets one.1

-- the rules with a recipe that one rule is for a name
abbrev own_recipes : Entry → Text → List Target → List (Entry × Target)
own_recipes rule name targets =
    filter has_recipe (filter (λ (made : Entry × Target). bytes_eq name made.1.name) (map (λ target. (rule, target)) targets))

beside_step : (later : Entry) (made : Entry × Target) (rest : List (Entry × Target)) (c b : Bool) → has_recipe made ≡ true → is_beside_group later made ≡ true
    → list_any (is_beside_group later) (filter has_recipe rest) ≡ b → list_any (is_beside_group later) (filter has_recipe (cond c (made ∷ rest) rest)) ≡ (c || b)
beside_step later made rest c b r g h = grind (arith, cond)

beside_made : (later rule : Entry) (name : Text) (targets : List Target) → is_some rule.recipe ≡ true → (is_group later.kind || is_group rule.kind) ≡ true
    → list_any (is_beside_group later) (own_recipes rule name targets) ≡ list_any (λ (target : Target). bytes_eq name target.name) targets
beside_made later rule name [] r g = refl
beside_made later rule name (target ∷ targets) r g = grind (arith, beside_step, beside_made later rule name targets r g)

-- the recipes of a name are those of the first rule and those of the others
any_recipe : (test : Entry × Target → Bool) (name : Text) (rule : Entry) (rules : List Entry)
    → list_any test (recipes_of (rule ∷ rules) name) ≡ (list_any test (own_recipes rule name (made_targets rule)) || list_any test (recipes_of rules name))
unfolding recipes_of rules_of
any_recipe test name rule rules = grind (arith, filter-append, list_any-append)

-- what has no second recipe beside a group isn't made by one of the rules
not_made : (later : Entry) (name : Text) (rules : List Entry) (k : ℕ) (d : Entry) → k < length rules → is_some (get_or rules k d).recipe ≡ true
    → (is_group later.kind || is_group (get_or rules k d).kind) ≡ true → list_any (is_beside_group later) (recipes_of rules name) ≡ false → makes (get_or rules k d) name ≡ false
not_made later name [] k d h r g e = absurd (omega arith)
not_made later name (rule ∷ rules) zero d h r g e = grind (arith, any_recipe, beside_made, or_parts)
not_made later name (rule ∷ rules) (suc k) d h r g e =
    let both = sym (any_recipe (is_beside_group later) name rule rules) ∙ e in
    not_made later name rules k d (omega arith) r g
    (or_parts (list_any (is_beside_group later) (own_recipes rule name (made_targets rule))) (list_any (is_beside_group later) (recipes_of rules name)) both).1

-- a rule that gives no target a second recipe beside a group is apart from all before it
pub apart_last : (rules : List Entry) (last : Entry) → two_recipes_in rules last ≡ None → (k : ℕ) (d : Entry) → k < length rules → AreApart (get_or rules k d) last
apart_last rules last h k d within earlier later group = grind (arith, none_left, get_or, not_made)
