-- The numbers of the entries of explicit rules.
use Rattle.std.proofs.Common.{rules, ◌≡◌, ℕ, ◌+◌, ◌&&◌, not, Bool, cond, List, [], ◌∷◌, ◌++◌, map, filter, suc, Option, Some, slice_get, refl, sym, ap, ◌∙◌, arith}
use Rattle.kt_rules.proofs.Common.{enumerate_from, flat_map, bytes_eq, map-append, filter-append, bytes_eq-Decides, Text, Entry, suffixes_of, is_suffix_rule, is_made, is_explicit, target_rules, rules_of, explicit_rules, numbers_in, explicit_numbers}
use Rattle.kt_rules.specs.declared.line.entry.Target.{Target}
use Rattle.kt_rules_laws.specs.Book.{NumbersTellRules}

-- ---- the rules at the numbers

-- an item and those after it, from the results of the tests
module _ {A B C D : Type 0} (make : A → B) (made test : A → Bool) (named kept : B → Bool) (f : B → D) (g : A → C) (h : C → D) where
  picked_step : (b a k : Bool) (x : A) (those ours : List A) → named (make x) ≡ a → kept (make x) ≡ k → test x ≡ (a && (b && k)) → f (make x) ≡ h (g x)
      → map f (filter kept (filter named (map make those))) ≡ map h (map g ours)
      → map f (filter kept (filter named (map make (cond b (x ∷ those) those)))) ≡ map h (map g (cond (test x) (x ∷ ours) ours))
  picked_step b a k x those ours na ke te fe rest = grind (arith, cond)

  -- items picked by one test, or by its three parts
  picked : ((x : A) → test x ≡ (named (make x) && (made x && kept (make x)))) → ((x : A) → f (make x) ≡ h (g x)) → (xs : List A)
      → map f (filter kept (filter named (map make (filter made xs)))) ≡ map h (map g (filter test xs))
  picked parts same [] = refl
  picked parts same (x ∷ xs) = grind (arith, picked_step, picked parts same xs)

-- the test of a target as its parts
parts_of : (suffixes : List Text) (name : Text) (rule : Entry) (target : Target)
    → (bytes_eq name target.name && is_explicit suffixes (rule, target))
    ≡ (bytes_eq name target.name && (is_made rule target && not (is_suffix_rule suffixes name (rule, target))))
parts_of suffixes name rule target = grind (arith, not, bytes_eq-Decides)

-- the explicit rules of a name, where these are the suffixes
abbrev named_rules : List Text → Text → List (Entry × Target) → List (Entry × Target)
named_rules suffixes name all =
    filter (λ (made : Entry × Target). not (is_suffix_rule suffixes name made)) (filter (λ (made : Entry × Target). bytes_eq name made.1.name) all)

abbrev rule_of : Entry × Target → Option Entry
rule_of made = Some made.0

one_rule : (suffixes : List Text) (name : Text) (all : List Entry) (n : ℕ) (rule : Entry) → slice_get all n ≡ Some rule
    → map rule_of (named_rules suffixes name (target_rules rule)) ≡ map (slice_get all) (numbers_in suffixes name (n, rule))
one_rule suffixes name all n rule is = grind (arith, picked, not, parts_of)

named_append : (suffixes : List Text) (name : Text) (one others : List (Entry × Target))
    → map rule_of (named_rules suffixes name (one ++ others)) ≡ map rule_of (named_rules suffixes name one) ++ map rule_of (named_rules suffixes name others)
named_append suffixes name one others = grind (arith, not, filter-append, map-append)

-- the rules from a number on
rules_from : (suffixes : List Text) (name : Text) (all : List Entry) (n : ℕ) (rules : List Entry) → ((i : ℕ) → slice_get all (n + i) ≡ slice_get rules i)
    → map rule_of (named_rules suffixes name (flat_map target_rules rules)) ≡ map (slice_get all) (flat_map (numbers_in suffixes name) (enumerate_from n rules))
rules_from suffixes name all n [] at = refl
rules_from suffixes name all n (rule ∷ rules) at =
    let first : n ≡ n + 0 = omega arith in
    let past : (i : ℕ) → slice_get all (n + 1 + i) ≡ slice_get rules i = λ i. let e : n + 1 + i ≡ n + suc i = omega arith in ap (slice_get all) e ∙ at (suc i) in
    named_append suffixes name (target_rules rule) (flat_map target_rules rules)
    ∙ ap (λ xs. xs ++ map rule_of (named_rules suffixes name (flat_map target_rules rules))) (one_rule suffixes name all n rule (ap (slice_get all) first ∙ at 0))
    ∙ ap (λ xs. map (slice_get all) (numbers_in suffixes name (n, rule)) ++ xs) (rules_from suffixes name all (n + 1) rules past)
    ∙ sym (map-append (slice_get all) (numbers_in suffixes name (n, rule)) (flat_map (numbers_in suffixes name) (enumerate_from (n + 1) rules)))

pub numbers_tell : NumbersTellRules
unfolding explicit_rules rules_of explicit_numbers
numbers_tell = λ rules name. rules_from (suffixes_of rules) name rules 0 rules (λ i. let e : 0 + i ≡ i = omega arith in ap (slice_get rules) e)
