-- Rules whose names are held as numbers.
use Rattle.std.proofs.Common.{rules, ◌≡◌, ℕ, zero, suc, ◌+◌, min, Bool, true, false, if◌then◌else◌, List, [], ◌∷◌, ◌++◌, length, take, get_or, slice_get, Option, Some, None, is_some, option_map, unwrap_or, refl, sym, ap, ◌∙◌, subst, arith, length-append}
use Rattle.kt_rules.proofs.Common.{names_read, All, length-take, All-cons, All-head, All-nil, All-push, All-tail, All-take, All-weaker, Text, Kinds, Kind, Needs, RecipeLine, Entry, rule_by, is_double, is_group, AreHeld, AreNeeds, AreRuleNumbers, GrowsDictionary, IsKnownRow, IsLast, needs_held, rule_held, rules_held, sees}
use Rattle.kt_rules.proofs.lemmas.DictionaryLemmas.{list_stays, number_named_if, number_stays_if}
use Rattle.kt_rules.specs.declared.book.row.NeedsNumbers.{NeedsNumbers}
use Rattle.kt_rules.specs.declared.book.row.Row.{Row}
use Rattle.kt_rules.specs.declared.book.row.RuleNumbers.{RuleNumbers}
use Rattle.kt_rules.specs.declared.book.rules.LastNeeds.{LastNeeds}
use Rattle.kt_rules.specs.declared.line.entry.Kind.TheVariants.{SingleColon, DoubleColon, Group, Pattern, TerminalPattern}

-- ---- a rule by its numbers

needs_named : (d : List Text × List (List ℕ)) (needs : Needs) (numbers : NeedsNumbers) → AreNeeds d needs numbers → needs_held d numbers ≡ needs
needs_named d needs numbers are = grind (arith, names_read, get_or)

-- the rule that has these names
pub rule_named : (d : List Text × List (List ℕ)) (lines : List RecipeLine) (row : Row) (targets : List Text) (pattern : Option Text) (needs : Needs)
    → AreRuleNumbers d targets pattern needs row.numbers
    → rule_held d lines row ≡ rule_by row.kind targets pattern needs (if row.has_recipe then Some lines else None) row.place
rule_named d lines row targets pattern needs are =
    let front = names_read d.0 (get_or d.1 row.numbers.targets []) targets are.of_targets.numbers in
    let between = number_named_if d.0 row.numbers.pattern pattern are.of_pattern in
    let end = needs_named d needs row.numbers.needs are.of_needs in
    λ j. rule_by row.kind (front j) (between j) (end j) (if row.has_recipe then Some lines else None) row.place

-- ---- what is held, when the dictionary grows

pub needs_stay : (old new : List Text × List (List ℕ)) (needs : Needs) (numbers : NeedsNumbers) → GrowsDictionary old new → AreNeeds old needs numbers → AreNeeds new needs numbers
needs_stay old new needs numbers grew are = search (rules, list_stays)

rule_stays : (old new : List Text × List (List ℕ)) (targets : List Text) (pattern : Option Text) (needs : Needs) (numbers : RuleNumbers) → GrowsDictionary old new
    → AreRuleNumbers old targets pattern needs numbers → AreRuleNumbers new targets pattern needs numbers
rule_stays old new targets pattern needs numbers grew are = search (rules, list_stays, number_stays_if, needs_stay)

pub last_stays : (old new : List Text × List (List ℕ)) (last : Option LastNeeds) → GrowsDictionary old new → IsLast old last → IsLast new last
last_stays old new last grew is = grind (arith, needs_stay)

known_more : (old new : List Text × List (List ℕ)) (kinds kinds' : Kinds) → GrowsDictionary old new → ((other : Kind) → sees kinds other ≡ true → sees kinds' other ≡ true)
    → (row : Row) → IsKnownRow kinds old row → IsKnownRow kinds' new row
known_more old new kinds kinds' grew kept row known = record {
  seen = kept row.kind known.seen;
  targets = known.targets;
  pattern = known.pattern;
  needs = known.needs;
  told = rule_stays old new known.targets known.pattern known.needs row.numbers grew known.told;
}

module _ (old new : List Text × List (List ℕ)) (grew : GrowsDictionary old new) (kinds : Kinds) where
  row_more : (lines : List RecipeLine) (row : Row) → IsKnownRow kinds old row → rule_held new lines row ≡ rule_held old lines row
  row_more lines row known =
      rule_named new lines row known.targets known.pattern known.needs (rule_stays old new known.targets known.pattern known.needs row.numbers grew known.told)
      ∙ sym (rule_named old lines row known.targets known.pattern known.needs known.told)

  rules_more : (recipes : List (List RecipeLine)) (rows : List Row) → All (IsKnownRow kinds old) rows → rules_held new recipes rows ≡ rules_held old recipes rows
  rules_more [] rows known = refl
  rules_more (lines ∷ recipes) [] known = refl
  rules_more (lines ∷ recipes) (row ∷ rows) known =
      let first = row_more lines row (All-head (IsKnownRow kinds old) row rows known) in
      let others = rules_more recipes rows (All-tail (IsKnownRow kinds old) row rows known) in
      λ j. first j ∷ others j

module _ (old new : List Text × List (List ℕ)) (recipes : List (List RecipeLine)) (rows : List Row) (kinds : Kinds) (last : Option LastNeeds)
    (grew : GrowsDictionary old new) (held : AreHeld old recipes rows kinds last) where
  pub grown_rules : rules_held new recipes rows ≡ rules_held old recipes rows
  grown_rules = rules_more old new grew kinds recipes rows held.known

  pub grown_held : AreHeld new recipes rows kinds last
  grown_held = grind (arith, All-weaker, known_more, last_stays)

-- ---- places

-- the rule at a place
rule_found : (d : List Text × List (List ℕ)) (recipes : List (List RecipeLine)) (rows : List Row) (place : ℕ) → length recipes ≡ length rows
    → slice_get (rules_held d recipes rows) place ≡ option_map (rule_held d (get_or recipes place [])) (slice_get rows place)
rule_found d [] [] place many = refl
rule_found d [] (row ∷ rows) place many = absurd (omega (arith, many))
rule_found d (lines ∷ recipes) [] place many = refl
rule_found d (lines ∷ recipes) (row ∷ rows) zero many = refl
rule_found d (lines ∷ recipes) (row ∷ rows) (suc place) many = rule_found d recipes rows place (omega (arith, many))

pub rules_many : (d : List Text × List (List ℕ)) (recipes : List (List RecipeLine)) (rows : List Row) → length recipes ≡ length rows
    → length (rules_held d recipes rows) ≡ length rows
rules_many d [] rows many = many
rules_many d (lines ∷ recipes) [] many = refl
rules_many d (lines ∷ recipes) (row ∷ rows) many = let others = rules_many d recipes rows (omega (arith, many)) in omega (arith, others)

-- the same as a book's rules have it
pub rule_told : (told : List Text × List Entry) (d : List Text × List (List ℕ)) (recipes : List (List RecipeLine)) (rows : List Row) (place : ℕ) (row : Option Row)
    → (d.0, rules_held d recipes rows) ≡ told → length recipes ≡ length rows → row ≡ slice_get rows place
    → option_map (rule_held d (get_or recipes place [])) row ≡ slice_get told.1 place
rule_told told d recipes rows place row view many is = grind (arith, get_or, rule_found)

-- one more
rules_push : (d : List Text × List (List ℕ)) (recipes : List (List RecipeLine)) (rows : List Row) (lines : List RecipeLine) (row : Row) → length recipes ≡ length rows
    → rules_held d (recipes ++ lines ∷ []) (rows ++ row ∷ []) ≡ rules_held d recipes rows ++ rule_held d lines row ∷ []
rules_push d [] [] lines row many = refl
rules_push d (own ∷ recipes) [] lines row many = absurd (omega (arith, many))
rules_push d [] (other ∷ rows) lines row many = absurd (omega (arith, many))
rules_push d (own ∷ recipes) (other ∷ rows) lines row many = ap (λ xs. rule_held d own other ∷ xs) (rules_push d recipes rows lines row (omega (arith, many)))

-- the first ones
pub rules_first : (d : List Text × List (List ℕ)) (recipes : List (List RecipeLine)) (rows : List Row) (count : ℕ)
    → rules_held d (take count recipes) (take count rows) ≡ take count (rules_held d recipes rows)
rules_first d [] [] zero = refl
rules_first d [] [] (suc count) = refl
rules_first d [] (row ∷ rows) zero = refl
rules_first d [] (row ∷ rows) (suc count) = refl
rules_first d (lines ∷ recipes) [] zero = refl
rules_first d (lines ∷ recipes) [] (suc count) = refl
rules_first d (lines ∷ recipes) (row ∷ rows) zero = refl
rules_first d (lines ∷ recipes) (row ∷ rows) (suc count) = ap (λ xs. rule_held d lines row ∷ xs) (rules_first d recipes rows count)

pub first_held : (d : List Text × List (List ℕ)) (recipes recipes' : List (List RecipeLine)) (rows rows' : List Row) (kinds : Kinds) (last : Option LastNeeds) (count : ℕ)
    → recipes' ≡ take count recipes → rows' ≡ take count rows → AreHeld d recipes rows kinds last → AreHeld d recipes' rows' kinds last
first_held d recipes recipes' rows rows' kinds last count lines is held = record {
  many = ap length lines ∙ length-take count recipes ∙ ap (min count) held.many ∙ sym (length-take count rows) ∙ sym (ap length is);
  known = subst (All (IsKnownRow kinds d)) (sym is) (All-take (IsKnownRow kinds d) count rows held.known);
  remembered = held.remembered;
}

-- ---- the kinds of the rules

-- no rule is of a kind that there can't be
none_held : (test : Kind → Bool) (d : List Text × List (List ℕ)) (recipes : List (List RecipeLine)) (rows : List Row) (kinds : Kinds)
    → ((kind : Kind) → sees kinds kind ≡ true → test kind ≡ false) → All (IsKnownRow kinds d) rows
    → All (λ rule. test rule.kind ≡ false) (rules_held d recipes rows)
none_held test d [] rows kinds none known = All-nil (λ rule. test rule.kind ≡ false)
none_held test d (lines ∷ recipes) [] kinds none known = All-nil (λ rule. test rule.kind ≡ false)
none_held test d (lines ∷ recipes) (row ∷ rows) kinds none known = grind (arith, All-cons, All-head, All-tail, none_held test d recipes rows kinds none (All-tail (IsKnownRow kinds d) row rows known))

module _ (told : List Text × List Entry) (d : List Text × List (List ℕ)) (recipes : List (List RecipeLine)) (rows : List Row)
    (kinds : Kinds) (last : Option LastNeeds) (view : (d.0, rules_held d recipes rows) ≡ told) (held : AreHeld d recipes rows kinds last) where
  none_told : (test : Kind → Bool) → ((kind : Kind) → sees kinds kind ≡ true → test kind ≡ false) → All (λ rule. test rule.kind ≡ false) told.1
  none_told test none =
      subst (λ (all : List Text × List Entry). All (λ rule. test rule.kind ≡ false) all.1) view
      (none_held test d recipes rows kinds none held.known)

  pub none_double : kinds.double ≡ false → All (λ rule. is_double rule.kind ≡ false) told.1
  none_double unseen = none_told is_double by
    where
      by : (kind : Kind) → sees kinds kind ≡ true → is_double kind ≡ false
      by SingleColon seen = refl
      by DoubleColon seen = sym seen ∙ unseen
      by Group seen = refl
      by Pattern seen = refl
      by TerminalPattern seen = refl

  pub none_group : kinds.group ≡ false → All (λ rule. is_group rule.kind ≡ false) told.1
  none_group unseen = none_told is_group by
    where
      by : (kind : Kind) → sees kinds kind ≡ true → is_group kind ≡ false
      by SingleColon seen = refl
      by DoubleColon seen = refl
      by Group seen = sym seen ∙ unseen
      by Pattern seen = refl
      by TerminalPattern seen = refl

-- ---- one more rule

recipe_back : (recipe : Option (List RecipeLine)) → (if is_some recipe then Some (unwrap_or recipe []) else None) ≡ recipe
recipe_back recipe = grind arith

module _ (old new : List Text × List (List ℕ)) (recipes recipes' : List (List RecipeLine)) (rows rows' : List Row)
    (kinds : Kinds) (last : Option LastNeeds) (lines : List RecipeLine) (row : Row) (targets : List Text) (pattern : Option Text) (needs : Needs)
    (grew : GrowsDictionary old new) (held : AreHeld old recipes rows kinds last) (are : AreRuleNumbers new targets pattern needs row.numbers) (lined : recipes' ≡ recipes ++ lines ∷ []) (is : rows' ≡ rows ++ row ∷ []) where
  pub pushed_held : (kinds' : Kinds) (last' : Option LastNeeds) → ((other : Kind) → sees kinds other ≡ true → sees kinds' other ≡ true) → sees kinds' row.kind ≡ true
      → (IsLast new last → IsLast new last') → AreHeld new recipes' rows' kinds' last'
  pushed_held kinds' last' kept seen next =
      let many : length rows' ≡ length rows + 1 = ap length is ∙ length-append rows (row ∷ []) in
      let many_recipes : length recipes' ≡ length recipes + 1 = ap length lined ∙ length-append recipes (lines ∷ []) in
      record {
        many = omega (arith, many, many_recipes, held.many);
        known = subst (All (IsKnownRow kinds' new)) (sym is)
            (All-push (IsKnownRow kinds' new) rows row (All-weaker (IsKnownRow kinds old) (IsKnownRow kinds' new) (known_more old new kinds kinds' grew kept) rows held.known)
            (record {
              seen = seen;
              targets = targets;
              pattern = pattern;
              needs = needs;
              told = are;
            }));
        remembered = next (last_stays old new last grew held.remembered);
      }

  -- the rule that it holds
  pub pushed_rule : (recipe : Option (List RecipeLine)) → row.has_recipe ≡ is_some recipe → lines ≡ unwrap_or recipe []
      → rules_held new recipes' rows' ≡ rules_held old recipes rows ++ rule_by row.kind targets pattern needs recipe row.place ∷ []
  pushed_rule recipe has own =
      let made : (if row.has_recipe then Some lines else None) ≡ recipe =
      ap (λ (b : Bool). if b then Some lines else None) has ∙ ap (λ (ls : List RecipeLine). if is_some recipe then Some ls else None) own ∙ recipe_back recipe in
      let rule : rule_held new lines row ≡ rule_by row.kind targets pattern needs recipe row.place =
      rule_named new lines row targets pattern needs are ∙ ap (λ (one : Option (List RecipeLine)). rule_by row.kind targets pattern needs one row.place) made in
      (λ j. rules_held new (lined j) (is j))
      ∙ rules_push new recipes rows lines row held.many
      ∙ (λ j. grown_rules old new recipes rows kinds last grew held j ++ rule j ∷ [])
