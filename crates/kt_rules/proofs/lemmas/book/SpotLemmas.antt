-- Spots as rules are added.
use Rattle.std.proofs.Common.{rules, ◌≡◌, ℕ, ◌+◌, ◌<◌, cond, nat_lt, Bool, if◌then◌else◌, List, [], ◌∷◌, ◌++◌, length, drop, Some, None, refl, sym, ap, ◌∙◌, arith, slice_get, zero, suc, is_some}
use Rattle.kt_rules.proofs.Common.{option_and_then, cons_option, append-nil, filter-append, filter_map-append, le-ltb, lt-ltb, Text, Target, Spot, Entry, target_rule, spot_rule, spots_at, spots_before, found, spot_at, target_spots, spots_from, spots_for, AreBefore, AreIn, ForgotFrom, GrewIn, GotSpots, GotRecipes}
use Rattle.kt_rules.specs.inner.Lists.{Notes, list_at}

-- a rule stays at its place
rule_kept : (rules : List Entry) (rule : Entry) (place : ℕ) → place < length rules → slice_get (rules ++ rule ∷ []) place ≡ slice_get rules place
rule_kept [] rule place h = absurd (omega arith)
rule_kept (first ∷ rules) rule zero h = refl
rule_kept (first ∷ rules) rule (suc place) h = rule_kept rules rule place (omega arith)

-- the last rule
pub rule_last : (rules : List Entry) (rule : Entry) → slice_get (rules ++ rule ∷ []) (length rules) ≡ Some rule
rule_last [] rule = refl
rule_last (first ∷ rules) rule = rule_last rules rule

-- the rule at a place, and those after it
pub rules_left : (rules : List Entry) (place : ℕ) (rule : Entry) → Some rule ≡ slice_get rules place → drop place rules ≡ rule ∷ drop (place + 1) rules
rules_left [] zero rule h = absurd (cc h)
rules_left [] (suc place) rule h = absurd (cc h)
rules_left (first ∷ rules) zero rule h = let same : rule ≡ first = cc in ap (λ (one : Entry). one ∷ rules) (sym same)
rules_left (first ∷ rules) (suc place) rule h = grind (arith, rules_left rules place rule h)

nothing : (place : ℕ) → drop {A = Entry} place [] ≡ []
nothing place = grind arith

pub rules_past : (rules : List Entry) (place : ℕ) → None ≡ slice_get rules place → drop place rules ≡ drop (place + 1) rules
rules_past [] place h = nothing place ∙ sym (nothing (place + 1))
rules_past (first ∷ rules) zero h = absurd (cc h)
rules_past (first ∷ rules) (suc place) h = grind (arith, rules_past rules place h)

-- spots of the rules before a new one find what they found
pub found-before : (rules : List Entry) (rule : Entry) (spots : List Spot) → AreBefore (length rules) spots
    → found (rules ++ rule ∷ []) spots ≡ found rules spots
unfolding found
found-before rules rule [] h = refl
found-before rules rule (spot ∷ spots) h =
    ap (λ r. cons_option (option_and_then (λ one. target_rule one spot.target) r) (found (rules ++ rule ∷ []) spots)) (rule_kept rules rule spot.entry h.0)
    ∙ ap (cons_option (spot_rule rules spot)) (found-before rules rule spots h.1)

pub found-append : (rules : List Entry) (spots more : List Spot) → found rules (spots ++ more) ≡ found rules spots ++ found rules more
unfolding found
found-append rules spots more = filter_map-append (spot_rule rules) spots more

pub before_more : (place : ℕ) (spots : List Spot) → AreBefore place spots → AreBefore (place + 1) spots
before_more place [] h = tt
before_more place (spot ∷ spots) h = (omega arith, before_more place spots h.1)

pub before_in : (place : ℕ) (spots : List Spot) → AreIn place spots → AreBefore (place + 1) spots
before_in place [] h = tt
before_in place (spot ∷ spots) h = (omega arith, before_in place spots h.1)

pub before_append : (place : ℕ) (spots more : List Spot) → AreBefore place spots → AreBefore place more → AreBefore place (spots ++ more)
before_append place [] more h k = k
before_append place (spot ∷ spots) more h k = (h.0, before_append place spots more h.1 k)

pub in_append : (place : ℕ) (spots more : List Spot) → AreIn place spots → AreIn place more → AreIn place (spots ++ more)
in_append place [] more h k = k
in_append place (spot ∷ spots) more h k = (h.0, in_append place spots more h.1 k)

in_if : (place number : ℕ) (b : Bool) → AreIn place (if b then spot_at place number ∷ [] else [])
in_if place number b = grind arith

pub in_target_spots : (rule : Entry) (target : Target) (place number : ℕ) (name : Text) → AreIn place (target_spots rule target (spot_at place number) name)
in_target_spots rule target place number name = grind (arith, in_if)

-- the spots of a rule are its own
pub in_spots_from : (rule : Entry) (place number : ℕ) (targets : List Target) (name : Text) → AreIn place (spots_from rule place number targets name)
unfolding spots_from
in_spots_from rule place number [] name = tt
in_spots_from rule place number (target ∷ targets) name = grind (arith, in_append, in_target_spots, in_spots_from rule place (number + 1) targets name)

cons_nil : (target : Target) (rest : List Target) → (target ∷ rest) ≡ [] → ⊥
cons_nil target rest h = cc

-- the target of a number, and those after it
pub first_target : (targets : List Target) (number : ℕ) (target : Target) (rest : List Target) → target ∷ rest ≡ drop number targets
    → (slice_get targets number ≡ Some target) × (rest ≡ drop (number + 1) targets)
first_target [] zero target rest h = absurd (cons_nil target rest h)
first_target [] (suc number) target rest h = absurd (cons_nil target rest h)
first_target (first ∷ targets) zero target rest h = grind arith
first_target (first ∷ targets) (suc number) target rest h = grind (arith, first_target targets number target rest h)

-- ---- spots that are taken back

before_kept : (place : ℕ) (spots : List Spot) → AreBefore place spots → spots_before place spots ≡ spots
before_kept place [] h = refl
before_kept place (spot ∷ spots) h =
    ap (λ b. cond b (spot ∷ spots_before place spots) (spots_before place spots)) (lt-ltb spot.entry place h.0)
    ∙ ap (λ (xs : List Spot). spot ∷ xs) (before_kept place spots h.1)

in_gone : (place : ℕ) (spots : List Spot) → AreIn place spots → spots_before place spots ≡ []
in_gone place [] h = refl
in_gone place (spot ∷ spots) h =
    let same : spot.entry ≡ place = h.0 in
    ap (λ b. cond b (spot ∷ spots_before place spots) (spots_before place spots)) (le-ltb spot.entry place (omega (arith, same)))
    ∙ in_gone place spots h.1

spots_forgotten : (names : List Text) (place : ℕ) (grown new : List (List Spot)) (name : Text) → ForgotFrom place grown new
    → spots_at (names, new) name ≡ spots_before place (spots_at (names, grown) name)
spots_forgotten names place grown new name forgot = grind arith

-- what a rule's targets got is taken back
pub taken_back : (names : List Text) (place : ℕ) (old grown new : List (List Spot)) (name : Text) → AreBefore place (spots_at (names, old) name)
    → GrewIn place (names, old) (names, grown) → ForgotFrom place grown new → spots_at (names, new) name ≡ spots_at (names, old) name
taken_back names place old grown new name before grew forgot =
    let more = grew name in
    spots_forgotten names place grown new name forgot
    ∙ ap (spots_before place) more.1
    ∙ filter-append (λ (spot : Spot). nat_lt spot.entry place) (spots_at (names, old) name) more.0
    ∙ (λ j. before_kept place (spots_at (names, old) name) before j ++ in_gone place more.0 more.2 j)
    ∙ append-nil (spots_at (names, old) name)

-- what is at a number, once the lists before another number are done
abbrev pub forgot_before : ℕ → ℕ → List (List Spot) → ℕ → List Spot
forgot_before place number old other = if nat_lt other number then spots_before place (list_at old other) else list_at old other

-- spots that a rule got are its own
pub grew_spots : (rule : Entry) (place : ℕ) (old new : Notes) → GotSpots rule place old new → GrewIn place old new
grew_spots rule place old new got = λ name. (spots_for rule place name, got name, in_spots_from rule place 0 rule.targets name)

in_spots_if : (rule : Entry) (place : ℕ) (name : Text) (b : Bool) → AreIn place (if b then spots_for rule place name else [])
in_spots_if rule place name b = grind (arith, in_spots_from)

pub grew_recipes : (rule : Entry) (place : ℕ) (old new : Notes) → GotRecipes rule place old new → GrewIn place old new
grew_recipes rule place old new got = λ name.
    ((if is_some rule.recipe then spots_for rule place name else []), got name, in_spots_if rule place name (is_some rule.recipe))
