-- The rules of a book, and the spots of their targets (kati's own).
use Rattle.std.specs.Prelude.{◌≡◌, ℕ, ◌+◌, ◌<◌, nat_lt, Bool, false, ◌&&◌, List, [], ◌∷◌, ◌++◌, filter, filter_map, map}
use Rattle.std.specs.Prelude.{bytes_eq, length, Option, Some, None, option_map, option_and_then, slice_get, is_some}
use Rattle.std.specs.Prelude.{if◌then◌else◌}
use Rattle.kt_rules.specs.Prelude.{list_any, Text, Target, Entry, is_among}
use Rattle.kt_rules.specs.inner.Prelude.{place_of, Spot}
use Rattle.kt_rules.specs.inner.Lists.{Notes, list_at}
use Rattle.kt_rules.specs.views.Book.{GroupsStandAlone}
use Rattle.kt_rules.specs.Book.{is_made, is_double, is_group, is_phony, rules_of, recipes_of, made_targets}
use Rattle.kt_rules.specs.Book.{override_message, xor}
use Rattle.kt_rules.specs.Suffixes.{suffixes_of, is_bare, is_single}

-- a rule with its target of this number
abbrev pub target_rule : Entry → ℕ → Option (Entry × Target)
target_rule rule number = option_map (λ target. (rule, target)) (slice_get rule.targets number)

-- the rule at a spot
abbrev pub spot_rule : List Entry → Spot → Option (Entry × Target)
spot_rule rules spot = option_and_then (λ rule. target_rule rule spot.target) (slice_get rules spot.entry)

-- the rules at spots
unfoldable pub found : List Entry → List Spot → List (Entry × Target)
found rules spots = filter_map (spot_rule rules) spots

abbrev pub first_of : {A : Type 0} → List A → Option A
first_of [] = None
first_of (x ∷ xs) = Some x

-- the first of them
abbrev pub first_found : List Entry → List Spot → Option (Entry × Target)
first_found rules spots = first_of (found rules spots)

abbrev pub unless : {A : Type 0} → (A → Bool) → Option A → Option A
unless test None = None
unless test (Some x) = if test x then None else Some x

-- the rule at a spot, unless it has the form of a suffix rule and `skips_bare` is true
abbrev pub explicit_rule : Bool → List Entry → Spot → Option (Entry × Target)
explicit_rule skips_bare rules spot = unless (λ made. is_bare made && skips_bare) (spot_rule rules spot)

-- the explicit rules at spots
unfoldable pub explicit_left : Bool → List Entry → List Spot → List (Entry × Target)
explicit_left skips_bare rules spots = filter_map (explicit_rule skips_bare rules) spots

-- the spots at a number, if there is one
abbrev pub list_of : Option ℕ → List (List Spot) → List Spot
list_of None lists = []
list_of (Some number) lists = list_at lists number

-- the spots of a name
abbrev pub spots_at : Notes → Text → List Spot
spots_at notes name = list_of (place_of notes.0 name) notes.1

-- the targets of a rule that have a spot where a rule is
abbrev pub found_targets : List Entry → Notes → Entry → List Target
found_targets rules notes rule =
    filter (λ target. is_some (first_found rules (spots_at notes target.name))) (made_targets rule)

-- the warnings on the targets that get a second recipe, as an index of the rules with a recipe tells them
abbrev pub noted_messages : List Entry → Notes → Entry → List Text
noted_messages rules recipes rule = map (override_message rule.place)
    (if is_single rule.kind && is_some rule.recipe then found_targets rules recipes rule else [])

-- ---- one more rule

abbrev pub spot_at : ℕ → ℕ → Spot
spot_at entry target = record { entry = entry; target = target }

-- the spot of a target, if the rule makes it and it has the name
abbrev pub target_spots : Entry → Target → Spot → Text → List Spot
target_spots rule target spot name = if is_made rule target then (if bytes_eq name target.name then spot ∷ []
    else []) else []

-- the spots of a rule at a place for a name, for its targets from a number on
unfoldable pub spots_from : Entry → ℕ → ℕ → List Target → Text → List Spot
spots_from rule place number [] name = []
spots_from rule place number (target ∷ targets) name =
    target_spots rule target (spot_at place number) name ++ spots_from rule place (number + 1) targets name

-- the spots of a rule at a place for a name
abbrev pub spots_for : Entry → ℕ → Text → List Spot
spots_for rule place name = spots_from rule place 0 rule.targets name

-- the spots of the rules before a place
abbrev pub spots_before : ℕ → List Spot → List Spot
spots_before place spots = filter (λ spot. nat_lt spot.entry place) spots

-- at each number, only the spots of the rules before a place stay
abbrev pub ForgotFrom : ℕ → List (List Spot) → List (List Spot) → Type 0
ForgotFrom place old new = (number : ℕ) → list_at new number ≡ spots_before place (list_at old number)

-- each spot is of a rule before the place
abbrev pub AreBefore : ℕ → List Spot → Type 0
AreBefore place [] = Unit {0}
AreBefore place (spot ∷ spots) = (spot.entry < place) × AreBefore place spots

-- each spot is of the rule at the place
abbrev pub AreIn : ℕ → List Spot → Type 0
AreIn place [] = Unit {0}
AreIn place (spot ∷ spots) = (spot.entry ≡ place) × AreIn place spots

-- each number may have got more spots, all of the rule at the place
abbrev pub GrewAt : ℕ → List (List Spot) → List (List Spot) → Type 0
GrewAt place old new =
    (number : ℕ) → (more : List Spot) × (list_at new number ≡ list_at old number ++ more) × AreIn place more

-- each name may have got more spots, all of the rule at the place
abbrev pub GrewIn : ℕ → Notes → Notes → Type 0
GrewIn place old new =
    (name : Text) → (more : List Spot) × (spots_at new name ≡ spots_at old name ++ more) × AreIn place more

-- each name has got the spots of a rule at the place
abbrev pub GotSpots : Entry → ℕ → Notes → Notes → Type 0
GotSpots rule place old new = (name : Text) → spots_at new name ≡ spots_at old name ++ spots_for rule place name

-- each name has got the spots of a rule at the place, in the index of the rules that have a recipe
abbrev pub GotRecipes : Entry → ℕ → Notes → Notes → Type 0
GotRecipes rule place old new =
    (name : Text) → spots_at new name ≡ spots_at old name ++ (if is_some rule.recipe
    then spots_for rule place name else [])

-- the test has the same result for all elements
abbrev pub AllAgree : {A : Type 0} → (A → Bool) → List A → Type 0
AllAgree test xs = (b : Bool) × (list_any (λ x. xor (test x) b) xs ≡ false)

-- an index has the rules of each name
pub record IsIndexOf (rules : List Entry) (index : Notes) (own : Text → List (Entry × Target)) : Type 0 where
  pub all : (name : Text) → found rules (spots_at index name) ≡ own name
  pub before : (name : Text) → AreBefore (length rules) (spots_at index name)

-- what a book keeps beside its rules follows from them
pub record IsKept (rules : List Entry) (targets recipes : Notes) (phony suffixes : List Text)
    : Type 0 where
  pub targets_view : IsIndexOf rules targets (rules_of rules)
  pub recipes_told : IsIndexOf rules recipes (recipes_of rules)
  pub phony_told : (name : Text) → is_among phony name ≡ is_phony rules name
  pub suffixes_told : suffixes ≡ suffixes_of rules
  -- no target has rules with one colon and with two
  pub colons : (name : Text) → AllAgree (λ made. is_double made.0.kind) (rules_of rules name)
  -- all rules of a target that have a recipe are groups, or none is
  pub groups : (name : Text) → AllAgree (λ made. is_group made.0.kind) (recipes_of rules name)
  pub apart : GroupsStandAlone rules
