-- Lists at names, as the map that holds them changes.
use Rattle.std.proofs.Common.{arith, rules, ◌≡◌, Bool, true, false, if◌then◌else◌, List, [], ◌++◌, Option, Some, Vec, Global, sym, ◌∙◌}
use Rattle.kt_rules.proofs.Common.{bytes_eq, unwrap_or, option_map, bytes_eq-Decides, append-nil, Text}
use Rattle.std.specs.Map.{lookup, KeepsOthers}
use Rattle.kt_rules.specs.views.Indexes.{noted_in}

-- the entries of a map of names
abbrev Entries : Type 0 → Type 0
Entries A = List (Text × Vec A Global)

-- what a look-up found
abbrev pub items_of : {A : Type 0} → Option (Vec A Global) → List A
items_of {A} found = unwrap_or (option_map (λ (items : Vec A Global). items.items) found) []

-- if two names differ, no key is both
pub apart : (name other : Text) → bytes_eq other name ≡ false → (key : Text) → bytes_eq name key ≡ true → bytes_eq other key ≡ false
apart name other differ key is = search rules

-- more was noted at one name, and all others keep theirs
pub noted : {A : Type 0} (old new : Entries A) (name : Text) (items : Vec A Global) (more : List A)
    → KeepsOthers (λ (x y : Text). bytes_eq x y) (λ (key : Text). bytes_eq name key) old new
    → lookup (λ (key : Text). bytes_eq name key) new ≡ Some items
    → items.items ≡ noted_in old name ++ more
    → (other : Text) → noted_in new other ≡ noted_in old other ++ (if bytes_eq other name then more else [])
unfolding KeepsOthers
noted {A} old new name items more others found grown other = grind (arith, bytes_eq-Decides, apart, append-nil)

-- nothing was noted at a name, and all others keep theirs
pub kept : {A : Type 0} (old new : Entries A) (name : Text) (items : Vec A Global)
    → KeepsOthers (λ (x y : Text). bytes_eq x y) (λ (key : Text). bytes_eq name key) old new
    → lookup (λ (key : Text). bytes_eq name key) new ≡ Some items
    → items.items ≡ noted_in old name
    → (other : Text) → noted_in new other ≡ noted_in old other
kept {A} old new name items others found same other =
    noted old new name items [] others found (same ∙ sym (append-nil _)) other ∙ none (bytes_eq other name) (noted_in old other)
  where
    none : (b : Bool) (xs : List A) → xs ++ (if b then [] else []) ≡ xs
    none true xs = append-nil xs
    none false xs = append-nil xs

-- the same if the key is the name
pub noted_by : {A : Type 0} (old new : Entries A) (key name : Text) (items : Vec A Global) (more : List A) → key ≡ name
    → KeepsOthers (λ (x y : Text). bytes_eq x y) (λ (k : Text). bytes_eq key k) old new
    → lookup (λ (k : Text). bytes_eq key k) new ≡ Some items
    → items.items ≡ noted_in old key ++ more
    → (other : Text) → noted_in new other ≡ noted_in old other ++ (if bytes_eq other name then more else [])
noted_by old new key name items more is others found grown other = grind (arith, noted)

-- what a look-up found, or an empty list
pub found_or_none : {A : Type 0} (found : Option (Vec A Global)) (none : Vec A Global) → none.items ≡ [] → (unwrap_or found none).items ≡ items_of found
found_or_none found none h = grind arith
