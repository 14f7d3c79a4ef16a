-- Spots of names, by the names' places in a list.
use Rattle.std.proofs.Common.{◌≡◌, ℕ, zero, suc, ◌+◌, ◌<◌, ◌≤◌, Bool, true, false, nat_eq, if◌then◌else◌, List, [], ◌∷◌, ◌++◌, length, map, drop, get_or, Option, Some, None, slice_get, refl, sym, ap, ◌∙◌, subst, arith, length-append}
use Rattle.kt_rules.proofs.Common.{bytes_eq, AllByRecursion, IsDistinct, position_from, option_or, eqb-true, eq-eqb, nat_list_eq_equiv, append-nil, append_assoc, get_or_past, drop_all, position_from-zero, bytes_eq-Decides, place_of, number_found, Text, Target, Spot, is_made, Entry, list_of, spots_at, spot_at, target_spots, spots_from, spots_for, AreIn, GrewAt, GrewIn}
use Rattle.std.proofs.lemmas.Map.Keys.{IsDistinct-head, IsDistinct-tail}
use Rattle.kt_rules.specs.inner.Lists.{Notes, list_at}
use Rattle.kt_rules.proofs.lemmas.book.SpotLemmas.{in_append, in_target_spots}

-- ---- names in a list

-- what holds of each name holds of the one at a place
at_place : (P : Text → Type 0) (names : List Text) (n : ℕ) (name : Text) → AllByRecursion P names → slice_get names n ≡ Some name → P name
at_place P [] n name all is = absurd (let e : None ≡ Some name = is in cc)
at_place P (first ∷ names) zero name all is = let e : first ≡ name = cc in subst P e all.0
at_place P (first ∷ names) (suc n) name all is = at_place P names n name all.1 is

-- where names differ, the place of a name is the one that it is at
from_place : (i : ℕ) (names : List Text) (name : Text) (n : ℕ) → IsDistinct bytes_eq names → slice_get names n ≡ Some name
    → position_from (bytes_eq name) i names ≡ Some (i + n)
from_place i [] name n differ is = absurd (let e : None ≡ Some name = is in cc)
from_place i (first ∷ names) name zero differ is = grind (arith, bytes_eq-Decides)
from_place i (first ∷ names) name (suc n) differ is =
    let other : bytes_eq first name ≡ false = at_place (λ y. bytes_eq first y ≡ false) names n name (IsDistinct-head bytes_eq first names differ) is in
    let apart : bytes_eq name first ≡ false = nat_list_eq_equiv.symm name first ∙ other in
    let on : i + 1 + n ≡ i + suc n = omega arith in
    rw apart (from_place (i + 1) names name n (IsDistinct-tail bytes_eq first names differ) is ∙ ap Some on)

pub place_at : (names : List Text) (name : Text) (n : ℕ) → IsDistinct bytes_eq names → slice_get names n ≡ Some name → place_of names name ≡ Some n
place_at names name n differ is = grind (arith, position_from-zero, from_place)

-- one more name is at the end
place_more : (i : ℕ) (names : List Text) (name other : Text)
    → position_from (bytes_eq other) i (names ++ name ∷ [])
    ≡ option_or (position_from (bytes_eq other) i names) (if bytes_eq other name then Some (i + length names) else None)
place_more i [] name other = let here : i ≡ i + 0 = omega arith in ap (λ n. if bytes_eq other name then Some n else None) here
place_more i (first ∷ names) name other = grind (arith, length, place_more (i + 1) names name other)

-- ---- lists at names

-- nothing was noted at a name that is added at the end
nothing_last : (lists : List (List Spot)) (n : ℕ) (found : Option ℕ) (b : Bool) → length lists ≤ n
    → list_of (option_or found (if b then Some n else None)) lists ≡ list_of found lists
nothing_last lists n found b within = grind (arith, get_or_past)

-- one more name changes nothing
last_name : (names : List Text) (lists : List (List Spot)) (name other : Text) → length lists ≤ length names
    → list_of (place_of (names ++ name ∷ []) other) lists ≡ list_of (place_of names other) lists
last_name names lists name other within = grind (arith, length, position_from-zero, place_more, nothing_last)

-- nor do several
pub names_after : (names more : List Text) (lists : List (List Spot)) (other : Text) → length lists ≤ length names
    → list_of (place_of (names ++ more) other) lists ≡ list_of (place_of names other) lists
names_after names [] lists other within = ap (λ ns. list_of (place_of ns other) lists) (append-nil names)
names_after names (name ∷ more) lists other within =
    let longer : length (names ++ name ∷ []) ≡ length names + 1 = length-append names (name ∷ []) in
    ap (λ ns. list_of (place_of ns other) lists) (sym (append_assoc names (name ∷ []) more))
    ∙ names_after (names ++ name ∷ []) more lists other (omega (arith, longer))
    ∙ last_name names lists name other within

pub no_two : (b : Bool) → b ≡ true → b ≡ false → (P : Type 0) → P
no_two b h k P = absurd (let e : true ≡ false = sym h ∙ k in cc)

-- two names have the same place exactly if they are equal
pub same_place : (names : List Text) (name other : Text) (n m : ℕ) → place_of names name ≡ Some n → slice_get names n ≡ Some name → place_of names other ≡ Some m
    → nat_eq m n ≡ bytes_eq other name
same_place names name other n m at is found = by (bytes_eq other name) refl
  where
    apart : (c : Bool) → nat_eq m n ≡ c → bytes_eq other name ≡ false → nat_eq m n ≡ false
    apart false d e = d
    apart true d e =
        let one : m ≡ n = eqb-true m n d in
        let both : Some other ≡ Some name = sym (number_found names other m found) ∙ ap (slice_get names) one ∙ is in
        let same : other ≡ name = cc in
        no_two (bytes_eq other name) ((bytes_eq-Decides other name).1 same) e (nat_eq m n ≡ false)

    by : (b : Bool) → bytes_eq other name ≡ b → nat_eq m n ≡ b
    by true e =
        let same : other ≡ name = (bytes_eq-Decides other name).0 e in
        let both : Some m ≡ Some n = sym found ∙ ap (place_of names) same ∙ at in
        let one : m ≡ n = cc in
        eq-eqb m n one
    by false e = apart (nat_eq m n) refl e

-- more was noted at one name's place, and all others keep theirs
pub noted_more : (names : List Text) (old new : List (List Spot)) (name : Text) (n : ℕ) (more : List Spot) → IsDistinct bytes_eq names
    → slice_get names n ≡ Some name
    → ((m : ℕ) → list_at new m ≡ list_at old m ++ (if nat_eq m n then more else []))
    → (other : Text) → list_of (place_of names other) new ≡ list_of (place_of names other) old ++ (if bytes_eq other name then more else [])
noted_more names old new name n more differ is step other = by (place_of names other) refl
  where
    at : place_of names name ≡ Some n
    at = place_at names name n differ is

    none : (b : Bool) → bytes_eq other name ≡ b → place_of names other ≡ None → [] ≡ (if b then more else [])
    none false e absent = refl
    none true e absent =
        let same : other ≡ name = (bytes_eq-Decides other name).0 e in
        absurd (let both : None ≡ Some n = sym absent ∙ ap (place_of names) same ∙ at in cc)

    by : (found : Option ℕ) → place_of names other ≡ found → list_of found new ≡ list_of found old ++ (if bytes_eq other name then more else [])
    by None absent = none (bytes_eq other name) refl absent
    by (Some m) found = step m ∙ ap (λ b. list_at old m ++ (if b then more else [])) (same_place names name other n m at is found)

-- ---- what one target adds

-- one spot that is noted at a number
pub grew_at_one : (place number : ℕ) (old new : List (List Spot)) (spot : Spot) → spot.entry ≡ place
    → ((other : ℕ) → list_at new other ≡ list_at old other ++ (if nat_eq other number then spot ∷ [] else [])) → GrewAt place old new
grew_at_one place number old new spot at step = λ other. ((if nat_eq other number then spot ∷ [] else []), step other, by (nat_eq other number))
  where
    by : (b : Bool) → AreIn place (if b then spot ∷ [] else [])
    by true = (at, tt)
    by false = tt

-- what grew at numbers grew at their names
pub grew_at_names : (names : List Text) (place : ℕ) (old new : List (List Spot)) → GrewAt place old new → GrewIn place (names, old) (names, new)
grew_at_names names place old new grew = λ name. by (place_of names name)
  where
    by : (found : Option ℕ) → (more : List Spot) × (list_of found new ≡ list_of found old ++ more) × AreIn place more
    by None = ([], refl, tt)
    by (Some number) = grew number

-- the spot of a target that is made
pub target_noted : (names : List Text) (rule : Entry) (target : Target) (number : ℕ) (spot : Spot) (b : Bool) (old new : List (List Spot)) → IsDistinct bytes_eq names
    → slice_get names number ≡ Some target.name → is_made rule target ≡ true
    → ((other : ℕ) → list_at new other ≡ list_at old other ++ (if b then (if nat_eq other number then spot ∷ [] else []) else []))
    → (name : Text) → spots_at (names, new) name ≡ spots_at (names, old) name ++ (if b then target_spots rule target spot name else [])
target_noted names rule target number spot b old new differ is made step = grind (arith, noted_more)

-- ---- spots of a rule

-- where nothing more was noted
pub grew_none : (place : ℕ) (old new : Notes) → ((name : Text) → spots_at new name ≡ spots_at old name) → GrewIn place old new
grew_none place old new same = λ name. ([], same name ∙ sym (append-nil (spots_at old name)), tt)

-- one after another
pub grew_both : (place : ℕ) (old now new : Notes) → GrewIn place old now → GrewIn place now new → GrewIn place old new
grew_both place old now new first later = λ name.
    let one = first name in
    let two = later name in
    (one.0 ++ two.0, two.1 ∙ ap (λ xs. xs ++ two.0) one.1 ∙ append_assoc (spots_at old name) one.0 two.0, in_append place one.0 two.0 one.2 two.2)

-- the spots of the remaining targets are still to be noted, if any are noted
abbrev pub IsNotedFrom : Bool → Entry → ℕ → ℕ → List Target → Notes → Notes → Type 0
IsNotedFrom b rule place number left old now =
    (name : Text) → spots_at now name ++ (if b then spots_from rule place number left name else [])
    ≡ spots_at old name ++ (if b then spots_for rule place name else [])

pub noted_start : (b : Bool) (rule : Entry) (place number : ℕ) (left : List Target) (notes : Notes) → number ≡ 0 → left ≡ rule.targets
    → IsNotedFrom b rule place number left notes notes
noted_start b rule place number left notes none all = grind arith

-- one target's spots, and then those of the targets after it
pub noted_step : (b : Bool) (rule : Entry) (place number next : ℕ) (target : Target) (left rest : List Target) (old now new : Notes)
    → left ≡ target ∷ rest → next ≡ number + 1
    → ((name : Text) → spots_at new name ≡ spots_at now name ++ (if b then target_spots rule target (spot_at place number) name else []))
    → IsNotedFrom b rule place number left old now → IsNotedFrom b rule place next rest old new
unfolding spots_from
noted_step b rule place number next target left rest old now new is more step before = grind (arith, append_assoc, append-nil)

-- all spots were noted
pub noted_end : (b : Bool) (rule : Entry) (place number : ℕ) (left : List Target) (old now : Notes) → left ≡ [] → IsNotedFrom b rule place number left old now
    → (name : Text) → spots_at now name ≡ spots_at old name ++ (if b then spots_for rule place name else [])
unfolding spots_from
noted_end b rule place number left old now none before = grind (arith, append-nil)

-- what one target's spots add is in the slot
pub grew_target : (b : Bool) (rule : Entry) (place number : ℕ) (target : Target) (now new : Notes)
    → ((name : Text) → spots_at new name ≡ spots_at now name ++ (if b then target_spots rule target (spot_at place number) name else []))
    → GrewIn place now new
grew_target true rule place number target now new step = λ name.
    (target_spots rule target (spot_at place number) name, step name, in_target_spots rule target place number name)
grew_target false rule place number target now new step = λ name. ([], step name, tt)

-- ---- targets by numbers

-- the target of a number, and those after it
pub target_left : {A B C : Type 0} (f : B → C) (g : A → B) (xs : List A) (i : ℕ) (x : A) → i < length xs → x ≡ get_or xs i x
    → drop i (map f (map g xs)) ≡ f (g x) ∷ drop (i + 1) (map f (map g xs))
target_left f g [] i x h e = absurd (omega arith)
target_left f g (y ∷ ys) zero x h e = ap (λ z. f (g z) ∷ map f (map g ys)) (sym e)
target_left f g (y ∷ ys) (suc i) x h e =
    let on : suc i + 1 ≡ suc (i + 1) = omega arith in
    target_left f g ys i x (omega arith) e ∙ sym (ap (λ n. f (g x) ∷ drop n (map f (map g (y ∷ ys)))) on)

-- none remains at the end
pub target_end : {A B C : Type 0} (f : B → C) (g : A → B) (xs : List A) (i : ℕ) → length xs ≤ i → drop i (map f (map g xs)) ≡ []
target_end f g [] i h = drop_all i [] h
target_end f g (y ∷ ys) zero h = absurd (omega arith)
target_end f g (y ∷ ys) (suc i) h = target_end f g ys i (omega arith)
