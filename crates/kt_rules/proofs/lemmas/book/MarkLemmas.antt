-- Names that are marked, one after another.
use Rattle.std.proofs.Common.{arith, ◌≡◌, ℕ, ◌<◌, Bool, true, false, ◌||◌, nat_eq, List, [], ◌∷◌, ◌++◌, length, set, get_or, slice_get, Option, Some, None, refl, sym, ap, ◌∙◌}
use Rattle.kt_rules.proofs.Common.{bytes_eq, eqb-true, eq-eqb, get_or-set_same, get_or-set_other, list_any-append, bytes_eq-Decides, place_of, number_found, or_nothing, Text, Marks, is_among, with_name}
use Rattle.kt_rules.specs.inner.Marks.{is_marked, mark_at}
use Rattle.kt_rules.proofs.lemmas.book.BookLemmas.{among_with, or_assoc}
use Rattle.kt_rules.proofs.lemmas.book.NoteLemmas.{no_two, same_place}

-- ---- one name more

or_true : (b : Bool) → true ≡ (b || true)
or_true b = grind arith

-- a name with a number isn't one without
apart_none : (names : List Text) (name other : Text) (n : ℕ) (b : Bool) → bytes_eq other name ≡ b → None ≡ place_of names name → place_of names other ≡ Some n → b ≡ false
apart_none names name other n b e at there = grind (arith, bytes_eq-Decides)

-- the name with a number is marked
pub number_marked : (names : List Text) (old new : Marks) (name : Text) (number : ℕ) → place_of names name ≡ Some number → number < length old.numbers.items
    → new.numbers.items ≡ set old.numbers.items number true → new.others ≡ old.others
    → (other : Text) → is_marked names new other ≡ (is_marked names old other || bytes_eq other name)
number_marked names old new name number at within put same other = by (place_of names other) refl
  where
    there : slice_get names number ≡ Some name
    there = number_found names name number at

    none : (b : Bool) → bytes_eq other name ≡ b → place_of names other ≡ None → b ≡ false
    none false e absent = refl
    none true e absent =
        let one : other ≡ name = (bytes_eq-Decides other name).0 e in
        absurd (let both : None ≡ Some number = sym absent ∙ ap (place_of names) one ∙ at in cc)

    at_number : (m : ℕ) (b : Bool) → nat_eq m number ≡ b → get_or new.numbers.items m false ≡ (get_or old.numbers.items m false || b)
    at_number m true e =
        let one : m ≡ number = eqb-true m number e in
        ap (λ (marks : List Bool). get_or marks m false) put
        ∙ ap (λ n. get_or (set old.numbers.items number true) n false) one
        ∙ get_or-set_same old.numbers.items number true false within
        ∙ or_true (get_or old.numbers.items m false)
    at_number m false e =
        ap (λ (marks : List Bool). get_or marks m false) put
        ∙ get_or-set_other old.numbers.items number m true false (λ one. no_two (nat_eq m number) (eq-eqb m number one) e _)
        ∙ sym (or_nothing (get_or old.numbers.items m false))

    by : (found : Option ℕ) → place_of names other ≡ found → mark_at new other found ≡ (mark_at old other found || bytes_eq other name)
    by None absent =
        ap (λ others. is_among others other) same
        ∙ sym (or_nothing (is_among old.others other))
        ∙ sym (ap (λ b. is_among old.others other || b) (none (bytes_eq other name) refl absent))
    by (Some m) found =
        at_number m (nat_eq m number) refl
        ∙ ap (λ b. get_or old.numbers.items m false || b) (same_place names name other number m at there found)

-- a name without number is marked
pub other_marked : (names : List Text) (old new : Marks) (name : Text) → None ≡ place_of names name → new.numbers.items ≡ old.numbers.items → new.others ≡ with_name old.others name
    → (other : Text) → is_marked names new other ≡ (is_marked names old other || bytes_eq other name)
other_marked names old new name at same put other = grind (arith, among_with, get_or, or_nothing, apart_none)

-- ---- names of a list

-- the remaining names are still to be marked
abbrev pub IsMarkedFrom : List Text → List Text → List Text → Marks → Marks → Type 0
IsMarkedFrom names all left old now = (name : Text) → (is_marked names now name || is_among left name) ≡ (is_marked names old name || is_among all name)

pub marked_start : (names all left : List Text) (marks : Marks) → left ≡ all → IsMarkedFrom names all left marks marks
marked_start names all left marks is = λ name. ap (λ (list : List Text). is_marked names marks name || is_among list name) is

-- some are marked, and then the others
pub marked_step : (names all left some rest : List Text) (old now new : Marks) → left ≡ some ++ rest
    → ((name : Text) → is_marked names new name ≡ (is_marked names now name || is_among some name))
    → IsMarkedFrom names all left old now → IsMarkedFrom names all rest old new
marked_step names all left some rest old now new is step before = grind (arith, or_assoc, list_any-append)

-- one name is
pub marked_one : (names all left rest : List Text) (one : Text) (old now new : Marks) → left ≡ one ∷ rest
    → ((name : Text) → is_marked names new name ≡ (is_marked names now name || bytes_eq name one))
    → IsMarkedFrom names all left old now → IsMarkedFrom names all rest old new
marked_one names all left rest one old now new is step before = grind (arith, marked_step, or_nothing)

pub marked_end : (names all left : List Text) (old now : Marks) → left ≡ [] → IsMarkedFrom names all left old now
    → (name : Text) → is_marked names now name ≡ (is_marked names old name || is_among all name)
marked_end names all left old now none before = grind (arith, or_nothing)

-- two lists, one after the other
pub marked_both : (names first second : List Text) (old now new : Marks)
    → ((name : Text) → is_marked names now name ≡ (is_marked names old name || is_among first name))
    → ((name : Text) → is_marked names new name ≡ (is_marked names now name || is_among second name))
    → (name : Text) → is_marked names new name ≡ (is_marked names old name || is_among (first ++ second) name)
marked_both names first second old now new one two = grind (arith, or_assoc, list_any-append)
