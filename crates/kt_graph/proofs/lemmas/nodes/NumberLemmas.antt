-- Numbers for names: what holds of numbers stays when more names are reached.
use Rattle.std.proofs.Common.{◌≡◌, ℕ, false, ◌+◌, ◌<◌, ◌≤◌, List, [], ◌∷◌, ◌++◌, length, map, fold, take, get_or, Some, slice_get, refl, sym, ap, subst, ◌∙◌, arith}
use Rattle.kt_graph.proofs.Common.{flat_map, append-nil, append_assoc, map-append, take_more, flat_map-append, fold-append, Text, Needs, is_among, with_name, Part, StoredPart, AddsNumbers, AreNumbersOf, HasMore, numbers_push, numbers_stay, SaysNeeds, SaysPart, SayParts}
use Rattle.kt_rules.proofs.lemmas.book.FindLemmas.{names_grow}

-- no name is among none
pub none_among : (names : List Text) (name : Text) → length names ≤ 0 → is_among names name ≡ false
none_among [] name h = refl
none_among (first ∷ names) name h = absurd (omega arith)

-- ---- names that grow

-- numbers keep their names when more are reached
pub stand_kept : (names needed expected : List Text) (numbers : List ℕ) → AreNumbersOf names numbers expected
    → AreNumbersOf (fold with_name names needed) numbers expected
stand_kept names needed expected numbers h = numbers_stay names (fold with_name names needed) numbers expected (names_grow names needed) h

-- one more number after others
pub stand_more : (names new earlier : List Text) (name : Text) (numbers : List ℕ) (number : ℕ) → new ≡ with_name names name → slice_get new number ≡ Some name
    → AreNumbersOf names numbers earlier → AreNumbersOf new (numbers ++ number ∷ []) (earlier ++ name ∷ [])
stand_more names new earlier name numbers number grown at h =
    numbers_push names new numbers earlier number name (subst (λ l. HasMore names l) (sym grown) (names_grow names (name ∷ []))) h at

-- ---- parts

needs_kept : (names needed : List Text) (expected : Needs) (first second : List ℕ) → SaysNeeds names expected first second
    → SaysNeeds (fold with_name names needed) expected first second
needs_kept names needed expected first second h = record {
  prerequisites = stand_kept names needed expected.prerequisites first h.prerequisites;
  order_only = stand_kept names needed expected.order_only second h.order_only;
}

part_kept : (names needed : List Text) (name : Text) (expected : Part) (part : StoredPart) → SaysPart names name expected part
    → SaysPart (fold with_name names needed) name expected part
part_kept names needed name expected part h = record {
  recipe = h.recipe;
  stem = h.stem;
  needs = needs_kept names needed expected.needs part.prerequisites part.order_only h.needs;
}

-- parts stay the same when more names are reached
pub parts_kept : (names needed : List Text) (name : Text) (expected : List Part) (parts : List StoredPart) → SayParts names name expected parts
    → SayParts (fold with_name names needed) name expected parts
parts_kept names needed name [] [] h = h
parts_kept names needed name [] (part ∷ parts) h = absurd h
parts_kept names needed name (one ∷ expected) [] h = absurd h
parts_kept names needed name (one ∷ expected) (part ∷ parts) h =
    (part_kept names needed name one part h.0, parts_kept names needed name expected parts h.1)

parts_push : (names : List Text) (name : Text) (expected : List Part) (parts : List StoredPart) (one : Part) (part : StoredPart) → SayParts names name expected parts
    → SaysPart names name one part → SayParts names name (expected ++ one ∷ []) (parts ++ part ∷ [])
parts_push names name [] [] one part h last = (last, h)
parts_push names name [] (other ∷ parts) one part h last = absurd h
parts_push names name (first ∷ expected) [] one part h last = absurd h
parts_push names name (first ∷ expected) (other ∷ parts) one part h last = (h.0, parts_push names name expected parts one part h.1 last)

-- one more part after others
pub parts_more : (names new needed : List Text) (name : Text) (expected : List Part) (parts : List StoredPart) (one : Part) (part : StoredPart) → new ≡ fold with_name names needed
    → SayParts names name expected parts → SaysPart new name one part → SayParts new name (expected ++ one ∷ []) (parts ++ part ∷ [])
parts_more names new needed name expected parts one part grown h last =
    parts_push new name expected parts one part (subst (λ l. SayParts l name expected parts) (sym grown) (parts_kept names needed name expected parts h)) last

-- ---- steps

pub adds_none : (names : List Text) (numbers : List ℕ) → AddsNumbers names numbers [] names numbers
adds_none names numbers = record { reached = refl; say = λ earlier h. subst (λ l. AreNumbersOf names numbers l) (sym (append-nil earlier)) h }

pub adds_after : (names middle new first second : List Text) (numbers some more : List ℕ) → AddsNumbers names numbers first middle some → AddsNumbers middle some second new more
    → AddsNumbers names numbers (first ++ second) new more
adds_after names middle new first second numbers some more one other = grind (arith, fold-append, append_assoc)

-- the numbers of the names before the remaining ones
abbrev pub AddsUpTo : List Text → List ℕ → List Text → List Text → List Text → List ℕ → Type 0
AddsUpTo names numbers all left new more = (done : List Text) × (done ++ left ≡ all) × AddsNumbers names numbers done new more

pub added_more : (names middle new all left rest : List Text) (name : Text) (numbers some more : List ℕ) (number : ℕ) → left ≡ name ∷ rest
    → new ≡ with_name middle name → slice_get new number ≡ Some name → more ≡ some ++ number ∷ []
    → AddsUpTo names numbers all left middle some → AddsUpTo names numbers all rest new more
added_more names middle new all left rest name numbers some more number is grown put pushed h = (
  h.0 ++ name ∷ [],
  append_assoc h.0 (name ∷ []) rest ∙ sym (ap (λ l. h.0 ++ l) is) ∙ h.1,
  adds_after names middle new h.0 (name ∷ []) numbers some more h.2 (record {
    reached = grown;
    say = λ earlier stand.
        subst (λ l. AreNumbersOf new l (earlier ++ name ∷ [])) (sym pushed) (stand_more middle new earlier name some number grown put stand);
  }),
)

pub added_all : (names new all left : List Text) (numbers more : List ℕ) → left ≡ [] → AddsUpTo names numbers all left new more → AddsNumbers names numbers all new more
added_all names new all left numbers more none h = grind (arith, append-nil)

-- what the elements up to a place and one more give
pub taken_more : {A B : Type 0} (f : B → List Text) (g : A → B) (xs : List A) (i : ℕ) (x : A) → i < length xs → x ≡ get_or xs i x
    → flat_map f (map g (take (i + 1) xs)) ≡ flat_map f (map g (take i xs)) ++ f (g x)
taken_more {A} f g xs i x h at =
    ap (λ (l : List A). flat_map f (map g l)) (take_more xs i x h)
    ∙ ap (λ y. flat_map f (map g (take i xs ++ y ∷ []))) (sym at)
    ∙ ap (flat_map f) (map-append g (take i xs) (x ∷ []))
    ∙ flat_map-append f (map g (take i xs)) (g x ∷ [])
    ∙ ap (λ l. flat_map f (map g (take i xs)) ++ l) (append-nil (f (g x)))

-- ---- prerequisites of both sorts

pub both_said : (names middle new first second : List Text) (none also some numbers : List ℕ) → none ≡ [] → also ≡ [] → AddsNumbers names none first middle some
    → AddsNumbers middle also second new numbers → SaysNeeds new (record { prerequisites = first; order_only = second }) some numbers
both_said names middle new first second none also some numbers empty empty_too one other = record {
  prerequisites = subst (λ l. AreNumbersOf l some first) (sym other.reached) (stand_kept middle second first some (one.say [] (ap (map (slice_get names)) empty)));
  order_only = other.say [] (ap (map (slice_get middle)) empty_too);
}

pub both_reached : (names middle new first second : List Text) (none more some numbers : List ℕ) → AddsNumbers names none first middle some
    → AddsNumbers middle more second new numbers → new ≡ fold with_name names (first ++ second)
both_reached names middle new first second none more some numbers one other = grind (arith, fold-append)
