-- Numbers of names.
use Rattle.std.proofs.Common.{◌≡◌, ℕ, zero, suc, ◌<◌, List, [], ◌∷◌, ◌++◌, length, map, Option, Some, slice_get, unwrap_or, refl, ap, sym, ◌∙◌, arith}
use Rattle.std.proofs.lemmas.List.{map-append}
use Rattle.std.proofs.lemmas.List.Elements.{All-cons, All-nil}
use Rattle.std.proofs.lemmas.Option.{slice_get_within}
use Rattle.kt_list.specs.views.Names.{AreBelow, AreNumbersOf, name_at, names_at}
use Rattle.kt_list.specs.views.Prefixes.{HasMore}
use Rattle.kt_list.proofs.PrefixLemmas.{slice_get-left}

-- a longer table says the same of a number
pub number_stays : (names new : List (List ℕ)) (number : ℕ) (name : List ℕ) → HasMore names new → slice_get names number ≡ Some name
    → slice_get new number ≡ Some name
number_stays names new number name more at = ap (λ (all : List (List ℕ)). slice_get all number) more.1 ∙ slice_get-left names more.0 number name at

pub numbers_stay : (names new : List (List ℕ)) (numbers : List ℕ) (list : List (List ℕ)) → HasMore names new → AreNumbersOf names numbers list
    → AreNumbersOf new numbers list
numbers_stay names new [] list more are = are
numbers_stay names new (number ∷ numbers) [] more are = cc
numbers_stay names new (number ∷ numbers) (name ∷ list) more are =
    let first : slice_get names number ≡ Some name = cc in
    let rest : AreNumbersOf names numbers list = cc in
    let e = number_stays names new number name more first in
    let es = numbers_stay names new numbers list more rest in
    cc

-- a number of a name tells it
pub named_at : (names : List (List ℕ)) (number : ℕ) → number < length names → slice_get names number ≡ Some (name_at names number)
named_at [] number h = absurd (omega arith)
named_at (name ∷ names) zero h = refl
named_at (name ∷ names) (suc number) h = named_at names number (omega arith)

-- the names with the numbers of names are these
pub name_read : (names : List (List ℕ)) (number : ℕ) (name : List ℕ) → slice_get names number ≡ Some name → name_at names number ≡ name
name_read names number name at = ap (λ (o : Option (List ℕ)). unwrap_or o []) at

pub names_read : (names : List (List ℕ)) (numbers : List ℕ) (list : List (List ℕ)) → AreNumbersOf names numbers list → names_at names numbers ≡ list
names_read names [] [] are = refl
names_read names [] (name ∷ list) are = cc
names_read names (number ∷ numbers) [] are = cc
names_read names (number ∷ numbers) (name ∷ list) are =
    let first : slice_get names number ≡ Some name = cc in
    let rest : AreNumbersOf names numbers list = cc in
    let e = name_read names number name first in
    let es = names_read names numbers list rest in
    cc

pub numbers_below : (names : List (List ℕ)) (numbers : List ℕ) (list : List (List ℕ)) → AreNumbersOf names numbers list → AreBelow (length names) numbers
numbers_below names [] list are = All-nil (λ number. number < length names)
numbers_below names (number ∷ numbers) [] are = cc
numbers_below names (number ∷ numbers) (name ∷ list) are =
    let first : slice_get names number ≡ Some name = cc in
    let rest : AreNumbersOf names numbers list = cc in
    All-cons (λ n. n < length names) number numbers (slice_get_within names number name first) (numbers_below names numbers list rest)

-- one more number at the end
pub numbers_push : (names new : List (List ℕ)) (numbers : List ℕ) (list : List (List ℕ)) (number : ℕ) (name : List ℕ) → HasMore names new
    → AreNumbersOf names numbers list → slice_get new number ≡ Some name → AreNumbersOf new (numbers ++ number ∷ []) (list ++ name ∷ [])
numbers_push names new numbers list number name more are at =
    map-append (slice_get new) numbers (number ∷ []) ∙ ap (λ (o : Option (List ℕ)). map (slice_get new) numbers ++ o ∷ []) at
    ∙ ap (λ (l : List (Option (List ℕ))). l ++ Some name ∷ []) (numbers_stay names new numbers list more are)
    ∙ sym (map-append Some list (name ∷ []))
