-- A text without the keyword that it begins with.
use Rattle.std.proofs.Common.{arith, ◌≡◌, ℕ, ◌+◌, List, length, take, drop, true, false, nat_eq, Option, MatchOption}
use Rattle.kt_ninja_reader.proofs.Common.{Bor, starts_with, pointwise}
use Rattle.std.proofs.lemmas.Cmp.{nat_list_eq_equiv}

either_way : (text keyword : List ℕ) → starts_with nat_eq text keyword ≡ pointwise nat_eq (take (length keyword) text) keyword
either_way text keyword = nat_list_eq_equiv.symm keyword (take (length keyword) text)

pub stripped : (text keyword : List ℕ) (r : Option (Bor (List ℕ)))
    → MatchOption r (pointwise nat_eq (take (length keyword) text) keyword ≡ false)
    (λ x. (pointwise nat_eq (take (length keyword) text) keyword ≡ true) × (x.now ≡ drop (length keyword) text)
    × (length x.now + length keyword ≡ length text))
    → MatchOption r (starts_with nat_eq text keyword ≡ false)
    (λ rest. (starts_with nat_eq text keyword ≡ true) × (rest.now ≡ drop (length keyword) text))
stripped text keyword r none = grind (arith, either_way)
