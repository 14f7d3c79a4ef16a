-- Whether all bytes pass, by the place of the first that doesn't.
use Rattle.std.proofs.Common.{◌≡◌, ℕ, suc, List, [], ◌∷◌, length, refl, arith, Option, is_none, Bool, true, not}
use Rattle.kt_ninja.proofs.Common.{list_all, and_from, false_from_ne_true, not_from_false, list_all_at, IsFirstByte, Nowhere, Passes}

all_fail : (test : ℕ → Bool) (bs : List ℕ) → Nowhere (Passes test bs) 0 (length bs) → list_all (λ b. not (test b)) bs ≡ true
all_fail test [] none = refl
all_fail test (b ∷ bs) none =
    and_from (not (test b)) (list_all (λ c. not (test c)) bs) (not_from_false (test b) (false_from_ne_true (test b) (none 0 (omega arith) (omega arith))))
    (all_fail test bs (λ k low below. none (suc k) (omega arith) (omega arith)))

pub none_found : (test : ℕ → Bool) (bs : List ℕ) (r : Option ℕ) → IsFirstByte test bs r → is_none r ≡ list_all (λ b. not (test b)) bs
none_found test bs r none = grind (arith, all_fail, list_all_at, not)
