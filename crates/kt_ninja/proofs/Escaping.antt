-- A text with escapes, cut at its first special byte.
use Rattle.std.proofs.Common.{◌≡◌, ◌<◌, ℕ, zero, suc, ◌+◌, List, [], ◌∷◌, ◌++◌, take, drop, length, refl, ap, ◌∙◌, arith, add-one, Bool, true, slice_index, codes, if◌then◌else◌}
use Rattle.kt_ninja.proofs.Common.{Nowhere, NoneBefore, Passes, escaped}

-- what one byte becomes
abbrev one : Bool → ℕ → List ℕ
one special b = if special then codes "$" ++ b ∷ [] else b ∷ []

one_plain : (special : Bool) (b : ℕ) → (special ≡ true → ⊥) → one special b ≡ b ∷ []
one_plain special b plain = grind arith

later : (test : ℕ → Bool) (b : ℕ) (bs : List ℕ) (k : ℕ) → Nowhere (Passes test (b ∷ bs)) 0 (suc k) → Nowhere (Passes test bs) 0 k
later test b bs k none j low below = none (suc j) (omega arith) (omega arith)

pub escaped-none : (test : ℕ → Bool) (bs : List ℕ) → Nowhere (Passes test bs) 0 (length bs) → escaped test bs ≡ bs
escaped-none test [] none = refl
escaped-none test (b ∷ bs) none =
    ap (λ t. t ++ escaped test bs) (one_plain (test b) b (none 0 (omega arith) (omega arith)))
    ∙ ap (λ t. b ∷ t) (escaped-none test bs (later test b bs (length bs) none))

first_at : (test : ℕ → Bool) (bs : List ℕ) (k : ℕ) → k < length bs → Nowhere (Passes test bs) 0 k → test (slice_index bs k) ≡ true
    → escaped test bs ≡ take k bs ++ (36 ∷ slice_index bs k ∷ escaped test (drop (suc k) bs))
first_at test [] k within none here = absurd (omega arith)
first_at test (b ∷ bs) zero within none here = ap (λ s. one s b ++ escaped test bs) here
first_at test (b ∷ bs) (suc k) within none here =
    ap (λ t. t ++ escaped test bs) (one_plain (test b) b (none 0 (omega arith) (omega arith)))
    ∙ ap (λ t. b ∷ t) (first_at test bs k (omega arith) (later test b bs k none) here)

-- the plain bytes before the first special one, that one after a dollar, and the escaped text of the rest
pub escaped-first : (test : ℕ → Bool) (bs : List ℕ) (k : ℕ) (rest : List ℕ) → NoneBefore (Passes test bs) 0 (length bs) k × Passes test bs k
    → rest ≡ drop (k + 1) bs → escaped test bs ≡ take k bs ++ ((36 ∷ slice_index bs k ∷ []) ++ escaped test rest)
escaped-first test bs k rest first is = grind (arith, first_at, take, add-one)
