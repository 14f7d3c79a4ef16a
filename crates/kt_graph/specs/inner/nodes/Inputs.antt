-- Numbers, each once, and the inputs of parts as the code finds them (kati's own).
use Rattle.std.specs.Prelude.{◌≡◌, ℕ, ◌+◌, Bool, true, not, ◌&&◌, nat_eq, nat_lt, List, [], ◌∷◌, ◌++◌, filter, flat_map}
use Rattle.std.specs.Prelude.{fold, get_or, if◌then◌else◌}
use Rattle.std.specs.List.{IsDistinct, list_all, list_any}
use Rattle.kt_graph.specs.declared.nodes.stored.HeldPart.{HeldPart}

-- numbers with one more at the end, unless they have it already
abbrev pub with_input_number : List ℕ → ℕ → List ℕ
with_input_number numbers number = if list_any (nat_eq number) numbers then numbers else numbers ++ number ∷ []

-- the numbers that aren't among others
abbrev pub numbers_without : List ℕ → List ℕ → List ℕ
numbers_without others numbers = filter (λ number. not (list_any (nat_eq number) others)) numbers

-- the first number is greater than a given one, and each other number than the one before it
unfoldable pub rise_after : ℕ → List ℕ → Bool
rise_after last [] = true
rise_after last (number ∷ numbers) = nat_lt last number && rise_after number numbers

-- each number is greater than the one before it
unfoldable pub rise : List ℕ → Bool
rise [] = true
rise (first ∷ numbers) = rise_after first numbers

-- the first number is greater than all others, and each of these than the one before it
unfoldable pub rise_but_first : List ℕ → Bool
rise_but_first [] = true
rise_but_first (first ∷ numbers) = rise numbers && list_all (λ number. nat_lt number first) numbers

-- no number is among those after it
unfoldable pub differ : List ℕ → Bool
differ [] = true
differ (first ∷ numbers) = not (list_any (nat_eq first) numbers) && differ numbers

-- ---- from the rows of parts

abbrev pub inputs_held : List (List ℕ) → List HeldPart → List ℕ
inputs_held rows parts = fold with_input_number [] (flat_map (λ part. get_or rows part.needs []) parts)

abbrev pub others_held : List (List ℕ) → List HeldPart → List ℕ
others_held rows parts = flat_map (λ part. get_or rows (part.needs + 1) []) parts

-- the prerequisites of a part are the inputs of a node without other parts: none is repeated, and none is order-only
pub record HasOwnInputs (rows : List (List ℕ)) (part : HeldPart) : Type 0 where
  pub distinct : IsDistinct nat_eq (get_or rows part.needs [])
  pub none : get_or rows (part.needs + 1) [] ≡ []
