-- Texts without their comments, one symbol at a time.
use Rattle.std.proofs.Common.{◌≡◌, ◌<◌, ◌+◌, ◌/◌, ◌%◌, ◌==◌, ℕ, false, List, [], ◌∷◌, ◌++◌, length, get_or, drop, refl, ap, ◌∙◌, arith, append_assoc}
use Rattle.kt_syntax.proofs.Common.{eq-eqb, false_from_ne_true, eqb-true, drop_more, append-nil, Text, backslashes, uncommented}

not_equal : (a b : ℕ) → (a ≡ b → ⊥) → (a == b) ≡ false
not_equal a b h = false_from_ne_true (a == b) (λ e. h (eqb-true a b e))

at_place : (text : Text) (run symbol place : ℕ) (mask : List ℕ) → place < length text
    → uncommented run (symbol ∷ mask) (drop place text) ≡ uncommented run (symbol ∷ mask) (get_or text place 0 ∷ drop (place + 1) text)
at_place text run symbol place mask h = ap (uncommented run (symbol ∷ mask)) (drop_more text place 0 h)

-- where a symbol is the next one, its byte stands in the text, and what is to come is the same
pub at_symbol : (text plain whole : Text) (run symbol place : ℕ) (left mask : List ℕ) → left ≡ symbol ∷ mask → place + length left ≡ length text
    → plain ++ uncommented run left (drop place text) ≡ whole → (place < length text) × (plain ++ uncommented run (symbol ∷ mask) (drop place text) ≡ whole)
at_symbol text plain whole run symbol place left mask steps size value = grind (arith, length)

-- a backslash
pub uncommented-backslash : (text : Text) (run symbol place : ℕ) (mask : List ℕ) → place < length text → symbol ≡ 92
    → uncommented run (symbol ∷ mask) (drop place text) ≡ uncommented (run + 1) mask (drop (place + 1) text)
unfolding uncommented
uncommented-backslash text run symbol place mask h e = at_place text run symbol place mask h ∙ rw (eq-eqb symbol 92 e) refl

-- a number sign after an odd run
pub uncommented-literal : (text plain : Text) (run symbol place : ℕ) (mask : List ℕ) → place < length text → (symbol ≡ 92 → ⊥) → symbol ≡ 35 → run % 2 ≡ 1
    → plain ++ uncommented run (symbol ∷ mask) (drop place text) ≡ ((plain ++ backslashes (run / 2)) ++ 35 ∷ []) ++ uncommented 0 mask (drop (place + 1) text)
unfolding uncommented
uncommented-literal text plain run symbol place mask h n e odd = grind (arith, at_place, not_equal, eq-eqb, append_assoc)

-- the begin of the comment
pub uncommented-comment : (text plain : Text) (run symbol place : ℕ) (mask : List ℕ) → place < length text → (symbol ≡ 92 → ⊥) → symbol ≡ 35 → run % 2 ≡ 0
    → plain ++ uncommented run (symbol ∷ mask) (drop place text) ≡ plain ++ backslashes (run / 2)
unfolding uncommented
uncommented-comment text plain run symbol place mask h n e even = grind (arith, at_place, not_equal, eq-eqb, append-nil)

-- any other byte
pub uncommented-other : (text plain : Text) (run symbol place : ℕ) (mask : List ℕ) → place < length text → (symbol ≡ 92 → ⊥) → (symbol ≡ 35 → ⊥)
    → plain ++ uncommented run (symbol ∷ mask) (drop place text) ≡ ((plain ++ backslashes run) ++ get_or text place 0 ∷ []) ++ uncommented 0 mask (drop (place + 1) text)
unfolding uncommented
uncommented-other text plain run symbol place mask h n o = grind (arith, at_place, not_equal, append_assoc, get_or)

pub uncommented-nil : (run : ℕ) (text : Text) → uncommented run [] text ≡ backslashes run
unfolding uncommented
uncommented-nil run text = refl
