-- A name without a telling byte is accepted.
use Rattle.std.proofs.Common.{◌≡◌, ◌==◌, ◌-◌, ◌<◌, ◌≤◌, ℕ, false, [], ◌∷◌, length, drop, refl, arith, nat_eq}
use Rattle.kt_rules.proofs.Common.{ne_eqb, or_parts, pointwise, list_any, starts_with, Text, differ_turned, is_member, is_refused_name, is_wildcard}
use Rattle.std.proofs.Math.Bool.{or-false}
use Rattle.kt_rules.proofs.lemmas.line.BackslashLemmas.{quotes_no_percent}
use Rattle.kt_rules.proofs.lemmas.line.NoneLemmas.{none_left, none_of_fewer}
use Rattle.kt_rules.specs.inner.Telling.{is_telling, tells_early}

-- a byte that isn't a telling byte is none of them
pub record IsNoneOf (byte : ℕ) : Type 0 where
  wildcard : is_wildcard byte ≡ false
  pub backslash : (byte == 92) ≡ false
  tilde : (byte == 126) ≡ false
  closing : (byte == 41) ≡ false

pub none_of : (byte : ℕ) → is_telling byte ≡ false → IsNoneOf byte
none_of byte none = grind (arith, or_parts)

below : (byte other : ℕ) → other < byte → (byte == other) ≡ false
below byte other low = ne_eqb byte other (λ e. absurd (omega (arith, e, low)))

-- above the backslash only the tilde is a telling byte
pub last_tells : (byte : ℕ) → 92 < byte → (byte == 126) ≡ is_telling byte
unfolding is_wildcard
last_tells byte high = grind (arith, below)

-- up to the backslash all telling bytes are the others
pub others_tell : (byte : ℕ) → byte ≤ 92 → tells_early byte ≡ is_telling byte
others_tell byte within = grind (arith, ne_eqb, or-false)

-- a text without a byte doesn't begin with it
begins_otherwise : (byte : ℕ) (text : Text) → list_any (λ b. b == byte) text ≡ false → pointwise nat_eq (byte ∷ []) text ≡ false
begins_otherwise byte text none = grind (arith, differ_turned, or_parts)

tilde_first : (text : Text) → list_any (λ b. b == 126) text ≡ false → starts_with nat_eq text (126 ∷ []) ≡ false
tilde_first text none = grind (arith, differ_turned, or_parts)

no_member : (text : Text) → list_any (λ b. b == 41) text ≡ false → is_member text ≡ false
unfolding is_member
no_member text none = rw (begins_otherwise 41 (drop (length text - 1) text) (none_left (λ b. b == 41) (length text - 1) text none)) refl

pub plain_name_taken : (name : Text) → list_any is_telling name ≡ false → is_refused_name name ≡ false
unfolding is_refused_name
plain_name_taken name none = grind (arith, none_of_fewer, none_of, quotes_no_percent, tilde_first, no_member)
