-- Names without leading `./`.
use Rattle.std.proofs.Common.{arith, ◌≡◌, ℕ, ◌-◌, Bool, true, false, [], ◌∷◌, length, drop, take, refl, sym, ◌∙◌, ⊎_elim, ◌&&◌, ◌==◌, nat_eq}
use Rattle.kt_rules.proofs.Common.{prefix_len, pointwise, cases_Bool, false≢true, take_rest, and_nothing, drop-prefix_len, Text, after_dots}

-- a last test that passes changes nothing
both : (a b v : Bool) → (a && (b && true)) ≡ v → (a && b) ≡ v
both a b v h = grind arith

-- a name that doesn't begin with `./` stays
pub no_dots : (name : Text) → pointwise nat_eq (take 2 name) (46 ∷ 47 ∷ []) ≡ false → after_dots false name ≡ name
unfolding after_dots
no_dots name h = grind (arith, both)

-- a leading `./` is removed with the slashes after it
pub one_dot : (name : Text) → pointwise nat_eq (take 2 name) (46 ∷ 47 ∷ []) ≡ true → after_dots false name ≡ after_dots true (drop 2 name)
unfolding after_dots
one_dot [] h = absurd (false≢true h)
one_dot (byte ∷ []) h = absurd (false≢true (sym (and_nothing (byte == 46)) ∙ h))
one_dot (byte ∷ next ∷ text) h = rw (both (byte == 46) (next == 47) true h) refl

-- leading slashes are removed
pub no_slashes : (text : Text) → after_dots true text ≡ after_dots false (drop (prefix_len (λ byte. byte == 47) text) text)
unfolding after_dots
no_slashes [] = refl
no_slashes (byte ∷ []) = ⊎_elim (λ h. rw h refl) (λ h. rw h refl) (cases_Bool (byte == 47))
no_slashes (byte ∷ next ∷ text) =
    ⊎_elim (λ h. rw (drop-prefix_len (λ b. b == 47) byte (next ∷ text) h) (rw h (no_slashes (next ∷ text)))) (λ h. rw h refl) (cases_Bool (byte == 47))

-- a leading `./` is removed with the slashes after it, however many there are
pub past_slashes : (name after : Text) (slashes : ℕ) → pointwise nat_eq (take 2 name) (46 ∷ 47 ∷ []) ≡ true → after ≡ drop 2 name
    → slashes ≡ prefix_len (λ byte. byte == 47) after → after_dots false name ≡ after_dots false (take (length after - slashes) (drop slashes after))
past_slashes name after slashes h a s = grind (arith, one_dot, no_slashes, take_rest)
