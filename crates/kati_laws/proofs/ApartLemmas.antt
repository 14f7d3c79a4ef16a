-- The lines identify the names.
use Rattle.std.proofs.Common.{eqb, ◌≡◌, ℕ, Bool, true, false, List, [], ◌∷◌, ◌++◌, refl, sym, ap, ◌∙◌, append_assoc}
use Rattle.kati.proofs.Common.{list_any, eq-eqb, or_parts, true≢false, Text}
use Rattle.kati_laws.specs.Names.{LinesTellNames, has_newline}
use Rattle.kati.specs.Names.{name_lines}

abbrev first_of : List ℕ → ℕ
first_of [] = 0
first_of (x ∷ xs) = x

abbrev rest_of : List ℕ → List ℕ
rest_of [] = []
rest_of (x ∷ xs) = xs

abbrev is_empty : List ℕ → Bool
is_empty [] = true
is_empty (x ∷ xs) = false

-- a byte can't be a newline and not be one
not_both : {A : Type 0} (byte : ℕ) → byte ≡ 10 → eqb byte 10 ≡ false → A
not_both byte is isnt = absurd (true≢false (sym (eq-eqb byte 10 is) ∙ isnt))

-- the first newline ends the first name
cut_alike : (one other one_rest other_rest : Text) → has_newline one ≡ false → has_newline other ≡ false
    → one ++ 10 ∷ one_rest ≡ other ++ 10 ∷ other_rest → (one ≡ other) × (one_rest ≡ other_rest)
cut_alike [] [] one_rest other_rest h k e = (refl, ap rest_of e)
cut_alike [] (b ∷ other) one_rest other_rest h k e = not_both b (sym (ap first_of e)) (or_parts (eqb b 10) (has_newline other) k).0
cut_alike (a ∷ one) [] one_rest other_rest h k e = not_both a (ap first_of e) (or_parts (eqb a 10) (has_newline one) h).0
cut_alike (a ∷ one) (b ∷ other) one_rest other_rest h k e =
    let cut : (one ≡ other) × (one_rest ≡ other_rest)
    = cut_alike one other one_rest other_rest (or_parts (eqb a 10) (has_newline one) h).1 (or_parts (eqb b 10) (has_newline other) k).1
    (ap rest_of e) in
    let first : a ≡ b = ap first_of e in
    (rw (first, cut.0) refl, cut.1)

-- no name is written as an empty text
never_none : {A : Type 0} (name : Text) (names : List Text) → name_lines (name ∷ names) ≡ [] → A
never_none [] names e = absurd (true≢false (sym (ap is_empty e)))
never_none (byte ∷ name) names e = absurd (true≢false (sym (ap is_empty e)))

pub lines_tell_names : LinesTellNames
lines_tell_names [] [] h k e = refl
lines_tell_names [] (n ∷ ns) h k e = never_none n ns (sym e)
lines_tell_names (n ∷ ns) [] h k e = never_none n ns e
lines_tell_names (n ∷ ns) (m ∷ ms) h k e =
    let ours : (has_newline n ≡ false) × (list_any has_newline ns ≡ false) = or_parts (has_newline n) (list_any has_newline ns) h in
    let theirs : (has_newline m ≡ false) × (list_any has_newline ms ≡ false) = or_parts (has_newline m) (list_any has_newline ms) k in
    let cut : (n ≡ m) × (name_lines ns ≡ name_lines ms)
    = cut_alike n m (name_lines ns) (name_lines ms) ours.0 theirs.0
    (sym (append_assoc n (10 ∷ []) (name_lines ns)) ∙ e ∙ append_assoc m (10 ∷ []) (name_lines ms)) in
    let more : ns ≡ ms = lines_tell_names ns ms ours.1 theirs.1 cut.1 in
    rw (cut.0, more) refl
