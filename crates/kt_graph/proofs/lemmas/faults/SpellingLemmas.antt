-- Names that are the canonical spelling of their file.
use Rattle.std.proofs.Common.{◌≡◌, ℕ, ◌+◌, ◌==◌, ◌&&◌, Bool, true, false, fold, take, drop, List, [], ◌∷◌, ◌++◌, reverse, Some, None, refl, sym, ap, ◌∙◌, arith}
use Rattle.kt_graph.proofs.Common.{join_with_byte, slice_split, list_all, position_or_len, eqb-true, false≢true, false_from_ne_true, All-from_get_or, append-nil, append_assoc, reverse-append, IsFirstByte, is_byte, and_first, and_second, Text, first_byte_place, canon_of, components_of, is_rooted, with_part}
use Rattle.std.proofs.lemmas.List.Splits.{join_with_byte-slice_split, slice_split_first, slice_split_none}
use Rattle.kt_graph.specs.inner.faults.Files.{has_names_only, is_proper_component}

abbrev is_slash : ℕ → Bool
is_slash byte = byte == 47

-- names go after the components before them
put_name : (rooted : Bool) (parts : List Text) (part : Text) → is_proper_component part ≡ true → with_part rooted parts part ≡ part ∷ parts
put_name rooted parts part h = grind (arith, false≢true)

put_names : (rooted : Bool) (front parts : List Text) → list_all is_proper_component parts ≡ true → reverse (fold (with_part rooted) front parts) ≡ reverse front ++ parts
put_names rooted front [] h = sym (append-nil (reverse front))
put_names rooted front (part ∷ parts) h =
    ap (λ begun. reverse (fold (with_part rooted) begun parts)) (put_name rooted front part (and_first _ _ h))
    ∙ put_names rooted (part ∷ front) parts (and_second _ _ h)
    ∙ ap (λ begun. begun ++ parts) (reverse-cons part front)
    ∙ append_assoc (reverse front) (part ∷ []) parts
  where
    reverse-cons : (part : Text) (front : List Text) → reverse (part ∷ front) ≡ reverse front ++ part ∷ []
    reverse-cons part front = reverse-append (part ∷ []) front

-- a name with plain components only is the canonical spelling of its file
pub spelled_plainly : (name : Text) → is_rooted name ≡ false → has_names_only name ≡ true → canon_of name ≡ name
unfolding canon_of components_of has_names_only
spelled_plainly name plain h =
    rw plain (ap (join_with_byte 47) (put_names false [] (slice_split is_slash name) h) ∙ join_with_byte-slice_split 47 name)

pub spelled_from_root : (name below : Text) → name ≡ 47 ∷ below → has_names_only below ≡ true → canon_of name ≡ name
unfolding canon_of components_of has_names_only
spelled_from_root name below is h =
    rw is (ap (λ parts. 47 ∷ join_with_byte 47 parts) (put_names true [] (slice_split is_slash below) h)
    ∙ ap (λ text. 47 ∷ text) (join_with_byte-slice_split 47 below))

-- the first component, by the place of the first slash
pub cut_at_slash : (text : Text) (slash : ℕ) → IsFirstByte (is_byte 47) text (Some slash)
    → has_names_only text ≡ (is_proper_component (take slash text) && has_names_only (drop (slash + 1) text))
unfolding has_names_only
cut_at_slash text slash found =
    let same : slash ≡ position_or_len is_slash text = first_byte_place is_slash text (Some slash) found in
    ap (list_all is_proper_component) (slice_split_first is_slash text 0 (omega (arith, same, found.0.high)))
    ∙ ap (λ place. is_proper_component (take place text) && list_all is_proper_component (slice_split is_slash (drop (place + 1) text))) (sym same)

pub no_slash : (text : Text) → IsFirstByte (is_byte 47) text None → has_names_only text ≡ is_proper_component text
unfolding has_names_only
no_slash text found =
    ap (list_all is_proper_component) (slice_split_none is_slash text (All-from_get_or (λ byte. is_slash byte ≡ false) text 0 (λ k l. false_from_ne_true _ (found k (omega arith) l)))) ∙ and_true (is_proper_component text)
  where
    and_true : (b : Bool) → (b && true) ≡ b
    and_true true = refl
    and_true false = refl

-- a name under the root, and one without it
pub rooted_spelling : (name : Text) → is_rooted name ≡ true → has_names_only (drop 1 name) ≡ true → canon_of name ≡ name
rooted_spelling name rooted h = grind (arith, false≢true, spelled_from_root, eqb-true)
