-- The components of a name, the last of them first, and the name that they spell.
use Rattle.std.proofs.Common.{◌≡◌, ◌-◌, ◌≤◌, ◌==◌, Bool, true, not, if◌then◌else◌, fold, get_or, take, drop, List, [], ◌∷◌, ◌++◌, length, map, reverse, flat_map, Option, sym, ap, ◌∙◌, arith, MatchOption}
use Rattle.kt_graph.proofs.Common.{Bor, join_with_byte, slice_split, option_to_list, bytes_eq, false≢true, append-nil, map-append, reverse-append, nil_from_length, reverse-reverse, take_rest, Text, above_name, canon_of, ends_in_name, is_rooted, components_of, step_up, with_part}

-- components as they are held
abbrev pub told : List (Bor Text) → List Text
told parts = map (λ (part : Bor Text). part.now) parts

last_first : (front : List (Bor Text)) (last : Bor Text) → reverse (told (front ++ last ∷ [])) ≡ last.now ∷ reverse (told front)
last_first front last = ap reverse (map-append (λ (part : Bor Text). part.now) front (last ∷ [])) ∙ reverse-append (told front) (last.now ∷ [])

pub name_taken : (rooted : Bool) (last : Text) (parts : List Text) → not (bytes_eq last above_name) ≡ true → step_up rooted (last ∷ parts) ≡ parts
name_taken rooted last parts h = grind (arith, false≢true)

-- `..` removes a name
pub taken_up : (rooted : Bool) (old new : List (Bor Text)) (popped : Option (Bor Text)) → ends_in_name (reverse (told old)) ≡ true
    → old ≡ new ++ option_to_list popped → MatchOption popped (length old ≡ 0) (λ _. Unit {0})
    → reverse (told new) ≡ step_up rooted (reverse (told old))
taken_up rooted old new popped ends cut none = grind (arith, nil_from_length, false≢true, reverse, last_first, name_taken)

-- components with slashes between them
pub joined_after : (first : Text) (after : List (Bor Text)) → join_with_byte 47 (first ∷ told after) ≡ first ++ flat_map (λ (part : Bor Text). 47 ∷ part.now) after
joined_after first [] = sym (append-nil first)
joined_after first (next ∷ after) = ap (λ rest. first ++ 47 ∷ rest) (joined_after next.now after)

pub joined_at : (parts : List (Bor Text)) (d : Bor Text) → 1 ≤ length parts
    → join_with_byte 47 (told parts) ≡ (get_or parts 0 d).now ++ flat_map (λ (part : Bor Text). 47 ∷ part.now) (take (length parts - 1) (drop 1 parts))
joined_at [] d some = absurd (omega arith)
joined_at (first ∷ after) d some =
    joined_after first.now after ∙ ap (λ rest. first.now ++ flat_map (λ (part : Bor Text). 47 ∷ part.now) rest) (sym (take_rest (first ∷ after) 1))

-- the components of a name, once none remains
pub canon_is : (name : Text) (rooted : Bool) (parts : List (Bor Text)) (left : List Text) → rooted ≡ is_rooted name → left ≡ []
    → fold (with_part rooted) (reverse (told parts)) left ≡ fold (with_part rooted) [] (slice_split (λ byte. byte == 47) name)
    → canon_of name ≡ (if rooted then 47 ∷ [] else []) ++ join_with_byte 47 (told parts)
unfolding canon_of components_of
canon_is name rooted parts left is none done = grind (arith, reverse, reverse-reverse)
