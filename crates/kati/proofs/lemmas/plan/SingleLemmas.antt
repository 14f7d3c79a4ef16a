-- The inputs of a single name are those of its statement as they are.
use Rattle.std.proofs.Common.{arith, ◌≡◌, Bool, true, false, not, cond, if◌then◌else◌, List, [], ◌∷◌, ◌++◌, filter, flat_map, refl, sym, ap, ◌∙◌, append-nil, nat_eq, fold}
use Rattle.kati.proofs.Common.{pointwise, or_from, or_parts, append_assoc, list_any-append, Text, is_among, with_name, without_repeats, Node, inputs_of, order_only_of, joined_inputs, joined_order_only}

-- none of the names is among those before it
abbrev AreNew : List Text → List Text → Type 0
AreNew old [] = Unit {0}
AreNew old (name ∷ names) = (is_among old name ≡ false) × AreNew (old ++ name ∷ []) names

all_added : (old names : List Text) → AreNew old names → fold with_name old names ≡ old ++ names
all_added old [] new = sym (append-nil old)
all_added old (name ∷ names) new =
    ap (λ (b : Bool). fold with_name (if b then old else old ++ name ∷ []) names) new.0
    ∙ all_added (old ++ name ∷ []) names new.1
    ∙ append_assoc old (name ∷ []) names

-- what a fold adds to old names
abbrev Adds : List Text → List Text → Type 0
Adds old names = (more : List Text) × (fold with_name old names ≡ old ++ more) × AreNew old more

adds_by : (old : List Text) (name : Text) (names : List Text) (b : Bool) → is_among old name ≡ b
    → Adds old names → Adds (old ++ name ∷ []) names
    → ((more : List Text) × (fold with_name (if b then old else old ++ name ∷ []) names ≡ old ++ more) × AreNew old more)
adds_by old name names true e same longer = same
adds_by old name names false e same longer = grind (arith, append_assoc)

adds : (old names : List Text) → Adds old names
adds old [] = ([], sym (append-nil old), tt)
adds old (name ∷ names) = grind (arith, adds_by, adds old names, adds (old ++ name ∷ []) names)

once_more : (names : List Text) → without_repeats (without_repeats names) ≡ without_repeats names
unfolding without_repeats
once_more names =
    let more = adds [] names in
    ap (λ (l : List Text). fold with_name [] l) more.1 ∙ all_added [] more.0 more.2 ∙ sym more.1

-- ---- of fewer names

abbrev NotAmong : List Text → List Text → Type 0
NotAmong old kept = (name : Text) → is_among old name ≡ false → is_among kept name ≡ false

one_passed : (old kept : List Text) (name : Text) → NotAmong old kept → NotAmong (old ++ name ∷ []) kept
one_passed old kept name fewer other e = grind (arith, or_parts, list_any-append, pointwise, nat_eq)

one_kept : (old kept : List Text) (name : Text) → NotAmong old kept → NotAmong (old ++ name ∷ []) (kept ++ name ∷ [])
one_kept old kept name fewer other e = grind (arith, or_parts, list_any-append, pointwise, nat_eq, or_from)

fewer_by : (p : Text → Bool) (kept : List Text) (name : Text) (names : List Text) (b : Bool) → is_among kept name ≡ false
    → AreNew kept (filter p names) → AreNew (kept ++ name ∷ []) (filter p names)
    → AreNew kept (cond b (name ∷ filter p names) (filter p names))
fewer_by p kept name names true e passed held = (e, held)
fewer_by p kept name names false e passed held = passed

fewer_new : (p : Text → Bool) (old kept names : List Text) → NotAmong old kept → AreNew old names → AreNew kept (filter p names)
fewer_new p old kept [] fewer new = tt
fewer_new p old kept (name ∷ names) fewer new =
    fewer_by p kept name names (p name) (fewer name new.0)
    (fewer_new p (old ++ name ∷ []) kept names (one_passed old kept name fewer) new.1)
    (fewer_new p (old ++ name ∷ []) (kept ++ name ∷ []) names (one_kept old kept name fewer) new.1)

filtered_once : (p : Text → Bool) (names : List Text) → without_repeats (filter p (without_repeats names)) ≡ filter p (without_repeats names)
unfolding without_repeats
filtered_once p names =
    let more = adds [] names in
    ap (λ (l : List Text). fold with_name [] (filter p l)) more.1
    ∙ all_added [] (filter p more.0) (fewer_new p [] [] more.0 (λ name e. e) more.2)
    ∙ ap (λ (l : List Text). filter p l) (sym more.1)

twice_by : (p : Text → Bool) (name : Text) (names : List Text) (b : Bool) → p name ≡ b → filter p (filter p names) ≡ filter p names
    → filter p (cond b (name ∷ filter p names) (filter p names)) ≡ cond b (name ∷ filter p names) (filter p names)
twice_by p name names true e rest = grind (arith, cond)
twice_by p name names false e rest = rest

filter_twice : (p : Text → Bool) (names : List Text) → filter p (filter p names) ≡ filter p names
filter_twice p [] = refl
filter_twice p (name ∷ names) = twice_by p name names (p name) refl (filter_twice p names)

-- ---- of a statement

pub own_inputs : (node : Node) → joined_inputs (node ∷ []) ≡ inputs_of node
unfolding inputs_of
own_inputs node = grind (arith, append-nil, once_more)

order_only_by : (node : Node) (inputs : List Text) → order_only_of node ≡ filter (λ name. not (is_among inputs name)) (without_repeats (flat_map (λ part. part.needs.order_only) node.parts))
    → filter (λ name. not (is_among inputs name)) (without_repeats (order_only_of node ++ [])) ≡ order_only_of node
order_only_by node inputs is = grind (arith, not, append-nil, filtered_once, filter_twice)

pub own_order_only : (node : Node) → joined_order_only (node ∷ []) ≡ order_only_of node
unfolding order_only_of
own_order_only node =
    ap (λ (inputs : List Text). filter (λ name. not (is_among inputs name)) (without_repeats (order_only_of node ++ []))) (own_inputs node)
    ∙ order_only_by node (inputs_of node) refl
