-- Groups whose members share their inputs.
use Rattle.std.proofs.Common.{◌≡◌, true, not, ◌||◌, List, [], ◌∷◌, take, filter, flat_map, fold, refl, sym, ◌∙◌, ap, append-nil, nat_eq}
use Rattle.kati.proofs.Common.{Contains, pointwise, or_right, bytes_eq-Decides, flat_map-cons, fold-append, in_first, in_rest, Text, is_among, with_name, without_repeats, Node, inputs_of, order_only_of, ShareInputs, joined_inputs, joined_order_only}
use Rattle.kt_rules.proofs.lemmas.book.BookLemmas.{among_fold}

-- names that are there are not added
all_there : (set more : List Text) → ((name : Text) → is_among more name ≡ true → is_among set name ≡ true)
    → fold with_name set more ≡ set
all_there set [] there = refl
all_there set (name ∷ more) there =
    let here : is_among (name ∷ more) name ≡ true = ap (λ b. b || is_among more name) ((bytes_eq-Decides name name).1 refl) in
    let same : with_name set name ≡ set = rw (there name here) refl in
    ap (λ (l : List Text). fold with_name l more) same
    ∙ all_there set more (λ other among. there other (or_right (pointwise nat_eq other name) (is_among more other) among))

added_there : (set added : List Text) (name : Text) → is_among added name ≡ true → is_among (fold with_name set added) name ≡ true
added_there set added name among = among_fold set added name ∙ or_right (is_among set name) (is_among added name) among

module _ (names : Node → List Text) (node : Node) where
  -- the names of nodes that have the same add none
  all_again : (set : List Text) (others : List Node) → ((other : Node) → Contains others other → names other ≡ names node)
      → ((name : Text) → is_among (names node) name ≡ true → is_among set name ≡ true)
      → fold with_name set (flat_map names others) ≡ set
  all_again set [] same there = refl
  all_again set (other ∷ others) same there =
      ap (fold with_name set) (flat_map-cons names other others) ∙ fold-append with_name set (names other) (flat_map names others)
      ∙ ap (λ (l : List Text). fold with_name l (flat_map names others))
      (ap (fold with_name set) (same other (in_first other others)) ∙ all_there set (names node) there)
      ∙ all_again set others (λ one on. same one (in_rest other one others on)) there

  first_tells : (others : List Node) → ((other : Node) → Contains others other → names other ≡ names node)
      → without_repeats (flat_map names (node ∷ [])) ≡ without_repeats (flat_map names (node ∷ others))
  unfolding without_repeats
  first_tells others same =
      ap (fold with_name []) (flat_map-cons names node [] ∙ append-nil (names node))
      ∙ sym (all_again (fold with_name [] (names node)) others same (λ name among. added_there [] (names node) name among))
      ∙ sym (fold-append with_name [] (names node) (flat_map names others))
      ∙ ap (fold with_name []) (sym (flat_map-cons names node others))

-- what the first member needs is what all do
pub inputs_told : (group : List Node) → ShareInputs group → joined_inputs (take 1 group) ≡ joined_inputs group
inputs_told [] share = refl
inputs_told (node ∷ others) share =
    first_tells inputs_of node others (λ other on. share.inputs other node (in_rest node other others on) (in_first node others))

pub order_only_told : (group : List Node) → ShareInputs group → joined_order_only (take 1 group) ≡ joined_order_only group
order_only_told [] share = refl
order_only_told (node ∷ others) share =
    ap (λ (l : List Text). filter (λ name. not (is_among l name)) (without_repeats (flat_map order_only_of (node ∷ []))))
    (inputs_told (node ∷ others) share)
    ∙ ap (filter (λ name. not (is_among (joined_inputs (node ∷ others)) name)))
    (first_tells order_only_of node others (λ other on. share.order_only other node (in_rest node other others on) (in_first node others)))
