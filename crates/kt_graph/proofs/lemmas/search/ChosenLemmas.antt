-- A candidate that the search finds is that of its rule.
use Rattle.std.proofs.Common.{arith, rules, ◌≡◌, ℕ, suc, zero, Bool, true, false, not, ◌||◌, ◌==◌, cond, ◌+◌, if◌then◌else◌, List, [], ◌∷◌, ◌++◌, length, filter, find, fold, Option, Some, None, IfSome, slice_get, All, refl, sym, ap, subst, ◌∙◌}
use Rattle.kt_graph.proofs.Common.{filter_map, flat_map, cons_option, range_with_len, option_and_then, option_map, option_or, option_to_list, append_assoc, length_push, All-nil, All-cons, All-head, All-tail, All-append, All-filter, Text, Target, Entry, Candidate, candidate_by, candidate_of, candidate_with, candidates_for, drops_any, matching_from, needs_with, shorter, shortest, size_of, unless_long, without_any, choice_of, chain_limit, fitting, is_begun, is_inferred, is_met, is_used, open_candidates}

-- a candidate of a rule that has a number
record IsOf (number : ℕ) (rule : Entry) (candidate : Candidate) : Type 0 where
  numbered : candidate.rule ≡ number
  needing : candidate.needs ≡ needs_with candidate.directory candidate.stem rule.needs

-- a candidate has the prerequisites of its rule
abbrev NeedsIt : List Entry → Candidate → Type 0
NeedsIt rules candidate =
    (rule : Entry) → slice_get rules candidate.rule ≡ Some rule → candidate.needs ≡ needs_with candidate.directory candidate.stem rule.needs

by_fit : (number : ℕ) (rule : Entry) (pattern : Text) (fit : Option (Text × Text)) → IfSome (option_map (candidate_with number rule pattern) fit) (IsOf number rule)
by_fit number rule pattern fit = grind arith

more_of : {A : Type 0} (P : A → Type 0) (x : Option A) (xs : List A) → IfSome x P → All P xs → All P (cons_option x xs)
more_of P x xs h k = grind (arith, All-cons)

by_targets : (number : ℕ) (rule : Entry) (name : Text) (targets : List Target) → All (IsOf number rule) (filter_map (candidate_by number rule name) targets)
by_targets number rule name [] = All-nil (IsOf number rule)
by_targets number rule name (target ∷ targets) = grind (arith, more_of, by_fit, by_targets number rule name targets)

one_of : {A : Type 0} (P : A → Type 0) (x y : A) (b : Bool) → P x → P y → P (if b then x else y)
one_of P x y true h k = h
one_of P x y false h k = k

shortest_of : (P : Candidate → Type 0) (best : Candidate) (candidates : List Candidate) → P best → All P candidates → P (fold shorter best candidates)
shortest_of P best [] h k = h
shortest_of P best (other ∷ candidates) h k =
    shortest_of P (shorter best other) candidates (one_of P best other _ h (All-head P other candidates k)) (All-tail P other candidates k)

unless_kept : (rule : Entry) (P : Candidate → Type 0) (candidate : Candidate) (b : Bool) → P candidate → IfSome (if b then Some candidate else None) P
unless_kept rule P candidate b h = grind arith

shortest_kept : (rule : Entry) (P : Candidate → Type 0) (candidates : List Candidate) → All P candidates → IfSome (option_and_then (unless_long rule) (shortest candidates)) P
shortest_kept rule P [] h = tt
shortest_kept rule P (candidate ∷ candidates) h =
    unless_kept rule P (fold shorter candidate candidates) _ (shortest_of P candidate candidates (All-head P candidate candidates h) (All-tail P candidate candidates h))

of_rule : (number : ℕ) (rule : Entry) (name : Text) → IfSome (candidate_of number rule name) (IsOf number rule)
unfolding candidate_of
of_rule number rule name = shortest_kept rule (IsOf number rule) (filter_map (candidate_by number rule name) rule.targets) (by_targets number rule name rule.targets)

-- what is of a rule needs what that rule does
needs_it : (all : List Entry) (number : ℕ) (rule : Entry) (candidate : Candidate) → slice_get all number ≡ Some rule → IsOf number rule candidate → NeedsIt all candidate
needs_it all number rule candidate at h other found = grind arith

if_some : {A : Type 0} (P Q : A → Type 0) (o : Option A) → ((x : A) → P x → Q x) → IfSome o P → IfSome o Q
if_some P Q o f h = grind arith

one_more : {A : Type 0} (P : A → Type 0) (o : Option A) (xs : List A) → IfSome o P → All P xs → All P (option_to_list o ++ xs)
one_more P o xs h k = grind (arith, All-cons)

at_front : (earlier : List Entry) (rule : Entry) (rules : List Entry) → slice_get (earlier ++ rule ∷ rules) (length earlier) ≡ Some rule
at_front [] rule rules = refl
at_front (first ∷ earlier) rule rules = at_front earlier rule rules

matching_needs : (all earlier rules : List Entry) (number : ℕ) (name : Text) → all ≡ earlier ++ rules → number ≡ length earlier
    → All (NeedsIt all) (matching_from number rules name)
unfolding matching_from
matching_needs all earlier [] number name whole at = All-nil (NeedsIt all)
matching_needs all earlier (rule ∷ rules) number name whole at =
    one_more (NeedsIt all) (candidate_of number rule name) (matching_from (number + 1) rules name)
    (if_some (IsOf number rule) (NeedsIt all) (candidate_of number rule name)
    (λ candidate h. needs_it all number rule candidate (ap (slice_get all) at ∙ ap (λ l. slice_get l (length earlier)) whole ∙ at_front earlier rule rules) h)
    (of_rule number rule name))
    (matching_needs all (earlier ++ rule ∷ []) rules (number + 1) name (whole ∙ sym (append_assoc earlier (rule ∷ []) rules))
    (ap (λ n. n + 1) at ∙ sym (length_push earlier rule)))

if_filtered : (P : Candidate → Type 0) (p : Candidate → Bool) (xs : List Candidate) (b : Bool) → All P xs → All P (if b then filter p xs else xs)
if_filtered P p xs true h = All-filter p P xs h
if_filtered P p xs false h = h

by_sizes : (P : Candidate → Type 0) (candidates : List Candidate) (sizes : List ℕ) → All P candidates
    → All P (flat_map (λ size. filter (λ candidate. size_of candidate == size) candidates) sizes)
by_sizes P candidates [] h = All-nil P
by_sizes P candidates (size ∷ sizes) h =
    All-append P (filter (λ candidate. size_of candidate == size) candidates) (flat_map (λ s. filter (λ candidate. size_of candidate == s) candidates) sizes)
    (All-filter (λ candidate. size_of candidate == size) P candidates h) (by_sizes P candidates sizes h)

candidates_need : (rules : List Entry) (in_chain : Bool) (name : Text) → All (NeedsIt rules) (candidates_for rules in_chain name)
unfolding candidates_for
candidates_need rules in_chain name =
    by_sizes (NeedsIt rules) (without_any in_chain (matching_from 0 rules name)) (range_with_len 0 (length name + 1))
    (if_filtered (NeedsIt rules) (λ candidate. not candidate.is_any || candidate.is_last) (matching_from 0 rules name) (drops_any in_chain (matching_from 0 rules name))
    (matching_needs rules [] rules 0 name refl refl))

find_some : (P : Candidate → Type 0) (p : Candidate → Bool) (x : Candidate) (xs : List Candidate) (b : Bool) → P x → IfSome (find p xs) P
    → IfSome (cond b (Some x) (find p xs)) P
find_some P p x xs b h k = grind arith

find_holds : (P : Candidate → Type 0) (p : Candidate → Bool) (xs : List Candidate) → All P xs → IfSome (find p xs) P
find_holds P p [] h = tt
find_holds P p (x ∷ xs) h = find_some P p x xs (p x) (All-head P x xs h) (find_holds P p xs (All-tail P x xs h))

either_holds : (P : Candidate → Type 0) (one other : Option Candidate) → IfSome one P → IfSome other P → IfSome (option_or one other) P
either_holds P one other h k = grind arith

chosen_needs : (rules : List Entry) (known : List Text) (left : ℕ) (used : List ℕ) (name : Text) → IfSome (fitting rules known left used name) (NeedsIt rules)
unfolding fitting
chosen_needs rules known zero used name = tt
chosen_needs rules known (suc left) used name =
    let all = All-filter (λ candidate. not (is_used used candidate.rule)) (NeedsIt rules) (candidates_for rules (is_begun used) name) (candidates_need rules (is_begun used) name) in
    either_holds (NeedsIt rules) (find (is_met known) (open_candidates rules used name)) (find (is_inferred known (fitting rules known left) used) (open_candidates rules used name))
    (find_holds (NeedsIt rules) (is_met known) (open_candidates rules used name) all)
    (find_holds (NeedsIt rules) (is_inferred known (fitting rules known left) used) (open_candidates rules used name) all)

-- what is chosen has the prerequisites of its rule
pub choice_needs : (rules : List Entry) (known : List Text) (name : Text) (candidate : Candidate) (rule : Entry) → choice_of rules known name ≡ Some candidate
    → slice_get rules candidate.rule ≡ Some rule → candidate.needs ≡ needs_with candidate.directory candidate.stem rule.needs
choice_needs rules known name candidate rule found at =
    (subst (λ o. IfSome o (NeedsIt rules)) found (chosen_needs rules known chain_limit [] name)) rule at
