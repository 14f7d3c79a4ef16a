-- Candidates of the code, and as those of the definitions.
use Rattle.std.proofs.Common.{rules, ◌≡◌, ℕ, suc, zero, ◌+◌, ◌<◌, ◌≤◌, Bool, true, false, not, ◌||◌, ◌==◌, if◌then◌else◌, List, [], ◌∷◌, ◌++◌, length, take, drop, get_or, filter, filter_map, flat_map, fold, All, Option, Some, None, option_map, refl, sym, ap, ◌∙◌, subst, arith, slice_get}
use Rattle.kt_graph.proofs.Common.{cons_option, list_any, range_with_len, slice_range, IsNonDecreasingBy, IsPermutation, IsStableByKey, option_and_then, option_to_list, unwrap_or, nat_cmp, drop_all, drop_more, length-take, length-drop, All-filter, All-head, All-tail, All-weaker, filter_map-append, All-permutation, Text, Needs, Entry, is_terminal, Candidate, are_short, by_size, candidate_by, candidate_of, candidates_for, matching_from, shorter, shortest, size_of, unless_long, without_any, AreWithin, IsFitWithin, candidate_at, candidate_view, candidates_view, held_by_size, held_without_any, stays}
use Rattle.kt_graph.proofs.lemmas.search.SizeOrder.{bucket, in_buckets, same_buckets}
use Rattle.kt_graph.specs.declared.search.candidate.Candidate.{Candidate as HeldCandidate}

-- a stem is as long as its places say
pub size_at : (name : Text) (rule : Entry) (candidate : HeldCandidate) → IsFitWithin name candidate.fit → size_of (candidate_at name rule candidate) ≡ candidate.fit.size
size_at name rule candidate within = grind (arith, length-take, length-drop)

-- ---- the shortest of a rule

-- the shortest of candidates, of which the best so far is known
abbrev pub shortest_from : Option Candidate → List Candidate → Option Candidate
shortest_from None candidates = shortest candidates
shortest_from (Some best) candidates = Some (fold shorter best candidates)

-- ---- the candidates of rules

-- the view of a candidate, from the rule with its number
pub told_at : (rules : List Entry) (name : Text) (candidate : HeldCandidate) (rule : Entry) → slice_get rules candidate.rule ≡ Some rule
    → candidate_view rules name candidate ≡ Some (candidate_at name rule candidate)
told_at rules name candidate rule found = ap (option_map (λ r. candidate_at name r candidate)) found

-- the rules from a number on
pub matching_at : (rules : List Entry) (name : Text) (i : ℕ) (rule : Entry) → i < length rules → rule ≡ get_or rules i rule
    → matching_from i (drop i rules) name ≡ option_to_list (candidate_of i rule name) ++ matching_from (i + 1) (drop (i + 1) rules) name
unfolding matching_from
matching_at rules name i rule within is = grind (arith, drop_more)

pub matching_none : (rules : List Entry) (name : Text) (i : ℕ) → length rules ≤ i → matching_from i (drop i rules) name ≡ []
unfolding matching_from
matching_none rules name i past = ap (λ left. matching_from i left name) (drop_all i rules past)

-- ---- one rule

pub none_matches : (number : ℕ) (rule : Entry) (name : Text) → None ≡ shortest (filter_map (candidate_by number rule name) rule.targets) → None ≡ candidate_of number rule name
unfolding candidate_of
none_matches number rule name none = ap (option_and_then (unless_long rule)) none

unless_by : (rule : Entry) (candidate : Candidate) (b : Bool) → are_short candidate.directory candidate.stem rule.needs ≡ b
    → unless_long rule candidate ≡ (if b then Some candidate else None)
unless_by rule candidate b is = ap (λ c. if c then Some candidate else None) is

-- the shortest, unless what it needs gets too long
pub matches_unless : (number : ℕ) (rule : Entry) (name : Text) (candidate : HeldCandidate) (directory stem : Text) (needs : Needs) (b : Bool)
    → Some (candidate_at name rule candidate) ≡ shortest (filter_map (candidate_by number rule name) rule.targets)
    → directory ≡ take candidate.fit.directory name → stem ≡ slice_range name candidate.fit.start candidate.fit.end → needs ≡ rule.needs
    → b ≡ are_short directory stem needs → (if b then Some (candidate_at name rule candidate) else None) ≡ candidate_of number rule name
unfolding candidate_of
matches_unless number rule name candidate directory stem needs b found front middle all short = grind (arith, take, slice_range, unless_by)

-- ---- tests of candidates

-- a rule of a number, where there is one
pub rule_at : (rules : List Entry) (i : ℕ) → i < length rules → (rule : Entry) × (slice_get rules i ≡ Some rule)
rule_at [] i within = absurd (omega arith)
rule_at (rule ∷ rules) zero within = (rule, refl)
rule_at (rule ∷ rules) (suc i) within = rule_at rules i (omega arith)

one_kept : (rules : List Entry) (name : Text) (p : HeldCandidate → Bool) (q : Candidate → Bool) (candidate : HeldCandidate) (one : Candidate) (candidates : List HeldCandidate) (b : Bool)
    → p candidate ≡ b → candidate_view rules name candidate ≡ Some one → q one ≡ b
    → candidates_view rules name (filter p candidates) ≡ filter q (candidates_view rules name candidates)
    → candidates_view rules name (filter p (candidate ∷ candidates)) ≡ filter q (candidates_view rules name (candidate ∷ candidates))
one_kept rules name p q candidate one candidates b is told same rest = grind arith

-- tests that agree keep the same elements
pub told_filter : (rules : List Entry) (name : Text) (p : HeldCandidate → Bool) (q : Candidate → Bool)
    → ((candidate : HeldCandidate) (rule : Entry) → slice_get rules candidate.rule ≡ Some rule → IsFitWithin name candidate.fit → p candidate ≡ q (candidate_at name rule candidate))
    → (candidates : List HeldCandidate) → AreWithin rules name candidates → candidates_view rules name (filter p candidates) ≡ filter q (candidates_view rules name candidates)
told_filter rules name p q agree [] within = refl
told_filter rules name p q agree (candidate ∷ candidates) within =
    let first = All-head (λ (c : HeldCandidate). (c.rule < length rules) × IsFitWithin name c.fit) candidate candidates within in
    let others = All-tail (λ (c : HeldCandidate). (c.rule < length rules) × IsFitWithin name c.fit) candidate candidates within in
    let found = rule_at rules candidate.rule first.0 in
    one_kept rules name p q candidate (candidate_at name found.0 candidate) candidates (p candidate) refl
    (told_at rules name candidate found.0 found.1) (sym (agree candidate found.0 found.1 first.1)) (told_filter rules name p q agree candidates others)

-- and so a test holds of some
pub told_any : (rules : List Entry) (name : Text) (p : HeldCandidate → Bool) (q : Candidate → Bool)
    → ((candidate : HeldCandidate) (rule : Entry) → slice_get rules candidate.rule ≡ Some rule → IsFitWithin name candidate.fit → p candidate ≡ q (candidate_at name rule candidate))
    → (candidates : List HeldCandidate) → AreWithin rules name candidates → list_any p candidates ≡ list_any q (candidates_view rules name candidates)
told_any rules name p q agree [] within = refl
told_any rules name p q agree (candidate ∷ candidates) within =
    let first = All-head (λ (c : HeldCandidate). (c.rule < length rules) × IsFitWithin name c.fit) candidate candidates within in
    let others = All-tail (λ (c : HeldCandidate). (c.rule < length rules) × IsFitWithin name c.fit) candidate candidates within in
    let found = rule_at rules candidate.rule first.0 in
    ap (λ b. b || list_any p candidates) (agree candidate found.0 found.1 first.1)
    ∙ ap (λ b. q (candidate_at name found.0 candidate) || b) (told_any rules name p q agree candidates others)
    ∙ sym (ap (λ o. list_any q (cons_option o (candidates_view rules name candidates))) (told_at rules name candidate found.0 found.1))

stays_at : (rules : List Entry) (name : Text) (candidate : HeldCandidate) (rule : Entry) → slice_get rules candidate.rule ≡ Some rule
    → stays rules candidate ≡ (not candidate.is_any || is_terminal rule.kind)
stays_at rules name candidate rule found = ap (λ o. not candidate.is_any || unwrap_or (option_map (λ (r : Entry). is_terminal r.kind) o) true) found

-- those that stay when nonterminal match-anything rules are dropped
pub told_without_any : (rules : List Entry) (name : Text) (in_chain : Bool) (candidates : List HeldCandidate) → AreWithin rules name candidates
    → candidates_view rules name (held_without_any rules in_chain candidates) ≡ without_any in_chain (candidates_view rules name candidates)
told_without_any rules name in_chain candidates within = grind (arith, not, told_any, told_filter, stays_at)

-- ---- their order

told_buckets : (rules : List Entry) (name : Text) (candidates : List HeldCandidate) → AreWithin rules name candidates → (sizes : List ℕ)
    → candidates_view rules name (flat_map (λ size. filter (λ (c : HeldCandidate). c.fit.size == size) candidates) sizes)
    ≡ flat_map (λ size. filter (λ c. size_of c == size) (candidates_view rules name candidates)) sizes
told_buckets rules name candidates within [] = refl
told_buckets rules name candidates within (size ∷ sizes) =
    filter_map-append (candidate_view rules name) (filter (λ (c : HeldCandidate). c.fit.size == size) candidates)
    (flat_map (λ n. filter (λ (c : HeldCandidate). c.fit.size == n) candidates) sizes)
    ∙ ap (λ first. first ++ candidates_view rules name (flat_map (λ n. filter (λ (c : HeldCandidate). c.fit.size == n) candidates) sizes))
    (told_filter rules name (λ c. c.fit.size == size) (λ c. size_of c == size) (λ c rule found w. ap (λ n. n == size) (sym (size_at name rule c w))) candidates within)
    ∙ ap (λ rest. filter (λ c. size_of c == size) (candidates_view rules name candidates) ++ rest) (told_buckets rules name candidates within sizes)

pub told_by_size : (rules : List Entry) (name : Text) (candidates : List HeldCandidate) → AreWithin rules name candidates
    → candidates_view rules name (held_by_size (length name) candidates) ≡ by_size name (candidates_view rules name candidates)
told_by_size rules name candidates within = told_buckets rules name candidates within (range_with_len 0 (length name + 1))

size_within : (name : Text) (candidate : HeldCandidate) → IsFitWithin name candidate.fit → candidate.fit.size ≤ length name
size_within name candidate within = grind arith

flat_map-agree : (f g : ℕ → List HeldCandidate) → ((n : ℕ) → f n ≡ g n) → (ns : List ℕ) → flat_map f ns ≡ flat_map g ns
flat_map-agree f g same [] = refl
flat_map-agree f g same (n ∷ ns) = ap (λ first. first ++ flat_map f ns) (same n) ∙ ap (λ rest. g n ++ rest) (flat_map-agree f g same ns)

-- candidates that are sorted stably by the sizes of their stems
pub sorted_by_size : (old new : List HeldCandidate) → IsNonDecreasingBy (λ (c : HeldCandidate). c.fit.size) new
    → IsStableByKey (λ (c : HeldCandidate). c.fit.size) nat_cmp old new → IsPermutation old new
    → (longest : ℕ) → All (λ (c : HeldCandidate). c.fit.size ≤ longest) old → new ≡ held_by_size longest old
sorted_by_size old new up stable moved longest bound =
    let key : HeldCandidate → ℕ = λ c. c.fit.size in
    in_buckets key new (longest + 1) up
    (All-weaker (λ (c : HeldCandidate). c.fit.size ≤ longest) (λ (c : HeldCandidate). c.fit.size < longest + 1) (λ c l. omega arith) new
    (All-permutation (λ (c : HeldCandidate). c.fit.size ≤ longest) old new moved bound))
    ∙ flat_map-agree (bucket key new) (bucket key old) (same_buckets key old new stable) (range_with_len 0 (longest + 1))

-- ---- all of it

kept_within : (rules : List Entry) (name : Text) (in_chain : Bool) (candidates : List HeldCandidate) → AreWithin rules name candidates
    → AreWithin rules name (held_without_any rules in_chain candidates)
kept_within rules name in_chain candidates within = by (in_chain || list_any (λ (c : HeldCandidate). not c.is_any) candidates)
  where
    by : (b : Bool) → AreWithin rules name (if b then filter (stays rules) candidates else candidates)
    by true = All-filter (stays rules) (λ (c : HeldCandidate). (c.rule < length rules) × IsFitWithin name c.fit) candidates within
    by false = within

pub candidates_tried : (rules : List Entry) (name : Text) (in_chain : Bool) (candidates kept sorted : List HeldCandidate) → AreWithin rules name candidates
    → candidates_view rules name candidates ≡ matching_from 0 rules name → kept ≡ held_without_any rules in_chain candidates
    → ((longest : ℕ) → All (λ (c : HeldCandidate). c.fit.size ≤ longest) kept → sorted ≡ held_by_size longest kept)
    → candidates_view rules name sorted ≡ candidates_for rules in_chain name
unfolding candidates_for
candidates_tried rules name in_chain candidates kept sorted within matching is order =
    let left : AreWithin rules name kept
    = subst (λ cs. AreWithin rules name cs) (sym is) (kept_within rules name in_chain candidates within) in
    let short : All (λ (c : HeldCandidate). c.fit.size ≤ length name) kept
    = All-weaker (λ (c : HeldCandidate). (c.rule < length rules) × IsFitWithin name c.fit) (λ (c : HeldCandidate). c.fit.size ≤ length name)
    (λ c w. size_within name c w.1) kept left in
    ap (candidates_view rules name) (order (length name) short)
    ∙ told_by_size rules name kept left
    ∙ ap (λ cs. by_size name (candidates_view rules name cs)) is
    ∙ ap (by_size name) (told_without_any rules name in_chain candidates within ∙ ap (without_any in_chain) matching)

pub candidates_within : (rules : List Entry) (name : Text) (in_chain : Bool) (candidates kept sorted : List HeldCandidate) → AreWithin rules name candidates
    → kept ≡ held_without_any rules in_chain candidates → IsPermutation kept sorted → AreWithin rules name sorted
candidates_within rules name in_chain candidates kept sorted within is moved =
    All-permutation (λ (c : HeldCandidate). (c.rule < length rules) × IsFitWithin name c.fit) kept sorted moved
    (subst (λ cs. AreWithin rules name cs) (sym is) (kept_within rules name in_chain candidates within))
