-- Rules that are found by the ends of their targets.
use Rattle.std.proofs.Common.{rules, ◌≡◌, ℕ, zero, suc, ◌+◌, ◌-◌, ◌<◌, ◌≤◌, true, ◌⊎◌, ⊎_elim, inl, inr, nat_eq, nat_le, List, [], ◌∷◌, ◌++◌, length, drop, get_or, filter_map, IfSome, Option, Some, None, option_map, slice_get, refl, sym, ap, ◌∙◌, subst, arith}
use Rattle.kt_graph.proofs.Common.{Contains, cons_option, dedup, position_or_len, slice_index, IsPermutation, IsSorted, IsStrictlyIncreasing, nat_cmp, option_and_then, option_to_list, cases_eq, cases_lt, false≢true, leb-true, append-nil, append_assoc, drop-drop, drop_all, drop_more, length-drop, All-head, All-push, All-tail, filter_map-append, Contains-permutation, IsStrictlyIncreasing-dedup, get_or_from_slice_get, none-some, slice_get_past, bytes_eq-Decides, IsFirstByte, is_byte, Text, is_between, is_percent, pattern_back, stem_span, first_byte_place, Target, Entry, TargetEnds, Candidate, candidate_by, candidate_of, fit_of, matched_part, matching_from, shortest, stem_of, unless_long, AreAllNoted, AreNoted, HasAll, IsNoted, candidate_numbered, candidates_numbered, numbers_at, AreWithin, IsFitWithin, candidate_at, candidates_view, found_view, first_or_rest}
use Rattle.std.proofs.lemmas.List.Kept.{Contains-dedup_nat}
use Rattle.kt_graph.specs.declared.search.candidate.Candidate.{Candidate as HeldCandidate}
use Rattle.kt_graph.proofs.lemmas.search.CandidateLemmas.{matching_at, matching_none, rule_at, told_at}
use Rattle.kt_graph.proofs.lemmas.MemberLemmas.{Contains-none}

-- without a percent sign, nothing is after it
pub no_back : (pattern : Text) → IsFirstByte (is_byte 37) pattern None → [] ≡ pattern_back pattern
unfolding pattern_back is_percent
no_back pattern found =
    let same : length pattern ≡ position_or_len is_percent pattern = first_byte_place is_percent pattern None found in
    sym (drop_all (position_or_len is_percent pattern + 1) pattern (omega arith))

-- ---- a name that a pattern matches ends as the pattern does

abbrev pub EndsIn : Text → Text → Type 0
EndsIn name end = (length end ≤ length name) × (drop (length name - length end) name ≡ end)

between_ends : (front back word : Text) → is_between front back word ≡ true → EndsIn word back
unfolding is_between
between_ends front back word is = grind (arith, nat_le, length, nat_eq, leb-true, bytes_eq-Decides, false≢true)

span_ends : (pattern word : Text) (span : ℕ × ℕ) → stem_span pattern word ≡ Some span → EndsIn word (pattern_back pattern)
unfolding stem_span
span_ends pattern word span found = grind (arith, length, between_ends, none-some)

-- what a part after a place ends in, the whole ends in
rest_ends : (name end : Text) (place : ℕ) → place ≤ length name → EndsIn (drop place name) end → EndsIn name end
rest_ends name end place within ends = grind (arith, length-drop, length, drop-drop)

part_ends : (pattern name end : Text) → EndsIn (matched_part pattern name) end → EndsIn name end
part_ends pattern name end ends = grind (arith, rest_ends)

fit_ends : (pattern name : Text) (fit : Text × Text) → fit_of pattern name ≡ Some fit → EndsIn name (pattern_back pattern)
unfolding fit_of stem_of
fit_ends pattern name fit found = grind (arith, none-some, part_ends, span_ends)

target_ends : (number : ℕ) (rule : Entry) (name : Text) (target : Target)
    → (candidate_by number rule name target ≡ None) ⊎ EndsIn name (pattern_back target.name)
target_ends number rule name target = grind (arith, fit_ends)

-- ---- a rule that makes a name is found

end_found : (ends : TargetEnds) (name end : Text) (number : ℕ) (found : List ℕ) → HasAll ends name ends.lengths.keys found
    → EndsIn name end → IsNoted ends end number → Contains found number
end_found ends name end number found all ending noted =
    all (length end) number noted.1 ending.0 (subst (λ (text : Text). Contains (numbers_at ends text) number) (sym ending.1) noted.0)

targets_found : (ends : TargetEnds) (name : Text) (number : ℕ) (rule : Entry) (found : List ℕ) → HasAll ends name ends.lengths.keys found
    → (targets : List Target) → AreNoted ends targets number
    → (filter_map (candidate_by number rule name) targets ≡ []) ⊎ Contains found number
targets_found ends name number rule found all [] noted = inl refl
targets_found ends name number rule found all (target ∷ targets) noted = ⊎_elim
    (λ (none : candidate_by number rule name target ≡ None). ⊎_elim
    (λ (rest : filter_map (candidate_by number rule name) targets ≡ []).
    inl (ap (λ o. cons_option o (filter_map (candidate_by number rule name) targets)) none ∙ rest))
    (λ (there : Contains found number). inr there)
    (targets_found ends name number rule found all targets (All-tail (λ (t : Target). IsNoted ends (pattern_back t.name) number) target targets noted)))
    (λ (ending : EndsIn name (pattern_back target.name)).
    inr (end_found ends name (pattern_back target.name) number found all ending (All-head (λ (t : Target). IsNoted ends (pattern_back t.name) number) target targets noted)))
    (target_ends number rule name target)

-- each rule is among these numbers, or doesn't make the name
abbrev pub Covers : List Entry → Text → List ℕ → Type 0
Covers rules name numbers =
    (number : ℕ) (rule : Entry) → slice_get rules number ≡ Some rule → (candidate_of number rule name ≡ None) ⊎ Contains numbers number

pub found_covers : (ends : TargetEnds) (rules : List Entry) (name : Text) (found : List ℕ) → AreAllNoted ends rules → HasAll ends name ends.lengths.keys found
    → Covers rules name found
unfolding candidate_of
found_covers ends rules name found noted all number rule at = ⊎_elim
    (λ (none : filter_map (candidate_by number rule name) rule.targets ≡ []). inl (ap (λ ones. option_and_then (unless_long rule) (shortest ones)) none))
    (λ (there : Contains found number). inr there)
    (targets_found ends name number rule found all rule.targets (noted number rule at))

-- ---- the rules of some numbers, in order

-- each is above the one before, and the first not below a number
abbrev Rises : ℕ → List ℕ → Type 0
Rises least [] = Unit {0}
Rises least (number ∷ numbers) = (least ≤ number) × Rises (number + 1) numbers

next_place : (k : ℕ) → suc k + 1 ≡ suc (k + 1)
next_place k = omega arith

rises_after : (least number : ℕ) (numbers : List ℕ) → least ≤ number → IsStrictlyIncreasing (number ∷ numbers) → Rises least (number ∷ numbers)
rises_after least number [] above up = (above, tt)
rises_after least number (next ∷ numbers) above up = (
  above,
  rises_after (number + 1) next numbers (let more = up 0 (omega arith) in omega arith) (λ k within. subst (λ (at : ℕ). slice_index (next ∷ numbers) k < slice_index (number ∷ next ∷ numbers) at) (next_place k) (up (suc k) (omega (arith, within)))),
)

rises : (numbers : List ℕ) → IsStrictlyIncreasing numbers → Rises 0 numbers
rises [] up = tt
rises (number ∷ numbers) up = rises_after 0 number numbers (omega arith) up

rises_lower : (least lower : ℕ) (numbers : List ℕ) → lower ≤ least → Rises least numbers → Rises lower numbers
rises_lower least lower [] below up = tt
rises_lower least lower (number ∷ numbers) below up = (let above = up.0 in omega arith, up.1)

next_above : (at number : ℕ) → at ≤ number → (number ≡ at → ⊥) → at + 1 ≤ number
next_above at number above differ = grind (arith, ⊎_elim, cases_lt)

rises_past : (number : ℕ) (numbers : List ℕ) → Rises (number + 1) numbers → Contains numbers number → ⊥
rises_past number [] up there = Contains-none number there
rises_past number (first ∷ numbers) up there = ⊎_elim
    (λ (same : first ≡ number). let above = up.0 in absurd (omega arith))
    (λ (after : Contains numbers number).
    rises_past number numbers (rises_lower (first + 1) (number + 1) numbers (let above = up.0 in omega arith) up.1) after)
    (first_or_rest first number numbers there)

none_numbered : (rules : List Entry) (name : Text) (numbers : List ℕ) (least : ℕ) → length rules ≤ least → Rises least numbers → candidates_numbered rules name numbers ≡ []
none_numbered rules name [] least past up = refl
none_numbered rules name (number ∷ numbers) least past up =
    let above = up.0 in
    ap (λ o. cons_option (option_and_then (λ (rule : Entry). candidate_of number rule name) o) (candidates_numbered rules name numbers)) (slice_get_past rules number (omega arith))
    ∙ none_numbered rules name numbers (number + 1) (omega arith) up.1

-- each rule from one on is among these numbers, or doesn't make the name
abbrev CoversFrom : ℕ → List Entry → Text → List ℕ → Type 0
CoversFrom least rules name numbers =
    (number : ℕ) (rule : Entry) → least ≤ number → slice_get rules number ≡ Some rule → (candidate_of number rule name ≡ None) ⊎ Contains numbers number

-- a rule that isn't among the numbers makes no candidate
passed_over : (rules : List Entry) (name : Text) (at : ℕ) (numbers : List ℕ) (rule : Entry) → slice_get rules at ≡ Some rule → CoversFrom at rules name numbers
    → Rises (at + 1) numbers → (ones : List Candidate) → option_to_list (candidate_of at rule name) ++ ones ≡ ones
passed_over rules name at numbers rule found covers up ones = grind (arith, ⊎_elim, rises_past)

-- those from the next on
covers_after : (rules : List Entry) (name : Text) (at : ℕ) (numbers : List ℕ) → CoversFrom at rules name (at ∷ numbers) → CoversFrom (at + 1) rules name numbers
covers_after rules name at numbers covers number rule above found = grind (arith, ⊎_elim, first_or_rest)

first_told : (rules : List Entry) (name : Text) (at : ℕ) (rule : Entry) (ones : List Candidate) → slice_get rules at ≡ Some rule
    → cons_option (candidate_numbered rules name at) ones ≡ option_to_list (candidate_of at rule name) ++ ones
first_told rules name at rule ones found = grind arith

-- so their candidates are those of all rules
numbered_from : (rules : List Entry) (name : Text) (left at : ℕ) (numbers : List ℕ) → left + at ≡ length rules → Rises at numbers → CoversFrom at rules name numbers
    → candidates_numbered rules name numbers ≡ matching_from at (drop at rules) name
numbered_from rules name zero at numbers size up covers = grind (arith, none_numbered, matching_none)
numbered_from rules name (suc left) at [] size up covers =
    let there : (rule : Entry) × (slice_get rules at ≡ Some rule) = rule_at rules at (omega arith) in
    numbered_from rules name left (at + 1) [] (omega arith) tt (λ number rule above found. covers number rule (omega arith) found)
    ∙ sym (passed_over rules name at [] there.0 there.1 covers tt (matching_from (at + 1) (drop (at + 1) rules) name))
    ∙ sym (matching_at rules name at there.0 (omega arith) (sym (get_or_from_slice_get rules at there.0 there.0 there.1)))
numbered_from rules name (suc left) at (number ∷ numbers) size up covers = ⊎_elim
    (λ (same : number ≡ at).
    let there : (rule : Entry) × (slice_get rules at ≡ Some rule) = rule_at rules at (omega arith) in
    let here : CoversFrom at rules name (at ∷ numbers) = subst (λ (n : ℕ). CoversFrom at rules name (n ∷ numbers)) same covers in
    ap (λ (n : ℕ). candidates_numbered rules name (n ∷ numbers)) same
    ∙ ap (λ ones. cons_option (candidate_numbered rules name at) ones)
    (numbered_from rules name left (at + 1) numbers (omega arith) (subst (λ (n : ℕ). Rises (n + 1) numbers) same up.1) (covers_after rules name at numbers here))
    ∙ first_told rules name at there.0 (matching_from (at + 1) (drop (at + 1) rules) name) there.1
    ∙ sym (matching_at rules name at there.0 (omega arith) (sym (get_or_from_slice_get rules at there.0 there.0 there.1))))
    (λ (differ : number ≡ at → ⊥).
    let there : (rule : Entry) × (slice_get rules at ≡ Some rule) = rule_at rules at (omega arith) in
    let later : Rises (at + 1) (number ∷ numbers) = (next_above at number up.0 differ, up.1) in
    numbered_from rules name left (at + 1) (number ∷ numbers) (omega arith) later (λ n rule above found. covers n rule (omega arith) found)
    ∙ sym (passed_over rules name at (number ∷ numbers) there.0 there.1 covers later (matching_from (at + 1) (drop (at + 1) rules) name))
    ∙ sym (matching_at rules name at there.0 (omega arith) (sym (get_or_from_slice_get rules at there.0 there.0 there.1))))
    (cases_eq number at)

pub numbered_all : (rules : List Entry) (name : Text) (numbers : List ℕ) → IsStrictlyIncreasing numbers → Covers rules name numbers
    → candidates_numbered rules name numbers ≡ matching_from 0 rules name
numbered_all rules name numbers up covers =
    numbered_from rules name (length rules) 0 numbers (omega arith) (rises numbers up) (λ number rule above found. covers number rule found)

-- also after a sort, each number once
pub numbers_in_order : (ends : TargetEnds) (rules : List Entry) (name : Text) (found sorted kept : List ℕ) → AreAllNoted ends rules → HasAll ends name ends.lengths.keys found
    → IsPermutation found sorted → IsSorted nat_cmp sorted → kept ≡ dedup nat_eq sorted
    → candidates_numbered rules name kept ≡ matching_from 0 rules name
numbers_in_order ends rules name found sorted kept noted all same order once =
    ap (candidates_numbered rules name) once
    ∙ numbered_all rules name (dedup nat_eq sorted) (IsStrictlyIncreasing-dedup sorted order) (λ number rule at. ⊎_elim
    (λ (none : candidate_of number rule name ≡ None). inl none)
    (λ (there : Contains found number). inr (Contains-dedup_nat sorted number (Contains-permutation found sorted number same there)))
    (found_covers ends rules name found noted all number rule at))

-- ---- candidates as they are held

-- the rule of a number as it makes a name
pub told_numbered : (rules : List Entry) (name : Text) (number : ℕ) (rule : Entry) (found : Option HeldCandidate) → slice_get rules number ≡ Some rule
    → IfSome found (λ candidate. (candidate.rule ≡ number) × IsFitWithin name candidate.fit) → option_map (candidate_at name rule) found ≡ candidate_of number rule name
    → found_view rules name found ≡ candidate_numbered rules name number
told_numbered rules name number rule found there within is = grind (arith, told_at)

pub told_none : (rules : List Entry) (name : Text) (number : ℕ) → slice_get rules number ≡ None → None ≡ candidate_numbered rules name number
told_none rules name number none = sym (ap (option_and_then (λ (one : Entry). candidate_of number one name)) none)

pub within_numbered : (rules : List Entry) (name : Text) (number : ℕ) (found : Option HeldCandidate) → number < length rules
    → IfSome found (λ candidate. (candidate.rule ≡ number) × IsFitWithin name candidate.fit)
    → IfSome found (λ candidate. (candidate.rule < length rules) × IsFitWithin name candidate.fit)
within_numbered rules name number found below within = grind arith

-- one more number
pub numbered_more : (rules : List Entry) (name : Text) (numbers : List ℕ) (i number : ℕ) (candidates more : List HeldCandidate) (found : Option HeldCandidate)
    → i < length numbers → number ≡ get_or numbers i number → found_view rules name found ≡ candidate_numbered rules name number
    → more ≡ candidates ++ option_to_list found
    → candidates_view rules name more ++ candidates_numbered rules name (drop (i + 1) numbers)
    ≡ candidates_view rules name candidates ++ candidates_numbered rules name (drop i numbers)
numbered_more rules name numbers i number candidates more found within at is grown = grind (arith, filter_map-append, append_assoc, drop_more)

pub within_with : (rules : List Entry) (name : Text) (candidates more : List HeldCandidate) (found : Option HeldCandidate)
    → IfSome found (λ candidate. (candidate.rule < length rules) × IsFitWithin name candidate.fit) → more ≡ candidates ++ option_to_list found
    → AreWithin rules name candidates → AreWithin rules name more
within_with rules name candidates more (Some candidate) there grown within =
    subst (λ (cs : List HeldCandidate). AreWithin rules name cs) (sym grown)
    (All-push (λ (c : HeldCandidate). (c.rule < length rules) × IsFitWithin name c.fit) candidates candidate within there)
within_with rules name candidates more None there grown within = grind (arith, append-nil)
