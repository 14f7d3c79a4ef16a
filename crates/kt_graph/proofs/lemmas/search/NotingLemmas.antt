-- The numbers of ends, as more are noted and as they are found.
use Rattle.std.proofs.Common.{rules, ◌≡◌, ℕ, ◌+◌, ◌-◌, ◌<◌, ◌≤◌, Bool, true, false, ⊎_elim, nat_eq, if◌then◌else◌, List, [], ◌∷◌, ◌++◌, length, drop, take, get_or, Some, slice_get, refl, sym, ap, ◌∙◌, subst, arith}
use Rattle.kt_graph.proofs.Common.{Contains, list_any, bytes_eq, cases_eq, cases_lt, eqb-true, nat_list_eq_equiv, append-nil, take_more, All-push, All-weaker, Contains-append_left, Contains-append_right, Contains-append_cases, same_Some, slice_get_read, slice_get_within, insert_key, Contains-insert_key, Text, pattern_back, Target, Entry, TargetEnds, AreAllNoted, AreNoted, HasAll, IsNoted, KeepsNoted, NotesEnd, NotesAll, numbers_at, first_or_rest, in_first}
use Rattle.kt_graph.proofs.lemmas.MemberLemmas.{Contains-none}

-- ---- one more number

kept_key : (old new : List ℕ) (size other : ℕ) → new ≡ insert_key nat_eq old size → Contains old other → Contains new other
kept_key old new size other grown there = subst (λ (xs : List ℕ). Contains xs other) (sym grown) (by (list_any (nat_eq size) old))
  where
    by : (b : Bool) → Contains (if b then old else old ++ size ∷ []) other
    by true = there
    by false = Contains-append_left old (size ∷ []) other there

-- a number was noted at an end
pub notes : (old new : TargetEnds) (end : Text) (number : ℕ) → new.lengths.keys ≡ insert_key nat_eq old.lengths.keys (length end)
    → ((other : Text) → numbers_at new other ≡ numbers_at old other ++ (if bytes_eq other end then number ∷ [] else []))
    → NotesEnd old new end number
notes old new end number lengths numbers = record {
  noted = (
    subst (λ (xs : List ℕ). Contains xs number) (sym (numbers end ∙ ap (λ b. numbers_at old end ++ (if b then number ∷ [] else [])) (nat_list_eq_equiv.refl end)))
        (Contains-append_right (numbers_at old end) (number ∷ []) number (in_first number [])),
    subst (λ (xs : List ℕ). Contains xs (length end)) (sym lengths) (Contains-insert_key nat_eq (λ x y e. eqb-true x y e) old.lengths.keys (length end)),
  );
  kept = λ other one there. (
    subst (λ (xs : List ℕ). Contains xs one) (sym (numbers other)) (Contains-append_left (numbers_at old other) (if bytes_eq other end then number ∷ [] else []) one there.0),
    kept_key old.lengths.keys new.lengths.keys (length end) (length other) lengths there.1,
  );
}

-- ---- one more target

pub none_noted : (ends : TargetEnds) (number : ℕ) → NotesAll ends ends [] number
none_noted ends number = record { noted = λ k d within. absurd (omega (arith, within)); kept = λ end one there. there }

pub target_noted : (old now new : TargetEnds) (targets : List Target) (number i : ℕ) (target : Target) → i < length targets → target ≡ get_or targets i target
    → NotesAll old now (take i targets) number → NotesEnd now new (pattern_back target.name) number → NotesAll old new (take (i + 1) targets) number
target_noted old now new targets number i target within is before here = record {
  noted = subst (λ (ts : List Target). AreNoted new ts number) (sym (take_more targets i target within ∙ ap (λ (t : Target). take i targets ++ t ∷ []) (sym is)))
      (All-push (λ (t : Target). IsNoted new (pattern_back t.name) number) (take i targets) target
      (All-weaker (λ (t : Target). IsNoted now (pattern_back t.name) number) (λ (t : Target). IsNoted new (pattern_back t.name) number)
      (λ t there. here.kept (pattern_back t.name) number there) (take i targets) before.noted) here.noted);
  kept = λ end one there. here.kept end one (before.kept end one there);
}

-- ---- one more rule

-- the numbers of the first rules are there
abbrev pub AreNotedTo : ℕ → TargetEnds → List Entry → Type 0
AreNotedTo count ends rules = (number : ℕ) (rule : Entry) → number < count → slice_get rules number ≡ Some rule → AreNoted ends rule.targets number

below_next : (number i : ℕ) → number < i + 1 → (number ≡ i → ⊥) → number < i
below_next number i below differ = grind (arith, ⊎_elim, cases_lt)

still_noted : (old new : TargetEnds) (number : ℕ) → KeepsNoted old new → (targets : List Target) → AreNoted old targets number → AreNoted new targets number
still_noted old new number kept targets there =
    All-weaker (λ (t : Target). IsNoted old (pattern_back t.name) number) (λ (t : Target). IsNoted new (pattern_back t.name) number)
    (λ t one. kept (pattern_back t.name) number one) targets there

pub rule_noted : (old new : TargetEnds) (rules : List Entry) (i : ℕ) (rule : Entry) (targets : List Target) → i < length rules → rule ≡ get_or rules i rule
    → targets ≡ rule.targets → AreNotedTo i old rules → NotesAll old new targets i → AreNotedTo (i + 1) new rules
rule_noted old new rules i rule targets within at all before here number one below found = ⊎_elim
    (λ (same : number ≡ i).
    let is : rule ≡ one = same_Some rule one (sym (slice_get_read rules (length rules) i rule refl within at) ∙ sym (ap (slice_get rules) same) ∙ found) in
    subst (λ (n : ℕ). AreNoted new one.targets n) (sym same) (subst (λ (ts : List Target). AreNoted new ts i) (all ∙ ap (λ (r : Entry). r.targets) is) here.noted))
    (λ (differ : number ≡ i → ⊥). still_noted old new number here.kept one.targets (before number one (below_next number i below differ) found))
    (cases_eq number i)

pub rules_noted : (ends : TargetEnds) (rules : List Entry) (i : ℕ) → length rules ≤ i → AreNotedTo i ends rules → AreAllNoted ends rules
rules_noted ends rules i past before number rule found =
    before number rule (let within = slice_get_within rules number rule found in omega (arith, within, past)) found

-- ---- what is found

-- numbers of one more length
pub found_more : (ends : TargetEnds) (name : Text) (lengths found new more : List ℕ) (size : ℕ) → HasAll ends name lengths found
    → new ≡ found ++ more → (size ≤ length name → more ≡ numbers_at ends (drop (length name - size) name)) → HasAll ends name (lengths ++ size ∷ []) new
found_more ends name lengths found new more size before grown is one number there fits held =
    subst (λ (xs : List ℕ). Contains xs number) (sym grown)
    (⊎_elim
    (λ (first : Contains lengths one). Contains-append_left found more number (before one number first fits held))
    (λ (last : Contains (size ∷ []) one). ⊎_elim
    (λ (same : size ≡ one).
    Contains-append_right found more number
    (subst (λ (xs : List ℕ). Contains xs number) (sym (is (omega arith) ∙ ap (λ n. numbers_at ends (drop (length name - n) name)) same)) held))
    (λ (none : Contains [] one). Contains-none one none)
    (first_or_rest size one [] last))
    (Contains-append_cases lengths (size ∷ []) one there))

pub found_same : (ends : TargetEnds) (name : Text) (lengths found : List ℕ) (size : ℕ) → HasAll ends name lengths found
    → length name < size → HasAll ends name (lengths ++ size ∷ []) found
found_same ends name lengths found size before long =
    found_more ends name lengths found found [] size before (sym (append-nil found)) (λ fits. absurd (omega arith))

pub none_found : (ends : TargetEnds) (name : Text) (found : List ℕ) → HasAll ends name [] found
none_found ends name found one number there fits held = Contains-none one there
