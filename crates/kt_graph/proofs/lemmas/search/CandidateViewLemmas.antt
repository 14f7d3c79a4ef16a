-- Candidates as those of the definitions, one by one.
use Rattle.std.proofs.Common.{rules, ◌≡◌, ℕ, ◌+◌, ◌<◌, ◌≤◌, Bool, true, false, cond, not, List, [], ◌∷◌, length, get_or, drop, filter, Option, Some, None, is_some, refl, sym, ap, ◌∙◌, subst, arith, ◌==◌, option_map, slice_get, IfSome}
use Rattle.kt_graph.proofs.Common.{none-some, cons_option, find, eqb-true, drop_more, drop_all, get_or_default, at_place, Text, Entry, is_terminal, Candidate, is_begun, AreWithin, IsFitWithin, candidate_at, candidate_view, candidates_view}
use Rattle.kt_graph.specs.declared.search.candidate.Candidate.{Candidate as HeldCandidate}
use Rattle.kt_graph.specs.inner.search.Chains.{IsFound}

pub at_some : {X : Type 0} (o : Option X) (P : X → Type 0) (x : X) → o ≡ Some x → IfSome o P → P x
at_some o P x e h = rw e at h

module _ (rules : List Entry) (name : Text) where
  -- the view of a candidate with a rule
  pub told_at : (candidate : HeldCandidate) → candidate.rule < length rules → (told : Candidate) × (candidate_view rules name candidate ≡ Some told)
  told_at candidate h =
      let rule = at_place rules candidate.rule h in
      (candidate_at name rule.0 candidate, ap (option_map (λ one. candidate_at name one candidate)) rule.1)

  pub told_cons : (candidate : HeldCandidate) (candidates : List HeldCandidate) (told : Candidate) → candidate_view rules name candidate ≡ Some told
      → candidates_view rules name (candidate ∷ candidates) ≡ told ∷ candidates_view rules name candidates
  told_cons candidate candidates told e = ap (λ o. cons_option o (candidates_view rules name candidates)) e

  -- the candidates from a place on
  pub told_from : (candidates : List HeldCandidate) (i : ℕ) (candidate : HeldCandidate) (told : Candidate) → i < length candidates → candidate ≡ get_or candidates i candidate
      → candidate_view rules name candidate ≡ Some told
      → candidates_view rules name (drop i candidates) ≡ told ∷ candidates_view rules name (drop (i + 1) candidates)
  told_from candidates i candidate told h is e = grind (arith, drop_more, told_cons)

  -- a test of the rules' numbers keeps the same candidates as those of the definitions
  pub filter_told : (p : ℕ → Bool) (candidates : List HeldCandidate)
      → candidates_view rules name (filter (λ candidate. p candidate.rule) candidates) ≡ filter (λ candidate. p candidate.rule) (candidates_view rules name candidates)
  filter_told p [] = refl
  filter_told p (candidate ∷ candidates) = grind (arith, cond, filter_told p candidates)

  -- ---- the first that passes a test

  module _ (p : Candidate → Bool) (candidates : List HeldCandidate) (i : ℕ)
      (left : find p (candidates_view rules name (drop i candidates)) ≡ find p (candidates_view rules name candidates)) where
    -- nothing remains
    pub found_none : length candidates ≤ i → IsFound rules name (find p (candidates_view rules name candidates)) None
    found_none past = grind (arith, drop_all)

    module _ (candidate : HeldCandidate) (h : i < length candidates) (is : candidate ≡ get_or candidates i candidate)
        (within : AreWithin rules name candidates) (passed : Bool) (tells : IfSome (candidate_view rules name candidate) (λ told. passed ≡ p told)) where
      own_within : (candidate.rule < length rules) × IsFitWithin name candidate.fit
      own_within = subst (λ (one : HeldCandidate). (one.rule < length rules) × IsFitWithin name one.fit) (sym is) (within i candidate h)

      abbrev told : Candidate
      told = (told_at candidate own_within.0).0

      told_is : candidate_view rules name candidate ≡ Some told
      told_is = (told_at candidate own_within.0).1

      rest_is : find p (candidates_view rules name (drop i candidates)) ≡ cond passed (Some told) (find p (candidates_view rules name (drop (i + 1) candidates)))
      rest_is = grind (arith, told_from, told_is, cond, at_some)

      -- it is this one
      pub found_this : passed ≡ true → IsFound rules name (find p (candidates_view rules name candidates)) (Some candidate)
      found_this yes_passed = grind (arith, told_is, cond, rest_is, own_within)

      -- it comes after this one
      pub found_later : passed ≡ false → find p (candidates_view rules name (drop (i + 1) candidates)) ≡ find p (candidates_view rules name candidates)
      found_later not_passed = sym (ap (λ b. cond b (Some told) (find p (candidates_view rules name (drop (i + 1) candidates)))) not_passed) ∙ sym rest_is ∙ left

-- something is found where something is expected
pub found_some : (rules : List Entry) (name : Text) (expected : Option Candidate) (found : Option HeldCandidate) → IsFound rules name expected found → is_some expected ≡ is_some found
found_some rules name expected None is = ap is_some (sym is.told)
found_some rules name expected (Some candidate) is =
    ap is_some (sym is.told ∙ (told_at rules name candidate is.within.0).1)

-- a candidate of the definitions has its rule, and is last exactly if its rule is terminal
module _ (rules : List Entry) (name : Text) (candidate : HeldCandidate) (told : Candidate) where
  pub told_last : candidate_view rules name candidate ≡ Some told → (b : Bool) → IfSome (slice_get rules candidate.rule) (λ rule. b ≡ is_terminal rule.kind) → b ≡ told.is_last
  told_last e b h = grind (arith, none-some)

pub if_some : {X : Type 0} (o : Option X) (P : X → Type 0) → ((x : X) → o ≡ Some x → P x) → IfSome o P
if_some o P h = grind arith

-- an element that was read is that of its place
pub read_itself : {X : Type 0} (xs : List X) (i : ℕ) (d : X) → i < length xs → get_or xs i d ≡ get_or xs i (get_or xs i d)
read_itself xs i d h = get_or_default xs i d (get_or xs i d) h

-- there is a chain exactly if it isn't empty
pub begun_is : (used : List ℕ) (empty : Bool) → empty ≡ (length used == 0) → not empty ≡ is_begun used
begun_is used empty e = grind (arith, not, eqb-true, length)
