-- The steps of a search: the questions for names and candidates in turn.
use Rattle.std.proofs.Common.{◌≡◌, ℕ, ◌+◌, ◌-◌, ◌<◌, ◌≤◌, Bool, true, false, not, ◌&&◌, if◌then◌else◌, List, [], ◌∷◌, ◌++◌, length, get_or, drop, map, Option, Some, None, is_some, refl, sym, ap, ◌∙◌, subst, arith, fold, slice_get, IfSome}
use Rattle.kt_graph.proofs.Common.{find, list_all, drop_more, drop_all, fold-append, Text, Entry, is_terminal, TriedQuestions, Candidate, Question, Asking, Choosing, questions_among, questions_by, questions_for, questions_inside, asking, chosen_of, fitting, is_inferred, is_met, open_candidates, unknown_needs, with_question, with_rule, AreWithin, question_view, candidate_view, candidates_view}
use Rattle.kt_graph.specs.declared.search.candidate.Candidate.{Candidate as HeldCandidate}
use Rattle.kt_graph.specs.inner.search.Chains.{IsFound, IsRightFor, KeepsAnswers, HasAnswered, asked_besides}
use Rattle.kt_graph.proofs.lemmas.search.AskingLemmas.{length-with_rule}
use Rattle.kt_graph.proofs.lemmas.search.ChainLemmas.{keeps_all, keeps_more}
use Rattle.kt_graph.proofs.lemmas.Membership.{found_any}
use Rattle.kt_graph.proofs.lemmas.search.CandidateViewLemmas.{at_some, found_some, if_some, told_at, told_from, told_last}

-- all this is to be asked, and this much of it remains
pub record IsAsking (rules : List Entry) (known : List Text) (old now : TriedQuestions) (least : ℕ) (all left : List Question) : Type 0 where
  pub right : IsRightFor rules known now least
  pub kept : KeepsAnswers old now
  pub rest : fold with_question (map question_view now.questions.keys) left ≡ fold with_question (map question_view old.questions.keys) all

module _ (rules : List Entry) (known : List Text) (least : ℕ) where
  pub asking_starts : (tried : TriedQuestions) (all left : List Question) → IsRightFor rules known tried least → all ≡ left → IsAsking rules known tried tried least all left
  asking_starts tried all left right e = grind (arith, keeps_all)

  part_put : (now new : TriedQuestions) (part later : List Question) → HasAnswered rules known now new least part
      → fold with_question (map question_view new.questions.keys) later ≡ fold with_question (map question_view now.questions.keys) (part ++ later)
  part_put now new part later leaves = grind (arith, fold-append)

  pub asking_more : (old now new : TriedQuestions) (all left part later : List Question) → IsAsking rules known old now least all left → HasAnswered rules known now new least part → KeepsAnswers now new
      → left ≡ part ++ later → IsAsking rules known old new least all later
  asking_more old now new all left part later asking leaves keeps e = grind (arith, keeps_more, part_put)

  pub asking_ends : (old now : TriedQuestions) (all left : List Question) → IsAsking rules known old now least all left → left ≡ [] → HasAnswered rules known old now least all
  asking_ends old now all left asking e = grind arith

-- ---- names in turn

module _ (deeper : Choosing) (ask : Asking) (used : List ℕ) (names : List Text) (i : ℕ) where
  names_from : (name : Text) → i < length names → name ≡ get_or names i name
      → drop i names ≡ name ∷ drop (i + 1) names
  names_from name h is = drop_more names i name h ∙ ap (λ one. one ∷ drop (i + 1) names) (sym is)

  pub asked_from : (name : Text) → i < length names → name ≡ get_or names i name → (b : Bool) → is_some (deeper used name) ≡ b
      → questions_for deeper ask used (drop i names) ≡ ask used name ++ (if b then questions_for deeper ask used (drop (i + 1) names) else [])
  asked_from name h is b e = grind (arith, names_from)

  pub asked_past : length names ≤ i → questions_for deeper ask used (drop i names) ≡ []
  asked_past past = ap (λ rest. questions_for deeper ask used rest) (drop_all i names past)

  abbrev finds : Text → Bool
  finds name = is_some (deeper used name)

  pub finds_from : (name : Text) → i < length names → name ≡ get_or names i name → (b : Bool) → is_some (deeper used name) ≡ b
      → list_all finds (drop i names) ≡ (b && list_all finds (drop (i + 1) names))
  finds_from name h is b e = grind (arith, names_from)

  pub finds_past : length names ≤ i → list_all finds (drop i names) ≡ true
  finds_past past = ap (λ rest. list_all finds rest) (drop_all i names past)

-- ---- candidates in turn

module _ (rules : List Entry) (name : Text) (known : List Text) (deeper : Choosing) (ask : Asking) (used : List ℕ) (candidates : List HeldCandidate) (i : ℕ) where
  pub among_from : (candidate : HeldCandidate) (told : Candidate) → i < length candidates → candidate ≡ get_or candidates i candidate → candidate_view rules name candidate ≡ Some told
      → (b : Bool) → is_inferred known deeper used told ≡ b
      → questions_among known deeper ask used (candidates_view rules name (drop i candidates))
      ≡ questions_by known deeper ask used told ++ (if b then [] else questions_among known deeper ask used (candidates_view rules name (drop (i + 1) candidates)))
  among_from candidate told h is e b inferred = grind (arith, told_from)

  pub among_past : length candidates ≤ i → questions_among known deeper ask used (candidates_view rules name (drop i candidates)) ≡ []
  among_past past = ap (λ rest. questions_among known deeper ask used (candidates_view rules name rest)) (drop_all i candidates past)

-- ---- what is inferred

pub other_inferred : (known : List Text) (deeper : Choosing) (used chain : List ℕ) (names : List Text) (told : Candidate) (all : Bool) → told.is_last ≡ false
    → chain ≡ with_rule told.rule used → names ≡ unknown_needs known told → all ≡ list_all (λ name. is_some (deeper chain name)) names → all ≡ is_inferred known deeper used told
other_inferred known deeper used chain names told all e c n found = grind (arith, not)

pub other_asked : (known : List Text) (deeper : Choosing) (ask : Asking) (used chain : List ℕ) (names : List Text) (told : Candidate) → told.is_last ≡ false
    → chain ≡ with_rule told.rule used → names ≡ unknown_needs known told → questions_for deeper ask chain names ≡ questions_by known deeper ask used told
other_asked known deeper ask used chain names told e c n = grind arith

-- ---- the steps one by one

-- a name finds a rule or none
module _ (rules : List Entry) (known : List Text) (left : ℕ) (used : List ℕ) (names : List Text) (i : ℕ) (name : Text) (h : i < length names)
    (is : name ≡ get_or names i name) (text : Text) (e : text ≡ name) (answer : Option HeldCandidate) (found : IsFound rules text (fitting rules known left used text) answer) where
  abbrev deeper : Choosing
  deeper = fitting rules known left

  abbrev ask : Asking
  ask = asking rules known left

  some_is : (b : Bool) → is_some answer ≡ b → is_some (deeper used name) ≡ b
  some_is b a = ap (λ n. is_some (deeper used n)) (sym e) ∙ found_some rules text (fitting rules known left used text) answer found ∙ a

  asked_here : (b : Bool) → is_some answer ≡ b
      → questions_for deeper ask used (drop i names)
      ≡ ask used text ++ (if b then questions_for deeper ask used (drop (i + 1) names) else [])
  asked_here b a = grind (arith, asked_from, some_is)

  pub asks_later : (old now new : TriedQuestions) (all : List Question) → is_some answer ≡ true
      → IsAsking rules known old now (length used) all (questions_for deeper ask used (drop i names))
      → HasAnswered rules known now new (length used) (ask used text) → KeepsAnswers now new
      → IsAsking rules known old new (length used) all (questions_for deeper ask used (drop (i + 1) names))
  asks_later old now new all a asks leaves keeps =
      asking_more rules known (length used) old now new all _ (ask used text) _ asks leaves keeps (asked_here true a)

  pub asks_no_more : (old now new : TriedQuestions) (all : List Question) → is_some answer ≡ false
      → IsAsking rules known old now (length used) all (questions_for deeper ask used (drop i names))
      → HasAnswered rules known now new (length used) (ask used text) → KeepsAnswers now new → HasAnswered rules known old new (length used) all
  asks_no_more old now new all a asks leaves keeps =
      asking_ends rules known (length used) old new all [] (asking_more rules known (length used) old now new all _ (ask used text) [] asks leaves keeps (asked_here false a)) refl

  pub finds_later : (all : Bool) → is_some answer ≡ true → list_all (λ n. is_some (deeper used n)) (drop i names) ≡ all
      → list_all (λ n. is_some (deeper used n)) (drop (i + 1) names) ≡ all
  finds_later all a rest = sym (finds_from deeper ask used names i name h is true (some_is true a)) ∙ rest

  pub finds_not : (all : Bool) → is_some answer ≡ false → list_all (λ n. is_some (deeper used n)) (drop i names) ≡ all → false ≡ all
  finds_not all a rest = sym (finds_from deeper ask used names i name h is false (some_is false a)) ∙ rest

-- a candidate is inferred or not
module _ (rules : List Entry) (known : List Text) (left : ℕ) (name : Text) (used : List ℕ) (candidates : List HeldCandidate) (i : ℕ) (candidate : HeldCandidate)
    (h : i < length candidates) (is : candidate ≡ get_or candidates i candidate) (within : AreWithin rules name candidates) (passed : Bool)
    (tells : IfSome (candidate_view rules name candidate) (λ told. passed ≡ is_inferred known (fitting rules known left) used told)) where
  abbrev choosing : Choosing
  choosing = fitting rules known left

  abbrev putting : Asking
  putting = asking rules known left

  rule_within : candidate.rule < length rules
  rule_within = subst (λ (one : HeldCandidate). one.rule < length rules) (sym is) (within i candidate h).0

  abbrev one : Candidate
  one = (told_at rules name candidate rule_within).0

  one_told : candidate_view rules name candidate ≡ Some one
  one_told = (told_at rules name candidate rule_within).1

  among_here : (b : Bool) → passed ≡ b
      → questions_among known choosing putting used (candidates_view rules name (drop i candidates))
      ≡ questions_by known choosing putting used one ++ (if b then [] else questions_among known choosing putting used (candidates_view rules name (drop (i + 1) candidates)))
  among_here b a = grind (arith, among_from, one_told, at_some)

  pub infers_later : (old now new : TriedQuestions) (least : ℕ) (all : List Question) → passed ≡ false
      → IsAsking rules known old now least all (questions_among known choosing putting used (candidates_view rules name (drop i candidates)))
      → IfSome (candidate_view rules name candidate) (λ told. HasAnswered rules known now new least (questions_by known choosing putting used told)) → KeepsAnswers now new
      → IsAsking rules known old new least all (questions_among known choosing putting used (candidates_view rules name (drop (i + 1) candidates)))
  infers_later old now new least all a asks leaves keeps =
      asking_more rules known least old now new all _ (questions_by known choosing putting used one) _ asks
      (at_some (candidate_view rules name candidate) (λ told. HasAnswered rules known now new least (questions_by known choosing putting used told)) one one_told leaves) keeps (among_here false a)

  pub infers_no_more : (old now new : TriedQuestions) (least : ℕ) (all : List Question) → passed ≡ true
      → IsAsking rules known old now least all (questions_among known choosing putting used (candidates_view rules name (drop i candidates)))
      → IfSome (candidate_view rules name candidate) (λ told. HasAnswered rules known now new least (questions_by known choosing putting used told)) → KeepsAnswers now new
      → HasAnswered rules known old new least all
  infers_no_more old now new least all a asks leaves keeps =
      asking_ends rules known least old new all []
      (asking_more rules known least old now new all _ (questions_by known choosing putting used one) [] asks
      (at_some (candidate_view rules name candidate) (λ told. HasAnswered rules known now new least (questions_by known choosing putting used told)) one one_told leaves) keeps (among_here true a)) refl

-- what a candidate is that isn't last
module _ (rules : List Entry) (known : List Text) (left : ℕ) (name : Text) (used chain : List ℕ) (candidate : HeldCandidate) (names : List Text) (last : Bool)
    (not_last : last ≡ false) (tells : IfSome (slice_get rules candidate.rule) (λ rule. last ≡ is_terminal rule.kind)) (chained : chain ≡ with_rule candidate.rule used)
    (unknown : IfSome (candidate_view rules name candidate) (λ told. names ≡ unknown_needs known told)) where
  pub inferred_so : (all : Bool) → all ≡ list_all (λ n. is_some (fitting rules known left chain n)) names
      → IfSome (candidate_view rules name candidate) (λ told. all ≡ is_inferred known (fitting rules known left) used told)
  inferred_so all found = grind (arith, if_some, other_inferred, told_last, at_some)

  pub asked_so : (old new : TriedQuestions) → HasAnswered rules known old new (length chain) (questions_for (fitting rules known left) (asking rules known left) chain names)
      → IfSome (candidate_view rules name candidate) (λ told. HasAnswered rules known old new (length used + 1) (questions_by known (fitting rules known left) (asking rules known left) used told))
  asked_so old new leaves = grind (arith, if_some, length, length-with_rule, other_asked, told_last, at_some)

module _ (rules : List Entry) (known : List Text) where
  -- a candidate is met
  pub met_leaves : (tried : TriedQuestions) (least left : ℕ) (used : List ℕ) (name : Text) (candidates : List Candidate) (candidate : HeldCandidate) → IsRightFor rules known tried least
      → IsFound rules name (find (is_met known) candidates) (Some candidate)
      → HasAnswered rules known tried tried least (questions_inside known (fitting rules known left) (asking rules known left) used candidates)
  met_leaves tried least left used name candidates candidate right found =
      let none : questions_inside known (fitting rules known left) (asking rules known left) used candidates ≡ []
      = ap (λ b. if b then [] else questions_among known (fitting rules known left) (asking rules known left) used candidates)
      (sym (found_any (is_met known) candidates) ∙ found_some rules name (find (is_met known) candidates) (Some candidate) found) in
      record { put = sym (ap (fold with_question (map question_view tried.questions.keys)) none); right = right }

  -- none is met
  pub unmet_asked : (left : ℕ) (used : List ℕ) (name : Text) (candidates : List Candidate) → IsFound rules name (find (is_met known) candidates) None
      → questions_inside known (fitting rules known left) (asking rules known left) used candidates ≡ questions_among known (fitting rules known left) (asking rules known left) used candidates
  unmet_asked left used name candidates found =
      ap (λ b. if b then [] else questions_among known (fitting rules known left) (asking rules known left) used candidates)
      (sym (found_any (is_met known) candidates) ∙ found_some rules name (find (is_met known) candidates) None found)

  -- no rule may be added
  pub none_fits : (left : ℕ) (used : List ℕ) (name : Text) → left ≡ 0 → IsFound rules name (fitting rules known left used name) None
  unfolding fitting
  none_fits left used name e = record { told = sym (ap (λ n. fitting rules known n used name) e); within = tt }

  pub none_asked : (tried : TriedQuestions) (least left : ℕ) (used : List ℕ) (name : Text) → left ≡ 0 → IsRightFor rules known tried least
      → HasAnswered rules known tried tried least (asked_besides rules known left used name)
  unfolding asked_besides
  none_asked tried least left used name e right = grind arith

  -- a rule may be added
  pub fitting_is : (left : ℕ) (used : List ℕ) (name : Text) → (left ≡ 0 → ⊥)
      → fitting rules known left used name ≡ chosen_of known (fitting rules known (left - 1)) used (open_candidates rules used name)
  unfolding fitting
  fitting_is left used name h = grind arith

  pub after_are : (left : ℕ) (used : List ℕ) (name : Text) → (left ≡ 0 → ⊥)
      → asked_besides rules known left used name ≡ questions_inside known (fitting rules known (left - 1)) (asking rules known (left - 1)) used (open_candidates rules used name)
  unfolding asked_besides
  after_are left used name h = grind arith
