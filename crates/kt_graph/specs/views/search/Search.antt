-- What a search has asked so far, each question once, and the trees of rules that it finds (kati's own).
use Rattle.std.specs.Prelude.{◌≡◌, ℕ, zero, suc, ◌↔◌, Bool, true, false, ◌&&◌, nat_eq, List, [], ◌∷◌, ◌++◌, fold}
use Rattle.std.specs.Prelude.{bytes_eq, All, Option, is_some, if◌then◌else◌}
use Rattle.std.specs.List.{Contains, list_any}
use Rattle.std.specs.Cmp.Lexicographic.{pointwise}
use Rattle.kt_text.specs.Words.{Text}
use Rattle.kt_rules.specs.Entry.{Entry}
use Rattle.kt_graph.specs.search.Candidates.{Candidate, candidates_for}
use Rattle.kt_graph.specs.search.Search.{chain_limit, is_used, with_rule, is_begun, Choosing, open_candidates, is_met}
use Rattle.kt_graph.specs.search.Search.{unknown_needs, is_inferred, fitting}
use Rattle.kt_graph.specs.views.Prelude.{HeldQuestion, Chosen}

-- a name, and the rules of a chain
abbrev pub Question : Type 0
Question = Text × List ℕ

abbrev pub question_eq : Question → Question → Bool
question_eq one other = bytes_eq one.0 other.0 && pointwise nat_eq one.1 other.1

-- the questions that a question asks, itself first
abbrev pub Asking : Type 0
Asking = List ℕ → Text → List Question

-- the questions for names in turn, up to the first name without a rule
abbrev pub questions_for : Choosing → Asking → List ℕ → List Text → List Question
questions_for deeper asking used [] = []
questions_for deeper asking used (name ∷ names) =
    asking used name ++ (if is_some (deeper used name) then questions_for deeper asking used names else [])

abbrev pub questions_by : List Text → Choosing → Asking → List ℕ → Candidate → List Question
questions_by known deeper asking used candidate =
    if candidate.is_last then [] else questions_for deeper asking (with_rule candidate.rule used)
    (unknown_needs known candidate)

-- the questions for candidates in turn, up to the first that is inferred
abbrev pub questions_among : List Text → Choosing → Asking → List ℕ → List Candidate → List Question
questions_among known deeper asking used [] = []
questions_among known deeper asking used (candidate ∷ candidates) =
    questions_by known deeper asking used candidate
    ++ (if is_inferred known deeper used candidate then [] else questions_among known deeper asking used candidates)

-- no more questions if a candidate is met
abbrev pub questions_inside : List Text → Choosing → Asking → List ℕ → List Candidate → List Question
questions_inside known deeper asking used candidates =
    if list_any (is_met known) candidates then [] else questions_among known deeper asking used candidates

unfoldable pub asking : List Entry → List Text → ℕ → Asking
asking rules known zero used name = (name, used) ∷ []
asking rules known (suc left) used name =
    (name, used) ∷ questions_inside known (fitting rules known left) (asking rules known left) used
    (open_candidates rules used name)

-- questions with one more at the end, unless they have it already
abbrev pub with_question : List Question → Question → List Question
with_question asked question = if list_any (question_eq question) asked then asked else asked ++ question ∷ []

-- the questions so far, after one more choice
abbrev pub questions_after : List Entry → List Text → List Question → Text → List Question
questions_after rules known asked name = fold with_question asked (asking rules known chain_limit [] name)

-- the rules and known names of a search, and its questions so far, in order and each once
pub record Search : Type 0 where
  pub rules : List Entry
  pub known : List Text
  pub asked : List Question

-- ---- trees

-- a finite tree of rules that makes a name after a chain: its root is a candidate for the name, and its branches are
-- trees for the unknown prerequisites. No path of it has a rule twice, or more rules than may be added; a terminal rule
-- has no branch. The order of candidates doesn't matter here.
unfoldable pub HasTree : List Entry → List Text → ℕ → List ℕ → Text → Type 0
HasTree rules known zero used name = ⊥
HasTree rules known (suc left) used name =
    (root : Candidate) × Contains (candidates_for rules (is_begun used) name) root × (is_used used root.rule ≡ false)
    × (root.is_last ≡ true → unknown_needs known root ≡ [])
    × All (HasTree rules known left (with_rule root.rule used)) (unknown_needs known root)

-- a name has a rule exactly if a tree makes it
abbrev pub IsFoundByTrees : {A : Type 0} → List Entry → List Text → Text → Option A → Type 0
IsFoundByTrees rules known name found = (is_some found ≡ true) ↔ HasTree rules known chain_limit [] name

-- ---- in the code's own types

-- the choice of a candidate
abbrev pub choice_view : Candidate → Chosen
choice_view candidate = record { rule = candidate.rule; directory = candidate.directory; stem = candidate.stem }

-- a question of the code as one of the definitions
abbrev pub question_view : HeldQuestion → Question
question_view question = (question.name, question.used.items)
