-- The questions of a search with their answers, as the code holds them (kati's own).
use Rattle.std.specs.Prelude.{◌≡◌, ℕ, zero, suc, ◌-◌, ◌<◌, ◌≤◌, true, false, List, [], ◌∷◌, ◌++◌, length, map}
use Rattle.std.specs.Prelude.{fold, Option, Some, None, IfSome, unwrap_or, slice_get}
use Rattle.kt_graph.specs.Prelude.{Contains, Text, Entry}
use Rattle.kt_graph.specs.views.Prelude.{list_any, HeldQuestion}
use Rattle.kt_graph.specs.inner.Prelude.{IsPrefix, Candidate, with_question}
use Rattle.kt_graph.specs.declared.search.candidate.Candidate.{Candidate as HeldCandidate}
use Rattle.kt_graph.specs.declared.search.tried.TriedQuestions.{TriedQuestions}
use Rattle.kt_graph.specs.declared.search.tried.QuestionPlace.{QuestionPlace}
use Rattle.kt_graph.specs.declared.search.tried.QuestionPlace.TheVariants.{Before, Last}
use Rattle.kt_graph.specs.views.search.Search.{Question, asking, question_eq, questions_inside, question_view}
use Rattle.kt_graph.specs.search.Search.{chain_limit, fitting, open_candidates}
use Rattle.kt_graph.specs.inner.search.Candidates.{IsFitWithin, found_view}

-- the candidate that was found for a name is the expected one; it has a rule, and its places are in the name
pub record IsFound (rules : List Entry) (name : Text) (expected : Option Candidate)
    (found : Option HeldCandidate) : Type 0 where
  pub told : found_view rules name found ≡ expected
  pub within : IfSome found (λ candidate. (candidate.rule < length rules) × IsFitWithin name candidate.fit)

-- how many rules may be added to a question's chain
abbrev pub left_for : HeldQuestion → ℕ
left_for question = chain_limit - length question.used.items

-- what the search finds for a question
abbrev pub expected_for : List Entry → List Text → HeldQuestion → Option Candidate
expected_for rules known question = fitting rules known (left_for question) question.used.items question.name

-- what a question asks, without itself
unfoldable pub asked_besides : List Entry → List Text → ℕ → List ℕ → Text → List Question
asked_besides rules known zero used name = []
asked_besides rules known (suc left) used name =
    questions_inside known (fitting rules known left) (asking rules known left) used (open_candidates rules used name)

-- the questions with at least a given number of rules in their chains have their answers, and all that these asked are
-- there; those with fewer rules may have no answer yet
pub record IsRight (rules : List Entry) (known : List Text) (tried : List HeldQuestion)
    (answers : List (Option HeldCandidate)) (least : ℕ) : Type 0 where
  pub as_many : length answers ≡ length tried
  pub found : (place : ℕ) (question : HeldQuestion) → slice_get tried place ≡ Some question
      → least ≤ length question.used.items
      → IsFound rules question.name (expected_for rules known question) (unwrap_or (slice_get answers place) None)
  pub closed : (place : ℕ) (question : HeldQuestion) → slice_get tried place ≡ Some question
      → least ≤ length question.used.items
      → (asked : Question) → Contains (asking rules known (left_for question) question.used.items question.name) asked
      → list_any (question_eq asked) (map question_view tried) ≡ true

abbrev pub IsRightFor : List Entry → List Text → TriedQuestions → ℕ → Type 0
IsRightFor rules known tried least = IsRight rules known tried.questions.keys tried.answers.items least

-- these questions were added, each unless it was there
abbrev pub Asks : TriedQuestions → TriedQuestions → List Question → Type 0
Asks old new asked =
    map question_view new.questions.keys ≡ fold with_question (map question_view old.questions.keys) asked

-- after a step of the search whose questions have a given number of rules in their chains: it has asked all of them,
-- and each has its answer
pub record HasAnswered (rules : List Entry) (known : List Text) (old new : TriedQuestions) (least : ℕ)
    (asked : List Question) : Type 0 where
  pub put : Asks old new asked
  pub right : IsRightFor rules known new least

-- the rules and known names of a search
pub record Finder : Type 0 where
  pub rules : List Entry
  pub known : List Text

-- no question is removed, and none gets another answer
pub record KeepsAnswers (old new : TriedQuestions) : Type 0 where
  pub questions : IsPrefix old.questions.keys new.questions.keys
  pub answers : IsPrefix old.answers.items new.answers.items

-- ---- where a question is placed

-- it was there already, with this answer
pub record StoodBefore (old new : TriedQuestions) (question : HeldQuestion) (answer : Option HeldCandidate) : Type 0
  where
    pub place : ℕ
    pub one : HeldQuestion
    pub stands : slice_get old.questions.keys place ≡ Some one
    pub same : question_view one ≡ question_view question
    pub answered : answer ≡ unwrap_or (slice_get old.answers.items place) None
    pub questions : new.questions.keys ≡ old.questions.keys
    pub answers : new.answers.items ≡ old.answers.items

-- it is new, and was added at the end without an answer
pub record StandsLast (old new : TriedQuestions) (question : HeldQuestion) (place : ℕ) : Type 0 where
  pub place_after : place ≡ length old.questions.keys
  pub absent : list_any (question_eq (question_view question)) (map question_view old.questions.keys) ≡ false
  pub questions : new.questions.keys ≡ old.questions.keys ++ question ∷ []
  pub answers : new.answers.items ≡ old.answers.items ++ None ∷ []

abbrev pub IsAnswerPlaced : TriedQuestions → TriedQuestions → HeldQuestion → QuestionPlace → Type 0
IsAnswerPlaced old new question (Before answer) = StoodBefore old new question answer
IsAnswerPlaced old new question (Last place) = StandsLast old new question place
