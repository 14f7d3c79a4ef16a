-- Where a question is placed among others, in the set that holds them.
use Rattle.std.proofs.Common.{◌≡◌, ℕ, Bool, true, false, cond, not, ◌&&◌, ◌||◌, if◌then◌else◌, List, [], ◌∷◌, ◌++◌, length, map, Option, Some, None, refl, sym, ap, ◌∙◌, true≢false, arith, nat_eq, slice_get, unwrap_or}
use Rattle.kt_graph.proofs.Common.{list_any, position_or_len, pointwise, same_text, and_parts, not-true, not-false, insert_key, HeldQuestion, TriedQuestions, question_eq, question_view}
use Rattle.kt_graph.specs.declared.search.candidate.Candidate.{Candidate as HeldCandidate}
use Rattle.kt_graph.specs.inner.search.Chains.{StandsLast, StoodBefore}

-- whether two questions are equal, by their own equality
abbrev pub questions_eq : HeldQuestion → HeldQuestion → Bool
questions_eq one other = pointwise nat_eq one.name other.name && pointwise nat_eq one.used.items other.used.items

any_told : (question : HeldQuestion) (others : List HeldQuestion) → list_any (questions_eq question) others ≡ list_any (question_eq (question_view question)) (map question_view others)
any_told question [] = refl
any_told question (other ∷ others) = ap (λ b. questions_eq question other || b) (any_told question others)

place_after : (p : HeldQuestion → Bool) (others : List HeldQuestion) → list_any p others ≡ false → position_or_len p others ≡ length others
place_after p [] h = refl
place_after p (other ∷ others) h = grind (arith, length, true≢false, cond, not, place_after p others)

-- a new one is added at the end
pub placed_last : (old new : TriedQuestions) (question : HeldQuestion) (place : ℕ) (is_new : Bool) → is_new ≡ true → is_new ≡ not (list_any (questions_eq question) old.questions.keys)
    → new.questions.keys ≡ insert_key questions_eq old.questions.keys question → place ≡ position_or_len (questions_eq question) old.questions.keys
    → new.answers.items ≡ old.answers.items ++ None ∷ [] → StandsLast old new question place
placed_last old new question place is_new yes_new tells grown at pushed = grind (arith, not-true, place_after, any_told)

-- another one is where it was
pub placed_before : (old new : TriedQuestions) (question : HeldQuestion) (place : ℕ) (is_new : Bool) (answer : Option HeldCandidate) → is_new ≡ false
    → is_new ≡ not (list_any (questions_eq question) old.questions.keys) → new.questions.keys ≡ insert_key questions_eq old.questions.keys question
    → (one : HeldQuestion) × (slice_get new.questions.keys place ≡ Some one) × (questions_eq question one ≡ true)
    → new.answers.items ≡ old.answers.items → answer ≡ unwrap_or (slice_get old.answers.items place) None → StoodBefore old new question answer
placed_before old new question place is_new answer not_new tells grown stored kept answered =
    let there : list_any (questions_eq question) old.questions.keys ≡ true = not-false _ (sym tells ∙ not_new) in
    let same : new.questions.keys ≡ old.questions.keys = grown ∙ ap (λ b. if b then old.questions.keys else old.questions.keys ++ question ∷ []) there in
    let parts = and_parts (pointwise nat_eq question.name stored.0.name) (pointwise nat_eq question.used.items stored.0.used.items) stored.2 in
    let names = same_text question.name stored.0.name (sym parts.0) in
    let chains = same_text question.used.items stored.0.used.items (sym parts.1) in
    record {
      place = place;
      one = stored.0;
      stands = ap (λ keys. slice_get keys place) (sym same) ∙ stored.1;
      same = sym (λ j. (names j, chains j));
      answered = answered;
      questions = same;
      answers = kept;
    }
