-- The questions of a search before and after a step, with their answers.
use Rattle.std.proofs.Common.{◌≡◌, ℕ, ◌+◌, ◌<◌, ◌≤◌, true, List, [], ◌∷◌, ◌++◌, length, get_or, set, map, Option, Some, None, refl, sym, ap, ◌∙◌, subst, ◌⊎◌, inl, inr, ⊎_elim, arith, fold, option_map, slice_get, unwrap_or}
use Rattle.kt_graph.proofs.Common.{Contains, list_any, cases_lt, cases_order, or_left, list_any-append, get_or_append_left, get_or-set_other, get_or-set_same, get_or-take, get_or_at, length-append, length-map, length-set, map-append, get_or_from_slice_get, same_Some, slice_get-get_or, slice_get-map, slice_get_within, unwrap_or-slice_get, Text, Entry, HeldQuestion, TriedQuestions, IsPrefix, Question, question_eq, asking, chain_limit, fitting, with_question, question_view}
use Rattle.kt_graph.specs.declared.search.candidate.Candidate.{Candidate as HeldCandidate}
use Rattle.kt_graph.specs.inner.search.Chains.{IsFound, IsRight, IsRightFor, KeepsAnswers, HasAnswered, StandsLast}
use Rattle.kt_graph.specs.inner.search.Chains.{StoodBefore, asked_besides, expected_for, left_for}
use Rattle.kt_graph.proofs.lemmas.search.AskingLemmas.{asking_is, after_deep}
use Rattle.kt_graph.proofs.lemmas.search.QuestionLemmas.{all_put, none_new, put_after, stays_put}

-- ---- lists that begin with others

module _ {X : Type 0} where
  pub front_itself : (xs : List X) → IsPrefix xs xs
  front_itself xs = (omega arith, λ count h. refl)

  pub front_more : (xs ys zs : List X) → IsPrefix xs ys → IsPrefix ys zs → IsPrefix xs zs
  front_more xs ys zs one two = (omega (arith, one.0, two.0), λ count h. two.1 count (omega (arith, one.0)) ∙ one.1 count h)

  pub front_read : (old new : List X) → IsPrefix old new → (k : ℕ) (d : X) → k < length old → get_or new k d ≡ get_or old k d
  front_read old new front k d h = grind (arith, get_or-take, length, get_or)

  -- an element stays at its place
  pub front_kept : (old new : List X) → IsPrefix old new → (k : ℕ) (x : X) → slice_get old k ≡ Some x → slice_get new k ≡ Some x
  front_kept old new front k x at =
      let h : k < length old = slice_get_within old k x at in
      slice_get-get_or new k x (omega (arith, front.0)) ∙ ap Some (front_read old new front k x h ∙ get_or_from_slice_get old k x x at)

  pub front_was : (old new : List X) → IsPrefix old new → (k : ℕ) (x : X) → k < length old → slice_get new k ≡ Some x → slice_get old k ≡ Some x
  front_was old new front k x h at =
      slice_get-get_or old k x h ∙ ap Some (sym (front_read old new front k x h) ∙ get_or_from_slice_get new k x x at)

  pub get_append : (xs ys : List X) (k : ℕ) (x : X) → k < length xs → slice_get (xs ++ ys) k ≡ Some x → slice_get xs k ≡ Some x
  get_append xs ys k x h at =
      slice_get-get_or xs k x h ∙ ap Some (sym (get_or_append_left xs ys x k h) ∙ get_or_from_slice_get (xs ++ ys) k x x at)

  -- the last of some
  pub get_last : (xs : List X) (y x : X) (k : ℕ) → length xs ≤ k → slice_get (xs ++ y ∷ []) k ≡ Some x → (k ≡ length xs) × (y ≡ x)
  get_last xs y x k past at =
      let within : k < length (xs ++ y ∷ []) = slice_get_within (xs ++ y ∷ []) k x at in
      let e : k ≡ length xs = omega (arith, length-append xs (y ∷ [])) in
      (e, sym (get_or_at xs y [] x k (sym e)) ∙ get_or_from_slice_get (xs ++ y ∷ []) k x x at)

pub keeps_all : (tried : TriedQuestions) → KeepsAnswers tried tried
keeps_all tried = record { questions = front_itself tried.questions.keys; answers = front_itself tried.answers.items }

pub keeps_more : (one two three : TriedQuestions) → KeepsAnswers one two → KeepsAnswers two three → KeepsAnswers one three
keeps_more one two three h k = grind (arith, front_more)

module _ (rules : List Entry) (known : List Text) where
  -- what is expected of a question
  pub expected_is : (question : HeldQuestion) (left : ℕ) (used : List ℕ) (name : Text) → question.name ≡ name → question.used.items ≡ used
      → left + length used ≡ chain_limit → expected_for rules known question ≡ fitting rules known left used name
  expected_is question left used name n u whole = grind (arith, length)

  pub asking_for : (question : HeldQuestion) (left : ℕ) (used : List ℕ) (name : Text) → question.name ≡ name → question.used.items ≡ used
      → left + length used ≡ chain_limit → asking rules known (left_for question) question.used.items question.name ≡ asking rules known left used name
  asking_for question left used name n u whole = grind (arith, length)

  -- a question that was there has its answer, and adds nothing
  module _ (old new : TriedQuestions) (question : HeldQuestion) (answer : Option HeldCandidate) (left : ℕ) (used : List ℕ) (name : Text)
      (n : question.name ≡ name) (u : question.used.items ≡ used) (whole : left + length used ≡ chain_limit)
      (right : IsRightFor rules known old (length used)) (stood : StoodBefore old new question answer) where
    one_name : stood.one.name ≡ name
    one_name = ap (λ a. a.0) stood.same ∙ n

    one_used : stood.one.used.items ≡ used
    one_used = ap (λ a. a.1) stood.same ∙ u

    long : length used ≤ length stood.one.used.items
    long = omega (arith, ap length one_used)

    pub stood_found : IsFound rules name (fitting rules known left used name) answer
    stood_found = grind (arith, long, expected_is, one_name, one_used)

    pub stood_leaves : HasAnswered rules known old new (length used) (asking rules known left used name)
    stood_leaves = record {
      put = ap (map question_view) stood.questions ∙ sym (none_new (map question_view old.questions.keys) (asking rules known left used name)
          (λ asked c. right.closed stood.place stood.one stood.stands long asked
          (subst (λ all. Contains all asked) (sym (asking_for stood.one left used name one_name one_used whole)) c)));
      right = subst (λ keys. IsRight rules known keys new.answers.items (length used)) (sym stood.questions)
          (subst (λ answers. IsRight rules known old.questions.keys answers (length used)) (sym stood.answers) right);
    }

  -- a new question is after the others
  module _ (old mid : TriedQuestions) (question : HeldQuestion) (place : ℕ) (used : List ℕ) (u : question.used.items ≡ used)
      (right : IsRightFor rules known old (length used)) (last : StandsLast old mid question place) where
    -- the questions with longer chains are right as they were
    pub last_ready : IsRightFor rules known mid (length used + 1)
    last_ready = record {
      as_many = ap length last.answers ∙ length-append old.answers.items (None ∷ []) ∙ ap (λ n. n + 1) right.as_many
          ∙ sym (length-append old.questions.keys (question ∷ [])) ∙ sym (ap length last.questions);
      found = λ k one at long. before_found k one (subst (λ keys. slice_get keys k ≡ Some one) last.questions at) long (cases_lt k (length old.questions.keys));
      closed = λ k one at long asked c. before_closed k one (subst (λ keys. slice_get keys k ≡ Some one) last.questions at) long asked c (cases_lt k (length old.questions.keys));
    }
      where
        short : (k : ℕ) (one : HeldQuestion) → length old.questions.keys ≤ k → slice_get (old.questions.keys ++ question ∷ []) k ≡ Some one → length used + 1 ≤ length one.used.items → ⊥
        short k one past at long =
            let e = ap (λ (q : HeldQuestion). length q.used.items) (get_last old.questions.keys question one k past at).1 in
            omega (arith, ap length u)

        before_found : (k : ℕ) (one : HeldQuestion) → slice_get (old.questions.keys ++ question ∷ []) k ≡ Some one → length used + 1 ≤ length one.used.items
            → (k < length old.questions.keys) ⊎ (length old.questions.keys ≤ k)
            → IsFound rules one.name (expected_for rules known one) (unwrap_or (slice_get mid.answers.items k) None)
        before_found k one at long (inl within) =
            let e : unwrap_or (slice_get mid.answers.items k) None ≡ unwrap_or (slice_get old.answers.items k) None
            = unwrap_or-slice_get mid.answers.items k None ∙ ap (λ xs. get_or xs k None) last.answers
            ∙ get_or_append_left old.answers.items (None ∷ []) None k (omega (arith, right.as_many)) ∙ sym (unwrap_or-slice_get old.answers.items k None) in
            subst (λ a. IsFound rules one.name (expected_for rules known one) a) (sym e)
            (right.found k one (get_append old.questions.keys (question ∷ []) k one within at) (omega arith))
        before_found k one at long (inr past) = absurd (short k one past at long)

        before_closed : (k : ℕ) (one : HeldQuestion) → slice_get (old.questions.keys ++ question ∷ []) k ≡ Some one → length used + 1 ≤ length one.used.items
            → (asked : Question) → Contains (asking rules known (left_for one) one.used.items one.name) asked
            → (k < length old.questions.keys) ⊎ (length old.questions.keys ≤ k)
            → list_any (question_eq asked) (map question_view mid.questions.keys) ≡ true
        before_closed k one at long asked c (inl within) =
            let stands = right.closed k one (get_append old.questions.keys (question ∷ []) k one within at) (omega arith) asked c in
            ap (λ keys. list_any (question_eq asked) (map question_view keys)) last.questions
            ∙ ap (list_any (question_eq asked)) (map-append question_view old.questions.keys (question ∷ []))
            ∙ list_any-append (question_eq asked) (map question_view old.questions.keys) (question_view question ∷ []) ∙ or_left _ _ stands
        before_closed k one at long asked c (inr past) = absurd (short k one past at long)

    -- once it has its answer, all questions with chains as long are right
    module _ (new final : TriedQuestions) (answer : Option HeldCandidate) (left : ℕ) (name : Text)
        (n : question.name ≡ name) (whole : left + length used ≡ chain_limit)
        (leaves : HasAnswered rules known mid new (length used + 1) (asked_besides rules known left used name)) (keeps : KeepsAnswers mid new)
        (found : IsFound rules name (fitting rules known left used name) answer)
        (same : final.questions.keys ≡ new.questions.keys) (noted : final.answers.items ≡ set new.answers.items place answer) where
      told_is : question_view question ≡ (name, used)
      told_is = λ j. (n j, u j)

      mid_put : map question_view mid.questions.keys ≡ with_question (map question_view old.questions.keys) (name, used)
      mid_put = grind (arith, told_is, map-append)

      all_asked : map question_view new.questions.keys ≡ fold with_question (map question_view old.questions.keys) (asking rules known left used name)
      all_asked = grind (arith, mid_put, asking_is)

      mid_size : length mid.questions.keys ≡ length old.questions.keys + 1
      mid_size = ap length last.questions ∙ length-append old.questions.keys (question ∷ [])

      -- it is at its place
      placed : slice_get new.questions.keys place ≡ Some question
      placed = front_kept mid.questions.keys new.questions.keys keeps.questions place question
          (ap (λ keys. slice_get keys place) last.questions
          ∙ slice_get-get_or (old.questions.keys ++ question ∷ []) place question (omega (arith, last.place_after, length-append old.questions.keys (question ∷ [])))
          ∙ ap Some (get_or_at old.questions.keys question [] question place (sym last.place_after)))

      -- what comes after it has a longer chain
      longer : (k : ℕ) (one : HeldQuestion) → place < k → slice_get new.questions.keys k ≡ Some one → length used + 1 ≤ length one.used.items
      longer k one past at =
          after_deep rules known left used name (question_view one)
          (put_after (map question_view mid.questions.keys) (asked_besides rules known left used name) k (question_view one)
          (omega (arith, length-map mid.questions.keys question_view, mid_size, last.place_after))
          (ap (λ xs. slice_get xs k) (sym leaves.put) ∙ slice_get-map question_view new.questions.keys k ∙ ap (option_map question_view) at))

      -- an older one is as it was
      older_at : (k : ℕ) (one : HeldQuestion) → k < place → slice_get new.questions.keys k ≡ Some one → slice_get old.questions.keys k ≡ Some one
      older_at k one before at =
          get_append old.questions.keys (question ∷ []) k one (omega (arith, last.place_after))
          (ap (λ keys. slice_get keys k) (sym last.questions)
          ∙ front_was mid.questions.keys new.questions.keys keeps.questions k one (omega (arith, mid_size, last.place_after)) at)

      older_answer : (k : ℕ) → k < place → unwrap_or (slice_get final.answers.items k) None ≡ unwrap_or (slice_get old.answers.items k) None
      older_answer k before = grind (arith, length, length-append, unwrap_or-slice_get, get_or, get_or-set_other, front_read, get_or_append_left)

      noted_answer : unwrap_or (slice_get final.answers.items place) None ≡ answer
      noted_answer = grind (arith, length, slice_get_within, placed, unwrap_or-slice_get, get_or, get_or-set_same)

      other_answer : (k : ℕ) → (k ≡ place → ⊥) → unwrap_or (slice_get final.answers.items k) None ≡ unwrap_or (slice_get new.answers.items k) None
      other_answer k other = grind (arith, unwrap_or-slice_get, get_or, get_or-set_other)

      abbrev IsRightAt : ℕ → HeldQuestion → Type 0
      IsRightAt k one =
          IsFound rules one.name (expected_for rules known one) (unwrap_or (slice_get final.answers.items k) None)
          × ((asked : Question) → Contains (asking rules known (left_for one) one.used.items one.name) asked
          → list_any (question_eq asked) (map question_view final.questions.keys) ≡ true)

      still_put : (asked : Question) → list_any (question_eq asked) (map question_view old.questions.keys) ≡ true → list_any (question_eq asked) (map question_view final.questions.keys) ≡ true
      still_put asked h = grind (arith, all_asked, stays_put)

      own_right : (one : HeldQuestion) → question ≡ one → IsRightAt place one
      own_right one is = grind (arith, one_name, one_used, noted_answer, expected_is, all_asked, all_put, asking_for)

      older_right : (k : ℕ) (one : HeldQuestion) → k < place → slice_get new.questions.keys k ≡ Some one → length used ≤ length one.used.items → IsRightAt k one
      older_right k one before at long = grind (arith, older_at, older_answer, long, still_put)

      longer_right : (k : ℕ) (one : HeldQuestion) → place < k → slice_get new.questions.keys k ≡ Some one → IsRightAt k one
      longer_right k one past at = grind (arith, long, longer, other_answer)

      right_at : (k : ℕ) (one : HeldQuestion) → slice_get final.questions.keys k ≡ Some one → length used ≤ length one.used.items → IsRightAt k one
      right_at k one at long =
          let now : slice_get new.questions.keys k ≡ Some one = ap (λ keys. slice_get keys k) (sym same) ∙ at in
          ⊎_elim (λ here. subst (λ p. IsRightAt p one) (sym here) (own_right one (same_Some question one (sym placed ∙ ap (slice_get new.questions.keys) (sym here) ∙ now))))
          (λ apart. ⊎_elim (λ before. older_right k one before now long) (λ past. longer_right k one past now) apart) (cases_order k place)

      pub last_leaves : HasAnswered rules known old final (length used) (asking rules known left used name)
      last_leaves = record {
        put = ap (map question_view) same ∙ all_asked;
        right = record {
          as_many = ap length noted ∙ length-set new.answers.items place answer ∙ leaves.right.as_many ∙ sym (ap length same);
          found = λ k one at long. (right_at k one at long).0;
          closed = λ k one at long. (right_at k one at long).1;
        };
      }
