-- Questions after others, each once.
use Rattle.std.proofs.Common.{◌≡◌, ℕ, ◌+◌, ◌-◌, ◌<◌, ◌≤◌, Bool, true, false, if◌then◌else◌, List, [], ◌∷◌, ◌++◌, length, refl, sym, ap, ◌∙◌, subst, ⊎_elim, arith, append_assoc, append-nil, fold, map, Some, slice_get, get_or}
use Rattle.kt_graph.proofs.Common.{Contains, IsDistinct, AllByRecursion, list_any, and_from, or_left, or_right, nat_list_eq_equiv, get_or-append_right, length-append, list_any-append, get_or_from_slice_get, slice_get_within, HeldQuestion, Question, question_eq, with_question, question_view, first_or_rest, in_first, in_rest, none_in_empty}

pub asked_itself : (question : Question) → question_eq question question ≡ true
asked_itself question = and_from _ _ (nat_list_eq_equiv.refl question.0) (nat_list_eq_equiv.refl question.1)

any_in_more : (question : Question) (asked more : List Question) → list_any (question_eq question) asked ≡ true → list_any (question_eq question) (asked ++ more) ≡ true
any_in_more question asked more h = list_any-append (question_eq question) asked more ∙ or_left _ _ h

stays_with_one : (question one : Question) (asked : List Question) → list_any (question_eq question) asked ≡ true → list_any (question_eq question) (with_question asked one) ≡ true
stays_with_one question one asked h = grind (arith, any_in_more)

is_put : (one : Question) (asked : List Question) → list_any (question_eq one) (with_question asked one) ≡ true
is_put one asked = grind (arith, list_any-append, or_right, or_left, asked_itself)

-- a question that is there stays there
pub stays_put : (question : Question) (asked more : List Question) → list_any (question_eq question) asked ≡ true → list_any (question_eq question) (fold with_question asked more) ≡ true
stays_put question asked [] h = h
stays_put question asked (one ∷ more) h = stays_put question (with_question asked one) more (stays_with_one question one asked h)

-- a question that is added is there
pub all_put : (asked more : List Question) (question : Question) → Contains more question → list_any (question_eq question) (fold with_question asked more) ≡ true
all_put asked [] question c = absurd (none_in_empty question c)
all_put asked (one ∷ more) question c =
    ⊎_elim (λ e. stays_put question (with_question asked one) more (subst (λ q. list_any (question_eq q) (with_question asked one) ≡ true) e (is_put one asked)))
    (λ rest. all_put (with_question asked one) more question rest) (first_or_rest one question more c)

-- a question that is there adds nothing
pub none_new : (asked more : List Question) → ((question : Question) → Contains more question → list_any (question_eq question) asked ≡ true) → fold with_question asked more ≡ asked
none_new asked [] h = refl
none_new asked (one ∷ more) h =
    ap (λ b. fold with_question (if b then asked else asked ++ one ∷ []) more) (h one (in_first one more))
    ∙ none_new asked more (λ question c. h question (in_rest one question more c))

-- a question that is added is after those that are there
record IsBehind (asked more all : List Question) : Type 0 where
  added : List Question
  whole : all ≡ asked ++ added
  from : (question : Question) → Contains added question → Contains more question

after : (asked more : List Question) → IsBehind asked more (fold with_question asked more)
after asked [] = record { added = []; whole = sym (append-nil asked); from = λ question c. c }
after asked (one ∷ more) = grind (arith, in_rest, append_assoc, ⊎_elim, in_first, first_or_rest, after asked more, after (asked ++ one ∷ []) more)

pub put_after : (asked more : List Question) (place : ℕ) (question : Question) → length asked ≤ place
    → slice_get (fold with_question asked more) place ≡ Some question → Contains more question
put_after asked more place question past at =
    let all = after asked more in
    let within : place < length (fold with_question asked more) = slice_get_within (fold with_question asked more) place question at in
    let size : length (fold with_question asked more) ≡ length asked + length all.added = ap length all.whole ∙ length-append asked all.added in
    let found : get_or all.added (place - length asked) question ≡ question
    = sym (get_or-append_right asked all.added (length asked) place question refl past)
    ∙ ap (λ xs. get_or xs place question) (sym all.whole) ∙ get_or_from_slice_get (fold with_question asked more) place question question at in
    all.from question (place - length asked, omega arith, found)

-- questions that differ have different views
module _ (eq : HeldQuestion → HeldQuestion → Bool) (same : (one other : HeldQuestion) → eq one other ≡ question_eq (question_view one) (question_view other)) where
  told_apart : (one : HeldQuestion) (others : List HeldQuestion) → AllByRecursion (λ other. eq one other ≡ false) others
      → AllByRecursion (λ other. question_eq (question_view one) other ≡ false) (map question_view others)
  told_apart one [] h = h
  told_apart one (other ∷ others) h = (sym (same one other) ∙ h.0, told_apart one others h.1)

  pub told_once : (questions : List HeldQuestion) → IsDistinct eq questions → IsDistinct question_eq (map question_view questions)
  unfolding IsDistinct
  told_once [] h = h
  told_once (one ∷ others) h = (told_apart one others h.0, told_once others h.1)
