-- When there is a store that agrees with answers, and what it holds.
use Rattle.std.proofs.Common.{get_or, suc, ◌≡◌, ◌∙◌, ◌≤◌, ℕ, ap, sym, refl, arith, inl, inr, ◌⊎◌, List, [], ◌∷◌, ◌++◌, Bool, true, false, Option, Some, None, if◌then◌else◌}
use Rattle.kt_eval.proofs.Common.{All-cons, All-contains, All-nil, Contains-get_or, Contains-append_cases, Contains-append_right, Contains-append_left, Contains-push, Contains-push_cases, bytes_eq-Decides, Contains, bytes_eq, AgreeWith, Answer, AnswersGrow, Store, differing, look, same_found}
use Rattle.kt_eval_laws.specs.Agreement.{AreSteady, HoldsEach, store_of, with_found}
use Rattle.kt_eval.specs.views.files.Memory.{MemFiles, answers_from, seen_of}
use Rattle.kt_eval.proofs.lemmas.AgreementLemmas.{held_by, off}

grown : (store : Store) (old added : List Answer) → differing store old ≤ differing store (old ++ added)
unfolding differing
grown store [] added = omega arith
grown store (first ∷ old) added = omega (arith, grown store old added)

pub added_grow : (old added : List Answer) → AnswersGrow old (old ++ added)
added_grow old added = λ store. grown store old added

-- ---- what a store that agrees holds

itself : (found : Option (List ℕ)) → same_found found found ≡ true
itself None = refl
itself (Some bytes) = (bytes_eq-Decides bytes bytes).1 refl

none_off : (store : Store) (answer : Answer) → look store answer.0 ≡ answer.1 → off store answer ≡ 0
none_off store answer is = rw (is, itself answer.1)

first_of : (answer : Answer) (answers : List Answer) → Contains (answer ∷ answers) answer
first_of answer answers = Contains-append_left (answer ∷ []) answers answer (Contains-push [] answer)

pub agreeing_holds : (store : Store) (answers : List Answer) → AgreeWith store answers → HoldsEach store answers
unfolding differing
agreeing_holds store [] agrees = All-nil (λ answer. look store answer.0 ≡ answer.1)
agreeing_holds store (answer ∷ answers) agrees =
    All-cons (λ answer. look store answer.0 ≡ answer.1) answer answers (held_by store answer (omega arith)) (agreeing_holds store answers (omega arith))

pub holding_agrees : (store : Store) (answers : List Answer) → HoldsEach store answers → AgreeWith store answers
unfolding differing
holding_agrees store [] held = refl
holding_agrees store (answer ∷ answers) held =
    let first = none_off store answer (All-contains (λ (one : Answer). look store one.0 ≡ one.1) (answer ∷ answers) answer held (first_of answer answers)) in
    let others = holding_agrees store answers (λ k d h. held (suc k) d (omega (arith, h))) in
    omega (arith, first, others)

store_agrees : (store : Store) (names : List (List ℕ)) → AgreeWith store (answers_from store names)
unfolding differing
store_agrees store [] = refl
store_agrees store (name ∷ names) = omega (arith, none_off store (name, look store name) refl, store_agrees store names)

pub memory_agrees : (memory : MemFiles) → AgreeWith memory.store (seen_of memory).answers
memory_agrees memory = store_agrees memory.store memory.answered

-- ---- when there is one

none_there : {X : Type 0} (x : X) → Contains [] x → ⊥
none_there x h = absurd (omega (arith, h.1))

first_or_later : {X : Type 0} (y : X) (xs : List X) (x : X) → Contains (y ∷ xs) x → (y ≡ x) ⊎ Contains xs x
first_or_later y xs x h = grind (arith, Contains-append_cases, none_there, Contains-push_cases)

abbrev IsSame : Answer → Answer → Type 0
IsSame one other = one ≡ other

-- what a name was answered with, each time
abbrev Only : List Answer → List ℕ → Option (List ℕ) → Type 0
Only answers name found = (answer : Answer) → Contains answers answer → answer.0 ≡ name → answer.1 ≡ found

-- there is no file, or this was answered
abbrev Once : List Answer → List ℕ → Option (List ℕ) → Type 0
Once answers name found = (found ≡ None) ⊎ Contains answers (name, found)

module _ (n name : List ℕ) (found : Option (List ℕ)) (answers : List Answer) where
  stepped : (o : Option (List ℕ)) → Only ((n, o) ∷ answers) name found → Once ((n, o) ∷ answers) name found
      → (Once answers name found → look (store_of answers) name ≡ found) → look (with_found n o (store_of answers)) name ≡ found
  stepped None only once rest = grind (arith, first_or_later)
  stepped (Some bytes) only once rest = by (bytes_eq n name) refl where
    at : bytes_eq n name ≡ false → IsSame (n, Some bytes) (name, found) ⊎ Contains answers (name, found) → look (store_of answers) name ≡ found
    at is (inl same) =
        let differs : true ≡ false = sym ((bytes_eq-Decides n name).1 (ap (λ (a : Answer). a.0) same)) ∙ is in
        cc
    at is (inr later) = rest (inr later)

    other : bytes_eq n name ≡ false → Once ((n, Some bytes) ∷ answers) name found → look (store_of answers) name ≡ found
    other is (inl absent) = rest (inl absent)
    other is (inr there) = at is (first_or_later (n, Some bytes) answers (name, found) there)

    by : (b : Bool) → bytes_eq n name ≡ b → (if b then Some bytes else look (store_of answers) name) ≡ found
    by true is = only (n, Some bytes) (first_of (n, Some bytes) answers) ((bytes_eq-Decides n name).0 is)
    by false is = other is once

look_answered : (answers : List Answer) (name : List ℕ) (found : Option (List ℕ)) → Only answers name found → Once answers name found
    → look (store_of answers) name ≡ found
look_answered [] name found only (inl absent) = sym absent
look_answered [] name found only (inr there) = absurd (none_there (name, found) there)
look_answered (answer ∷ answers) name found only once =
    stepped answer.0 name found answers answer.1 only once
    (look_answered answers name found (λ (one : Answer) (h : Contains answers one). only one (Contains-append_right (answer ∷ []) answers one h)))

pub steady_agree : (answers : List Answer) → AreSteady answers → AgreeWith (store_of answers) answers
steady_agree answers steady = holding_agrees (store_of answers) answers (λ k d h.
    let one = get_or answers k d in
    look_answered answers one.0 one.1
    (λ (answer : Answer) (there : Contains answers answer) (alike : answer.0 ≡ one.0). steady answer one there (Contains-get_or answers k d h) alike)
    (inr (Contains-get_or answers k d h)))

pub agreeing_are_steady : (store : Store) (answers : List Answer) → AgreeWith store answers → AreSteady answers
agreeing_are_steady store answers agrees one other there also alike =
    let held = All-contains (λ (answer : Answer). look store answer.0 ≡ answer.1) answers in
    sym (held one (agreeing_holds store answers agrees) there) ∙ ap (look store) alike ∙ held other (agreeing_holds store answers agrees) also
