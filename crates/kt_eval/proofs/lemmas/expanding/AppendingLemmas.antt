-- A term's text is appended, with what needs no further level before the rest of it, and then the other terms.
use Rattle.std.proofs.Common.{arith, ◌≡◌, ℕ, Bool, List, [], ◌∷◌, ◌++◌, refl, sym, ap, ◌∙◌, append-nil}
use Rattle.kt_eval.proofs.Common.{Text, Term, Stop, Nothing, Value, Whole, Store, World, StepEnd, Gave, Stopped, then_do, done, left_of, Step, GoesOn, term_of, each_term, evaluator}
use Rattle.kt_eval.specs.inner.Plain.{put_by, left_by, with_term}
use Rattle.kt_eval.proofs.lemmas.EarlyLemmas.{Early, fails_then, stands}
use Rattle.kt_eval.proofs.lemmas.expanding.PlainLemmas.{term_put, term_left, term_whole}
use Rattle.kt_eval.proofs.Steps.{each_term_goes}

then_again : {A B C : Type 0} (o : StepEnd World A) (f : A → B) (next : B → Step C)
    → then_do o (λ x. next (f x)) ≡ then_do (then_do o (λ x. done (f x))) next
then_again (Gave w x) f next = refl
then_again (Stopped w fault) f next = refl

module _ (reads : Bool) (store : Store) (below : ℕ) where
  pub put_gives : (out new : Text) (piece : Term) (w : World) → Nothing ≡ left_by below piece w → new ≡ out ++ put_by below piece w
      → with_term (evaluator reads store below) out piece w ≡ Gave w new
  unfolding with_term
  put_gives out new piece w left put = rw (term_put reads store below piece w left) (ap (λ t. Gave w t) (sym put))

  -- nothing was appended of a term that isn't put
  unput : (out now put : Text) → now ≡ out ++ put → put ≡ [] → now ≡ out
  unput out now put is nothing = is ∙ ap (λ t. out ++ t) nothing ∙ append-nil out

  -- ---- a value that remains

  pub value_fails : (stop : Stop) (out text : Text) (piece : Term) (w v : World) → Value text ≡ left_by below piece w
      → Early stop v ((evaluator reads store below).expand text w) → Early stop v (with_term (evaluator reads store below) out piece w)
  unfolding with_term
  value_fails stop out text piece w v left h = grind (arith, term_left, fails_then, stands)

  pub value_gives : (out now new x text : Text) (piece : Term) (w v : World) → Value text ≡ left_by below piece w → now ≡ out ++ put_by below piece w
      → (evaluator reads store below).expand text w ≡ Gave v x → new ≡ now ++ x → with_term (evaluator reads store below) out piece w ≡ Gave v new
  unfolding with_term
  value_gives out now new x text piece w v left put gives more =
      let found = term_left reads store below piece text w left in
      rw (found.0 ∙ gives) (ap (λ t. Gave v t) (sym (more ∙ ap (λ t. t ++ x) (unput out now (put_by below piece w) put found.1))))

  pub value_front : (out x text : Text) (piece : Term) (w v : World) → Value text ≡ left_by below piece w
      → (evaluator reads store below).expand text w ≡ Gave v x → GoesOn v (left_of (with_term (evaluator reads store below) out piece w))
  unfolding with_term
  value_front out x text piece w v left gives = rw ((term_left reads store below piece text w left).0 ∙ gives) (stands v)

  -- ---- a term that remains as a whole

  pub whole_gives : (out now new x : Text) (piece : Term) (w v : World) → Whole ≡ left_by below piece w → now ≡ out ++ put_by below piece w
      → term_of (evaluator reads store below) piece w ≡ Gave v x → new ≡ now ++ x → with_term (evaluator reads store below) out piece w ≡ Gave v new
  unfolding with_term
  whole_gives out now new x piece w v left put gives more =
      rw gives (ap (λ t. Gave v t) (sym (more ∙ ap (λ t. t ++ x) (unput out now (put_by below piece w) put (term_whole below piece w left)))))

  -- ---- the terms after it

  each_is : (out : Text) (piece : Term) (pieces : List Term) (w : World)
      → each_term (evaluator reads store below) out (piece ∷ pieces) w
      ≡ then_do (with_term (evaluator reads store below) out piece w) (λ longer. each_term (evaluator reads store below) longer pieces)
  unfolding each_term with_term
  each_is out piece pieces w = grind (arith, then_again)

  pub term_fails : (stop : Stop) (out : Text) (piece : Term) (rest pieces : List Term) (w v : World) → rest ≡ piece ∷ pieces
      → Early stop v (with_term (evaluator reads store below) out piece w) → Early stop v (each_term (evaluator reads store below) out rest w)
  term_fails stop out piece rest pieces w v cut h =
      rw cut (rw (each_is out piece pieces w)
      (fails_then stop v (with_term (evaluator reads store below) out piece w) (λ longer. each_term (evaluator reads store below) longer pieces)
      (λ longer u. each_term_goes reads store below longer pieces u) h))

  pub term_gives : (out new : Text) (piece : Term) (rest pieces : List Term) (w v : World) → rest ≡ piece ∷ pieces
      → with_term (evaluator reads store below) out piece w ≡ Gave v new
      → each_term (evaluator reads store below) out rest w ≡ each_term (evaluator reads store below) new pieces v
  term_gives out new piece rest pieces w v cut gives = rw cut (rw (each_is out piece pieces w) (rw gives refl))
