-- A text that is one reference to a value that needs no expansion is that value.
use Rattle.std.proofs.Common.{arith, ◌≡◌, ◌==◌, ℕ, Bool, false, true, [], ◌∷◌, Option, Some, None, refl, bytes_eq, IfSome}
use Rattle.kt_eval.proofs.Common.{list_any, Text, Mark, reference, terms_of, Store, World, lookup, Gave, Evaluator, each_term, expanded, term_of, evaluator}
use Rattle.kt_eval.specs.reading.Conditions.{ComparedTexts}
use Rattle.kt_eval.specs.reading.Conditionals.{are_equal}
use Rattle.kt_eval.specs.inner.Plain.{put_of, still_deferred}
use Rattle.kt_eval.specs.views.expanding.Calls.{names_plainly}
use Rattle.kt_eval.proofs.lemmas.expanding.LiteralLemmas.{stays}
use Rattle.kt_eval.proofs.lemmas.expanding.PlainLemmas.{plainly_is, value_put}

equal_when : (e : Evaluator) (compared : ComparedTexts) (value : Text) (w : World) → expanded e compared.first w ≡ Gave w value
    → list_any (λ byte. byte == 36) compared.second ≡ false → are_equal e (Some compared) w ≡ Gave w (bytes_eq value compared.second)
unfolding are_equal
equal_when e compared value w first free = rw first (rw (stays e compared.second w free) refl)

module _ (below : ℕ) (mark : Mark) (name : Text) (w : World) where
  sole_is : (reads : Bool) (store : Store) (text : Text) → terms_of text ≡ reference mark name ∷ [] → names_plainly mark name ≡ true
      → None ≡ still_deferred below (lookup name w)
      → expanded (evaluator reads store below) text w ≡ Gave w (put_of below (lookup name w))
  unfolding expanded each_term term_of
  sole_is reads store text is plain none = grind (arith, plainly_is, value_put)

  pub plainly_when : (compared : ComparedTexts) (result : Option Bool) → terms_of compared.first ≡ reference mark name ∷ []
      → names_plainly mark name ≡ true → list_any (λ byte. byte == 36) compared.second ≡ false
      → IfSome result (λ _. None ≡ still_deferred below (lookup name w))
      → IfSome result (λ same. same ≡ bytes_eq (put_of below (lookup name w)) compared.second)
      → IfSome result (λ same. (reads : Bool) → (store : Store) → are_equal (evaluator reads store below) (Some compared) w ≡ Gave w same)
  plainly_when compared None is plain free none value = tt
  plainly_when compared (Some same) is plain free none value = grind (arith, equal_when, sole_is)
