-- A text with each dollar doubled, expanded.
use Rattle.std.proofs.Common.{arith, ◌≡◌, ◌==◌, ℕ, suc, Bool, true, false, [], ◌∷◌, ◌++◌, Some, take, refl, sym, ap, subst, ◌∙◌, append_assoc, append-nil, ⊎_elim}
use Rattle.kt_eval.proofs.Common.{cases_Bool, eqb-true, Text, dropped, terms_of, terms_after, first_term, after_dollar, set_by_makefile, with_dollars_doubled, Store, World, found_of, StepEnd, Gave, Evaluator, value_of, term_of, each_term, expanded, above, evaluator}
use Rattle.kt_eval.specs.declared.macros.Flavour.TheVariants.{Deferred}
use Rattle.kt_syntax.proofs.lemmas.Runs.{run, run-no}

-- the expansion of what comes after a given number of bytes, whose expansion is known
pub after : Evaluator → World → Text → ℕ → Text → StepEnd World Text
after e w out skip text = each_term e out (terms_after dropped skip text) w

doubled-yes : (byte : ℕ) (text : Text) → (byte == 36) ≡ true → with_dollars_doubled (byte ∷ text) ≡ 36 ∷ 36 ∷ with_dollars_doubled text
unfolding with_dollars_doubled
doubled-yes byte text h = rw h refl

doubled-no : (byte : ℕ) (text : Text) → (byte == 36) ≡ false → with_dollars_doubled (byte ∷ text) ≡ byte ∷ with_dollars_doubled text
unfolding with_dollars_doubled
doubled-no byte text h = rw h refl

-- two dollars make one
after-dollars : (e : Evaluator) (w : World) (out text : Text)
    → after e w out 0 (36 ∷ 36 ∷ text) ≡ after e w (out ++ 36 ∷ []) 0 text
unfolding after each_term terms_after first_term after_dollar term_of
after-dollars e w out text = refl

-- a run without a dollar expands to itself
after-run : (e : Evaluator) (w : World) (out : Text) (byte : ℕ) (text : Text) → (byte == 36) ≡ false
    → after e w out 0 (byte ∷ text) ≡ after e w (out ++ byte ∷ take (run text) text) (run text) text
unfolding after each_term terms_after first_term term_of
after-run e w out byte text h = rw h refl

after-skip : (e : Evaluator) (w : World) (out : Text) (n byte : ℕ) (text : Text)
    → after e w out (suc n) (byte ∷ text) ≡ after e w out n text
unfolding after terms_after
after-skip e w out n byte text = refl

after-nil : (e : Evaluator) (w : World) (out : Text) → after e w out 0 [] ≡ Gave w out
unfolding after each_term terms_after
after-nil e w out = refl

-- a text with its dollars doubled, in a run whose first bytes are there already
abbrev Runs : Evaluator → World → Text → Text → Type 0
Runs e w out text = after e w (out ++ take (run (with_dollars_doubled text)) (with_dollars_doubled text)) (run (with_dollars_doubled text)) (with_dollars_doubled text)
    ≡ Gave w (out ++ text)

-- and at its start
abbrev Starts : Evaluator → World → Text → Text → Type 0
Starts e w out text = after e w out 0 (with_dollars_doubled text) ≡ Gave w (out ++ text)

-- both, whatever was expanded before
record Doubles (e : Evaluator) (w : World) (text : Text) : Type 0 where
  starts : (out : Text) → Starts e w out text
  runs : (out : Text) → Runs e w out text

doubles-nil : (e : Evaluator) (w : World) → Doubles e w []
unfolding with_dollars_doubled
doubles-nil e w = grind (arith, after-nil, append-nil)

doubles-dollar : (e : Evaluator) (w : World) (byte : ℕ) (text : Text) → (byte == 36) ≡ true → Doubles e w text
    → Doubles e w (byte ∷ text)
doubles-dollar e w byte text h d = grind (arith, after, take, run, doubled-yes, append-nil, after-dollars, append_assoc, eqb-true)

doubles-other : (e : Evaluator) (w : World) (byte : ℕ) (text : Text) → (byte == 36) ≡ false → Doubles e w text
    → Doubles e w (byte ∷ text)
doubles-other e w byte text h d = record {
  starts = λ out. ap (after e w out 0) (doubled-no byte text h) ∙ after-run e w out byte (with_dollars_doubled text) h ∙ more out;
  runs = λ out.
      subst (λ (x : Text). after e w (out ++ take (run x) x) (run x) x ≡ Gave w (out ++ byte ∷ text))
      (sym (doubled-no byte text h))
      (subst (λ (n : ℕ). after e w (out ++ take n (byte ∷ with_dollars_doubled text)) n (byte ∷ with_dollars_doubled text) ≡ Gave w
      (out ++ byte ∷ text)) (sym (run-no byte (with_dollars_doubled text) h))
      (after-skip e w _ _ _ _ ∙ more out));
}
  where
    more : (out : Text)
        → after e w (out ++ byte ∷ take (run (with_dollars_doubled text)) (with_dollars_doubled text)) (run (with_dollars_doubled text)) (with_dollars_doubled text)
        ≡ Gave w (out ++ byte ∷ text)
    more out =
        ap (λ (x : Text). after e w x (run (with_dollars_doubled text)) (with_dollars_doubled text))
        (sym (append_assoc out (byte ∷ []) (take (run (with_dollars_doubled text)) (with_dollars_doubled text))))
        ∙ d.runs (out ++ byte ∷ []) ∙ ap (Gave w) (append_assoc out (byte ∷ []) text)

doubles : (e : Evaluator) (w : World) (text : Text) → Doubles e w text
doubles e w [] = doubles-nil e w
doubles e w (byte ∷ text) = grind (arith, ⊎_elim, doubles-dollar, doubles-other, cases_Bool, doubles e w text)

pub doubled-expanded : (e : Evaluator) (w : World) (text : Text) → expanded e (with_dollars_doubled text) w ≡ Gave w text
unfolding expanded terms_of after
doubled-expanded e w text = (doubles e w text).starts []

-- the macro that is set expands to the text
pub doubled-found : (reads : Bool) (store : Store) (levels : ℕ) (text : Text) (w : World)
    → value_of (evaluator reads store (suc levels)) (Some (found_of (set_by_makefile Deferred (with_dollars_doubled text)))) w
    ≡ Gave w text
unfolding value_of evaluator above
doubled-found reads store levels text w = doubled-expanded (evaluator reads store levels) w text
