-- The terms of a text by functions that look only where they must: both sides of an `if` are computed, so that a search
-- for a closing mark takes three times as long for each byte more.
use Rattle.std.proofs.Common.{arith, ◌≡◌, ℕ, zero, suc, ◌+◌, ◌-◌, Bool, true, false, ◌==◌, if◌then◌else◌, List, [], ◌∷◌, Option, Some, None, refl, ap, ◌∙◌, codes}
use Rattle.kt_recipe.proofs.Common.{Text, Parentheses, Braces, Term, literal, dollar, reference, Continuations, dropped, closing, single, after_dollar, literal_run, first_term, terms_after, terms_of, shell_text}
use Rattle.kt_syntax.specs.Terms.{reference_of}

unfoldable pub quick_closing : ℕ → ℕ → ℕ → ℕ → Text → Option ℕ
quick_closing opener closer at depth [] = None
quick_closing opener closer at depth (byte ∷ text) =
    elim (byte == opener) [
      | true ↦ quick_closing opener closer (at + 1) (depth + 1) text
      | false ↦ elim (byte == closer) [
        | true ↦ elim (depth == 0) [
          | true ↦ Some at
          | false ↦ quick_closing opener closer (at + 1) (depth - 1) text
        ]
        | false ↦ quick_closing opener closer (at + 1) depth text
      ]
    ]

either_way : (b : Bool) (x y u v : Option ℕ) → x ≡ u → y ≡ v → (if b then x else y) ≡ elim b [ true ↦ u | false ↦ v ]
either_way b x y u v same other = grind arith

closing_is : (opener closer at depth : ℕ) (text : Text) → closing opener closer at depth text ≡ quick_closing opener closer at depth text
unfolding closing quick_closing
closing_is opener closer at depth [] = refl
closing_is opener closer at depth (byte ∷ text) = grind (arith, either_way, closing_is opener closer (at + 1) (depth + 1) text, closing_is opener closer (at + 1) (depth - 1) text, closing_is opener closer (at + 1) depth text)

unfoldable pub quick_past : Continuations → Text → Term × ℕ
quick_past continuations [] = (literal [], 0)
quick_past continuations (byte ∷ text) =
    if byte == 36 then (dollar, 1)
    else (if byte == 40 then reference_of Parentheses text (quick_closing 40 41 0 0 text)
    else (if byte == 123 then reference_of Braces text (quick_closing 123 125 0 0 text)
    else single continuations (byte ∷ text)))

after_are : (continuations : Continuations) (text : Text) → after_dollar continuations text ≡ quick_past continuations text
unfolding after_dollar quick_past
after_are continuations text = grind (arith, closing_is)

unfoldable pub quick_first : Continuations → ℕ → Text → Term × ℕ
quick_first continuations byte text = if byte == 36 then quick_past continuations text else literal_run byte text

first_is : (continuations : Continuations) (byte : ℕ) (text : Text) → first_term continuations byte text ≡ quick_first continuations byte text
unfolding first_term quick_first
first_is continuations byte text = rw (after_are continuations text) refl

unfoldable pub quick_after : Continuations → ℕ → Text → List Term
quick_after continuations skip [] = []
quick_after continuations (suc skip) (byte ∷ text) = quick_after continuations skip text
quick_after continuations zero (byte ∷ text) =
    (quick_first continuations byte text).0 ∷ quick_after continuations (quick_first continuations byte text).1 text

after_is : (continuations : Continuations) (skip : ℕ) (text : Text) → terms_after continuations skip text ≡ quick_after continuations skip text
unfolding terms_after quick_after
after_is continuations skip [] = refl
after_is continuations (suc skip) (byte ∷ text) = after_is continuations skip text
after_is continuations zero (byte ∷ text) =
    ap (λ (term : Term × ℕ). term.0 ∷ terms_after continuations term.1 text) (first_is continuations byte text)
    ∙ ap (λ terms. (quick_first continuations byte text).0 ∷ terms) (after_is continuations (quick_first continuations byte text).1 text)

unfoldable pub quick_terms : Text → List Term
quick_terms text = quick_after dropped 0 text

pub terms_are : (text : Text) → terms_of text ≡ quick_terms text
unfolding terms_of quick_terms
terms_are text = after_is dropped 0 text

-- ---- the shell's text

-- opens the terms of a text
unfoldable pub splitting : Unit {0}
unfolding quick_closing quick_past quick_first quick_after quick_terms
splitting = tt

pub shell_terms : terms_of shell_text ≡ reference Parentheses (codes "SHELL") ∷ literal (codes " ") ∷ reference Parentheses (codes ".SHELLFLAGS") ∷ []
unfolding splitting
shell_terms = terms_are shell_text
