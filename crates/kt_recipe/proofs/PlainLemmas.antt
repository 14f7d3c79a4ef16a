-- A shell whose values expand to themselves is expanded to these values.
use Rattle.std.proofs.Common.{◌≡◌, ℕ, zero, suc, Bool, false, not, ◌==◌, ⊎_elim, List, [], ◌++◌, Option, Some, None, refl, ap, arith, codes, option_map, unwrap_or}
use Rattle.kt_recipe.proofs.Common.{cases_Bool, eqb-true, list_any, Text, is_separator, is_blank, list_text, Place, without_repeats, Deferred, Immediate, Macro, other_function, function_of, is_refused_function, asked_of, request_by_mark, naming_of, text_function, Evaluator, flavoured, value_of, body_of, value_named, referred, term_of, each_term, expanded, Store, above, evaluator, World, found_of, seen, innermost_value, lookup, frozen_world, Gave, Macros, find, Node, subject_names, automatic_in, names_text_in, setting_of, shell_text, expansion}
use Rattle.kt_eval.specs.declared.macros.Flavour.{Flavour}
use Rattle.kt_eval.proofs.lemmas.expanding.LiteralLemmas.{stays}
use Rattle.kt_recipe.specs.inner.Plain.{expands_to_itself, if_plain, plain_value, spaced, plain_shell}
use Rattle.kt_recipe.proofs.TermLemmas.{shell_terms}
use Rattle.kt_eval.proofs.lemmas.expanding.PlainLemmas.{no_text}

-- ---- a value

free_is : (e : Evaluator) (value text : Text) (w : World) (b : Bool) → list_any (λ byte. byte == 36) value ≡ b → if_plain (not b) value ≡ Some text
    → expanded e value w ≡ Gave w text
free_is e value text w b is found = grind (arith, no_text, stays)

not_zero : (limit : ℕ) → (suc limit == 0) ≡ false
not_zero limit = ⊎_elim (λ h. let e = eqb-true _ _ h in absurd (omega arith)) (λ h. h) (cases_Bool (suc limit == 0))

flavoured_is : (reads : Bool) (store : Store) (limit : ℕ) (flavour : Flavour) (value text : Text) (w : World) → if_plain (expands_to_itself limit flavour value) value ≡ Some text
    → flavoured (evaluator reads store limit) flavour value w ≡ Gave w text
unfolding evaluator above
flavoured_is reads store limit Immediate value text w is = ap (λ t. Gave w (unwrap_or t [])) is
flavoured_is reads store zero Deferred value text w is = absurd (no_text text is)
flavoured_is reads store (suc limit) Deferred value text w is = grind (arith, free_is, not, not_zero)

value_is : (reads : Bool) (store : Store) (limit : ℕ) (found : Option Macro) (text : Text) (w : World) → plain_value limit found ≡ Some text
    → value_of (evaluator reads store limit) (option_map found_of found) w ≡ Gave w text
unfolding plain_value value_of
value_is reads store limit None text w is = absurd (no_text text is)
value_is reads store limit (Some entry) text w is = flavoured_is reads store limit entry.flavour entry.value text w is

-- ---- the shell

-- opens the names of automatic macros, of which the shell's are none
unfoldable pub listing : Unit {0}
unfolding subject_names automatic_in names_text_in list_text without_repeats
listing = tt

terms_are_values : (e : Evaluator) (node : Node) (part : ℕ) (table : Macros) (place : Option Place) (said : List Text) (shell flags : Text)
    → let w = frozen_world table (automatic_in node part) place said in
    value_of e (option_map found_of (find (codes "SHELL") table)) w ≡ Gave w shell
    → value_of e (option_map found_of (find (codes ".SHELLFLAGS") table)) w ≡ Gave w flags
    → expanded e shell_text w ≡ Gave w ((shell ++ codes " ") ++ flags)
unfolding listing is_separator is_blank seen innermost_value lookup text_function other_function function_of is_refused_function asked_of request_by_mark naming_of body_of value_named referred term_of each_term expanded
terms_are_values e node part table place said shell flags first second =
    rw (shell_terms, first, second) refl

both_are : (node : Node) (part : ℕ) (table : Macros) (limit : ℕ) (place : Option Place) (said : List Text) (text : Text) (first second : Option Text)
    → plain_value limit (find (codes "SHELL") table) ≡ first → plain_value limit (find (codes ".SHELLFLAGS") table) ≡ second
    → Some text ≡ spaced first second
    → expanded (evaluator false [] limit) shell_text (frozen_world table (automatic_in node part) place said)
    ≡ Gave (frozen_world table (automatic_in node part) place said) text
both_are node part table limit place said text first second is also found = grind (arith, no_text, terms_are_values, value_is, codes)

pub shell_is : (node : Node) (part : ℕ) (table : Macros) (limit : ℕ) (place : Place) (said : List Text) (text : Text)
    → Some text ≡ plain_shell table limit
    → expansion (setting_of table (automatic_in node part) limit place) shell_text said ≡ Gave said text
unfolding plain_shell expansion
shell_is node part table limit place said text found = grind (arith, both_are)
