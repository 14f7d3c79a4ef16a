-- The rule of a line, from the results of the steps that read it.
use Rattle.std.proofs.Common.{arith, ◌≡◌, ℕ, true, false, List, [], ◌∷◌, filter, refl, sym, ◌∙◌, ap, ⊎_elim, Option, Result, Ok, Err}
use Rattle.kt_rules.proofs.Common.{list_all, onto_first, slice_split, cases_Bool, Text, is_nonempty, is_separator, words_of, RuleFault, HeadNames, Refusal, RuleLineFault, GivesExpected, ReportsFault, rule_line_fault, rule_line_faults, Head, head_of, line_of, Entry, empty_line, is_nil, head_names, rule_of, rule_with, rules_with, tested_line}
use Rattle.kt_text.proofs.lemmas.WordLemmas.{words_of-nil, words_of-skip}
use Rattle.kt_rules.specs.declared.place.Place.{Place}

-- a text of which each byte is a separator has no word
some_first : (byte : ℕ) (parts : List Text) → is_nil (filter is_nonempty (onto_first byte parts)) ≡ false
some_first byte parts = grind arith

word_begun : (byte : ℕ) (text : Text) → is_separator byte ≡ false → is_nil (words_of (byte ∷ text)) ≡ false
unfolding words_of
word_begun byte text h = rw h (some_first byte (slice_split is_separator text))

pub blank_words : (text : Text) → list_all is_separator text ≡ is_nil (words_of text)
blank_words [] = sym (ap is_nil words_of-nil)
blank_words (byte ∷ text) = grind (arith, ⊎_elim, words_of-skip, word_begun, cases_Bool, blank_words text)

-- a reported fault is the expected result
pub told_fault : {A : Type 0} (told : RuleFault) (fault : RuleLineFault) (expected : Result A RuleLineFault)
    → ReportsFault told fault → expected ≡ Err fault → GivesExpected (Err told) expected
told_fault told fault expected tells is = grind arith

module _ (text : Text) (recipe : Option Text) (place : Place) where
  -- a head without a word
  pub blank_rule : (line : HeadNames) (rule : Entry) → is_nil (words_of text) ≡ true → line ≡ empty_line → rule ≡ rule_with line recipe place
      → rule_of text recipe place ≡ Ok rule
  unfolding rule_of head_names
  blank_rule line rule blank empty is = rw blank (ap Ok (sym (is ∙ ap (λ l. rule_with l recipe place) empty)))

  -- a head that is refused
  pub head_fault : (refusal : Refusal) → is_nil (words_of text) ≡ false → Err refusal ≡ head_of text
      → rule_of text recipe place ≡ Err (rule_line_fault place refusal)
  unfolding rule_of head_names
  head_fault refusal filled head = rw (filled, ← head) refl

  -- a head whose line is then tested
  pub line_tested : (head : Head) (line : HeadNames) → is_nil (words_of text) ≡ false → Ok head ≡ head_of text → line ≡ line_of head
      → rule_of text recipe place ≡ rule_line_faults place (rules_with (tested_line line) recipe place)
  unfolding rule_of head_names
  line_tested head line filled cut named = rw (filled, ← cut, ← named) refl
