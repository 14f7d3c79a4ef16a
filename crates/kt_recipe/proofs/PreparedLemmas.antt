-- Pieces stand for what a text expands to, in each part of each node.
use Rattle.std.proofs.Common.{◌≡◌, ℕ, zero, suc, ◌-◌, Bool, true, false, List, [], ◌∷◌, ◌++◌, Option, Some, None, option_map, refl, sym, ap, ◌∙◌, arith, true≢false, IfSome, MatchOption, codes}
use Rattle.kt_recipe.proofs.Common.{append-nil, append_assoc, Text, Term, literal, dollar, reference, terms_of, Place, Macro, StepEnd, Gave, done, then_do, World, fixed_or, found_of, frozen_world, innermost_value, lookup, Evaluator, each_term, expanded, flavoured, term_of, value_of, above, evaluator, names_plainly, Macros, find, Node, NamePart, Subject, automatic_in, subject_names_in, names_text_in, Commands, expansion}
use Rattle.kt_syntax.specs.declared.term.Mark.{Mark}
use Rattle.kt_eval.specs.Step.{Step}
use Rattle.kt_eval.proofs.lemmas.expanding.PlainLemmas.{plainly_is}
use Rattle.kt_recipe.specs.declared.prepared.Gap.{Gap}
use Rattle.kt_recipe.specs.declared.prepared.PreparedText.{PreparedText}
use Rattle.kt_recipe.specs.inner.Asking.{macro_in, subject_and_part}
use Rattle.kt_recipe.specs.inner.Prepared.{Adds, AddsMacro, AddsText, IsFilled, IsPrepared, filled, filled_gaps}
use Rattle.kt_recipe.proofs.AskingLemmas.{found_by_name}

-- ---- pieces

abbrev told : Node → ℕ → Gap → Text
told node part gap = names_text_in gap.form (subject_names_in node part gap.subject)

gaps_after : (node : Node) (part : ℕ) (gaps : List Gap) (gap : Gap)
    → filled_gaps node part (gaps ++ gap ∷ []) ≡ filled_gaps node part gaps ++ (gap.before ++ told node part gap)
unfolding filled_gaps
gaps_after node part [] gap = ap (λ t. gap.before ++ t) (append-nil (told node part gap))
gaps_after node part (first ∷ gaps) gap = grind (arith, append_assoc, gaps_after node part gaps gap)

-- an automatic macro that takes the text before it
pub macro_added : (subject : Subject) (form : NamePart) (before : Text) (old new : PreparedText) → before ≡ old.end.items
    → new.gaps.items ≡ old.gaps.items ++ record { before = before; subject = subject; form = form } ∷ [] → new.end.items ≡ [] → AddsMacro subject form old new
unfolding filled
macro_added subject form before old new is longer empty node part = grind (arith, append-nil, gaps_after, append_assoc)

-- a text after the last one
pub text_added : (text : Text) (old new : PreparedText) → new.gaps.items ≡ old.gaps.items → new.end.items ≡ old.end.items ++ text → AddsText text old new
unfolding filled
text_added text old new same longer node part = grind (arith, append_assoc)

-- ---- a term

pub known_adds : (table : Macros) (text : Text) (old new : PreparedText) → AddsText text old new → Adds table (done text) old new
known_adds table text old new is node part place said = (text, is node part, refl)

pub literal_adds : (table : Macros) (e : Evaluator) (text : Text) (old new : PreparedText) → AddsText text old new → Adds table (term_of e (literal text)) old new
unfolding term_of
literal_adds table e text old new is node part place said = (text, is node part, refl)

pub dollar_adds : (table : Macros) (e : Evaluator) (old new : PreparedText) → AddsText (codes "$") old new → Adds table (term_of e dollar) old new
unfolding term_of
dollar_adds table e old new is node part place said = (codes "$", is node part, refl)

-- a plain reference adds what the value of its name does
pub reference_adds : (table : Macros) (e : Evaluator) (mark : Mark) (name : Text) (old new : PreparedText) → names_plainly mark name ≡ true
    → Adds table (λ w. value_of e (lookup name w) w) old new → Adds table (term_of e (reference mark name)) old new
unfolding term_of
reference_adds table e mark name old new plain adds node part place said =
    let more = adds node part place said in
    (more.0, more.1, plainly_is e mark name (frozen_world table (automatic_in node part) place said) plain ∙ more.2)

-- ---- a name

unbound_is : (node : Node) (part : ℕ) (name : Text) (table : Macros) (place : Option Place) (said : List Text)
    → lookup name (frozen_world table (automatic_in node part) place said) ≡ fixed_or (macro_in node part name) (option_map found_of (find name table))
unfolding lookup innermost_value
unbound_is node part name table place said = grind (arith, found_by_name)

-- that of an automatic macro
pub macro_adds : (table : Macros) (e : Evaluator) (name : Text) (subject : Subject) (form : NamePart) (old new : PreparedText) → subject_and_part name ≡ Some (subject, form)
    → AddsMacro subject form old new → Adds table (λ w. value_of e (lookup name w) w) old new
unfolding value_of macro_in
macro_adds table e name subject form old new asked adds node part place said =
    let w = frozen_world table (automatic_in node part) place said in (
      names_text_in form (subject_names_in node part subject),
      adds node part,
      ap (λ found. value_of e found w)
          (unbound_is node part name table place said
          ∙ ap (λ asked. fixed_or (option_map (λ asked. names_text_in asked.1 (subject_names_in node part asked.0)) asked) (option_map found_of (find name table))) asked),
    )

in_table : (node : Node) (part : ℕ) (name : Text) (table : Macros) (place : Option Place) (said : List Text) → subject_and_part name ≡ None
    → lookup name (frozen_world table (automatic_in node part) place said) ≡ option_map found_of (find name table)
unfolding macro_in
in_table node part name table place said none = grind (arith, unbound_is)

-- that of another name
pub entry_adds : (table : Macros) (e : Evaluator) (name : Text) (entry : Macro) (old new : PreparedText) → subject_and_part name ≡ None → find name table ≡ Some entry
    → Adds table (flavoured e entry.flavour entry.value) old new → Adds table (λ w. value_of e (lookup name w) w) old new
unfolding value_of
entry_adds table e name entry old new none found adds node part place said =
    let w = frozen_world table (automatic_in node part) place said in
    let more = adds node part place said in (
      more.0,
      more.1,
      ap (λ found. value_of e found w) (in_table node part name table place said none ∙ ap (option_map found_of) found) ∙ more.2,
    )

-- that of a name that isn't defined
pub nothing_adds : (table : Macros) (e : Evaluator) (name : Text) (pieces : PreparedText) → subject_and_part name ≡ None → find name table ≡ None
    → Adds table (λ w. value_of e (lookup name w) w) pieces pieces
unfolding value_of
nothing_adds table e name pieces none found node part place said = grind (arith, append-nil, in_table)

-- a text is expanded one level deeper
pub deeper_adds : (table : Macros) (limit : ℕ) (text : Text) (old new : PreparedText) → (limit ≡ 0 → ⊥)
    → Adds table (expanded (evaluator false [] (limit - 1)) text) old new → Adds table ((evaluator false [] limit).expand text) old new
unfolding evaluator above
deeper_adds table zero text old new some adds node part place said = absurd (some refl)
deeper_adds table (suc limit) text old new some adds node part place said =
    let w = frozen_world table (automatic_in node part) place said in
    let more = adds node part place said in
    let less : suc limit - 1 ≡ limit = omega arith in
    (more.0, more.1, ap (λ limit. expanded (evaluator false [] limit) text w) (sym less) ∙ more.2)

-- ---- the terms of a text, one after another

-- the terms that are left, after what was added for those before them, are all terms
abbrev pub AddsUpTo : Macros → Evaluator → List Term → List Term → PreparedText → PreparedText → Type 0
AddsUpTo table e all left old now =
    (node : Node) (part : ℕ) (place : Option Place) (said : List Text)
    → (text : Text) × (filled node part now ≡ filled node part old ++ text)
    × (each_term e text left (frozen_world table (automatic_in node part) place said)
    ≡ each_term e [] all (frozen_world table (automatic_in node part) place said))

next_is : (e : Evaluator) (before text : Text) (piece : Term) (rest : List Term) (w : World) → term_of e piece w ≡ Gave w text
    → each_term e before (piece ∷ rest) w ≡ each_term e (before ++ text) rest w
unfolding each_term
next_is e before text piece rest w is = ap (λ (o : StepEnd World Text). then_do o (λ x. each_term e (before ++ x) rest)) is

pub term_added : (table : Macros) (e : Evaluator) (all left rest : List Term) (piece : Term) (old now new : PreparedText) → left ≡ piece ∷ rest
    → AddsUpTo table e all left old now → Adds table (term_of e piece) now new → AddsUpTo table e all rest old new
term_added table e all left rest piece old now new is before adds node part place said =
    let w = frozen_world table (automatic_in node part) place said in
    let one = before node part place said in
    let more = adds node part place said in (
      one.0 ++ more.0,
      more.1 ∙ (ap (λ t. t ++ more.0) one.1 ∙ append_assoc (filled node part old) one.0 more.0),
      sym (next_is e one.0 more.0 piece rest w more.2) ∙ (ap (λ left. each_term e one.0 left w) (sym is) ∙ one.2),
    )

pub all_added : (table : Macros) (e : Evaluator) (text : Text) (left : List Term) (old now : PreparedText) → left ≡ []
    → AddsUpTo table e (terms_of text) left old now → Adds table (expanded e text) old now
unfolding expanded each_term
all_added table e text left old now is before node part place said =
    let w = frozen_world table (automatic_in node part) place said in
    let one = before node part place said in
    (one.0, one.1, sym one.2 ∙ ap (λ left. each_term e one.0 left w) is)

-- ---- a text

-- what is added to no pieces is what the step gives
pub added_to_none : (table : Macros) (step : Step Text) (none pieces : PreparedText) → none.gaps.items ≡ [] → none.end.items ≡ []
    → Adds table step none pieces → (node : Node) (part : ℕ) (place : Option Place) (said : List Text)
    → step (frozen_world table (automatic_in node part) place said) ≡ Gave (frozen_world table (automatic_in node part) place said) (filled node part pieces)
unfolding filled filled_gaps
added_to_none table step none pieces gaps end adds node part place said =
    let w = frozen_world table (automatic_in node part) place said in
    let more = adds node part place said in
    let is : filled node part pieces ≡ more.0 =
    more.1 ∙ (ap (λ gaps. (filled_gaps node part gaps ++ none.end.items) ++ more.0) gaps ∙ ap (λ end. end ++ more.0) end) in
    more.2 ∙ ap (λ t. Gave w t) (sym is)

pub is_filled : (commands : Commands) (line : Text) (node : Node) (part : ℕ) (pieces : PreparedText) (text : Text)
    → IsPrepared commands.table commands.limit line pieces → text ≡ filled node part pieces → IsFilled commands line node part text
unfolding expansion
is_filled commands line node part pieces text prepared is place said = grind arith

-- a line whose pieces are right is filled, if it is known
pub line_fills : (commands : Commands) (line : Text) (node : Node) (part : ℕ) (text : Text) (found : Option PreparedText) (known : Bool) → known ≡ true
    → MatchOption found (known ≡ false) (λ pieces. text ≡ filled node part pieces)
    → IfSome found (λ pieces. IsPrepared commands.table commands.limit line pieces) → IsFilled commands line node part text
line_fills commands line node part text None known sure unknown right = absurd (true≢false (sym sure ∙ unknown))
line_fills commands line node part text (Some pieces) known sure is right = is_filled commands line node part pieces text right is
