-- Worked values, one by one: each is found by computing, but for the terms of a text, which are found by the quick way.
use Rattle.std.proofs.Common.{arith, refl, ◌≡◌, ℕ, List, [], ◌∷◌, ◌++◌, Some, codes}
use Rattle.kt_recipe.proofs.Common.{Text, is_separator, is_blank, words_of, literal, reference, terms_of, Store, Macros, find, seen, innermost_value, lookup, Gave, Stopped, other_function, function_of, is_refused_function, arguments_from, arguments_of, asked_of, request_by_mark, naming_of, text_function, value_of, each_argument, each_word, apply_foreach, apply_eval, apply_error, apply_info, apply, body_of, value_named, referred, term_of, each_term, expanded, above, none_left, evaluator, Node, automatic_in, is_prefix, ignores_failure, pieces_of_line, wrapped, setting_of, shell_text, expansion, put_piece, put_pieces, put_line, put_lines, put_part, put_parts, shell_of}
use Rattle.kt_rules.specs.declared.place.Place.{Place}
use Rattle.kt_rules.specs.declared.line.entry.RecipeLine.{RecipeLine}
use Rattle.kt_syntax.specs.declared.term.Mark.TheVariants.{Byte, Parentheses}
use Rattle.kt_eval.specs.Step.{fault_at}
use Rattle.kt_eval.specs.expanding.TextFunctions.{text_result}
use Rattle.kt_recipe.specs.Quoting.{quoted}
use Rattle.kt_recipe_laws.specs.Rows.{simple, node_of_two_rules, with_shell}
use Rattle.kt_eval_laws.specs.Rows.{deferred}
use Rattle.kt_recipe.proofs.PlainLemmas.{listing}
use Rattle.kt_recipe.proofs.TermLemmas.{terms_are, splitting, shell_terms}

-- `unfolding expanding` opens what a text expands to, and `making` how a command is made
unfoldable expanding : Unit {0}
unfolding listing splitting is_separator is_blank words_of find seen innermost_value lookup text_function other_function function_of is_refused_function text_result arguments_from arguments_of asked_of request_by_mark naming_of value_of each_argument apply_foreach each_word apply_eval apply_error apply_info apply body_of value_named referred term_of each_term expanded above none_left evaluator expansion
expanding = tt

unfoldable pub making : Unit {0}
unfolding is_blank is_prefix ignores_failure pieces_of_line quoted wrapped put_piece put_pieces put_line put_lines put_part put_parts shell_of
making = tt

-- ---- texts that are expanded

telling_terms : terms_of (codes "$(info s)sh") ≡ reference Parentheses (codes "info s") ∷ literal (codes "sh") ∷ []
unfolding splitting
telling_terms = terms_are (codes "$(info s)sh")

refusing_terms : terms_of (codes "$(error $@)") ≡ reference Parentheses (codes "error $@") ∷ []
unfolding splitting
refusing_terms = terms_are (codes "$(error $@)")

target_terms : terms_of (codes "$@") ≡ reference Byte (codes "@") ∷ []
unfolding splitting
target_terms = terms_are (codes "$@")

hidden_terms : terms_of (codes "$(foreach @,a b,$@) $@") ≡ reference Parentheses (codes "foreach @,a b,$@") ∷ literal (codes " ") ∷ reference Byte (codes "@") ∷ []
unfolding splitting
hidden_terms = terms_are (codes "$(foreach @,a b,$@) $@")

pub shell_told : (node : Node) (part : ℕ) (more : Macros) (place : Place) (said : List Text)
    → expansion (setting_of (with_shell more) (automatic_in node part) 9 place) shell_text said ≡ Gave said (codes "/bin/sh -c")
unfolding expanding
shell_told node part more place said = rw shell_terms (rw (terms_are (codes "/bin/sh")) (rw (terms_are (codes "-c")) refl))

pub telling_shell : (node : Node) (part : ℕ) (more : Macros) (place : Place) (said : List Text)
    → expansion (setting_of (deferred (codes "SHELL") (codes "$(info s)sh") ∷ deferred (codes ".SHELLFLAGS") (codes "-c") ∷ more) (automatic_in node part) 9 place) shell_text said
    ≡ Gave (said ++ codes "s" ∷ []) (codes "sh -c")
unfolding expanding
telling_shell node part more place said = grind (arith, shell_terms, telling_terms, terms_are, codes)

pub refusing_shell : (lines : List RecipeLine) (more : Macros) (place : Place) (said : List Text)
    → expansion (setting_of (deferred (codes "SHELL") (codes "$(error $@)") ∷ more) (automatic_in (simple lines) 0) 9 place) shell_text said
    ≡ Stopped said (fault_at (Some place) 19 (codes "t"))
unfolding expanding
refusing_shell lines more place said = rw shell_terms (rw refusing_terms (rw target_terms refl))

pub quotes_told : (table : Macros) (automatic : Store) (place : Place) (said : List Text)
    → expansion (setting_of table automatic 9 place) (codes "echo \"it's $$HOME\"") said ≡ Gave said (codes "echo \"it's $HOME\"")
unfolding expanding
quotes_told table automatic place said = rw (terms_are (codes "echo \"it's $$HOME\"")) refl

pub a_told : (table : Macros) (automatic : Store) (place : Place) (said : List Text)
    → expansion (setting_of table automatic 9 place) (codes "a") said ≡ Gave said (codes "a")
unfolding expanding
a_told table automatic place said = rw (terms_are (codes "a")) refl

pub blank_told : (table : Macros) (automatic : Store) (place : Place) (said : List Text)
    → expansion (setting_of table automatic 9 place) (codes "a ") said ≡ Gave said (codes "a ")
unfolding expanding
blank_told table automatic place said = rw (terms_are (codes "a ")) refl

pub nothing_told : (table : Macros) (automatic : Store) (place : Place) (said : List Text)
    → expansion (setting_of table automatic 9 place) [] said ≡ Gave said []
unfolding expanding
nothing_told table automatic place said = rw (terms_are []) refl

pub info_told : (table : Macros) (automatic : Store) (place : Place) (said : List Text)
    → expansion (setting_of table automatic 9 place) (codes "a$(info hi)") said ≡ Gave (said ++ (codes "hi" ∷ [])) (codes "a")
unfolding expanding
info_told table automatic place said = rw (terms_are (codes "a$(info hi)")) (rw (terms_are (codes "hi")) refl)

pub first_told : (table : Macros) (automatic : Store) (place : Place) (said : List Text)
    → expansion (setting_of table automatic 9 place) (codes "$(info 1)a") said ≡ Gave (said ++ (codes "1" ∷ [])) (codes "a")
unfolding expanding
first_told table automatic place said = rw (terms_are (codes "$(info 1)a")) (rw (terms_are (codes "1")) refl)

pub second_told : (table : Macros) (automatic : Store) (place : Place) (said : List Text)
    → expansion (setting_of table automatic 9 place) (codes "$(info 2)b") said ≡ Gave (said ++ (codes "2" ∷ [])) (codes "b")
unfolding expanding
second_told table automatic place said = rw (terms_are (codes "$(info 2)b")) (rw (terms_are (codes "2")) refl)

pub eval_told : (table : Macros) (automatic : Store) (place : Place) (said : List Text)
    → expansion (setting_of table automatic 9 place) (codes "$(eval A = 1)") said ≡ Stopped said (fault_at (Some place) 32 (codes "eval in a recipe"))
unfolding expanding
eval_told table automatic place said = rw (terms_are (codes "$(eval A = 1)")) refl

pub unclosed_told : (table : Macros) (automatic : Store) (place : Place) (said : List Text)
    → expansion (setting_of table automatic 9 place) (codes "$(x") said ≡ Stopped said (fault_at (Some place) 7 (codes "unterminated reference"))
unfolding expanding
unclosed_told table automatic place said = rw (terms_are (codes "$(x")) refl

pub undefined_told : (node : Node) (part : ℕ) (place : Place) (said : List Text)
    → expansion (setting_of (with_shell []) (automatic_in node part) 9 place) (codes "$(X)") said ≡ Gave said []
unfolding expanding
undefined_told node part place said = rw (terms_are (codes "$(X)")) refl

pub canned_told : (node : Node) (part : ℕ) (more : Macros) (place : Place) (said : List Text)
    → expansion (setting_of (with_shell (deferred (codes "go") (codes "@echo one\n-false") ∷ more)) (automatic_in node part) 9 place) (codes "$(go)") said ≡ Gave said (codes "@echo one\n-false")
unfolding expanding
canned_told node part more place said = rw (terms_are (codes "$(go)")) (rw (terms_are (codes "@echo one\n-false")) refl)

pub lines_told : (node : Node) (part : ℕ) (more : Macros) (place : Place) (said : List Text)
    → expansion (setting_of (with_shell (deferred (codes "X") (codes "a\n @- \nb") ∷ more)) (automatic_in node part) 9 place) (codes "$(X)") said ≡ Gave said (codes "a\n @- \nb")
unfolding expanding
lines_told node part more place said = rw (terms_are (codes "$(X)")) (rw (terms_are (codes "a\n @- \nb")) refl)

pub one_told : (table : Macros) (place : Place) (said : List Text)
    → expansion (setting_of table (automatic_in node_of_two_rules 0) 9 place) (codes "one $<") said ≡ Gave said (codes "one b")
unfolding expanding
one_told table place said = rw (terms_are (codes "one $<")) refl

pub two_told : (table : Macros) (place : Place) (said : List Text)
    → expansion (setting_of table (automatic_in node_of_two_rules 1) 9 place) (codes "two $<") said ≡ Gave said (codes "two c")
unfolding expanding
two_told table place said = rw (terms_are (codes "two $<")) refl

pub hidden_told : (lines : List RecipeLine) (table : Macros) (place : Place) (said : List Text)
    → expansion (setting_of table (automatic_in (simple lines) 0) 9 place) (codes "$(foreach @,a b,$@) $@") said ≡ Gave said (codes "a b t")
unfolding expanding
hidden_told lines table place said = grind (arith, hidden_terms, terms_are, codes, target_terms)
