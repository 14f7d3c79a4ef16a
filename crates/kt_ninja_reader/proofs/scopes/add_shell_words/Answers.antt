use Rattle.std.proofs.Common.{arith, ◌++◌, ap, ◌∙◌, append-nil}
use Rattle.kt_ninja_reader.proofs.Common.{nil_from_length, on_ok_weaker, shell_word}
use Rattle.kt_ninja_reader.proofs.lemmas.ScopeLemmas.{shell_words-none, words_put}
use Rattle.kt_ninja_reader.proofs.scopes.add_shell_words.Goals as goal

pub returns-in-None : goal.returns-in-None
returns-in-None c = grind (arith, nil_from_length, shell_words-none, append-nil)

pub returns-in_ok-add_shell_word-in-Some : goal.returns-in_ok-add_shell_word-in-Some
returns-in_ok-add_shell_word-in-Some c =
    on_ok_weaker c.add_later_words.result
    (λ more. words_put c.args.text.now.items c.add_shell_word.new.text.items c.add_later_words.new.text.items c.args.between c.in-Some.first.now c.in-Some.later.now c.args.paths.now c.in-Some.ensures.cases.0 (c.in_ok-add_shell_word-in-Some.ensures ∙ ap (λ p. c.args.text.now.items ++ shell_word p) c.as_slice.ensures) more)
    c.add_later_words.ensures
