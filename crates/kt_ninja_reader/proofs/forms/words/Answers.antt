use Rattle.kt_ninja_reader.proofs.lemmas.FormLemmas.{words_last, words_more}
use Rattle.kt_ninja_reader.proofs.forms.words.Goals as goal

pub loop-word-preserved : goal.loop-word-preserved
loop-word-preserved c =
    words_more c.loop-word.words.items c.add_word.new.words.items c.in-Some.word c.in-Some.after c.loop-word.rest _ c.in-Some.ensures.cut.0 c.in-Some.ensures.cut.1
    c.in_ok-add_word.ensures c.loop-word.invariant

pub returns : goal.returns
returns c =
    words_last c.loop-word.words.items c.add_word-2.new.words.items c.loop-word.rest _ c.in_default.ensures.cut c.in_ok-add_word-2.ensures c.loop-word.invariant
