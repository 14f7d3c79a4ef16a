use Rattle.kt_ninja_reader.proofs.lemmas.LineLemmas.{inputs_read}
use Rattle.kt_ninja_reader.proofs.forms.inputs_of.Goals as goal

pub returns : goal.returns
returns c =
    inputs_read c.args.explicit.now c.args.bars.now _ _ _ _ _
    c.in_ok-implicit.ensures c.in_ok-copy.ensures c.in_ok-words.ensures c.in_ok-words-2.ensures
