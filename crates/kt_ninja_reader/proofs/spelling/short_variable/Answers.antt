use Rattle.std.proofs.Common.{refl}
use Rattle.kt_ninja_reader.proofs.lemmas.PieceLemmas.{short_cut}
use Rattle.kt_ninja_reader.proofs.spelling.short_variable.Goals as goal

pub returns : goal.returns
returns c =
    short_cut c.args.text.now c.split_at.result.0.now c.split_at.result.1.now c.short_name_length-length.result _ c.short_name_length-length.ensures.value c.if-length-eq0.false
    c.split_at.ensures.front c.split_at.ensures.back refl refl
