use Rattle.kt_ninja_reader.proofs.Common.{refl, ne_eqb}
use Rattle.kt_ninja_reader.proofs.lemmas.PieceLemmas.{brace_cut, brace_empty, brace_other}
use Rattle.kt_ninja_reader.proofs.spelling.variable_in_braces.Goals as goal

pub returns-then-length-eq0 : goal.returns-then-length-eq0
returns-then-length-eq0 c = brace_empty c.args.text.now c.long_name_length-length.result c.long_name_length-length.ensures.value c.if-length-eq0.true

pub returns-then-byte-ne125 : goal.returns-then-byte-ne125
returns-then-byte-ne125 c =
    brace_other c.args.text.now c.split_at.result.1.now _ c.long_name_length-length.result c.in_ok-byte.byte c.long_name_length-length.ensures.value c.split_at.ensures.back c.in_ok-byte.ensures
    (ne_eqb _ _ c.if-byte-ne125.true)

pub returns : goal.returns
returns c =
    brace_cut c.args.text.now c.split_at.result.0.now c.split_at.result.1.now c.in_ok-byte.after.now c.long_name_length-length.result c.in_ok-byte.byte _ c.long_name_length-length.ensures.value
    c.long_name_length-length.ensures.bound c.if-length-eq0.false c.split_at.ensures.front c.split_at.ensures.back c.in_ok-byte.ensures c.if-byte-ne125.false refl refl
