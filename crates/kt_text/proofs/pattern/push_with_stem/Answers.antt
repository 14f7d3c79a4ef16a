use Rattle.std.proofs.Common.{◌∙◌, ◌++◌, ap}
use Rattle.kt_text.specs.Match.{pattern_back, pattern_front}
use Rattle.kt_text.proofs.lemmas.BegunLemmas.{begun, begun_after}
use Rattle.kt_list.proofs.general.Results.{on_err}
use Rattle.kt_text.proofs.pattern.push_with_stem.Goals as goal

pub returns-in_err-extend_from_slice-in-Some-2-clause-refused : goal.returns-in_err-extend_from_slice-in-Some-2-clause-refused
returns-in_err-extend_from_slice-in-Some-2-clause-refused c =
    let pattern = c.args.pattern.now in
    let left = c.args.stem.now ++ pattern_back pattern in
    let grown = c.in_ok-extend_from_slice-in-Some.ensures.items ∙ ap (λ front. c.args.text.now.items ++ front) c.in-Some.ensures.1 in
    on_err c.from_residual-in_err-extend_from_slice-in-Some-2.result
    (rw c.in-Some.ensures.0
    (begun_after (pattern_front pattern) left _ _ _ grown (begun left _ _ c.in_err-extend_from_slice-in-Some-2.ensures.items)))
