use Rattle.std.proofs.Common.{arith, ◌+◌, ◌∙◌}
use Rattle.std.proofs.lemmas.List.{take_rest}
use Rattle.kt_text.proofs.lemmas.MatchLemmas.{percent_found, no_percent_found}
use Rattle.kt_text.proofs.pattern.cut_pattern.Goals as goal

pub returns : goal.returns
returns c =
    let parts = percent_found c.args.pattern.now c.in_ok-percent.percent c.in_ok-percent.ensures in
    (parts.0, parts.1, take_rest c.args.pattern.now (c.in_ok-percent.percent + 1) ∙ parts.2)
