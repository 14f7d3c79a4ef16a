use Rattle.std.proofs.Common.{◌+◌, ◌∙◌}
use Rattle.std.proofs.lemmas.List.{take_rest}
use Rattle.kt_eval.proofs.lemmas.PlaceLemmas.{byte_found, no_byte_found}
use Rattle.kt_eval.proofs.expanding.calls.cut_at.Goals as goal

pub returns-in_err-place : goal.returns-in_err-place
returns-in_err-place c =
    rw c.from_residual.ensures (no_byte_found c.args.wanted c.args.text.now c.in_err-place.ensures)

pub returns : goal.returns
returns c =
    let parts = byte_found c.args.wanted c.args.text.now c.in_ok-place.place c.in_ok-place.ensures in
    (parts.0, parts.1, take_rest c.args.text.now (c.in_ok-place.place + 1) ∙ parts.2)
