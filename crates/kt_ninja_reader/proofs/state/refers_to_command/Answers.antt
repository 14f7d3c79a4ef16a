use Rattle.std.proofs.Common.{codes, ap, map, sym, ◌∙◌}
use Rattle.kt_ninja_reader.proofs.Common.{list_any, bytes_eq}
use Rattle.kt_ninja_reader.proofs.lemmas.ScopeLemmas.{any_now}
use Rattle.kt_ninja_reader.proofs.lemmas.SpelledParts.{refers_by_names}
use Rattle.kt_ninja_reader.proofs.state.refers_to_command.Goals as goal

pub returns : goal.returns
returns c =
    c.is_any_command.ensures ∙ any_now (bytes_eq (codes "command")) c.as_slice.result.now
    ∙ ap (λ names. list_any (bytes_eq (codes "command")) (map (λ name. name.now) names)) c.as_slice.ensures.value
    ∙ ap (list_any (bytes_eq (codes "command"))) c.in_ok-names.ensures ∙ sym (refers_by_names (bytes_eq (codes "command")) c.args.spelling.now)
