use Rattle.std.proofs.Common.{is_some, ap, map, sym, ◌∙◌}
use Rattle.kt_ninja_reader.proofs.Common.{list_any, find_in}
use Rattle.kt_ninja_reader.proofs.lemmas.ScopeLemmas.{any_now}
use Rattle.kt_ninja_reader.proofs.lemmas.SpelledParts.{refers_by_names}
use Rattle.kt_ninja_reader.proofs.state.refers_to_key.Goals as goal

pub returns : goal.returns
returns c =
    c.is_any_key.ensures ∙ any_now (λ name. is_some (find_in c.args.scope.now name)) c.as_slice.result.now
    ∙ ap (λ names. list_any (λ name. is_some (find_in c.args.scope.now name)) (map (λ name. name.now) names)) c.as_slice.ensures.value
    ∙ ap (list_any (λ name. is_some (find_in c.args.scope.now name))) c.in_ok-names.ensures ∙ sym (refers_by_names (λ name. is_some (find_in c.args.scope.now name)) c.args.spelling.now)
