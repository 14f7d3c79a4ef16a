use Rattle.std.proofs.Common.{◌≡◌, ◌∙◌, ◌++◌, List, ap, fold}
use Rattle.kt_rules.proofs.Common.{append_assoc, on_err_weaker, Text, with_name, needs_view}
use Rattle.kt_rules.proofs.lemmas.book.FindLemmas.{names_grow}
use Rattle.kt_rules.proofs.book.special.add_some_needs.Goals as goal

pub returns-clause-refused : goal.returns-clause-refused
returns-clause-refused c =
    let first = names_grow c.args.names.now (needs_view c.args.needs).prerequisites in
    let all : c.add_all.new.names ≡ c.args.names.now ++ first.0
    = c.in_ok-add_all.ensures.added ∙ ap (fold with_name c.args.names.now) c.prerequisites.ensures ∙ first.1 in
    on_err_weaker c.add_all-2.result
    (λ rest. (first.0 ++ rest.0, rest.1 ∙ ap (λ (xs : List Text). xs ++ rest.0) all ∙ append_assoc c.args.names.now first.0 rest.0))
    c.add_all-2.ensures.refused
