use Rattle.kt_rules.proofs.Common.{List, All, flat_map, subst, sym, Contains, Text, Entry}
use Rattle.kt_rules.specs.views.Known.{names_in}
use Rattle.kt_rules.proofs.book.Book.name_table.Goals as goal

pub returns : goal.returns
returns c =
    let table = c.self.inside.rules.0 in
    subst (λ (names : List Text). All (Contains names) (flat_map names_in c.args.self.now)) (sym c.names.ensures.names)
    (subst (λ (rules : List Entry). All (Contains table) (flat_map names_in rules)) c.self.view_is c.names.ensures.all)
