use Rattle.kt_rules.proofs.Common.{List, subst, All, Contains, flat_map, Text, Entry}
use Rattle.kt_rules.specs.views.Known.{names_in}
use Rattle.kt_rules.proofs.lemmas.book.TableLemmas.{all_among}
use Rattle.kt_rules.proofs.book.rules.Rules.names.Goals as goal

pub returns-clause-all : goal.returns-clause-all
returns-clause-all c =
    let held = c.self.inside in
    subst (λ (both : List Text × List Entry). All (Contains both.0) (flat_map names_in both.1)) c.self.view_is
    (all_among held.dictionary held.lines held.rows.items held.kinds c.self.invariant.known)
