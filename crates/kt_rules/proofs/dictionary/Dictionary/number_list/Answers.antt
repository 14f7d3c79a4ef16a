use Rattle.std.proofs.Common.{◌∙◌, List, ℕ, ap, subst}
use Rattle.kt_rules.proofs.Common.{Text, with_name, place_of, GrowsDictionary}
use Rattle.kt_rules.proofs.lemmas.DictionaryLemmas.{list_added, list_below, more_name}
use Rattle.kt_rules.proofs.dictionary.Dictionary.number_list.Goals as goal

pub invariant_of-self-2 : goal.invariant_of-self-2
invariant_of-self-2 c =
    let held = c.self.inside in
    let step = c.in_ok-number_names.ensures in
    list_below held.names c.number_names.new.names held.lists c.add.new.self c.number_names.new.numbers.items c.args.list.now step.grown step.numbered
    (c.in_ok-number.ensures.added ∙ ap (with_name held.lists) c.as_slice.ensures.value) c.self.invariant

pub returns-clause-numbered : goal.returns-clause-numbered
returns-clause-numbered c =
    let held = c.self.inside in
    let step = c.in_ok-number_names.ensures in
    list_added held.names c.number_names.new.names held.lists c.add.new.self c.number_names.new.numbers.items c.args.list.now step.grown step.numbered
    (c.in_ok-number.ensures.added ∙ ap (with_name held.lists) c.as_slice.ensures.value) c.in_ok-number.number
    (c.in_ok-number.ensures.numbered ∙ ap (place_of c.add.new.self) c.as_slice.ensures.value)

pub returns-clause-grown : goal.returns-clause-grown
returns-clause-grown c =
    subst (λ (old : List Text × List (List ℕ)). GrowsDictionary old (c.number_names.new.names, c.add.new.self)) c.self.view_is
    (c.in_ok-number_names.ensures.grown, more_name c.self.inside.lists c.add.new.self c.as_slice.result.now c.in_ok-number.ensures.added)
