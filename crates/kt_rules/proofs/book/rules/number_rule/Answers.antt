use Rattle.kt_rules.proofs.lemmas.DictionaryLemmas.{grows_twice, list_stays}
use Rattle.kt_rules.proofs.lemmas.book.HeldLemmas.{last_stays, needs_stay}
use Rattle.kt_rules.proofs.book.rules.number_rule.Goals as goal

pub returns-clause-numbered : goal.returns-clause-numbered
returns-clause-numbered c = λ is_last.
    let old = c.args.dictionary.now in
    let one = c.number_list.new.self in
    let two = c.number_needs.new.dictionary in
    let new = c.number_pattern.new.dictionary in
    let first = c.in_ok-targets.ensures in
    let second = c.in_ok-needs.ensures in
    let third = c.in_ok-pattern.ensures in
    record {
      of_targets = list_stays one new c.in_ok-targets.targets c.args.targets.now (grows_twice one two new second.grown third.grown) first.numbered;
      of_pattern = third.numbered;
      of_needs = needs_stay two new c.args.needs.now c.in_ok-needs.needs third.grown (second.numbered (last_stays old one c.args.last.now first.grown is_last));
    }
