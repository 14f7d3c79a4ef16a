use Rattle.std.proofs.Common.{◌≡◌, ◌∙◌, ◌+◌, ◌++◌, ◌∷◌, List, ℕ, [], ap, subst, sym, take}
use Rattle.kt_rules.proofs.Common.{take_more, numbers_push, Text, AreNumbersOf}
use Rattle.kt_rules.proofs.lemmas.DictionaryLemmas.{more_twice}
use Rattle.kt_rules.proofs.dictionary.number_names.Goals as goal

pub loop-name-preserved : goal.loop-name-preserved
loop-name-preserved c =
    let list = c.args.list.now in
    let i = c.loop-name.name-index in
    let new = c.number_name.new.names in
    let step = c.in_ok-number.ensures in
    let more : take i list ++ c.as_slice.result.now ∷ [] ≡ take (i + 1) list
    = ap (λ (one : Text). take i list ++ one ∷ []) (c.as_slice.ensures ∙ c.name-item.is) ∙ sym (take_more list i c.name-item.result c.loop-name-test.true) in
    record {
      numbered =
          subst (AreNumbersOf new c.push.new.self.items) more
          (subst (λ (numbers : List ℕ). AreNumbersOf new numbers (take i list ++ c.as_slice.result.now ∷ [])) (sym c.in_ok-push.ensures.items)
          (numbers_push c.loop-name.names new c.loop-name.numbers.items (take i list) c.in_ok-number.number c.as_slice.result.now step.grown
          c.loop-name.invariant.numbered step.numbered));
      grown = more_twice c.args.names.now c.loop-name.names new c.loop-name.invariant.grown step.grown;
    }
