use Rattle.std.proofs.Common.{sym, ◌∙◌, ap, subst}
use Rattle.kt_graph.proofs.Common.{IsPermutation, rise}
use Rattle.kt_graph.proofs.lemmas.nodes.InputLemmas.{differ_distinct, newest_distinct, rising_distinct, sorted_distinct}
use Rattle.kt_graph.proofs.nodes.inputs.are_distinct.Goals as goal

pub returns-then-rise : goal.returns-then-rise
returns-then-rise c = record { quick = λ _. rising_distinct c.args.numbers.now (sym c.rise.ensures ∙ c.if-rise.true) }

pub returns : goal.returns
returns c = record {
  quick = λ told.
      let moved = subst (λ xs. IsPermutation xs c.sort_unstable.new.self.items) c.in_ok-sorted.ensures.items c.sort_unstable.ensures.permutation in
      sorted_distinct c.args.numbers.now c.sort_unstable.new.self.items moved
      (ap rise (sym c.as_slice.ensures.value) ∙ sym c.rise-2.ensures ∙ told);
}

pub returns-then-numbers-le-FEW : goal.returns-then-numbers-le-FEW
returns-then-numbers-le-FEW c = record { quick = λ told. differ_distinct c.args.numbers.now (sym c.differ.ensures ∙ told) }

pub returns-then-rise_but_first : goal.returns-then-rise_but_first
returns-then-rise_but_first c = record { quick = λ _. newest_distinct c.args.numbers.now (sym c.rise_but_first.ensures ∙ c.if-rise_but_first.true) }
