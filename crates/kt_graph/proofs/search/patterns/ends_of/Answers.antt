use Rattle.std.proofs.Common.{arith}
use Rattle.kt_graph.proofs.lemmas.search.NotingLemmas.{rule_noted, rules_noted}
use Rattle.kt_graph.proofs.search.patterns.ends_of.Goals as goal

pub loop-number-init : goal.loop-number-init
loop-number-init c = λ number rule below found. absurd (omega (arith, below))

pub loop-number-preserved : goal.loop-number-preserved
loop-number-preserved c =
    rule_noted c.loop-number.ends c.note_targets.new.self c.args.rules.now c.loop-number.number c.index-rules-number.result _
    c.loop-number-test.true c.index-rules-number.is (c.targets.ensures) c.loop-number.invariant c.in_ok-note_targets.ensures

pub returns : goal.returns
returns c = rules_noted c.loop-number.ends c.args.rules.now c.loop-number.number c.loop-number-test.false c.loop-number.invariant
