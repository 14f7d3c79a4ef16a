use Rattle.kati.proofs.lemmas.plan.SharedLemmas.{inputs_told, order_only_told}
use Rattle.kati.proofs.plan.statements.telling.Goals as goal

pub returns-then-not-is_empty-clause-inputs : goal.returns-then-not-is_empty-clause-inputs
returns-then-not-is_empty-clause-inputs c = inputs_told c.args.group.now (c.requires c.if-shares.true)

pub returns-then-not-is_empty-clause-order_only : goal.returns-then-not-is_empty-clause-order_only
returns-then-not-is_empty-clause-order_only c = order_only_told c.args.group.now (c.requires c.if-shares.true)
