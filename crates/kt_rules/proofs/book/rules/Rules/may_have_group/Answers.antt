use Rattle.kt_rules.proofs.lemmas.book.HeldLemmas.{none_group}
use Rattle.kt_rules.proofs.book.rules.Rules.may_have_group.Goals as goal

pub returns : goal.returns
returns c = record {
  quick = λ unseen.
      let held = c.self.inside in
      none_group c.args.self.now held.dictionary held.lines held.rows.items held.kinds held.last c.self.view_is c.self.invariant unseen;
}
