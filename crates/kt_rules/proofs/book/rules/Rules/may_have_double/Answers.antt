use Rattle.kt_rules.proofs.lemmas.book.HeldLemmas.{none_double}
use Rattle.kt_rules.proofs.book.rules.Rules.may_have_double.Goals as goal

pub returns : goal.returns
returns c = record {
  quick = λ unseen.
      let held = c.self.inside in
      none_double c.args.self.now held.dictionary held.lines held.rows.items held.kinds held.last c.self.view_is c.self.invariant unseen;
}
