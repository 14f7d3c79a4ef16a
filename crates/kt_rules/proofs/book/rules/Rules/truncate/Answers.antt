use Rattle.kt_rules.proofs.lemmas.book.HeldLemmas.{first_held}
use Rattle.kt_rules.proofs.book.rules.Rules.truncate.Goals as goal

pub invariant_of-self : goal.invariant_of-self
invariant_of-self c =
    let held = c.self.inside in
    first_held held.dictionary held.lines c.truncate-2.new.self held.rows.items c.truncate.new.self.items held.kinds held.last c.args.len
    c.truncate-2.ensures c.truncate.ensures.items c.self.invariant
