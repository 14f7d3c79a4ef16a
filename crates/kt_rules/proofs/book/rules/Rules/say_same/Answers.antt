use Rattle.std.proofs.Common.{slice_get}
use Rattle.kt_rules.proofs.Common.{Option, Some, [], get_or, rules, subst, Entry, rule_held}
use Rattle.kt_rules.specs.inner.Alike.{SaySame}
use Rattle.kt_rules.proofs.lemmas.book.AlikeLemmas.{same_listed}
use Rattle.kt_rules.proofs.lemmas.book.HeldLemmas.{rule_told}
use Rattle.kt_rules.proofs.book.rules.Rules.say_same.Goals as goal

pub returns-in-Some-held_at : goal.returns-in-Some-held_at
returns-in-Some-held_at c = record {
  quick = λ same.
      let held = c.self.inside in
      let one = c.in-Some.row.now in
      let two = c.in-Some-held_at.second.now in
      let own = get_or held.lines c.args.place [] in
      let lines = get_or held.lines c.args.other [] in
      let first = rule_told c.args.self.now held.dictionary held.lines held.rows.items c.args.place (Some one) c.self.view_is c.self.invariant.many (search rules) in
      let second = rule_told c.args.self.now held.dictionary held.lines held.rows.items c.args.other (Some two) c.self.view_is c.self.invariant.many (search rules) in
      subst (λ (rule : Option Entry). SaySame (slice_get c.args.self.now.1 c.args.place) rule) second
      (subst (λ (rule : Option Entry). SaySame rule (Some (rule_held held.dictionary lines two))) first
      (same_listed held.dictionary own lines one two (c.have_same_needs.ensures.quick same)));
}
