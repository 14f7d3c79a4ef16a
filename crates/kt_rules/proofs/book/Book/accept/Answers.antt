use Rattle.std.proofs.Common.{arith, ◌≡◌, ◌∙◌, List, Some, slice_get, ap}
use Rattle.kt_rules.specs.Book.{override_messages}
use Rattle.kt_rules.proofs.lemmas.book.BookLemmas.{holds_back, holds_grown, holds_learned, pushed_rule, rules_back}
use Rattle.kt_rules.proofs.Common.{Entry}
use Rattle.kt_rules.proofs.lemmas.book.OverrideLemmas.{warned_by_spots}
use Rattle.kt_rules.proofs.book.Book.accept.Goals as goal

pub invariant_of-self : goal.invariant_of-self
invariant_of-self c =
    let held = c.self.inside in
    holds_grown held.rules c.push.new.self held.spots.targets held.spots.recipes held.phony held.suffixes
    c.in_err-push.ensures.grown c.in_err-push.ensures.refused c.self.invariant

pub invariant_of-self-in-Ok : goal.invariant_of-self-in-Ok
invariant_of-self-in-Ok c =
    let held = c.self.inside in
    let pushed = c.push.new.self in
    let new = c.learn-learned.new in
    let learned = c.in-Ok.ensures in
    let there : slice_get pushed.1 c.len-place.result ≡ Some c.args.entry = pushed_rule held.rules pushed c.args.entry c.len-place.result held.spots.targets new.spots.targets held.spots.recipes new.spots.recipes
    held.phony new.phony held.suffixes new.suffixes c.self.invariant c.in_ok-push.ensures.grown c.in_ok-push.ensures.pushed c.len-place.ensures in
    holds_learned held.rules pushed c.args.entry c.len-place.result held.spots.targets new.spots.targets held.spots.recipes new.spots.recipes
    held.phony new.phony held.suffixes new.suffixes c.self.invariant c.in_ok-push.ensures.grown c.in_ok-push.ensures.pushed c.len-place.ensures
    (rw c.self.view_is c.requires)
    (learned.targets_noted c.args.entry there) (learned.recipes_noted c.args.entry there)
    (learned.phony_learned c.args.entry there) (learned.suffixes_learned c.args.entry there)
    learned.targets_within learned.recipes_within

pub returns-in-Ok-clause-told : goal.returns-in-Ok-clause-told
returns-in-Ok-clause-told c =
    let held = c.self.inside in
    let pushed = c.push.new.self in
    let new = c.learn-learned.new in
    let there : slice_get pushed.1 c.len-place.result ≡ Some c.args.entry = pushed_rule held.rules pushed c.args.entry c.len-place.result held.spots.targets new.spots.targets held.spots.recipes new.spots.recipes
    held.phony new.phony held.suffixes new.suffixes c.self.invariant c.in_ok-push.ensures.grown c.in_ok-push.ensures.pushed c.len-place.ensures in
    c.in-Ok.ensures.told c.args.entry there
    ∙ warned_by_spots held.rules pushed c.args.entry held.spots.targets held.spots.recipes held.phony held.suffixes c.self.invariant c.in_ok-push.ensures.grown c.in_ok-push.ensures.pushed
    ∙ ap (λ (rules : List Entry). override_messages rules c.args.entry) c.self.view_is

pub returns-in-Ok-clause-grown : goal.returns-in-Ok-clause-grown
returns-in-Ok-clause-grown c = grind arith

pub invariant_of-self-in-Err : goal.invariant_of-self-in-Err
invariant_of-self-in-Err c =
    let held = c.self.inside in
    let pushed = c.push.new.self in
    let new = c.learn-learned.new in
    let refused = c.in-Err.ensures in
    let back = c.forget.ensures in
    holds_back held.rules pushed c.args.entry c.len-place.result held.spots.targets new.spots.targets held.spots.recipes new.spots.recipes
    held.phony new.phony held.suffixes new.suffixes c.self.invariant c.in_ok-push.ensures.grown c.in_ok-push.ensures.pushed c.len-place.ensures
    c.truncate.new.self c.forget.new.self.targets c.forget.new.self.recipes c.truncate.ensures.names c.truncate.ensures.rules
    refused.targets_refused refused.recipes_refused back.targets back.recipes back.targets_many back.recipes_many
    refused.phony_refused refused.suffixes_refused refused.targets_within refused.recipes_within

pub returns-in-Err-clause-refused : goal.returns-in-Err-clause-refused
returns-in-Err-clause-refused c =
    let held = c.self.inside in
    let pushed = c.push.new.self in
    let new = c.learn-learned.new in
    rules_back held.rules pushed c.args.entry c.len-place.result held.spots.targets new.spots.targets held.spots.recipes new.spots.recipes
    held.phony new.phony held.suffixes new.suffixes c.self.invariant c.in_ok-push.ensures.grown c.in_ok-push.ensures.pushed c.len-place.ensures
    c.truncate.new.self.1 c.truncate.ensures.rules
    ∙ c.self.view_is
