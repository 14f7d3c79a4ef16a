use Rattle.std.proofs.Common.{◌∙◌, sym, ap, Option}
use Rattle.kt_rules.proofs.Common.{option_or, Text, first_goal_by, entry_view}
use Rattle.kt_rules.proofs.lemmas.book.GoalLemmas.{goal_left, goal_none}
use Rattle.kt_rules.proofs.book.goal.first_goal.Goals as goal

pub returns-in-Some-goal_in : goal.returns-in-Some-goal_in
returns-in-Some-goal_in c =
    ap (λ (o : Option Text). option_or o (first_goal_by c.args.suffixes.now c.next.new.self)) c.in-Some-goal_in.ensures
    ∙ sym (goal_left c.args.suffixes.now c.loop-entry.entry-iterator c.next.new.self (entry_view c.in-Some.entry) c.in-Some.ensures.steps)
    ∙ c.loop-entry.invariant

pub loop-entry-preserved : goal.loop-entry-preserved
loop-entry-preserved c =
    ap (λ (o : Option Text). option_or o (first_goal_by c.args.suffixes.now c.next.new.self)) c.in-None-goal_in.ensures
    ∙ sym (goal_left c.args.suffixes.now c.loop-entry.entry-iterator c.next.new.self (entry_view c.in-Some.entry) c.in-Some.ensures.steps)
    ∙ c.loop-entry.invariant

pub returns : goal.returns
returns c = sym (goal_none c.args.suffixes.now c.loop-entry.entry-iterator c.in-None.ensures.steps.0) ∙ c.loop-entry.invariant
