use Rattle.std.proofs.Common.{◌≡◌, ◌∙◌, ap, arith, List, rules, subst, sym, Some, option_map, map}
use Rattle.kt_eval.proofs.Common.{Text, left_at, token_of, expanded, Gave, StepEnd, left_of, World, lookup, GoesOn, AgreeWith, Store, err_from_is_err_and, evaluator}
use Rattle.kt_eval.specs.inner.Views.{compared_view}
use Rattle.kt_eval.proofs.lemmas.EarlyLemmas.{Early, does_early, reads_early, call_fails, eval_fails, foreach_fails, word_fails, sheet_fails, equal_fails, argument_at_fails, argument_at_front, or_at_fails, and_at_fails, definition_fails, definition_taken, first_fails, branch_fails}
use Rattle.kt_eval.specs.inner.Plain.{put_of}
use Rattle.kt_eval.proofs.lemmas.expanding.AppendingLemmas.{put_gives, value_fails, value_front, value_gives, whole_gives, term_fails, term_gives}
use Rattle.kt_eval.proofs.lemmas.expanding.PlainLemmas.{value_put, value_expanded}
use Rattle.kt_eval.proofs.Steps.{rule_of_parts_goes}
use Rattle.kt_eval.proofs.lemmas.reading.CommentLemmas.{reads_from_earlier}
use Rattle.kt_eval.proofs.lemmas.reading.ReadingLemmas.{first_taken}
use Rattle.kt_eval.proofs.evaluation.Evaluation.+evaluate.Goals as goal

pub read_conditional-returns-then-branch : goal.read_conditional-returns-then-branch
read_conditional-returns-then-branch g t c = record {
  ahead = search rules;
  rest = λ store agrees.
      let e = evaluator g.M.MacroScope.writable store c.args.below in
      rw c.past.ensures
      (first_taken e c.args.page.now c.args.page.now.blocks.steps c.args.place c.args.next c.args.after c.args.self.now.world c.branch_holds.new.self.world
      c.requires.reads (c.in_ok-branch_holds.ensures.gives store agrees ∙ ap (λ b. Gave c.branch_holds.new.self.world b) c.if-branch.true));
  fails = λ store agrees. tt;
  cut = λ store agrees. tt;
  kept = search rules;
  blames = search rules;
}

pub put_term-returns-in-Nothing : goal.put_term-returns-in-Nothing
put_term-returns-in-Nothing g t c = record {
  gives = λ store agrees.
      put_gives g.M.MacroScope.writable store c.args.below c.args.out.now.items c.put_plain.new.out.items (token_of c.args.term) c.args.self.now.world
      (sym c.in-Nothing.is ∙ c.in_ok-put_plain.ensures.left) c.in_ok-put_plain.ensures.put;
  cut = λ store agrees. tt;
  kept = search rules;
  blames = search rules;
}

pub put_term-returns-in_err-x-in-Value : goal.put_term-returns-in_err-x-in-Value
put_term-returns-in_err-x-in-Value g t c =
    let p = err_from_is_err_and c.from_residual-in_err-x-in-Value.result c.from_residual-in_err-x-in-Value.ensures.1 in
    let h = rw c.as_slice.ensures at c.in_err-x-in-Value.ensures.gives in
    let k = rw c.as_slice.ensures at c.in_err-x-in-Value.ensures.cut in
    does_early _ p.1 p.2 (λ store agrees.
    (value_fails g.M.MacroScope.writable store c.args.below c.in_err-x-in-Value.field-0.0 c.args.out.now.items c.in-Value.value (token_of c.args.term) c.args.self.now.world c.expand.new.self.world
    (sym c.in-Value.is ∙ c.in_ok-put_plain.ensures.left) (h store agrees, k store agrees))) (search rules) (search rules)

pub put_term-returns-in_err-extend_from_slice-in-Value : goal.put_term-returns-in_err-extend_from_slice-in-Value
put_term-returns-in_err-extend_from_slice-in-Value g t c =
    let p = err_from_is_err_and c.from_residual-in_err-extend_from_slice-in-Value.result c.from_residual-in_err-extend_from_slice-in-Value.ensures.1 in
    let h = rw c.as_slice.ensures at c.in_ok-x-in-Value.ensures.gives in
    does_early _ p.1 p.2 (λ store agrees. (
      tt,
      (value_front g.M.MacroScope.writable store c.args.below c.args.out.now.items c.in_ok-x-in-Value.x.items c.in-Value.value (token_of c.args.term) c.args.self.now.world c.expand.new.self.world
          (sym c.in-Value.is ∙ c.in_ok-put_plain.ensures.left) (h store agrees)),
    )) (search rules) (search rules)

pub put_term-returns-in_ok-extend_from_slice-in-Value : goal.put_term-returns-in_ok-extend_from_slice-in-Value
put_term-returns-in_ok-extend_from_slice-in-Value g t c =
    let h = rw c.as_slice.ensures at c.in_ok-x-in-Value.ensures.gives in
    record {
      gives = λ store agrees.
          value_gives g.M.MacroScope.writable store c.args.below c.args.out.now.items c.put_plain.new.out.items c.extend_from_slice.new.self.items c.in_ok-x-in-Value.x.items c.in-Value.value (token_of c.args.term) c.args.self.now.world c.expand.new.self.world
          (sym c.in-Value.is ∙ c.in_ok-put_plain.ensures.left) c.in_ok-put_plain.ensures.put (h store agrees)
          (rw c.deref.ensures.value at c.in_ok-extend_from_slice-in-Value.ensures.items);
      cut = λ store agrees. tt;
      kept = search rules;
      blames = search rules;
    }

pub put_term-returns-in_ok-extend_from_slice-in-Whole : goal.put_term-returns-in_ok-extend_from_slice-in-Whole
put_term-returns-in_ok-extend_from_slice-in-Whole g t c = record {
  gives = λ store agrees.
      whole_gives g.M.MacroScope.writable store c.args.below c.args.out.now.items c.put_plain.new.out.items c.extend_from_slice-in-Whole.new.self.items c.in_ok-x-in-Whole.x.items (token_of c.args.term) c.args.self.now.world c.expand_term.new.self.world
      (sym c.in-Whole.is ∙ c.in_ok-put_plain.ensures.left) c.in_ok-put_plain.ensures.put (c.in_ok-x-in-Whole.ensures.gives store agrees)
      (rw c.deref-in-Whole.ensures.value at c.in_ok-extend_from_slice-in-Whole.ensures.items);
  cut = λ store agrees. tt;
  kept = search rules;
  blames = search rules;
}

pub expand_here-returns-in_err-put_term : goal.expand_here-returns-in_err-put_term
unfolding expanded
expand_here-returns-in_err-put_term g t c =
    let p = err_from_is_err_and c.from_residual-in_err-put_term.result c.from_residual-in_err-put_term.ensures.1 in
    let h = c.in_err-put_term.ensures.gives in
    let k = c.in_err-put_term.ensures.cut in
    does_early _ p.1 p.2 (λ store agrees.
    (subst (λ (o : StepEnd World Text). Early c.in_err-put_term.field-0.0 c.put_term.new.self.world o) (c.terms.invariant.rest store (omega (arith, c.in_err-put_term.ensures.kept.0 store)))
    (term_fails g.M.MacroScope.writable store c.args.below c.in_err-put_term.field-0.0 c.terms.out.items (token_of c.in-Some.term) c.terms.rest c.next.new.self c.terms.self.world c.put_term.new.self.world c.in-Some.ensures.steps (h store agrees, k store agrees)))) (search rules) (search rules)

pub expand_here-terms-preserved : goal.expand_here-terms-preserved
expand_here-terms-preserved g t c =
    let h = c.in_ok-put_term.ensures.gives in
    record {
      kept = search rules;
      unfailed = search rules;
      rest = λ store agrees.
          sym (term_gives g.M.MacroScope.writable store c.args.below c.terms.out.items c.put_term.new.out.items (token_of c.in-Some.term) c.terms.rest c.next.new.self c.terms.self.world c.put_term.new.self.world c.in-Some.ensures.steps (h store agrees))
          ∙ c.terms.invariant.rest store (omega (arith, c.in_ok-put_term.ensures.kept.0 store));
    }

pub value_of-returns-in-None : goal.value_of-returns-in-None
value_of-returns-in-None g t c =
    let found = lookup c.args.name.now c.args.self.now.world in
    let text : c.put_value.new.out.items ≡ put_of c.args.below found = search rules in
    record {
      gives = λ store agrees.
          value_put g.M.MacroScope.writable store c.args.below found c.args.self.now.world (sym c.in-None.is ∙ c.in_ok-put_value.ensures.left)
          ∙ ap (λ t. Gave c.args.self.now.world t) (sym text);
      cut = λ store agrees. tt;
      kept = search rules;
      blames = search rules;
    }

pub value_of-returns-in-Some : goal.value_of-returns-in-Some
value_of-returns-in-Some g t c =
    let h = rw c.as_slice.ensures at c.expand.ensures.gives in
    let k = rw c.as_slice.ensures at c.expand.ensures.cut in
    let is = λ (store : Store) (agrees : AgreeWith store c.expand.new.self.answers).
    (value_expanded g.M.MacroScope.writable store c.args.below (lookup c.args.name.now c.args.self.now.world) c.in-Some.value c.args.self.now.world (sym c.in-Some.is ∙ c.in_ok-put_value.ensures.left)) in
    record {
      gives = λ store agrees. rw (is store agrees).0 (h store agrees);
      cut = λ store agrees. rw (is store agrees).0 (k store agrees);
      kept = search rules;
      blames = search rules;
    }

pub apply_foreach-returns-in_err-expanded : goal.apply_foreach-returns-in_err-expanded
apply_foreach-returns-in_err-expanded g t c =
    let p = err_from_is_err_and c.from_residual.result c.from_residual.ensures.1 in
    does_early _ p.1 p.2 (λ store agrees.
    (foreach_fails g.M.MacroScope.writable store c.args.below c.in_err-expanded.field-0.0 c.args.self.now.world c.expand.new.self.world c.args.variable.now c.args.list.now c.args.body.now (c.in_err-expanded.ensures.gives store agrees, c.in_err-expanded.ensures.cut store agrees))) (search rules) (search rules)

pub apply_eval-returns-in_err-x : goal.apply_eval-returns-in_err-x
apply_eval-returns-in_err-x g t c =
    let p = err_from_is_err_and c.from_residual-in_err-x.result c.from_residual-in_err-x.ensures.1 in
    does_early _ p.1 p.2 (λ store agrees.
    (eval_fails g.M.MacroScope.writable store c.args.below c.in_err-x.field-0.0 c.args.self.now.world c.expand.new.self.world c.args.text.now (search rules) (c.in_err-x.ensures.gives store agrees, c.in_err-x.ensures.cut store agrees))) (search rules) (search rules)

pub call_by_name-returns-in_err-arguments : goal.call_by_name-returns-in_err-arguments
call_by_name-returns-in_err-arguments g t c =
    let p = err_from_is_err_and c.from_residual-in_err-arguments.result c.from_residual-in_err-arguments.ensures.1 in
    does_early _ p.1 p.2 (λ store agrees.
    (call_fails g.M.MacroScope.writable store c.args.below c.in_err-arguments.field-0.0 c.args.self.now.world c.each_argument.new.self.world c.args.name.now c.push.new.self.items (map (λ a. a.now) c.args.texts.now) (search rules) (search rules) (c.in_err-arguments.ensures.gives store agrees, c.in_err-arguments.ensures.cut store agrees))) (search rules) (search rules)

pub read_rule-returns-in_err-head : goal.read_rule-returns-in_err-head
read_rule-returns-in_err-head g t c =
    let p = err_from_is_err_and c.from_residual.result c.from_residual.ensures.1 in
    does_early _ p.1 p.2 (λ store agrees. (
      tt,
      (rule_of_parts_goes g.M.MacroScope.writable store c.args.below (Some (record { head = c.args.head.now; recipe = option_map (λ text. text.now) c.args.recipe })) c.args.self.now.world),
    )) (search rules) (search rules)

pub expanded_equal-returns-in_err-x : goal.expanded_equal-returns-in_err-x
expanded_equal-returns-in_err-x g t c =
    let p = err_from_is_err_and c.from_residual.result c.from_residual.ensures.1 in
    let early = λ (store : Store) (agrees : AgreeWith store c.expand_text.new.self.answers).
    (equal_fails g.M.MacroScope.writable store c.args.below c.in_err-x.field-0.0 c.args.self.now.world c.expand_text.new.self.world (compared_view c.in-Some.compared) (c.in_err-x.ensures.gives store agrees, c.in_err-x.ensures.cut store agrees)) in
    record {
      gives = λ store agrees. rw (p.1, p.2, c.in-Some.is) (early store agrees).0;
      cut = λ store agrees. rw (p.1, p.2, c.in-Some.is) (early store agrees).1;
      kept = search rules;
      blames = search rules;
    }

pub each_argument-returns-in_err-x : goal.each_argument-returns-in_err-x
each_argument-returns-in_err-x g t c =
    let p = err_from_is_err_and c.from_residual.result c.from_residual.ensures.1 in
    let h = c.in_err-x.ensures.gives in
    let k = c.in_err-x.ensures.cut in
    does_early _ p.1 p.2 (λ store agrees.
    (subst (λ (o : StepEnd World (List Text)). Early c.in_err-x.field-0.0 c.expand.new.self.world o) (c.arguments.invariant.rest store (omega (arith, c.in_err-x.ensures.kept.0 store)))
    (argument_at_fails g.M.MacroScope.writable store c.args.below c.in_err-x.field-0.0 c.arguments.self.world c.expand.new.self.world c.arguments.out.items c.args.texts.now c.arguments.place _ c.arguments-test.true (h store agrees, k store agrees)))) (search rules) (search rules)

pub each_argument-returns-in_err-from_vec : goal.each_argument-returns-in_err-from_vec
each_argument-returns-in_err-from_vec g t c =
    let p = err_from_is_err_and c.from_residual-in_err-from_vec.result c.from_residual-in_err-from_vec.ensures.1 in
    let h = c.in_ok-x.ensures.gives in
    does_early _ p.1 p.2 (λ store agrees. (
      tt,
      (subst (λ (o : StepEnd World (List Text)). GoesOn c.expand.new.self.world (left_of o)) (c.arguments.invariant.rest store (omega (arith, c.in_ok-x.ensures.kept.0 store)))
          (argument_at_front g.M.MacroScope.writable store c.args.below c.arguments.self.world c.expand.new.self.world c.arguments.out.items c.args.texts.now c.arguments.place _ _ c.arguments-test.true (h store agrees))),
    )) (search rules) (search rules)

pub each_argument-returns-in_err-push : goal.each_argument-returns-in_err-push
each_argument-returns-in_err-push g t c =
    let p = err_from_is_err_and c.from_residual-in_err-push.result c.from_residual-in_err-push.ensures.1 in
    let h = c.in_ok-x.ensures.gives in
    does_early _ p.1 p.2 (λ store agrees. (
      tt,
      (subst (λ (o : StepEnd World (List Text)). GoesOn c.expand.new.self.world (left_of o)) (c.arguments.invariant.rest store (omega (arith, c.in_ok-x.ensures.kept.0 store)))
          (argument_at_front g.M.MacroScope.writable store c.args.below c.arguments.self.world c.expand.new.self.world c.arguments.out.items c.args.texts.now c.arguments.place _ _ c.arguments-test.true (h store agrees))),
    )) (search rules) (search rules)

pub each_word-returns-in_err-x : goal.each_word-returns-in_err-x
each_word-returns-in_err-x g t c =
    let p = err_from_is_err_and c.from_residual-in_err-x.result c.from_residual-in_err-x.ensures.1 in
    let h = rw c.in_ok-bind.ensures.done at c.in_err-x.ensures.gives in
    let k = rw c.in_ok-bind.ensures.done at c.in_err-x.ensures.cut in
    does_early _ p.1 p.2 (λ store agrees.
    (subst (λ (o : StepEnd World Text). Early c.in_err-x.field-0.0 c.expand.new.self.world o) (c.words.invariant.rest store (omega (arith, rw c.in_ok-bind.ensures.done at (c.in_err-x.ensures.kept.0 store))))
    (word_fails g.M.MacroScope.writable store c.args.below c.in_err-x.field-0.0 c.words.self.world c.expand.new.self.world c.args.name.now c.args.body.now c.words.out.items c.words.separator.now _ _ c.in-Some.word.now c.words.rest c.next.new.self c.in-Some.ensures.steps (search rules) (search rules) (h store agrees, k store agrees)))) (search rules) (search rules)

pub read_page-returns-in_err-read_items : goal.read_page-returns-in_err-read_items
read_page-returns-in_err-read_items g t c =
    let p = err_from_is_err_and c.from_residual.result c.from_residual.ensures.1 in
    does_early _ p.1 p.2 (λ store agrees.
    (sheet_fails g.M.MacroScope.writable store c.args.below c.args.page.now c.in_err-read_items.field-0.0 c.args.self.now.world c.read_items.new.self.world (c.in_err-read_items.ensures.gives store agrees, c.in_err-read_items.ensures.cut store agrees))) (search rules) (search rules)

pub apply_or-returns-in_err-x : goal.apply_or-returns-in_err-x
apply_or-returns-in_err-x g t c =
    let p = err_from_is_err_and c.from_residual.result c.from_residual.ensures.1 in
    let h = rw c.stripped.ensures at c.in_err-x.ensures.gives in
    let k = rw c.stripped.ensures at c.in_err-x.ensures.cut in
    does_early _ p.1 p.2 (λ store agrees.
    (subst (λ (o : StepEnd World Text). Early c.in_err-x.field-0.0 c.expand.new.self.world o) (c.arguments.invariant.rest store (omega (arith, c.in_err-x.ensures.kept.0 store)))
    (or_at_fails g.M.MacroScope.writable store c.args.below c.in_err-x.field-0.0 c.arguments.self.world c.expand.new.self.world c.args.texts.now c.arguments.place _ c.arguments-test.true (h store agrees, k store agrees)))) (search rules) (search rules)

pub apply_and-returns-in_err-x : goal.apply_and-returns-in_err-x
apply_and-returns-in_err-x g t c =
    let p = err_from_is_err_and c.from_residual.result c.from_residual.ensures.1 in
    let h = rw c.stripped.ensures at c.in_err-x.ensures.gives in
    let k = rw c.stripped.ensures at c.in_err-x.ensures.cut in
    does_early _ p.1 p.2 (λ store agrees.
    (subst (λ (o : StepEnd World Text). Early c.in_err-x.field-0.0 c.expand.new.self.world o) (c.arguments.invariant.rest store (omega (arith, c.in_err-x.ensures.kept.0 store)))
    (and_at_fails g.M.MacroScope.writable store c.args.below c.in_err-x.field-0.0 c.arguments.self.world c.expand.new.self.world c.args.texts.now c.arguments.place _ c.arguments-test.true (h store agrees, k store agrees)))) (search rules) (search rules)

pub read_conditional-returns-in_err-branch_holds : goal.read_conditional-returns-in_err-branch_holds
read_conditional-returns-in_err-branch_holds g t c =
    let p = err_from_is_err_and c.from_residual.result c.from_residual.ensures.1 in
    let r = c.requires.reads in
    reads_early _ p.1 p.2 (λ store agrees.
    (first_fails g.M.MacroScope.writable store c.args.below c.args.page.now c.in_err-branch_holds.field-0.0 c.args.self.now.world c.branch_holds.new.self.world (left_at c.args.page.now.blocks.steps c.args.place) c.args.place r.first r.others r.rest r.left (c.in_err-branch_holds.ensures.gives store agrees, c.in_err-branch_holds.ensures.cut store agrees))) (search rules) (search rules)

pub read_step-returns-in_err-read_define-in-Define : goal.read_step-returns-in_err-read_define-in-Define
read_step-returns-in_err-read_define-in-Define g t c =
    let p = err_from_is_err_and c.from_residual-in_err-read_define-in-Define.result c.from_residual-in_err-read_define-in-Define.ensures.1 in
    let h = rw c.in_ok-line-in-Define.ensures.done at c.in_err-read_define-in-Define.ensures.gives in
    let k = rw c.in_ok-line-in-Define.ensures.done at c.in_err-read_define-in-Define.ensures.cut in
    let is = rw c.in-Define.is at c.requires.step.reads in
    reads_early _ p.1 p.2 (λ store agrees.
    (definition_fails g.M.MacroScope.writable store c.args.below c.args.page.now c.in_err-read_define-in-Define.field-0.0 c.args.self.now.world c.read_define.new.self.world (left_at c.args.page.now.blocks.steps c.args.place) (left_at c.args.page.now.blocks.steps c.in-Define.end) c.args.place c.in-Define.end _ _ is (search rules) (search rules) (h store agrees, k store agrees))) (search rules) (search rules)

pub read_step-returns-in_ok-read_define-in-Define : goal.read_step-returns-in_ok-read_define-in-Define
read_step-returns-in_ok-read_define-in-Define g t c =
    let is = rw c.in-Define.is at c.requires.step.reads in
    record {
      ahead = search rules;
      rest = λ store agrees.
          let h = rw c.in_ok-line-in-Define.ensures.done at c.in_ok-read_define-in-Define.ensures.gives in
          definition_taken g.M.MacroScope.writable store c.args.below c.args.page.now c.args.self.now.world c.read_define.new.self.world (left_at c.args.page.now.blocks.steps c.args.place) (left_at c.args.page.now.blocks.steps c.in-Define.end) c.args.place c.in-Define.end _ _ is (search rules) (search rules) (h store agrees);
      fails = λ store agrees. tt;
      cut = λ store agrees. tt;
      kept = search rules;
      blames = search rules;
    }

pub read_conditional-returns-in_err-branch_holds-2 : goal.read_conditional-returns-in_err-branch_holds-2
read_conditional-returns-in_err-branch_holds-2 g t c =
    let p = err_from_is_err_and c.from_residual-in_err-branch_holds-2.result c.from_residual-in_err-branch_holds-2.ensures.1 in
    let h = c.in_err-branch_holds-2.ensures.gives in
    let k = c.in_err-branch_holds-2.ensures.cut in
    reads_early _ p.1 p.2 (λ store agrees.
    (branch_fails g.M.MacroScope.writable store c.args.below c.args.page.now c.args.page.now.blocks.steps c.branches.at c.args.after c.branches.self.world _ c.in_Some-condition.condition c.in_Some-condition.next c.in_Some-condition.ensures.some.0 c.in_err-branch_holds-2.field-0.0 c.branch_holds-in_Some-condition.new.self.world
    (c.branches.invariant.rest store (omega (arith, c.in_err-branch_holds-2.ensures.kept.0 store))) c.in_Some-condition.ensures.before c.in_Some-condition.ensures.some.1 (h store agrees, k store agrees))) (search rules) (search rules)

pub are_equal-returns-in-Some : goal.are_equal-returns-in-Some
are_equal-returns-in-Some g t c = record {
  gives = λ store agrees. c.in-Some.ensures.quick g.M.MacroScope.writable store;
  cut = λ store agrees. tt;
  kept = search rules;
  blames = search rules;
}

pub read_next-returns : goal.read_next-returns
read_next-returns g t c =
    reads_from_earlier g.M.MacroScope.writable c.args.below c.args.page.now c.args.place c.past_comments-at.result _ _ _
    c.past_comments-at.ensures.after c.past_comments-at.ensures.quick_same c.read_step.ensures
