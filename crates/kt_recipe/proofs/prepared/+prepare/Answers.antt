use Rattle.std.proofs.Common.{◌≡◌, ◌==◌, ◌+◌, ◌∙◌, ℕ, List, [], Bor, false, true, sym, ap, arith, rules, drop, get_or, length, map, option_map}
use Rattle.std.proofs.lemmas.List.{drop_all, drop_more, length-map}
use Rattle.kt_recipe.proofs.Common.{IfOk-weaker, Text, dollar, literal, reference, terms_of, token_of, apply, request_by_mark, evaluator, names_plainly}
use Rattle.kt_text.specs.TextFunctions.{arity}
use Rattle.kt_eval.specs.expanding.Calls.{calls}
use Rattle.kt_recipe.proofs.PreparedCallLemmas.{applied_adds, argument_known, arguments_known, call_adds, chosen_adds, known_is, none_chosen_adds, other_adds, some_weaker, three_are, two_are}
use Rattle.kt_recipe.proofs.PreparedLemmas.{all_added, deeper_adds, dollar_adds, entry_adds, known_adds, literal_adds, macro_adds, nothing_adds, reference_adds, term_added}
use Rattle.kt_recipe.proofs.prepared.+prepare.Goals as goal

pub put_name-returns-in-Some : goal.put_name-returns-in-Some
put_name-returns-in-Some t c = record {
  quick =
      IfOk-weaker c.put_gap.result _ _
      (λ known adds yes. macro_adds c.args.macros.now (evaluator false [] c.args.limit) c.args.name.now c.in-Some.subject c.in-Some.form c.args.pieces.now
      c.put_gap.new.pieces (sym c.in-Some.ensures) adds)
      c.put_gap.ensures;
}

pub put_name-returns-in-Some-get : goal.put_name-returns-in-Some-get
put_name-returns-in-Some-get t c = record {
  quick =
      IfOk-weaker c.put_value.result _ _
      (λ known adds yes. entry_adds c.args.macros.now (evaluator false [] c.args.limit) c.args.name.now c.in-Some-get.entry.now c.args.pieces.now
      c.put_value.new.pieces (sym c.in_default.ensures) (sym c.in-Some-get.ensures) (adds yes))
      (rw c.as_slice.ensures at c.put_value.ensures.quick);
}

pub put_name-returns-in-None : goal.put_name-returns-in-None
put_name-returns-in-None t c = record {
  quick = λ yes.
      nothing_adds c.args.macros.now (evaluator false [] c.args.limit) c.args.name.now c.args.pieces.now (sym c.in_default.ensures) (sym c.in-None.ensures);
}

pub put_term-returns-in-Ok-Lit : goal.put_term-returns-in-Ok-Lit
put_term-returns-in-Ok-Lit t c = record {
  quick =
      let is : token_of c.args.term ≡ literal c.in-Ok-Lit.bytes.now = search rules in
      rw is
      (IfOk-weaker c.put_known.result _ _
      (λ known adds yes. literal_adds c.args.macros.now (evaluator false [] c.args.limit) c.in-Ok-Lit.bytes.now c.args.pieces.now c.put_known.new.pieces adds)
      c.put_known.ensures);
}

pub put_term-returns-in-Ok-Dollar : goal.put_term-returns-in-Ok-Dollar
put_term-returns-in-Ok-Dollar t c = record {
  quick =
      let is : token_of c.args.term ≡ dollar = search rules in
      rw is
      (IfOk-weaker c.put_known-in-Ok-Dollar.result _ _
      (λ known adds yes. dollar_adds c.args.macros.now (evaluator false [] c.args.limit) c.args.pieces.now c.put_known-in-Ok-Dollar.new.pieces adds)
      c.put_known-in-Ok-Dollar.ensures);
}

pub put_term-returns-then-names_plainly : goal.put_term-returns-then-names_plainly
put_term-returns-then-names_plainly t c = record {
  quick =
      let plain : names_plainly c.in-Ok-Ref.mark c.in-Ok-Ref.body.now ≡ true = search rules in
      let is : token_of c.args.term ≡ reference c.in-Ok-Ref.mark c.in-Ok-Ref.body.now = search rules in
      rw is
      (IfOk-weaker c.put_name.result _ _
      (λ known adds yes. reference_adds c.args.macros.now (evaluator false [] c.args.limit) c.in-Ok-Ref.mark c.in-Ok-Ref.body.now c.args.pieces.now
      c.put_name.new.pieces plain (adds yes))
      c.put_name.ensures.quick);
}

pub put_text-terms-preserved : goal.put_text-terms-preserved
put_text-terms-preserved t c =
    let yes : c.in_ok-put_term.field-0 ≡ true = search rules in
    term_added c.args.macros.now (evaluator false [] c.args.limit) (terms_of c.args.text.now) c.terms.rest c.next.new.self (token_of c.in-Some.term)
    c.args.pieces.now c.terms.pieces c.put_term.new.pieces c.in-Some.ensures.steps c.terms.invariant (c.in_ok-put_term.ensures.quick yes)

pub put_text-returns : goal.put_text-returns
put_text-returns t c = record {
  quick = λ yes.
      all_added c.args.macros.now (evaluator false [] c.args.limit) c.args.text.now c.terms.rest c.args.pieces.now c.terms.pieces
      c.in_default.ensures.steps.0 c.terms.invariant;
}

pub put_value-returns-in-Immediate : goal.put_value-returns-in-Immediate
put_value-returns-in-Immediate t c = record {
  quick =
      rw c.in-Immediate.is
      (IfOk-weaker c.put_known.result _ _
      (λ known adds yes. known_adds c.args.macros.now c.args.value.now c.args.pieces.now c.put_known.new.pieces adds)
      c.put_known.ensures);
}

pub put_deeper-returns : goal.put_deeper-returns
put_deeper-returns t c = record {
  quick =
      IfOk-weaker c.put_text.result _ _
      (λ known adds yes. deeper_adds c.args.macros.now c.args.limit c.args.text.now c.args.pieces.now c.put_text.new.pieces c.if-limit-eq0.false (adds yes))
      c.put_text.ensures.quick;
}

pub put_term-returns-else-names_plainly : goal.put_term-returns-else-names_plainly
put_term-returns-else-names_plainly t c = record {
  quick =
      let is : token_of c.args.term ≡ reference c.in-Ok-Ref.mark c.in-Ok-Ref.body.now = search rules in
      rw is c.put_asked.ensures.quick;
}

pub put_value-returns-in-Deferred : goal.put_value-returns-in-Deferred
put_value-returns-in-Deferred t c = record { quick = rw c.in-Deferred.is c.put_deeper.ensures.quick }

pub put_asked-returns-in-Calls : goal.put_asked-returns-in-Calls
put_asked-returns-in-Calls t c = record {
  quick =
      let texts : List Text = map (λ a. a.now) c.in-Calls.arguments.items in
      let is : request_by_mark c.args.mark c.args.body.now ≡ calls c.in-Calls.function texts = sym (rw c.in-Calls.is at c.in_ok-function.ensures) in
      IfOk-weaker c.put_call.result _ _
      (λ known adds yes. call_adds c.args.macros.now (evaluator false [] c.args.limit) c.args.mark c.args.body.now c.in-Calls.function texts c.args.pieces.now
      c.put_call.new.pieces is (adds yes))
      (rw c.deref.ensures.value at c.put_call.ensures.quick);
}

pub put_call-returns-in-Text : goal.put_call-returns-in-Text
unfolding apply
put_call-returns-in-Text t c = record { quick = rw c.in-Text.is c.put_applied.ensures.quick }

pub put_call-returns-in-len2 : goal.put_call-returns-in-len2
unfolding apply
put_call-returns-in-len2 t c = record {
  quick =
      let past : Bor (List ℕ) = record { ref_ptr = (0, 0); now = [] } in
      let count : length c.args.arguments.now ≡ 2 = omega arith in
      rw c.in-If.is (rw (two_are c.args.arguments.now past count) c.put_if.ensures.quick);
}

pub put_call-returns-in-len3 : goal.put_call-returns-in-len3
unfolding apply
put_call-returns-in-len3 t c = record {
  quick =
      let past : Bor (List ℕ) = record { ref_ptr = (0, 0); now = [] } in
      let count : length c.args.arguments.now ≡ 3 = omega arith in
      rw c.in-If.is (rw (three_are c.args.arguments.now past count) c.put_if-in-len3.ensures.quick);
}

pub put_applied-returns-in-Some : goal.put_applied-returns-in-Some
put_applied-returns-in-Some t c = record {
  quick =
      let same : length c.args.texts.now ≡ c.arity.result = search rules in
      let counted : length (map (λ (a : Bor (List ℕ)). a.now) c.args.texts.now) ≡ arity c.args.function =
      length-map c.args.texts.now (λ (a : Bor (List ℕ)). a.now) ∙ (same ∙ c.arity.ensures.value) in
      IfOk-weaker c.put_result.result _ _
      (λ known result yes. applied_adds c.args.macros.now (evaluator false [] c.args.limit) c.args.function (map (λ a. a.now) c.args.texts.now)
      c.in-Some.arguments.items c.args.pieces.now c.put_result.new.pieces counted (rw c.in-Some.is at c.in_ok-arguments.ensures.quick) (result yes))
      (rw c.deref.ensures.value at c.put_result.ensures.quick);
}

pub known_arguments-arguments-preserved : goal.known_arguments-arguments-preserved
known_arguments-arguments-preserved t c =
    let texts = c.args.texts.now in
    let place = c.arguments.place in
    let past : Bor (List ℕ) = record { ref_ptr = (0, 0); now = [] } in
    let left = λ (rest : List (Bor (List ℕ))). map (λ (a : Bor (List ℕ)). a.now) rest in
    argument_known c.args.macros.now (evaluator false [] c.args.limit) (left texts) (left (drop place texts)) (left (drop (place + 1) texts))
    c.arguments.values.items c.push.new.self.items (get_or texts place past).now c.in_ok-from_vec-in-Some.field-0 c.in-Some.text.items
    (ap left (drop_more texts place past c.arguments-test.true)) c.in_ok-push-in-Some.ensures.items c.in_ok-from_vec-in-Some.ensures
    c.arguments.invariant (rw c.in-Some.is at c.in_ok-text.ensures.quick)

pub known_arguments-returns : goal.known_arguments-returns
known_arguments-returns t c = record {
  quick =
      let texts = c.args.texts.now in
      let left = λ (rest : List (Bor (List ℕ))). map (λ (a : Bor (List ℕ)). a.now) rest in
      arguments_known c.args.macros.now (evaluator false [] c.args.limit) (left texts) (left (drop c.arguments.place texts)) c.arguments.values.items
      (ap left (drop_all c.arguments.place texts (omega arith))) c.arguments.invariant;
}

pub known_text-returns-then-branch : goal.known_text-returns-then-branch
known_text-returns-then-branch t c = record {
  quick =
      let yes : c.in_ok-put_deeper.field-0 ≡ true = search rules in
      some_weaker c.whole.result _ _
      (λ text whole. known_is c.args.macros.now ((evaluator false [] c.args.limit).expand c.args.text.now) c.none-pieces.result c.put_deeper.new.pieces text.items
      c.none-pieces.ensures.gaps c.none-pieces.ensures.end (c.in_ok-put_deeper.ensures.quick yes) whole)
      c.whole.ensures.quick;
}

pub put_if-returns-then-not-is_empty : goal.put_if-returns-then-not-is_empty
put_if-returns-then-not-is_empty t c = record {
  quick =
      let some : (length c.in-Some.text.items == 0) ≡ false = search rules in
      IfOk-weaker c.put_deeper.result _ _
      (λ known adds yes. chosen_adds c.args.macros.now (evaluator false [] c.args.limit) c.args.condition.now c.args.chosen.now c.in-Some.text.items
      (option_map (λ t. t.now) c.args.other) c.args.pieces.now c.put_deeper.new.pieces
      (rw c.stripped.ensures at (rw c.in-Some.is at c.in_ok-known_text.ensures.quick)) some (adds yes))
      c.put_deeper.ensures.quick;
}

pub put_if-returns-in-None-other : goal.put_if-returns-in-None-other
put_if-returns-in-None-other t c = record {
  quick =
      let empty : (length c.in-Some.text.items == 0) ≡ true = search rules in
      rw c.in-None-other.is
      (λ yes. none_chosen_adds c.args.macros.now (evaluator false [] c.args.limit) c.args.condition.now c.args.chosen.now c.in-Some.text.items c.args.pieces.now
      (rw c.stripped.ensures at (rw c.in-Some.is at c.in_ok-known_text.ensures.quick)) empty);
}

pub put_if-returns : goal.put_if-returns
put_if-returns t c = record {
  quick =
      let empty : (length c.in-Some.text.items == 0) ≡ true = search rules in
      rw c.in-Some-other.is
      (IfOk-weaker c.put_deeper-in-Some-other.result _ _
      (λ known adds yes. other_adds c.args.macros.now (evaluator false [] c.args.limit) c.args.condition.now c.args.chosen.now c.in-Some.text.items
      c.in-Some-other.other.now c.args.pieces.now c.put_deeper-in-Some-other.new.pieces
      (rw c.stripped.ensures at (rw c.in-Some.is at c.in_ok-known_text.ensures.quick)) empty (adds yes))
      c.put_deeper-in-Some-other.ensures.quick);
}
