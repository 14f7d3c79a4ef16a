use Rattle.std.proofs.Common.{◌≡◌, ◌∙◌, ◌∷◌, [], List, ap, arith, length, sym}
use Rattle.std.proofs.lemmas.Result.{err_from_is_err_and}
use Rattle.kati.proofs.Common.{length-append, Node, plan_groups}
use Rattle.kati.specs.inner.plan.Drawn.{statements_drawn}
use Rattle.kati.proofs.lemmas.plan.DrawnLemmas.{always_first, plan_ends, plan_next, plan_stops, size_next}
use Rattle.kati.proofs.plan.planning.Planner.drawn.Goals as goal

pub loop-group-preserved : goal.loop-group-preserved
loop-group-preserved c =
    let rules_now = c.args.self.now.book.now in
    let table = c.args.self.now.commands.table in
    let limit = c.args.self.now.commands.limit in
    let groups = c.loop-group.groups in
    let sketch = c.loop-group.sketch in
    let group = c.next_group.new.group.items in
    let said = c.loop-group.messages.items in
    let left = c.next_group.new.left in
    let before = c.loop-group.invariant in
    let next : c.loop-group.left ≡ group ∷ left = rw c.if-branch.true at c.in_ok-next_group.ensures.next in
    let gives = rw (before.book, before.same, c.as_slice.ensures.value) at c.in_ok-add.ensures.gives in
    let more = size_next rules_now table limit groups sketch group said c.add.new.sketch c.add.new.messages.items gives in
    record {
      book = c.in_ok-add.ensures.book ∙ before.book;
      same = c.in_ok-add.ensures.same ∙ before.same;
      size = omega (arith, before.size, more, ap length c.in_ok-append_row.ensures.added, length-append groups (group ∷ []));
      rest =
          plan_next rules_now table limit groups sketch group said left before.size c.append_row.new.self c.add.new.sketch
          c.add.new.messages.items c.in_ok-append_row.ensures.added gives
          ∙ ap (λ (gs : List (List Node)). plan_groups rules_now table limit gs (statements_drawn groups sketch) said) (sym next)
          ∙ before.rest;
    }

pub returns-in_err-add-clause-gives : goal.returns-in_err-add-clause-gives
returns-in_err-add-clause-gives c =
    let rules_now = c.args.self.now.book.now in
    let table = c.args.self.now.commands.table in
    let limit = c.args.self.now.commands.limit in
    let groups = c.loop-group.groups in
    let sketch = c.loop-group.sketch in
    let group = c.next_group.new.group.items in
    let said = c.loop-group.messages.items in
    let before = c.loop-group.invariant in
    let next : c.loop-group.left ≡ group ∷ c.next_group.new.left = rw c.if-branch.true at c.in_ok-next_group.ensures.next in
    let gives = rw (before.book, before.same, c.as_slice.ensures.value) at c.in_err-add.ensures.gives in
    let p = err_from_is_err_and c.from_residual-in_err-add.result c.from_residual-in_err-add.ensures.1 in
    rw (p.1, p.2)
    (rw before.rest at (rw (sym next) at
    (plan_stops rules_now table limit groups sketch group said c.next_group.new.left before.size c.in_err-add.field-0.0 c.add.new.messages.items gives)))

pub returns-clause-gives : goal.returns-clause-gives
returns-clause-gives c =
    let none : c.loop-group.left ≡ [] = rw c.if-branch.false at c.in_ok-next_group.ensures.next in
    sym c.loop-group.invariant.rest
    ∙ plan_ends c.args.self.now.book.now c.args.self.now.commands.table c.args.self.now.commands.limit c.loop-group.left
    (statements_drawn c.loop-group.groups c.loop-group.sketch) c.loop-group.messages.items none

pub returns-clause-always : goal.returns-clause-always
returns-clause-always c = always_first c.loop-group.groups c.loop-group.sketch c.loop-group.invariant.size
