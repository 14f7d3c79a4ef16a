use Rattle.std.proofs.Common.{◌∙◌, ◌+◌, ◌-◌, length}
use Rattle.kt_recipe.proofs.Common.{range_with_len, err_from_is_err_and, put_part, put_parts, command_in}
use Rattle.kt_recipe.proofs.LoopLemmas.{parts_from}
use Rattle.kt_recipe.proofs.ShellLemmas.{put_parts_front, stops_all}
use Rattle.kt_recipe.proofs.shell.put_parts.Goals as goal

pub returns-in_err-put_part-clause-says : goal.returns-in_err-put_part-clause-says
returns-in_err-put_part-clause-says c =
    let p = err_from_is_err_and c.from_residual.result c.from_residual.ensures.1 in
    let table = c.args.expander.now.table in
    let node = c.args.node.now in
    let part = c.loop-part.part in
    let end = c.parts-part-end.result in
    let command = command_in c.loop-part.command.items in
    rw (p.1, p.2)
    (stops_all _ _ c.in_err-put_part.field-0.0 c.args.messages.now.items c.loop-part.messages.items c.put_part.new.messages.items
    (put_part table c.args.expander.now.limit node part command) (put_parts table c.args.expander.now.limit node (range_with_len (part + 1) (end - (part + 1))))
    (put_parts table c.args.expander.now.limit node (range_with_len 0 (length node.parts)) (command_in c.args.command.now.items))
    (put_parts_front table c.args.expander.now.limit node (range_with_len (part + 1) (end - (part + 1)))) c.loop-part.invariant.front
    (parts_from table c.args.expander.now.limit node part end command c.loop-part.messages.items c.loop-part-test.true ∙ c.loop-part.invariant.rest)
    c.in_err-put_part.ensures.says)
