use Rattle.std.proofs.Common.{◌∙◌, ◌+◌, drop}
use Rattle.kt_recipe.proofs.Common.{err_from_is_err_and, automatic_in, put_line, put_lines, command_in, setting_at}
use Rattle.kt_recipe.proofs.LoopLemmas.{lines_from}
use Rattle.kt_recipe.proofs.ShellLemmas.{put_lines_front, stops_all}
use Rattle.kt_recipe.proofs.shell.Shell.put_lines.Goals as goal

pub returns-in_err-put_line-clause-says : goal.returns-in_err-put_line-clause-says
returns-in_err-put_line-clause-says c =
    let p = err_from_is_err_and c.from_residual.result c.from_residual.ensures.1 in
    let shell = c.args.self.now in
    let automatic = automatic_in shell.node.now shell.part in
    let line = c.index-lines-number.result in
    let i = c.loop-number.number in
    let command = command_in c.loop-number.command.items in
    rw (p.1, p.2)
    (stops_all _ _ c.in_err-put_line.field-0.0 c.args.messages.now.items c.loop-number.messages.items c.put_line.new.messages.items
    (put_line (setting_at shell line.place) line.text command) (put_lines shell.expander.now.table automatic shell.expander.now.limit (drop (i + 1) c.args.lines.now))
    (put_lines shell.expander.now.table automatic shell.expander.now.limit c.args.lines.now (command_in c.args.command.now.items))
    (put_lines_front shell.expander.now.table automatic shell.expander.now.limit (drop (i + 1) c.args.lines.now)) c.loop-number.invariant.front
    (lines_from shell.expander.now.table automatic shell.expander.now.limit c.args.lines.now i line command c.loop-number.messages.items c.loop-number-test.true c.index-lines-number.is
    ∙ c.loop-number.invariant.rest)
    c.in_err-put_line.ensures.says)
