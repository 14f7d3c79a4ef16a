use Rattle.kt_recipe.proofs.Common.{None, length, range_with_len, err_from_is_err_and, shell_of}
use Rattle.kt_recipe.proofs.ShellLemmas.{out_of_memory, put_parts_front}
use Rattle.kt_recipe.proofs.shell.command.Goals as goal

pub returns-in_err-commands : goal.returns-in_err-commands
unfolding shell_of
returns-in_err-commands c =
    let p = err_from_is_err_and c.from_residual.result c.from_residual.ensures.1 in
    let table = c.args.macros.now in
    let node = c.args.node.now in
    rw (p.1, p.2)
    (out_of_memory _ (shell_of table c.args.limit node) c.args.messages.now.items
    (put_parts_front table c.args.limit node (range_with_len 0 (length node.parts)) None))
