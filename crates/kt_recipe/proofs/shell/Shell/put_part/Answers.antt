use Rattle.kt_recipe.proofs.Common.{[], sym, ap, unwrap_or, automatic_in, put_lines, put_part, command_in}
use Rattle.kt_recipe.proofs.ShellLemmas.{says_nothing}
use Rattle.kt_recipe.proofs.shell.Shell.put_part.Goals as goal

pub returns-in-None-clause-says : goal.returns-in-None-clause-says
unfolding put_part put_lines
returns-in-None-clause-says c =
    let shell = c.args.self.now in
    let command = command_in c.args.command.now.items in
    says_nothing _ (put_part shell.expander.now.table shell.expander.now.limit shell.node.now shell.part command) _ c.args.messages.now.items
    (ap (λ lines. put_lines shell.expander.now.table (automatic_in shell.node.now shell.part) shell.expander.now.limit (unwrap_or lines []) command c.args.messages.now.items)
    (sym c.in-None.ensures))
