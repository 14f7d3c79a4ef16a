use Rattle.kt_recipe.proofs.Common.{cow_slice_items, expansion, shell_text, setting_at}
use Rattle.kt_recipe.proofs.PlainLemmas.{shell_is}
use Rattle.kt_recipe.proofs.ShellLemmas.{says_nothing}
use Rattle.kt_recipe.proofs.shell.Shell.shell.Goals as goal

pub returns-in-Some : goal.returns-in-Some
returns-in-Some c =
    let at = c.args.self.now in
    says_nothing cow_slice_items (expansion (setting_at at c.args.place.now) shell_text) _ c.args.messages.now.items
    (shell_is at.node.now at.part at.expander.now.table at.expander.now.limit c.args.place.now c.args.messages.now.items c.in-Some.shell.now
    c.in-Some.ensures)
