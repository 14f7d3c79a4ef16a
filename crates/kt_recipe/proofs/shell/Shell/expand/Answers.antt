use Rattle.kt_recipe.proofs.Common.{err_from_is_err_and, expansion, setting_at}
use Rattle.kt_recipe.proofs.ShellLemmas.{expansion_front, out_of_memory}
use Rattle.kt_recipe.proofs.shell.Shell.expand.Goals as goal

pub returns-in_err-place : goal.returns-in_err-place
returns-in_err-place c =
    let p = err_from_is_err_and c.from_residual.result c.from_residual.ensures.1 in
    let at = setting_at c.args.self.now c.args.place.now in
    rw (p.1, p.2) (out_of_memory _ (expansion at c.args.text.now) c.args.messages.now.items (expansion_front at c.args.text.now))
