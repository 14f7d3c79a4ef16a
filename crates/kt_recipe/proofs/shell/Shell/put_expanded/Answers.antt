use Rattle.kt_recipe.proofs.Common.{refl, err_from_is_err_and, Text, front_same, after_run, ignores_failure, pieces_of_line, expansion, put_line, put_pieces, command_in, setting_at}
use Rattle.kt_recipe.proofs.ShellLemmas.{put_pieces_front, stops_all}
use Rattle.kt_recipe.proofs.shell.Shell.put_expanded.Goals as goal

pub returns-in_err-text : goal.returns-in_err-text
unfolding put_line
returns-in_err-text c =
    let p = err_from_is_err_and c.from_residual.result c.from_residual.ensures.1 in
    let at = setting_at c.args.self.now c.args.line.now.place in
    let line : Text = c.args.line.now.text in
    let command = command_in c.args.command.now.items in
    let told = rw (c.after_run.ensures, c.as_slice-line_text.ensures) at c.in_err-text.ensures in
    let said = c.args.messages.now.items in
    rw (p.1, p.2)
    (stops_all _ _ c.in_err-text.field-0.0 said said c.expand.new.messages.items (expansion at (after_run line))
    (λ (text : Text). put_pieces at (ignores_failure line) (pieces_of_line text) command) (put_line at line command)
    (λ (text : Text). put_pieces_front at (ignores_failure line) (pieces_of_line text) command) (front_same said) refl told)
