use Rattle.std.proofs.Common.{◌≡◌, true, rules, subst}
use Rattle.kt_recipe.proofs.Common.{err_from_is_err_and, Text, after_run, Commands, put_line, command_in, setting_at}
use Rattle.kt_recipe.specs.inner.Prepared.{IsFilled}
use Rattle.kt_recipe.proofs.PieceLemmas.{says_expanded}
use Rattle.kt_recipe.proofs.ShellLemmas.{out_of_memory, put_line_front}
use Rattle.kt_recipe.proofs.shell.Shell.put_line.Goals as goal

pub returns-in_err-fill-clause-says : goal.returns-in_err-fill-clause-says
returns-in_err-fill-clause-says c =
    let p = err_from_is_err_and c.from_residual.result c.from_residual.ensures.1 in
    let at = setting_at c.args.self.now c.args.line.now.place in
    let command = command_in c.args.command.now.items in
    rw (p.1, p.2) (out_of_memory _ (put_line at c.args.line.now.text command) c.args.messages.now.items (put_line_front at c.args.line.now.text command))

pub returns-then-branch-clause-says : goal.returns-then-branch-clause-says
returns-then-branch-clause-says c =
    let shell = c.args.self.now in
    let at = setting_at shell c.args.line.now.place in
    let line : Text = c.args.line.now.text in
    let known : c.in_ok-fill.field-0 ≡ true = search rules in
    let filled = c.in_ok-fill.ensures.quick_filled known in
    let told =
    subst (λ (commands : Commands). IsFilled commands (after_run line) shell.node.now shell.part c.fill.new.out.items) c.requires
    (rw (c.after_run-bare.ensures, c.as_slice.ensures) at filled) in
    let put = rw (c.is_marked-marked.ensures, c.as_slice-then-branch.ensures, c.as_slice-then-branch-2.ensures.value) at c.put_text.ensures in
    says_expanded _ at line c.fill.new.out.items (command_in c.args.command.now.items) c.put_text.result c.args.messages.now.items
    c.put_text.new.messages.items (told c.args.line.now.place c.args.messages.now.items) put
