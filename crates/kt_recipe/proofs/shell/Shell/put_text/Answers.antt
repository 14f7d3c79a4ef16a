use Rattle.std.proofs.Common.{sym, ◌∙◌}
use Rattle.kt_recipe.proofs.Common.{err_from_is_err_and, pieces_of_line, put_pieces, command_in, setting_at}
use Rattle.kt_recipe.proofs.PieceLemmas.{says_one}
use Rattle.kt_recipe.proofs.ShellLemmas.{out_of_memory, put_pieces_front}
use Rattle.kt_recipe.proofs.shell.Shell.put_text.Goals as goal

pub returns-then-is_one_piece : goal.returns-then-is_one_piece
returns-then-is_one_piece c =
    let at = setting_at c.args.self.now c.args.place.now in
    says_one _ at c.args.marked c.args.text.now (command_in c.args.command.now.items) c.put_piece.result c.args.messages.now.items
    c.put_piece.new.messages.items (sym c.is_one_piece.ensures ∙ c.if-is_one_piece.true) c.put_piece.ensures

pub returns-in_err-pieces : goal.returns-in_err-pieces
returns-in_err-pieces c =
    let p = err_from_is_err_and c.from_residual.result c.from_residual.ensures.1 in
    let at = setting_at c.args.self.now c.args.place.now in
    let command = command_in c.args.command.now.items in
    rw (p.1, p.2)
    (out_of_memory _ (put_pieces at c.args.marked (pieces_of_line c.args.text.now) command) c.args.messages.now.items
    (put_pieces_front at c.args.marked (pieces_of_line c.args.text.now) command))
