use Rattle.std.proofs.Common.{◌∙◌, ◌+◌, ℕ, List, [], Bor, drop, get_or, map}
use Rattle.kt_recipe.proofs.Common.{err_from_is_err_and, put_piece, put_pieces, command_in, setting_at}
use Rattle.kt_recipe.proofs.LoopLemmas.{pieces_from}
use Rattle.kt_recipe.proofs.ShellLemmas.{put_pieces_front, stops_all}
use Rattle.kt_recipe.proofs.shell.Shell.put_pieces.Goals as goal

pub returns-in_err-put_piece : goal.returns-in_err-put_piece
returns-in_err-put_piece c =
    let p = err_from_is_err_and c.from_residual.result c.from_residual.ensures.1 in
    let past : Bor (List ℕ) = record { ref_ptr = (0, 0); now = [] } in
    let at = setting_at c.args.self.now c.args.place.now in
    let marked = c.args.marked in
    let i = c.loop-piece.piece-index in
    let command = command_in c.loop-piece.command.items in
    let rest : List (List ℕ) = map (λ (piece : Bor (List ℕ)). piece.now) (drop (i + 1) c.args.pieces.now) in
    rw (p.1, p.2)
    (stops_all _ _ c.in_err-put_piece.field-0.0 c.args.messages.now.items c.loop-piece.messages.items c.put_piece.new.messages.items
    (put_piece at marked (get_or c.args.pieces.now i past).now command) (put_pieces at marked rest)
    (put_pieces at marked (map (λ piece. piece.now) c.args.pieces.now) (command_in c.args.command.now.items))
    (put_pieces_front at marked rest) c.loop-piece.invariant.kept
    (pieces_from at marked c.args.pieces.now i past command c.loop-piece.messages.items c.loop-piece-test.true ∙ c.loop-piece.invariant.rest)
    c.in_err-put_piece.ensures)
