use Rattle.std.proofs.Common.{◌≡◌, drop, map}
use Rattle.kt_recipe.proofs.Common.{IsPrefix, put_pieces, command_in, setting_at}
use Rattle.kt_recipe.proofs.shell.Shell.put_pieces.Given as goal

abbrev pub invariant-loop-piece : goal.invariant-loop-piece
invariant-loop-piece l = record {
  kept : IsPrefix l.fn.messages.items l.messages.items;
  rest : put_pieces (setting_at l.self l.place) l.marked (map (λ piece. piece.now) (drop l.piece-index l.pieces)) (command_in l.command.items) l.messages.items
      ≡ put_pieces (setting_at l.self l.place) l.marked (map (λ piece. piece.now) l.pieces) (command_in l.fn.command.items) l.fn.messages.items;
}
