use Rattle.std.proofs.Common.{◌≡◌, ◌-◌, length}
use Rattle.kt_recipe.proofs.Common.{range_with_len, IsPrefix, put_parts, command_in}
use Rattle.kt_recipe.proofs.shell.put_parts.Given as goal

abbrev pub invariant-loop-part : goal.invariant-loop-part
invariant-loop-part l = record {
  same : l.kept ≡ l.fn.kept;
  front : IsPrefix l.fn.messages.items l.messages.items;
  rest : put_parts l.expander.table l.expander.limit l.node (range_with_len l.part (l.part-end - l.part)) (command_in l.command.items) l.messages.items
      ≡ put_parts l.expander.table l.expander.limit l.node (range_with_len 0 (length l.node.parts)) (command_in l.fn.command.items) l.fn.messages.items;
}
