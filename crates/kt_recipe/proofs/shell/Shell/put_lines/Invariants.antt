use Rattle.std.proofs.Common.{◌≡◌, drop}
use Rattle.kt_recipe.proofs.Common.{IsPrefix, automatic_in, put_lines, command_in}
use Rattle.kt_recipe.proofs.shell.Shell.put_lines.Given as goal

abbrev pub invariant-loop-number : goal.invariant-loop-number
invariant-loop-number l = record {
  same : l.kept ≡ l.fn.kept;
  front : IsPrefix l.fn.messages.items l.messages.items;
  rest : put_lines l.self.expander.now.table (automatic_in l.self.node.now l.self.part) l.self.expander.now.limit (drop l.number l.lines) (command_in l.command.items) l.messages.items
      ≡ put_lines l.self.expander.now.table (automatic_in l.self.node.now l.self.part) l.self.expander.now.limit l.lines (command_in l.fn.command.items) l.fn.messages.items;
}
