use Rattle.std.proofs.Common.{◌≤◌, drop}
use Rattle.kt_ninja.specs.Text.{names_text}
use Rattle.kt_ninja.proofs.Putting.{PutsUpTo}
use Rattle.kt_ninja.proofs.block.Block.put_names.Given as goal

abbrev pub invariant-loop-place : goal.invariant-loop-place
invariant-loop-place g l = record {
  within : l.place ≤ l.place-end;
  puts : PutsUpTo g.W.Sink.seen l.fn.self l.self (names_text (g.N.NamesView.names l.names))
      (names_text (drop l.place (g.N.NamesView.names l.names)));
}
