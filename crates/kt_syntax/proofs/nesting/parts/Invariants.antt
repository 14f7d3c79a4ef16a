use Rattle.std.proofs.Common.{◌≡◌, ◌≤◌, ◌++◌, drop}
use Rattle.kt_syntax.specs.Parts.{block_parts, nothing_open, open_at_end, parts_from}
use Rattle.kt_syntax.specs.inner.Blocks.{depth_of}
use Rattle.kt_syntax.specs.Roles.{heads_of}
use Rattle.kt_syntax.proofs.nesting.parts.Given as goal

abbrev pub invariant-loop-line : goal.invariant-loop-line
invariant-loop-line l = record {
  found : l.parts.items ++ parts_from l.scan (heads_of l.text (drop l.line-index l.lines)) ≡ block_parts (heads_of l.text l.lines);
  scanned : open_at_end l.scan (heads_of l.text (drop l.line-index l.lines)) ≡ open_at_end nothing_open (heads_of l.text l.lines);
  shallow : depth_of l.scan ≤ l.line-index;
}
