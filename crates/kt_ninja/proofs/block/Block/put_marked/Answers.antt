use Rattle.std.proofs.Common.{rules, ◌<◌, length}
use Rattle.kt_ninja.proofs.Putting.{puts_then}
use Rattle.kt_ninja.proofs.Marks.{marked_text-some}
use Rattle.kt_ninja.proofs.block.Block.put_marked.Goals as goal

pub returns-then-count-gt0 : goal.returns-then-count-gt0
returns-then-count-gt0 g c =
    let names = g.N.NamesView.names c.args.names.now in
    let some : 0 < length names = search rules in
    rw (marked_text-some c.args.mark.now names some) (puts_then c.args.mark.now _ c.put.ensures c.put_names.ensures)
