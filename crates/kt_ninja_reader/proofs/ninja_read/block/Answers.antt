use Rattle.std.proofs.Common.{◌++◌, sym, ◌∙◌, ap, map, option_map, arith}
use Rattle.kt_ninja_reader.proofs.Common.{drop_all, block_from, binding_view}
use Rattle.kt_ninja_reader.proofs.lemmas.ReaderLemmas.{block_over}
use Rattle.kt_ninja_reader.proofs.ninja_read.block.Goals as goal

pub returns : goal.returns
returns c =
    let front = map binding_view c.loop-line.bindings.items in
    sym c.loop-line.invariant
    ∙ ap (λ l. option_map (λ more. front ++ more) (block_from c.loop-line.closed l)) (drop_all c.loop-line.line-index c.args.body.now (omega (arith, c.loop-line-test.false)))
    ∙ block_over c.loop-line.closed front
