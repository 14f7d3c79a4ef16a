use Rattle.std.proofs.Common.{arith, ◌+◌, ◌++◌, codes, drop, ap, rules}
use Rattle.kt_ninja.proofs.Common.{drop_all, names_text, name_text}
use Rattle.kt_ninja.proofs.Places.{drop_at}
use Rattle.kt_ninja.proofs.Putting.{puts_then, up_to_more, up_to_end, up_to_start}
use Rattle.kt_ninja.proofs.block.Block.put_names.Goals as goal

pub loop-place-init : goal.loop-place-init
loop-place-init g c = grind (arith, up_to_start)

pub loop-place-preserved : goal.loop-place-preserved
loop-place-preserved g c =
    let i = c.loop-place.place in
    let names = g.N.NamesView.names c.args.names.now in
    record {
      within = search rules;
      puts = up_to_more _ (codes " " ++ name_text c.name.result.now) (names_text (drop (i + 1) names))
          (ap names_text (drop_at names i c.name.result.now c.name.ensures)) c.loop-place.invariant.puts
          (puts_then (codes " ") (name_text c.name.result.now) c.put.ensures c.put_escaped.ensures);
    }

pub returns : goal.returns
returns g c = search (rules, up_to_end, drop_all)
