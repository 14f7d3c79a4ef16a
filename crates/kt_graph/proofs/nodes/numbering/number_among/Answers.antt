use Rattle.std.proofs.Common.{◌∙◌, sym}
use Rattle.kt_graph.proofs.lemmas.nodes.ReachedNames.{place_first, place_second}
use Rattle.kt_graph.proofs.nodes.numbering.number_among.Goals as goal

pub returns-in-Some : goal.returns-in-Some
returns-in-Some c = sym (place_first c.args.tables.now c.args.others.now c.args.name.now c.in-Some.number (sym c.in-Some.ensures))

pub returns-in-None : goal.returns-in-None
returns-in-None c = c.number_after.ensures ∙ sym (place_second c.args.tables.now c.args.others.now c.args.name.now (sym c.in-None.ensures))
