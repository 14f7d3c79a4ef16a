use Rattle.std.proofs.Common.{◌∙◌, List, ap, sym}
use Rattle.kt_graph.proofs.Common.{place_of, place_at, needed_view, Text, listed_in}
use Rattle.kt_graph.proofs.lemmas.nodes.ReachedNames.{place_first}
use Rattle.kt_graph.proofs.nodes.tables.Tables.needed.Goals as goal

pub returns : goal.returns
returns c = record {
  quick =
      let held = c.self.inside in
      let name = needed_view c.args.name in
      let number = c.in_ok-number.number in
      ap (λ (names : List Text). place_of names name) (sym c.self.view_is)
      ∙ place_first held.book.now (listed_in held.list) name number (place_at held.book.now name number c.len-count.ensures.differ c.in_ok-number.ensures.quick);
}
