use Rattle.kt_graph.proofs.lemmas.EndMarkLemmas.{book_marked}
use Rattle.kt_graph.proofs.known.mark_named.Goals as goal

pub returns-clause-marked : goal.returns-clause-marked
returns-clause-marked c =
    book_marked c.mark_chosen.new.self.marks.items c.mark_all.new.self.marks.items c.args.book.now c.marked.result.0.now c.marked.result.2.now
    c.marked.result.1.now c.marked.ensures c.mark_chosen.ensures.marked c.mark_all.ensures
