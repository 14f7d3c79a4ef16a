use Rattle.kt_graph.proofs.lemmas.search.PlacingLemmas.{placed_last}
use Rattle.kt_graph.proofs.search.tried.TriedQuestions.put.Goals as goal

pub returns-then-is_new-clause-placed : goal.returns-then-is_new-clause-placed
returns-then-is_new-clause-placed c =
    let set = c.in_ok-place.ensures in
    placed_last c.args.self.now (record { questions = c.insert_full.new.self; answers = c.push.new.self }) c.args.question c.in_ok-place.place c.in_ok-place.is_new
    c.if-is_new.true set.added set.keys set.index c.in_ok-push.ensures.items
