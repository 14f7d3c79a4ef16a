use Rattle.std.proofs.Common.{◌≡◌, map, drop}
use Rattle.kt_eval.proofs.Common.{evaluator, read_first, Keeps, AgreeWith, Store}
use Rattle.kt_eval.proofs.evaluation.Evaluation.read_first.Given as goal

abbrev pub invariant-loop-name : goal.invariant-loop-name
invariant-loop-name g l =
    let e = λ (store : Store). evaluator g.M.MacroScope.writable store l.limit in
    record {
      kept : Keeps l.fn.self l.self;
      unfailed : l.self.failed ≡ l.fn.self.failed;
      rest : (store : Store) → AgreeWith store l.self.answers → read_first store (e store) (map (λ name. name.now) (drop l.name-index l.names)) l.self.world ≡ read_first store (e store) (map (λ name. name.now) l.names) l.fn.self.world;
    }
