use Rattle.std.proofs.Common.{◌≡◌, ◌∙◌, List, Bor, ap, fold, subst}
use Rattle.kt_graph.proofs.Common.{IfOk-weaker, Text, Entry, with_name, GraphBuilder, IsGraph, IsBegun, IsDone}
use Rattle.kt_graph.proofs.lemmas.nodes.BuilderLemmas.{done_numbers}
use Rattle.kt_graph.proofs.nodes.graph.Graph.reached.Goals as goal

pub new-table-requires : goal.new-table-requires
new-table-requires c =
    let reach = c.in_ok-reach.ensures in
    let start = c.in_ok-builder.ensures.begun in
    let begun : IsBegun c.args.goals.now c.reach.new.self = record {
      names = ap (λ (s : GraphBuilder). s.numbers) reach ∙ ap (λ (l : List Text). fold with_name l c.args.goals.now) start.2;
      nodes = ap (λ (s : GraphBuilder). s.nodes) reach ∙ start.3;
    } in
    let self = c.build_all.new.self in
    done_numbers c.reach.new.self.book.now c.reach.new.self.known.now c.args.goals.now self.numbers self.instances.keys self.nodes
    (c.in_ok-build_all.ensures c.args.goals.now begun)

pub returns : goal.returns
returns c =
    let goals = c.args.goals.now in
    let reach = c.in_ok-reach.ensures in
    let start = c.in_ok-builder.ensures.begun in
    let begun : IsBegun goals c.reach.new.self = record {
      names = ap (λ (s : GraphBuilder). s.numbers) reach ∙ ap (λ (l : List Text). fold with_name l goals) start.2;
      nodes = ap (λ (s : GraphBuilder). s.nodes) reach ∙ start.3;
    } in
    let self = c.build_all.new.self in
    let keys = self.numbers in
    let by_book : c.reach.new.self.book.now ≡ c.args.book.now
    = ap (λ (s : GraphBuilder). s.book.now) reach ∙ ap (λ (b : Bor (List Entry)). b.now) start.0 in
    let by_known : c.reach.new.self.known.now ≡ c.args.known.now
    = ap (λ (s : GraphBuilder). s.known.now) reach ∙ ap (λ (b : Bor (List Text)). b.now) start.1 in
    let done : IsDone c.args.book.now c.args.known.now goals keys self.instances.keys self.nodes
    = subst (λ r. IsDone r c.args.known.now goals keys self.instances.keys self.nodes) by_book
    (subst (λ k. IsDone c.reach.new.self.book.now k goals keys self.instances.keys self.nodes) by_known
    (c.in_ok-build_all.ensures goals begun)) in
    IfOk-weaker c.whole.result
    (λ graph. (rules : List Entry) (known others : List Text) → IsDone rules known others keys self.instances.keys self.nodes → IsGraph rules known others graph)
    (IsGraph c.args.book.now c.args.known.now goals) (λ graph h. h c.args.book.now c.args.known.now goals done) (rw c.new-table.ensures at c.whole.ensures)
