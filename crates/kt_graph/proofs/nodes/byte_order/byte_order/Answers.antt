use Rattle.std.proofs.Common.{◌≡◌, ◌∙◌, ℕ, List, Bor, Vec, Global, length, map, sym, ap, subst, rules}
use Rattle.kt_graph.proofs.Common.{IsSorted, is_lt, always_returns_same, length-map, apart_from_distinct, IfOk-weaker, Text, Front, AreDistinct, IsByteOrder}
use Rattle.kt_graph.specs.inner.nodes.Fronts.{AreFronts, front_cmp}
use Rattle.kt_graph.proofs.lemmas.nodes.GraphLemmas.{names_distinct}
use Rattle.kt_graph.proofs.lemmas.nodes.OrderLemmas.{front_ranks, sorted_order}
use Rattle.kt_graph.proofs.nodes.byte_order.byte_order.Goals as goal

pub returns : goal.returns
returns c =
    let names = c.args.names.now in
    let list = c.as_slice-texts.result.now in
    let texts : List Text = map (λ (text : Bor Text). text.now) list in
    let same : texts ≡ names = ap (map (λ (text : Bor Text). text.now)) c.as_slice-texts.ensures.value ∙ c.in_ok-texts.ensures in
    let distinct : AreDistinct names
    = names_distinct names (λ i j d less within. apart_from_distinct _ names i j d c.len-count.ensures.differ less within) in
    let first : AreFronts texts (length texts) c.in_ok-fronts.fronts.items
    = subst (λ n. AreFronts texts n c.in_ok-fronts.fronts.items) (sym (length-map list (λ (text : Bor Text). text.now))) c.in_ok-fronts.ensures in
    let sorted : IsSorted (front_cmp texts) c.sort_unstable_by.new.self.items
    = c.sort_unstable_by.ensures.sorted (λ x y. is_lt (front_cmp texts x y)) (front_ranks texts) (always_returns_same _ _ _ (λ a r f k. search rules)) in
    let order = sorted_order texts c.in_ok-fronts.fronts.items c.sort_unstable_by.new.self.items (subst AreDistinct (sym same) distinct) first
    c.sort_unstable_by.ensures.permutation sorted in
    IfOk-weaker c.numbers.result
    (λ (numbers : Vec ℕ Global). numbers.items ≡ map (λ (front : Front). front.number) c.as_slice.result.now)
    (λ (numbers : Vec ℕ Global). IsByteOrder names numbers.items)
    (λ numbers is. subst (λ xs. IsByteOrder names xs)
    (sym (is ∙ ap (map (λ (front : Front). front.number)) c.as_slice.ensures.value)) (subst (λ ns. IsByteOrder ns (map (λ (front : Front). front.number) c.sort_unstable_by.new.self.items)) same order))
    c.numbers.ensures
