-- The first name that depends on itself, from the first vertex that leads back to itself.
use Rattle.std.proofs.Common.{◌≡◌, ℕ, ◌<◌, ⊎_elim, List, ◌∷◌, ◌++◌, length, All, sym, ap, ◌∙◌, subst}
use Rattle.kt_graph.proofs.Common.{Contains, IsStrictlySortedBy, nat_cmp, slice_cmp, map-append, All-contains, Contains-append_right, Text, Entry, Edges, AreEdgesOf, IsFirstBack, LeadsBack, IsCyclic, IsFirst, IsGraph, name_at, names_at, nodes_view, in_first, NodeTable}
use Rattle.kt_graph.specs.inner.nodes.Graph.{IsWhole}
use Rattle.kt_graph.proofs.lemmas.MemberLemmas.{Contains-map}
use Rattle.kt_graph.proofs.lemmas.nodes.FoundLemmas.{in_cut, none_below}
use Rattle.kt_graph.proofs.lemmas.faults.VertexLemmas.{cyclic_back, is_cyclic}
use Rattle.kt_graph.proofs.lemmas.nodes.WholeLemmas.{reached_number}

module _ (table : NodeTable) (order : List ℕ) (whole : IsWhole table order)
    (rules : List Entry) (known goals : List Text) (graph : IsGraph rules known goals (nodes_view table order))
    (edges : Edges) (drawn : AreEdgesOf table.nodes edges) where
  pub none_cyclic : All (λ vertex. ¬ LeadsBack edges vertex) order → (name : Text) → ¬ IsCyclic rules known goals name
  none_cyclic none name cyclic =
      let at : (number : ℕ) × (number < length table.names) × (name_at table.names number ≡ name) = reached_number table order whole rules known goals graph name cyclic.reached in
      All-contains (λ vertex. ¬ LeadsBack edges vertex) order at.0 none ((whole.rises.all at.0).1 at.1)
      (cyclic_back table order whole rules known goals graph edges drawn at.0 at.1 (subst (IsCyclic rules known goals) (sym at.2) cyclic))

  pub first_cyclic : (number : ℕ) → IsFirstBack edges order number → IsFirst (IsCyclic rules known goals) (name_at table.names number)
  first_cyclic number first =
      let inside : Contains order number = subst (λ (ns : List ℕ). Contains ns number) (sym first.cut)
      (Contains-append_right first.earlier (number ∷ first.later) number (in_first number first.later)) in
      let below : number < length table.names = (whole.rises.all number).0 inside in
      let rises : IsStrictlySortedBy (slice_cmp nat_cmp) (names_at table.names first.earlier ++ name_at table.names number ∷ names_at table.names first.later) =
      subst (IsStrictlySortedBy (slice_cmp nat_cmp)) (ap (names_at table.names) first.cut ∙ map-append (name_at table.names) first.earlier (number ∷ first.later)) whole.rises.rises in
      record {
        holds = is_cyclic table order whole rules known goals graph edges drawn number below first.back;
        least = λ other cyclic less.
            let at : (m : ℕ) × (m < length table.names) × (name_at table.names m ≡ other) = reached_number table order whole rules known goals graph other cyclic.reached in
            let back : LeadsBack edges at.0 =
            cyclic_back table order whole rules known goals graph edges drawn at.0 at.1 (subst (IsCyclic rules known goals) (sym at.2) cyclic) in
            ⊎_elim
            (λ (h : Contains first.earlier at.0). All-contains (λ vertex. ¬ LeadsBack edges vertex) first.earlier at.0 first.none_earlier h back)
            (λ (h : Contains (number ∷ first.later) at.0).
            none_below (names_at table.names first.earlier) (name_at table.names number) (names_at table.names first.later) rises other
            (subst (λ (n : Text). Contains (name_at table.names number ∷ names_at table.names first.later) n) at.2 (Contains-map (name_at table.names) (number ∷ first.later) at.0 h)) less)
            (in_cut first.earlier number first.later at.0 (subst (λ (ns : List ℕ). Contains ns at.0) first.cut ((whole.rises.all at.0).1 at.1)));
      }
