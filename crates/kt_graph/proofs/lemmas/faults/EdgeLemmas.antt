-- Edges that are added one by one.
use Rattle.std.proofs.Common.{◌≡◌, ◌↔◌, ℕ, zero, suc, ◌+◌, ◌-◌, ◌<◌, ◌≤◌, ◌⊎◌, ⊎_elim, inl, inr, List, [], ◌∷◌, ◌++◌, map, length, get_or, drop, take, Option, None, Some, slice_get, refl, sym, ap, ◌∙◌, subst, arith}
use Rattle.kt_graph.proofs.Common.{Contains, range_with_len, cases_eq, cases_lt, append-nil, drop_more, map-append, get_or-replicate, get_or-set_same, get_or-set_other, get_or_past, length-replicate, length-set, set_past, take_more, flat_map-append, All-contains, Contains-append_left, Contains-append_right, Contains-append_cases, Contains-push, Contains-push_cases, map-range_with_len_more, fold-append, none-some, same_Some, Edges, StoredNode, stored_at, AreMadeBelow, AreNeededBelow, HaveEdges, IsRepeated, LeadToVertices, HasNext, IsEdge, LeadsTo, bare_rows, vertex_count, edges_from, edges_to, making_edges, makings_edges, needed_numbers, numbers_after, listed_number, row_by, edge_row, edge_rows, with_edge, with_edges, first_or_rest, in_first, in_rest}
use Rattle.kt_graph.proofs.lemmas.MemberLemmas.{Contains-none, Contains-map, Contains-from_map, Contains-slice_get}

-- the edges of vertices from a number on, reversed
abbrev pub turned_from : ℕ → List (List ℕ) → List (ℕ × ℕ)
turned_from number [] = []
turned_from number (row ∷ rows) = edges_to number row ++ turned_from (suc number) rows

-- ---- one edge

pair_is : (edge : ℕ × ℕ) (from to : ℕ) → edge.0 ≡ from → edge.1 ≡ to → edge ≡ (from, to)
pair_is edge from to one other = ap (λ n. (n, edge.1)) one ∙ ap (λ n. (from, n)) other

one_from : (rows : List (List ℕ)) (edge : ℕ × ℕ) (from to : ℕ) → Contains (get_or (with_edge rows edge) from []) to
    → Contains (get_or rows from []) to ⊎ (edge ≡ (from, to))
one_from rows edge from to has = ⊎_elim
    (λ (same : from ≡ edge.0). ⊎_elim
    (λ (within : edge.0 < length rows).
    let row : get_or (with_edge rows edge) from [] ≡ get_or rows edge.0 [] ++ edge.1 ∷ [] =
    ap (λ n. get_or (with_edge rows edge) n []) same ∙ get_or-set_same rows edge.0 (get_or rows edge.0 [] ++ edge.1 ∷ []) [] within in
    ⊎_elim
    (λ (h : Contains (get_or rows edge.0 []) to). inl (subst (λ n. Contains (get_or rows n []) to) (sym same) h))
    (λ (e : edge.1 ≡ to). inr (pair_is edge from to (sym same) e))
    (Contains-push_cases (get_or rows edge.0 []) edge.1 to (subst (λ (xs : List ℕ). Contains xs to) row has)))
    (λ (past : length rows ≤ edge.0). inl (subst (λ (rs : List (List ℕ)). Contains (get_or rs from []) to) (set_past rows edge.0 (get_or rows edge.0 [] ++ edge.1 ∷ []) past) has))
    (cases_lt edge.0 (length rows)))
    (λ differ. inl (subst (λ (xs : List ℕ). Contains xs to) (get_or-set_other rows edge.0 from (get_or rows edge.0 [] ++ edge.1 ∷ []) [] differ) has))
    (cases_eq from edge.0)

one_keeps : (rows : List (List ℕ)) (edge : ℕ × ℕ) (from to : ℕ) → Contains (get_or rows from []) to → Contains (get_or (with_edge rows edge) from []) to
one_keeps rows edge from to has = ⊎_elim
    (λ (same : from ≡ edge.0). ⊎_elim
    (λ (within : edge.0 < length rows).
    let row : get_or (with_edge rows edge) from [] ≡ get_or rows edge.0 [] ++ edge.1 ∷ [] =
    ap (λ n. get_or (with_edge rows edge) n []) same ∙ get_or-set_same rows edge.0 (get_or rows edge.0 [] ++ edge.1 ∷ []) [] within in
    subst (λ (xs : List ℕ). Contains xs to) (sym row) (Contains-append_left (get_or rows edge.0 []) (edge.1 ∷ []) to (subst (λ n. Contains (get_or rows n []) to) same has)))
    (λ (past : length rows ≤ edge.0).
    subst (λ (rs : List (List ℕ)). Contains (get_or rs from []) to) (sym (set_past rows edge.0 (get_or rows edge.0 [] ++ edge.1 ∷ []) past)) has)
    (cases_lt edge.0 (length rows)))
    (λ differ. subst (λ (xs : List ℕ). Contains xs to) (sym (get_or-set_other rows edge.0 from (get_or rows edge.0 [] ++ edge.1 ∷ []) [] differ)) has)
    (cases_eq from edge.0)

one_adds : (rows : List (List ℕ)) (from to : ℕ) → from < length rows → Contains (get_or (with_edge rows (from, to)) from []) to
one_adds rows from to within =
    subst (λ (xs : List ℕ). Contains xs to) (sym (get_or-set_same rows from (get_or rows from [] ++ to ∷ []) [] within)) (Contains-push (get_or rows from []) to)

-- a row with one more after it
-- ---- several

pub edges_added : (edges : List (ℕ × ℕ)) (rows : List (List ℕ)) (from to : ℕ) → Contains (get_or (with_edges rows edges) from []) to
    → Contains (get_or rows from []) to ⊎ Contains edges (from, to)
edges_added [] rows from to has = inl has
edges_added (edge ∷ edges) rows from to has = ⊎_elim
    (λ (h : Contains (get_or (with_edge rows edge) from []) to). ⊎_elim
    (λ (g : Contains (get_or rows from []) to). inl g)
    (λ (e : edge ≡ (from, to)). inr (subst (λ (d : ℕ × ℕ). Contains (edge ∷ edges) d) e (in_first edge edges)))
    (one_from rows edge from to h))
    (λ (h : Contains edges (from, to)). inr (in_rest edge (from, to) edges h))
    (edges_added edges (with_edge rows edge) from to has)

edges_kept : (edges : List (ℕ × ℕ)) (rows : List (List ℕ)) (from to : ℕ) → Contains (get_or rows from []) to
    → Contains (get_or (with_edges rows edges) from []) to
edges_kept [] rows from to has = has
edges_kept (edge ∷ edges) rows from to has = edges_kept edges (with_edge rows edge) from to (one_keeps rows edge from to has)

pub edges_there : (edges : List (ℕ × ℕ)) (rows : List (List ℕ)) (from to : ℕ) → from < length rows → Contains edges (from, to)
    → Contains (get_or (with_edges rows edges) from []) to
edges_there [] rows from to within has = Contains-none (from, to) has
edges_there (edge ∷ edges) rows from to within has = ⊎_elim
    (λ (e : edge ≡ (from, to)).
    subst (λ (d : ℕ × ℕ). Contains (get_or (with_edges (with_edge rows d) edges) from []) to) (sym e)
    (edges_kept edges (with_edge rows (from, to)) from to (one_adds rows from to within)))
    (λ (h : Contains edges (from, to)).
    edges_there edges (with_edge rows edge) from to (subst (λ n. from < n) (sym (length-set rows edge.0 (get_or rows edge.0 [] ++ edge.1 ∷ []))) within) h)
    (first_or_rest edge (from, to) edges has)

-- among vertices that led nowhere there are just the edges that were added
bare_none : (count from to : ℕ) → Contains (get_or (bare_rows count) from []) to → ⊥
bare_none count from to has = grind (arith, ⊎_elim, Contains-none, get_or-replicate, length-replicate, length, get_or_past, cases_lt)

pub bare_added : (count : ℕ) (edges : List (ℕ × ℕ)) (from to : ℕ) → Contains (get_or (with_edges (bare_rows count) edges) from []) to → Contains edges (from, to)
bare_added count edges from to has = ⊎_elim
    (λ (h : Contains (get_or (bare_rows count) from []) to). absurd (bare_none count from to h))
    (λ (h : Contains edges (from, to)). h)
    (edges_added edges (bare_rows count) from to has)

pub bare_there : (count : ℕ) (edges : List (ℕ × ℕ)) (from to : ℕ) → from < count → Contains edges (from, to) → Contains (get_or (with_edges (bare_rows count) edges) from []) to
bare_there count edges from to within has = edges_there edges (bare_rows count) from to (subst (λ n. from < n) (sym (length-replicate {A = List ℕ} count [])) within) has

-- there are as many rows as before
pub length-with_edges : (edges : List (ℕ × ℕ)) (rows : List (List ℕ)) → length (with_edges rows edges) ≡ length rows
length-with_edges [] rows = refl
length-with_edges (edge ∷ edges) rows = length-with_edges edges (with_edge rows edge) ∙ length-set rows edge.0 (get_or rows edge.0 [] ++ edge.1 ∷ [])

-- ---- in the other direction

-- the edges of one vertex were reversed
pub turned_more : (rows : List (List ℕ)) (place : ℕ) (row : List ℕ) (before after : List (List ℕ)) → place < length rows → row ≡ get_or rows place []
    → after ≡ with_edges before (edges_to place row)
    → with_edges after (turned_from (place + 1) (drop (place + 1) rows)) ≡ with_edges before (turned_from place (drop place rows))
turned_more rows place row before after within is turned = grind (arith, fold-append, drop_more)

turned_has : (rows : List (List ℕ)) (number from to : ℕ) → Contains (turned_from number rows) (from, to)
    → (place : ℕ) × (to ≡ number + place) × Contains (get_or rows place []) from
turned_has [] number from to has = Contains-none (from, to) has
turned_has (row ∷ rows) number from to has = ⊎_elim
    (λ (h : Contains (edges_to number row) (from, to)).
    let of : (one : ℕ) × Contains row one × ((one, number) ≡ (from, to)) = Contains-from_map (λ one. (one, number)) row (from, to) h in
    let to_is : number ≡ to = ap (λ (edge : ℕ × ℕ). edge.1) of.2 in
    let from_is : of.0 ≡ from = ap (λ (edge : ℕ × ℕ). edge.0) of.2 in
    (0, omega arith, subst (λ n. Contains row n) from_is of.1))
    (λ (h : Contains (turned_from (suc number) rows) (from, to)).
    let later : (place : ℕ) × (to ≡ suc number + place) × Contains (get_or rows place []) from = turned_has rows (suc number) from to h in
    let place = later.1 in
    (suc later.0, omega arith, later.2))
    (Contains-append_cases (edges_to number row) (turned_from (suc number) rows) (from, to) has)

turned_there : (rows : List (List ℕ)) (number place from : ℕ) → Contains (get_or rows place []) from
    → Contains (turned_from number rows) (from, number + place)
turned_there [] number place from has = Contains-none from has
turned_there (row ∷ rows) number zero from has =
    let here : number + zero ≡ number = omega arith in
    subst (λ n. Contains (turned_from number (row ∷ rows)) (from, n)) (sym here) (Contains-append_left (edges_to number row) (turned_from (suc number) rows) (from, number) (Contains-map (λ one. (one, number)) row from has))
turned_there (row ∷ rows) number (suc place) from has = grind (arith, Contains-append_right, turned_there rows (suc number) place from has)

pub turned_are : (edges : Edges) (rows : List (List ℕ)) → LeadToVertices edges → rows ≡ with_edges (bare_rows (vertex_count edges)) (turned_from 0 (edge_rows edges))
    → (from to : ℕ) → Contains (get_or rows from []) to ↔ HasNext edges to from
turned_are edges rows within turned from to = (
  λ has.
      let at : (place : ℕ) × (to ≡ 0 + place) × Contains (get_or (edge_rows edges) place []) from =
      turned_has (edge_rows edges) 0 from to
      (bare_added (vertex_count edges) (turned_from 0 (edge_rows edges)) from to
      (subst (λ (rs : List (List ℕ)). Contains (get_or rs from []) to) turned has)) in
      let same : at.0 ≡ to = omega (arith, at.1) in
      subst (λ n. HasNext edges n from) same at.2,
  λ has.
      let zeroth : 0 + to ≡ to = omega arith in
      subst (λ (rs : List (List ℕ)). Contains (get_or rs from []) to) (sym turned)
      (bare_there (vertex_count edges) (turned_from 0 (edge_rows edges)) from to (within to from has)
      (subst (λ n. Contains (turned_from 0 (edge_rows edges)) (from, n)) zeroth (turned_there (edge_rows edges) 0 to from has))),
)

-- the edges of a vertex were reversed, in two parts
pub turned_parts : (before middle after : List (List ℕ)) (place : ℕ) (next more : List ℕ) → middle ≡ with_edges before (edges_to place next)
    → after ≡ with_edges middle (edges_to place more) → after ≡ with_edges before (edges_to place (next ++ more))
turned_parts before middle after place next more first second = grind (arith, fold-append, map-append)

-- ---- the edges of nodes

-- the edges from a making that one node adds
abbrev edges_at : List StoredNode → ℕ → List (ℕ × ℕ)
edges_at nodes place = making_edges (stored_at nodes place).made_with (needed_numbers (stored_at nodes place))

makings_taken : (nodes : List StoredNode) (place : ℕ) → place < length nodes
    → makings_edges (take (place + 1) nodes) ≡ makings_edges (take place nodes) ++ edges_at nodes place
makings_taken nodes place within =
    let more : take (place + 1) nodes ≡ take place nodes ++ stored_at nodes place ∷ [] = take_more nodes place _ within in
    ap (λ (ns : List StoredNode). makings_edges ns) more
    ∙ flat_map-append (λ (node : StoredNode). making_edges node.made_with (needed_numbers node)) (take place nodes) (stored_at nodes place ∷ [])
    ∙ ap (λ (es : List (ℕ × ℕ)). makings_edges (take place nodes) ++ es) (append-nil (edges_at nodes place))

pub edges_none : (count : ℕ) (rows : List (List ℕ)) → rows ≡ bare_rows count → HaveEdges count [] rows
edges_none count rows is = record { edges = []; are = is; same = λ edge. (λ h. h, λ h. h) }

-- those of one more node
pub edges_more : (nodes : List StoredNode) (place count : ℕ) (before after : List (List ℕ)) → place < length nodes → after ≡ with_edges before (edges_at nodes place)
    → HaveEdges count (makings_edges (take place nodes)) before → HaveEdges count (makings_edges (take (place + 1) nodes)) after
edges_more nodes place count before after within added h =
    let all = makings_edges (take place nodes) in
    let more = edges_at nodes place in
    subst (λ (es : List (ℕ × ℕ)). HaveEdges count es after) (sym (makings_taken nodes place within)) (record {
      edges = h.edges ++ more;
      are = added ∙ ap (λ (rows : List (List ℕ)). with_edges rows more) h.are ∙ sym (fold-append with_edge (bare_rows count) h.edges more);
      same = λ edge. (
        λ has. ⊎_elim
            (λ (g : Contains h.edges edge). Contains-append_left all more edge ((h.same edge).0 g))
            (λ (g : Contains more edge). Contains-append_right all more edge g)
            (Contains-append_cases h.edges more edge has),
        λ has. ⊎_elim
            (λ (g : Contains all edge). Contains-append_left h.edges more edge ((h.same edge).1 g))
            (λ (g : Contains more edge). Contains-append_right h.edges more edge g)
            (Contains-append_cases all more edge has),
      );
    })

-- those of a node like the one before are there
pub edges_again : (nodes : List StoredNode) (place count : ℕ) (rows : List (List ℕ)) → place < length nodes → IsRepeated nodes place
    → HaveEdges count (makings_edges (take place nodes)) rows → HaveEdges count (makings_edges (take (place + 1) nodes)) rows
edges_again nodes place count rows within again h =
    let all = makings_edges (take place nodes) in
    subst (λ (es : List (ℕ × ℕ)). HaveEdges count es rows) (sym (makings_taken nodes place within)) (record {
      edges = h.edges;
      are = h.are;
      same = λ edge. (
        λ has. Contains-append_left all (edges_at nodes place) edge ((h.same edge).0 has),
        λ has. (h.same edge).1 (⊎_elim (λ (g : Contains all edge). g) (there edge) (Contains-append_cases all (edges_at nodes place) edge has)),
      );
    })
  where
    one : ℕ
    one = again.before

    same : edges_at nodes one ≡ edges_at nodes place
    same =
        ap (λ (o : Option ℕ). making_edges o (needed_numbers (stored_at nodes one))) again.alike.made_with
        ∙ ap (λ (ns : List ℕ). making_edges (stored_at nodes place).made_with (ns ++ (stored_at nodes one).order_only)) again.alike.inputs
        ∙ ap (λ (ns : List ℕ). making_edges (stored_at nodes place).made_with ((stored_at nodes place).inputs ++ ns)) again.alike.order_only

    there : (edge : ℕ × ℕ) → Contains (edges_at nodes place) edge → Contains (makings_edges (take place nodes)) edge
    there edge g =
        let next : one + 1 ≡ place = omega (arith, again.next) in
        subst (λ n. Contains (makings_edges (take n nodes)) edge) next
        (subst (λ (es : List (ℕ × ℕ)). Contains es edge) (sym (makings_taken nodes one (omega (arith, within, again.next))))
        (Contains-append_right (makings_edges (take one nodes)) (edges_at nodes one) edge
        (subst (λ (es : List (ℕ × ℕ)). Contains es edge) (sym same) g)))

from_edges : (from : ℕ) (numbers : List ℕ) (one to : ℕ) → Contains (edges_from from numbers) (one, to) → (one ≡ from) × Contains numbers to
from_edges from numbers one to has =
    let of : (number : ℕ) × Contains numbers number × ((from, number) ≡ (one, to)) = Contains-from_map (λ number. (from, number)) numbers (one, to) has in
    (sym (ap (λ (edge : ℕ × ℕ). edge.0) of.2), subst (λ n. Contains numbers n) (ap (λ (edge : ℕ × ℕ). edge.1) of.2) of.1)

makings_has : (nodes : List StoredNode) (making to : ℕ) → Contains (makings_edges nodes) (making, to)
    → (number : ℕ) × (node : StoredNode) × (slice_get nodes number ≡ Some node) × (node.made_with ≡ Some making) × Contains (needed_numbers node) to
makings_has [] making to has = Contains-none (making, to) has
makings_has (node ∷ nodes) making to has = ⊎_elim
    (λ (h : Contains (making_edges node.made_with (needed_numbers node)) (making, to)). by node.made_with refl h)
    (λ (h : Contains (makings_edges nodes) (making, to)).
    let later : (number : ℕ) × (other : StoredNode) × (slice_get nodes number ≡ Some other) × (other.made_with ≡ Some making) × Contains (needed_numbers other) to =
    makings_has nodes making to h in
    (suc later.0, later.1, later.2, later.3, later.4))
    (Contains-append_cases (making_edges node.made_with (needed_numbers node)) (makings_edges nodes) (making, to) has)
  where
    by : (o : Option ℕ) → node.made_with ≡ o → Contains (making_edges o (needed_numbers node)) (making, to)
        → (number : ℕ) × (other : StoredNode) × (slice_get (node ∷ nodes) number ≡ Some other) × (other.made_with ≡ Some making) × Contains (needed_numbers other) to
    by None made h = Contains-none (making, to) h
    by (Some one) made h =
        let at = from_edges one (needed_numbers node) making to h in
        (0, node, refl, made ∙ ap (λ n. Some n) (sym at.0), at.1)

makings_there : (nodes : List StoredNode) (number : ℕ) (node : StoredNode) (making to : ℕ) → slice_get nodes number ≡ Some node → node.made_with ≡ Some making
    → Contains (needed_numbers node) to → Contains (makings_edges nodes) (making, to)
makings_there [] number node making to at made has = absurd (none-some node at)
makings_there (first ∷ nodes) zero node making to at made has =
    Contains-append_left (making_edges first.made_with (needed_numbers first)) (makings_edges nodes) (making, to)
    (subst (λ (s : StoredNode). Contains (making_edges s.made_with (needed_numbers s)) (making, to)) (sym (same_Some first node at))
    (subst (λ (o : Option ℕ). Contains (making_edges o (needed_numbers node)) (making, to)) (sym made) (Contains-map (λ n. (making, n)) (needed_numbers node) to has)))
makings_there (first ∷ nodes) (suc number) node making to at made has = grind (arith, Contains-append_right, makings_there nodes number node making to)

-- ---- the rows of names, and those of makings after them

front_has : (row : StoredNode → List ℕ) (nodes : List StoredNode) (rows : List (List ℕ)) (from to : ℕ) → Contains (get_or (map row nodes ++ rows) from []) to
    → ((node : StoredNode) × (slice_get nodes from ≡ Some node) × Contains (row node) to)
    ⊎ ((place : ℕ) × (from ≡ length nodes + place) × Contains (get_or rows place []) to)
front_has row [] rows from to has = let zeroth : from ≡ 0 + from = omega arith in inr (from, zeroth, has)
front_has row (node ∷ nodes) rows zero to has = inl (node, refl, has)
front_has row (node ∷ nodes) rows (suc from) to has = grind (arith, ⊎_elim, length, get_or, front_has row nodes rows from to has)

front_there : (row : StoredNode → List ℕ) (nodes : List StoredNode) (rows : List (List ℕ)) (from : ℕ) (node : StoredNode) (to : ℕ) → slice_get nodes from ≡ Some node
    → Contains (row node) to → Contains (get_or (map row nodes ++ rows) from []) to
front_there row [] rows from node to at has = absurd (none-some node at)
front_there row (first ∷ nodes) rows zero node to at has = subst (λ (s : StoredNode). Contains (row s) to) (sym (same_Some first node at)) has
front_there row (first ∷ nodes) rows (suc from) node to at has = front_there row nodes rows from node to at has

back_there : (row : StoredNode → List ℕ) (nodes : List StoredNode) (rows : List (List ℕ)) (place to : ℕ) → Contains (get_or rows place []) to
    → Contains (get_or (map row nodes ++ rows) (length nodes + place) []) to
back_there row [] rows place to has = let zeroth : place ≡ 0 + place = omega arith in subst (λ n. Contains (get_or rows n []) to) zeroth has
back_there row (first ∷ nodes) rows place to has = grind (arith, length, get_or, back_there row nodes rows place to has)

pub row_in_front : (row : StoredNode → List ℕ) (nodes : List StoredNode) (rows : List (List ℕ)) (place : ℕ) (node : StoredNode) → place < length nodes
    → node ≡ get_or nodes place node → get_or (map row nodes ++ rows) place [] ≡ row node
row_in_front row [] rows place node within is = absurd (omega (arith, within))
row_in_front row (first ∷ nodes) rows zero node within is = ap row (sym is)
row_in_front row (first ∷ nodes) rows (suc place) node within is = row_in_front row nodes rows place node (omega arith) is

pub row_after : (row : StoredNode → List ℕ) (nodes : List StoredNode) (rows : List (List ℕ)) (place : ℕ) (at : List ℕ) → length nodes ≤ place
    → at ≡ get_or rows (place - length nodes) [] → at ++ [] ≡ get_or (map row nodes ++ rows) place []
row_after row [] rows place at past is = grind (arith, append-nil, get_or)
row_after row (first ∷ nodes) rows zero at past is = absurd (omega (arith, past))
row_after row (first ∷ nodes) rows (suc place) at past is = grind (arith, length, get_or, row_after row nodes rows place)

-- the vertex of a making
number_from : (names from count making : ℕ) → making < count
    → slice_get (map (λ one. names + one) (range_with_len from count)) making ≡ Some (names + (from + making))
number_from names from zero making less = absurd (omega (arith, less))
number_from names from (suc count) zero less = let here : names + from ≡ names + (from + 0) = omega arith in ap (λ n. Some n) here
number_from names from (suc count) (suc making) less =
    let there : names + (from + 1 + making) ≡ names + (from + suc making) = omega arith in
    number_from names (from + 1) count making (omega arith) ∙ ap (λ n. Some n) there

pub numbers_more : (names count number : ℕ) (numbers new : List ℕ) → numbers ≡ numbers_after names count → number ≡ names + count → new ≡ numbers ++ number ∷ []
    → new ≡ numbers_after names (count + 1)
numbers_more names count number numbers new so_far is pushed =
    pushed ∙ ap (λ (ns : List ℕ). ns ++ number ∷ []) so_far ∙ ap (λ n. numbers_after names count ++ n ∷ []) is
    ∙ sym (map-range_with_len_more (λ making. names + making) 0 count count (omega arith))

number_at : (names count making : ℕ) → making < count → listed_number (numbers_after names count) making ≡ (names + making) ∷ []
number_at names count making less = grind (arith, number_from)

-- a node's making has a number below the count, and so has what it needs
made_below : (count : ℕ) (nodes : List StoredNode) (place : ℕ) (node : StoredNode) (making : ℕ) → AreMadeBelow count nodes → slice_get nodes place ≡ Some node
    → node.made_with ≡ Some making → making < count
made_below count nodes place node making below at made = grind (arith, All-contains, Contains-slice_get)

needed_below : (nodes : List StoredNode) (place : ℕ) (node : StoredNode) (to : ℕ) → AreNeededBelow nodes → slice_get nodes place ≡ Some node
    → Contains (needed_numbers node) to → to < length nodes
needed_below nodes place node to below at has = grind (arith, length, All-contains, Contains-slice_get)

edge_within : (nodes : List StoredNode) (count from to : ℕ) → AreMadeBelow count nodes → AreNeededBelow nodes → IsEdge nodes from to → to < length nodes + count
edge_within nodes count from to made needed edge = ⊎_elim
    (λ (h : (from ≡ edge.number) × LeadsTo (length nodes) edge.node edge.node.made_with to). by edge.node.made_with refl h.1)
    (λ (h : (making : ℕ) × (edge.node.made_with ≡ Some making) × (from ≡ length nodes + making) × Contains (needed_numbers edge.node) to).
    let below = needed_below nodes edge.number edge.node to needed edge.place h.3 in omega arith)
    edge.way
  where
    by : (o : Option ℕ) → edge.node.made_with ≡ o → LeadsTo (length nodes) edge.node o to → to < length nodes + count
    by None e h = let below = needed_below nodes edge.number edge.node to needed edge.place h in omega arith
    by (Some making) e h = let below = made_below count nodes edge.number edge.node making made edge.place e in omega arith

-- where the vertices of nodes and their makings lead, by their rows
module _ (nodes : List StoredNode) (count : ℕ) (makings : List ℕ) (rows : List (List ℕ)) (below : AreMadeBelow count nodes)
    (numbers : makings ≡ numbers_after (length nodes) count) (added : HaveEdges count (makings_edges nodes) rows) where
  making_alone : (number : ℕ) (node : StoredNode) (making : ℕ) → slice_get nodes number ≡ Some node → node.made_with ≡ Some making
      → listed_number makings making ≡ (length nodes + making) ∷ []
  making_alone number node making at made =
      ap (λ (ns : List ℕ). listed_number ns making) numbers ∙ number_at (length nodes) count making (made_below count nodes number node making below at made)

  leads : (number : ℕ) (node : StoredNode) (to : ℕ) → slice_get nodes number ≡ Some node → (o : Option ℕ) → node.made_with ≡ o → Contains (row_by makings node o) to
      → LeadsTo (length nodes) node o to
  leads number node to at o made has = grind (arith, ⊎_elim, length, Contains-none, first_or_rest, making_alone)

  led : (number : ℕ) (node : StoredNode) (to : ℕ) → slice_get nodes number ≡ Some node → (o : Option ℕ) → node.made_with ≡ o → LeadsTo (length nodes) node o to
      → Contains (row_by makings node o) to
  led number node to at o made has = grind (arith, making_alone, length, in_first)

  pub edges_are : (from to : ℕ) → Contains (get_or (map (edge_row makings) nodes ++ rows) from []) to ↔ IsEdge nodes from to
  edges_are from to = (
    λ has. ⊎_elim
        (λ (h : (node : StoredNode) × (slice_get nodes from ≡ Some node) × Contains (edge_row makings node) to).
        record { number = from; node = h.0; place = h.1; way = inl (refl, leads from h.0 to h.1 h.0.made_with refl h.2) })
        (λ (h : (place : ℕ) × (from ≡ length nodes + place) × Contains (get_or rows place []) to).
        let at : (number : ℕ) × (node : StoredNode) × (slice_get nodes number ≡ Some node) × (node.made_with ≡ Some h.0) × Contains (needed_numbers node) to =
        makings_has nodes h.0 to ((added.same (h.0, to)).0 (bare_added count added.edges h.0 to (subst (λ (rs : List (List ℕ)). Contains (get_or rs h.0 []) to) added.are h.2))) in
        record { number = at.0; node = at.1; place = at.2; way = inr (h.0, at.3, h.1, at.4) })
        (front_has (edge_row makings) nodes rows from to has),
    λ edge. ⊎_elim
        (λ (h : (from ≡ edge.number) × LeadsTo (length nodes) edge.node edge.node.made_with to).
        front_there (edge_row makings) nodes rows from edge.node to (ap (slice_get nodes) h.0 ∙ edge.place)
        (led edge.number edge.node to edge.place edge.node.made_with refl h.1))
        (λ (h : (making : ℕ) × (edge.node.made_with ≡ Some making) × (from ≡ length nodes + making) × Contains (needed_numbers edge.node) to).
        subst (λ n. Contains (get_or (map (edge_row makings) nodes ++ rows) n []) to) (sym h.2)
        (back_there (edge_row makings) nodes rows h.0 to
        (subst (λ (rs : List (List ℕ)). Contains (get_or rs h.0 []) to) (sym added.are)
        (bare_there count added.edges h.0 to (made_below count nodes edge.number edge.node h.0 below edge.place h.1)
        ((added.same (h.0, to)).1 (makings_there nodes edge.number edge.node h.0 to edge.place h.1 h.3))))))
        edge.way,
  )

  pub edges_within : AreNeededBelow nodes → (from to : ℕ) → Contains (get_or (map (edge_row makings) nodes ++ rows) from []) to → to < length nodes + length rows
  edges_within needed from to has =
      let below_all = edge_within nodes count from to below needed ((edges_are from to).0 has) in
      let two = ap length added.are in
      let three = length-with_edges added.edges (bare_rows count) in
      let four = length-replicate {A = List ℕ} count [] in
      omega arith
