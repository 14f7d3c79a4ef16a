-- Counts of edges to vertices, while vertices are removed.
use Rattle.std.proofs.Common.{◌≡◌, ℕ, zero, suc, ◌+◌, ◌-◌, ◌<◌, ◌≤◌, Bool, true, false, not, ◌&&◌, ⊎_elim, if◌then◌else◌, List, [], ◌∷◌, ◌++◌, length, get_or, set, drop, replicate, flat_map, fold, cond, nat_eq, All, refl, sym, ap, ◌∙◌, subst, arith}
use Rattle.kt_graph.proofs.Common.{Contains, range_with_len, cases_eq, cases_lt, eqb-true, eq-eqb, true≢false, append_assoc, drop_more, get_or_append_left, get_or-replicate, get_or-set_same, get_or-set_other, get_or_past, length-replicate, length-set, length_push, set_past, flat_map-append, fold-append, get_or-le-sum_by, sum_by-append, sum_by-cons, sum_by-set, Edges, Leads, Reaches, AreCounted, IsLeftIn, LeavesCircular, arrivals_at, is_left, next_of_all, next_of_left, with_arrival, without_arrival, HasNext, LeadsBack, vertex_count, holds_in, next_of, edge_rows, count_by}
use Rattle.kt_graph.proofs.lemmas.MemberLemmas.{Contains-none}
use Rattle.kt_graph.proofs.lemmas.faults.CircleLemmas.{Reaches-join, Reaches-step, has_within}

-- how many vertices have edges to them left
abbrev pub count_left : List ℕ → ℕ
count_left counts = count_by is_left counts

-- ---- edges to vertices

abbrev pub one_if_same : ℕ → ℕ → ℕ
one_if_same vertex other = cond (nat_eq vertex other) 1 0

pub arrivals-cons : (vertex other : ℕ) (others : List ℕ) → arrivals_at vertex (other ∷ others) ≡ one_if_same vertex other + arrivals_at vertex others
arrivals-cons vertex other others = sum_by-cons (one_if_same vertex) other others

pub arrivals-append : (vertex : ℕ) (xs ys : List ℕ) → arrivals_at vertex (xs ++ ys) ≡ arrivals_at vertex xs + arrivals_at vertex ys
arrivals-append vertex xs ys = sum_by-append (one_if_same vertex) xs ys

one_itself : (vertex : ℕ) → one_if_same vertex vertex ≡ 1
one_itself vertex = ap (λ (b : Bool). cond b 1 0) (eq-eqb vertex vertex refl)

one_more : (vertex : ℕ) (others : List ℕ) → arrivals_at vertex (vertex ∷ others) ≡ 1 + arrivals_at vertex others
one_more vertex others = arrivals-cons vertex vertex others ∙ ap (λ n. n + arrivals_at vertex others) (one_itself vertex)

no_fewer : (vertex other : ℕ) (others : List ℕ) → arrivals_at vertex others ≤ arrivals_at vertex (other ∷ others)
no_fewer vertex other others = let e = arrivals-cons vertex other others in omega arith

one_other : (vertex other : ℕ) → ¬ (vertex ≡ other) → one_if_same vertex other ≡ 0
one_other vertex other differ = grind (arith, nat_eq, eqb-true, cond)

pub some_arrival : (vertex : ℕ) (others : List ℕ) → Contains others vertex → 1 ≤ arrivals_at vertex others
some_arrival vertex others has = grind (arith, get_or, get_or-le-sum_by, one_itself)

-- ---- where the remaining vertices lead

-- one is removed, and what it led to with it
gone_left : (vertex : ℕ) (counts : List ℕ) (rows : List (List ℕ)) (place : ℕ) → get_or counts place 0 ≡ 1
    → arrivals_at vertex (next_of_left counts rows)
    ≡ arrivals_at vertex (next_of_left (set counts place 0) rows) + arrivals_at vertex (get_or rows place [])
gone_left vertex [] rows place e = let none : zero ≡ suc zero = e in absurd (omega arith)
gone_left vertex (count ∷ counts) [] zero e = refl
gone_left vertex (count ∷ counts) [] (suc place) e = refl
gone_left vertex (count ∷ counts) (row ∷ rows) zero e =
    let both = arrivals-append vertex row (next_of_left counts rows) in
    let stood : arrivals_at vertex (next_of_left (count ∷ counts) (row ∷ rows)) ≡ arrivals_at vertex (row ++ next_of_left counts rows) =
    ap (λ n. arrivals_at vertex ((if is_left n then row else []) ++ next_of_left counts rows)) e in
    let gone : arrivals_at vertex (next_of_left (set (count ∷ counts) zero 0) (row ∷ rows)) ≡ arrivals_at vertex (next_of_left counts rows) = refl in
    let own : arrivals_at vertex (get_or (row ∷ rows) zero []) ≡ arrivals_at vertex row = refl in
    omega arith
gone_left vertex (count ∷ counts) (row ∷ rows) (suc place) e =
    let front : List ℕ = if is_left count then row else [] in
    let before = arrivals-append vertex front (next_of_left counts rows) in
    let after = arrivals-append vertex front (next_of_left (set counts place 0) rows) in
    let later = gone_left vertex counts rows place e in
    let stood : arrivals_at vertex (next_of_left (count ∷ counts) (row ∷ rows)) ≡ arrivals_at vertex (front ++ next_of_left counts rows) = refl in
    let gone : arrivals_at vertex (next_of_left (set (count ∷ counts) (suc place) 0) (row ∷ rows))
    ≡ arrivals_at vertex (front ++ next_of_left (set counts place 0) rows) = refl in
    let own : arrivals_at vertex (get_or (row ∷ rows) (suc place) []) ≡ arrivals_at vertex (get_or rows place []) = refl in
    omega arith

-- another count of a vertex that remains changes nothing
stays_left : (counts : List ℕ) (rows : List (List ℕ)) (place new : ℕ) → is_left new ≡ is_left (get_or counts place 0)
    → next_of_left (set counts place new) rows ≡ next_of_left counts rows
stays_left [] rows place new e = refl
stays_left (count ∷ counts) [] zero new e = refl
stays_left (count ∷ counts) [] (suc place) new e = refl
stays_left (count ∷ counts) (row ∷ rows) zero new e = ap (λ (b : Bool). (if b then row else []) ++ next_of_left counts rows) e
stays_left (count ∷ counts) (row ∷ rows) (suc place) new e = grind (arith, stays_left counts rows place new e)

pub is_left_more : (count : ℕ) → 0 < count → is_left count ≡ true
is_left_more count less = grind (arith, nat_eq, eqb-true, not)

-- what a remaining vertex leads to is among these
left_leads : (counts : List ℕ) (rows : List (List ℕ)) (from to : ℕ) → IsLeftIn counts from → Contains (get_or rows from []) to
    → 1 ≤ arrivals_at to (next_of_left counts rows)
left_leads [] rows from to left has = let none : 0 < 0 = left in absurd (omega arith)
left_leads (count ∷ counts) [] from to left has = Contains-none to has
left_leads (count ∷ counts) (row ∷ rows) zero to left has =
    let some = some_arrival to row has in
    let both = arrivals-append to row (next_of_left counts rows) in
    let all : arrivals_at to (next_of_left (count ∷ counts) (row ∷ rows)) ≡ arrivals_at to (row ++ next_of_left counts rows) =
    ap (λ (b : Bool). arrivals_at to ((if b then row else []) ++ next_of_left counts rows)) (is_left_more count left) in
    omega arith
left_leads (count ∷ counts) (row ∷ rows) (suc from) to left has =
    let later = left_leads counts rows from to left has in
    let both = arrivals-append to (if is_left count then row else []) (next_of_left counts rows) in
    let all : arrivals_at to (next_of_left (count ∷ counts) (row ∷ rows)) ≡ arrivals_at to ((if is_left count then row else []) ++ next_of_left counts rows) = refl in
    omega arith

-- they are some of all
left_fewer : (vertex : ℕ) (counts : List ℕ) (rows : List (List ℕ)) → arrivals_at vertex (next_of_left counts rows) ≤ arrivals_at vertex (flat_map (λ row. row) rows)
left_fewer vertex [] rows = let none : arrivals_at vertex (next_of_left [] rows) ≡ 0 = refl in omega arith
left_fewer vertex (count ∷ counts) [] = let none : arrivals_at vertex (next_of_left (count ∷ counts) []) ≡ 0 = refl in omega arith
left_fewer vertex (count ∷ counts) (row ∷ rows) = by (left_fewer vertex counts rows) (is_left count)
  where
    by : arrivals_at vertex (next_of_left counts rows) ≤ arrivals_at vertex (flat_map (λ (r : List ℕ). r) rows) → (b : Bool)
        → arrivals_at vertex ((if b then row else []) ++ next_of_left counts rows) ≤ arrivals_at vertex (row ++ flat_map (λ (r : List ℕ). r) rows)
    by later true =
        let all = arrivals-append vertex row (flat_map (λ (r : List ℕ). r) rows) in
        let front = arrivals-append vertex row (next_of_left counts rows) in
        omega arith
    by later false =
        let all = arrivals-append vertex row (flat_map (λ (r : List ℕ). r) rows) in
        omega arith

-- ---- a step back

-- the vertex before the end of a path
before_last : (edges : Edges) (from : ℕ) (steps : List ℕ) (to last : ℕ) → HasNext edges last from → Leads (HasNext edges) from steps to
    → (before : ℕ) × HasNext edges before to × Reaches (HasNext edges) last before
before_last edges from [] to last step here = (last, subst (HasNext edges last) here step, ([], refl))
before_last edges from (next ∷ steps) to last step way =
    let later : (before : ℕ) × HasNext edges before to × Reaches (HasNext edges) from before = before_last edges next steps to from way.0 way.1 in
    (later.0, later.1, Reaches-join (HasNext edges) last from later.0 (Reaches-step (HasNext edges) last from step) later.2)

-- what leads back to itself has an edge from another such vertex
last_back : (edges : Edges) (vertex : ℕ) → LeadsBack edges vertex → (before : ℕ) × HasNext edges before vertex × LeadsBack edges before
last_back edges vertex back =
    let at : (before : ℕ) × HasNext edges before vertex × Reaches (HasNext edges) vertex before =
    before_last edges back.next back.path.0 vertex vertex back.step back.path.1 in
    (at.0, at.1, record { next = vertex; step = at.1; path = at.2 })

-- a vertex without edges from remaining vertices doesn't lead back to itself
free_not_back : (edges : Edges) (counts : List ℕ) (vertex : ℕ) → LeavesCircular edges counts
    → arrivals_at vertex (next_of_left counts (edge_rows edges)) ≡ 0 → ¬ LeadsBack edges vertex
free_not_back edges counts vertex circular none back =
    let at : (before : ℕ) × HasNext edges before vertex × LeadsBack edges before = last_back edges vertex back in
    let some = left_leads counts (edge_rows edges) at.0 vertex (circular at.0 at.2) at.1 in
    absurd (omega (arith, none))

-- ---- one edge less

module _ (edges : Edges) (counts work rest : List ℕ) (place : ℕ) (so_far : AreCounted edges counts work (place ∷ rest)) where
  -- it was the last
  gone_one : get_or counts place 0 ≡ 1 → AreCounted edges (set counts place 0) (work ++ place ∷ []) rest
  gone_one e = record { circular = circular; counted = counted }
    where
      within : place < length counts
      within = ⊎_elim (λ (h : place < length counts). h) (λ (past : length counts ≤ place). let none = get_or_past counts place 0 past in absurd (omega arith))
          (cases_lt place (length counts))

      none_arrives : arrivals_at place (next_of_left counts (edge_rows edges)) ≡ 0
      none_arrives =
          let most = so_far.counted place within in
          let own = one_more place rest in
          omega arith

      circular : LeavesCircular edges (set counts place 0)
      circular vertex back = ⊎_elim
          (λ (same : vertex ≡ place).
          absurd (free_not_back edges counts place so_far.circular none_arrives (subst (LeadsBack edges) same back)))
          (λ differ. let stood : 0 < get_or counts vertex 0 = so_far.circular vertex back in let other = get_or-set_other counts place vertex 0 0 differ in omega arith)
          (cases_eq vertex place)

      counted : (vertex : ℕ) → vertex < length (set counts place 0)
          → arrivals_at vertex (next_of_left (set counts place 0) (edge_rows edges)) + arrivals_at vertex (next_of_all edges (work ++ place ∷ []))
          + arrivals_at vertex rest ≤ get_or (set counts place 0) vertex 0
      counted vertex inside =
          let long = length-set counts place 0 in
          let most = so_far.counted vertex (omega arith) in
          let left = gone_left vertex counts (edge_rows edges) place e in
          let all : arrivals_at vertex (next_of_all edges (work ++ place ∷ [])) ≡ arrivals_at vertex (next_of_all edges work ++ (next_of edges place ++ [])) =
          ap (arrivals_at vertex) (flat_map-append (next_of edges) work (place ∷ [])) in
          let one = arrivals-append vertex (next_of_all edges work) (next_of edges place ++ []) in
          let two = arrivals-append vertex (next_of edges place) [] in
          let none : arrivals_at vertex [] ≡ 0 = refl in
          let three = arrivals-cons vertex place rest in
          ⊎_elim
          (λ (same : vertex ≡ place).
          let here = one_itself place in
          let own : one_if_same vertex place ≡ 1 = ap (λ n. one_if_same n place) same ∙ here in
          let was : get_or counts vertex 0 ≡ 1 = ap (λ n. get_or counts n 0) same ∙ e in
          omega arith)
          (λ differ. let other = get_or-set_other counts place vertex 0 0 differ in omega arith)
          (cases_eq vertex place)

  -- more remain
  fewer_one : 2 ≤ get_or counts place 0 → AreCounted edges (set counts place (get_or counts place 0 - 1)) work rest
  fewer_one more = record { circular = circular; counted = counted }
    where
      within : place < length counts
      within = ⊎_elim (λ (h : place < length counts). h) (λ (past : length counts ≤ place). let none = get_or_past counts place 0 past in absurd (omega arith))
          (cases_lt place (length counts))

      circular : LeavesCircular edges (set counts place (get_or counts place 0 - 1))
      circular vertex back = ⊎_elim
          (λ (same : vertex ≡ place).
          let here : get_or (set counts place (get_or counts place 0 - 1)) vertex 0 ≡ get_or counts place 0 - 1 =
          ap (λ n. get_or (set counts place (get_or counts place 0 - 1)) n 0) same ∙ get_or-set_same counts place (get_or counts place 0 - 1) 0 within in
          omega arith)
          (λ differ. let stood : 0 < get_or counts vertex 0 = so_far.circular vertex back in let other = get_or-set_other counts place vertex (get_or counts place 0 - 1) 0 differ in omega arith)
          (cases_eq vertex place)

      counted : (vertex : ℕ) → vertex < length (set counts place (get_or counts place 0 - 1))
          → arrivals_at vertex (next_of_left (set counts place (get_or counts place 0 - 1)) (edge_rows edges)) + arrivals_at vertex (next_of_all edges work)
          + arrivals_at vertex rest ≤ get_or (set counts place (get_or counts place 0 - 1)) vertex 0
      counted vertex inside =
          let long = length-set counts place (get_or counts place 0 - 1) in
          let most = so_far.counted vertex (omega arith) in
          let is : is_left (get_or counts place 0 - 1) ≡ is_left (get_or counts place 0) =
          is_left_more (get_or counts place 0 - 1) (omega arith) ∙ sym (is_left_more (get_or counts place 0) (omega arith)) in
          let left : arrivals_at vertex (next_of_left (set counts place (get_or counts place 0 - 1)) (edge_rows edges)) ≡ arrivals_at vertex (next_of_left counts (edge_rows edges)) =
          ap (arrivals_at vertex) (stays_left counts (edge_rows edges) place (get_or counts place 0 - 1) is) in
          let three = arrivals-cons vertex place rest in
          ⊎_elim
          (λ (same : vertex ≡ place).
          let here : get_or (set counts place (get_or counts place 0 - 1)) vertex 0 ≡ get_or counts place 0 - 1 =
          ap (λ n. get_or (set counts place (get_or counts place 0 - 1)) n 0) same ∙ get_or-set_same counts place (get_or counts place 0 - 1) 0 within in
          let own : one_if_same vertex place ≡ 1 = ap (λ n. one_if_same n place) same ∙ one_itself place in
          let was : get_or counts vertex 0 ≡ get_or counts place 0 = ap (λ n. get_or counts n 0) same in
          omega arith)
          (λ differ. let other = get_or-set_other counts place vertex (get_or counts place 0 - 1) 0 differ in omega arith)
          (cases_eq vertex place)

  -- none was: the vertex is none of these
  none_one : get_or counts place 0 ≡ 0 → AreCounted edges (set counts place (get_or counts place 0 - 1)) work rest
  none_one e = ⊎_elim
      (λ (within : place < length counts).
      let most = so_far.counted place within in
      let own = one_more place rest in
      absurd (omega arith))
      (λ (past : length counts ≤ place).
      subst (λ (cs : List ℕ). AreCounted edges cs work rest) (sym (set_past counts place (get_or counts place 0 - 1) past)) (record {
        circular = so_far.circular;
        counted = λ vertex inside. let most = so_far.counted vertex inside in let fewer = no_fewer vertex place rest in omega arith;
      }))
      (cases_lt place (length counts))

  pub one_fewer : AreCounted edges (without_arrival (counts, work) place).0 (without_arrival (counts, work) place).1 rest
  one_fewer = grind (arith, nat_eq, get_or, eqb-true, gone_one, ⊎_elim, none_one, fewer_one, true≢false, eq-eqb, cases_eq)

-- several edges
pub all_fewer : (edges : Edges) (counts work vertices rest : List ℕ) → AreCounted edges counts work (vertices ++ rest)
    → AreCounted edges (fold without_arrival (counts, work) vertices).0 (fold without_arrival (counts, work) vertices).1 rest
all_fewer edges counts work [] rest so_far = so_far
all_fewer edges counts work (vertex ∷ vertices) rest so_far =
    all_fewer edges (without_arrival (counts, work) vertex).0 (without_arrival (counts, work) vertex).1 vertices rest
    (one_fewer edges counts work (vertices ++ rest) vertex so_far)

-- what a vertex of the work list leads to is added to the rest
pub taken_from_work : (edges : Edges) (counts work rest : List ℕ) (vertex : ℕ) → AreCounted edges counts (work ++ vertex ∷ []) rest
    → AreCounted edges counts work (next_of edges vertex ++ rest)
taken_from_work edges counts work rest vertex so_far = record {
  circular = so_far.circular;
  counted = λ other inside.
      let most = so_far.counted other inside in
      let all : arrivals_at other (next_of_all edges (work ++ vertex ∷ [])) ≡ arrivals_at other (next_of_all edges work ++ (next_of edges vertex ++ [])) =
      ap (arrivals_at other) (flat_map-append (next_of edges) work (vertex ∷ [])) in
      let one = arrivals-append other (next_of_all edges work) (next_of edges vertex ++ []) in
      let two = arrivals-append other (next_of edges vertex) [] in
      let none : arrivals_at other [] ≡ 0 = refl in
      let three = arrivals-append other (next_of edges vertex) rest in
      omega arith;
}

-- a vertex of the work list was looked at, in two parts
pub after_more : (edges : Edges) (counts middle new work more last rest : List ℕ) (vertex : ℕ) (next others : List ℕ)
    → AreCounted edges counts (work ++ vertex ∷ []) rest → next ++ others ≡ next_of edges vertex
    → (middle, more) ≡ fold without_arrival (counts, work) next → (new, last) ≡ fold without_arrival (middle, more) others → AreCounted edges new last rest
after_more edges counts middle new work more last rest vertex next others so_far is first second =
    let begun : AreCounted edges counts work (next ++ (others ++ rest)) =
    subst (AreCounted edges counts work) (ap (λ (xs : List ℕ). xs ++ rest) (sym is) ∙ append_assoc next others rest) (taken_from_work edges counts work rest vertex so_far) in
    let half : AreCounted edges middle more (others ++ rest) =
    subst (λ (state : List ℕ × List ℕ). AreCounted edges state.0 state.1 (others ++ rest)) (sym first) (all_fewer edges counts work next (others ++ rest) begun) in
    subst (λ (state : List ℕ × List ℕ). AreCounted edges state.0 state.1 rest) (sym second) (all_fewer edges middle more others rest half)

-- as many remain or are in the work list as before
many_one : (counts work : List ℕ) (vertex : ℕ)
    → count_left (without_arrival (counts, work) vertex).0 + length (without_arrival (counts, work) vertex).1 ≡ count_left counts + length work
many_one counts work vertex = grind (arith, nat_eq, get_or, true≢false, eq-eqb, is_left_more, length, eqb-true, ⊎_elim, get_or_past, cases_lt, length_push, sum_by-set, set_past)

pub many_all : (counts work vertices : List ℕ)
    → count_left (fold without_arrival (counts, work) vertices).0 + length (fold without_arrival (counts, work) vertices).1 ≡ count_left counts + length work
many_all counts work [] = refl
many_all counts work (vertex ∷ vertices) = grind (arith, many_one, many_all (without_arrival (counts, work) vertex).0 (without_arrival (counts, work) vertex).1 vertices)

pub many_after : (counts work new last vertices : List ℕ) → (new, last) ≡ fold without_arrival (counts, work) vertices
    → count_left new + length last ≡ count_left counts + length work
many_after counts work new last vertices is =
    ap (λ (state : List ℕ × List ℕ). count_left state.0 + length state.1) is ∙ many_all counts work vertices

-- ---- the start

counted_all : (vertices counts : List ℕ) (vertex : ℕ) → vertex < length counts
    → (get_or (fold with_arrival counts vertices) vertex 0 ≡ get_or counts vertex 0 + arrivals_at vertex vertices)
    × (length (fold with_arrival counts vertices) ≡ length counts)
counted_all [] counts vertex within = let none : arrivals_at vertex [] ≡ 0 = refl in (omega arith, refl)
counted_all (other ∷ vertices) counts vertex within =
    let long = length-set counts other (get_or counts other 0 + 1) in
    let later = counted_all vertices (with_arrival counts other) vertex (omega arith) in
    let first = arrivals-cons vertex other vertices in
    let value = later.0 in (
      ⊎_elim
          (λ (same : vertex ≡ other).
          let one : get_or (with_arrival counts other) vertex 0 ≡ get_or counts other 0 + 1 =
          ap (λ n. get_or (with_arrival counts other) n 0) same ∙ get_or-set_same counts other (get_or counts other 0 + 1) 0 (subst (λ n. n < length counts) same within) in
          let was : get_or counts vertex 0 ≡ get_or counts other 0 = ap (λ n. get_or counts n 0) same in
          let own : one_if_same vertex other ≡ 1 = ap (λ n. one_if_same n other) same ∙ one_itself other in
          omega arith)
          (λ differ.
          let one = get_or-set_other counts other vertex (get_or counts other 0 + 1) 0 differ in
          let none = one_other vertex other differ in
          omega arith)
          (cases_eq vertex other),
      later.1 ∙ long,
    )

-- each has one turn
one_turn : (from count vertex : ℕ) → (arrivals_at vertex (range_with_len from count) ≤ 1) × (vertex < from → arrivals_at vertex (range_with_len from count) ≡ 0)
one_turn from zero vertex = let none : arrivals_at vertex (range_with_len from 0) ≡ 0 = refl in (omega arith, λ less. refl)
one_turn from (suc count) vertex =
    let later = one_turn (from + 1) count vertex in
    let first = arrivals-cons vertex from (range_with_len (from + 1) count) in
    let most = later.0 in (
      ⊎_elim
          (λ (same : vertex ≡ from). let own : one_if_same vertex from ≡ 1 = ap (λ n. one_if_same n from) same ∙ one_itself from in let none = later.1 (omega arith) in omega arith)
          (λ differ. let none = one_other vertex from differ in omega arith)
          (cases_eq vertex from),
      λ less.
          let none = later.1 (omega arith) in
          let other = one_other vertex from (λ e. omega arith) in
          omega arith,
    )

pub begun : (edges : Edges) (counts : List ℕ) → counts ≡ fold with_arrival (replicate (vertex_count edges) 1) (flat_map (λ row. row) (edge_rows edges))
    → AreCounted edges counts [] (range_with_len 0 (vertex_count edges))
begun edges counts is = record { circular = circular; counted = counted }
  where
    count_at : (vertex : ℕ) → vertex < vertex_count edges
        → (get_or counts vertex 0 ≡ 1 + arrivals_at vertex (flat_map (λ (row : List ℕ). row) (edge_rows edges))) × (length counts ≡ vertex_count edges)
    count_at vertex within =
        let long = length-replicate {A = ℕ} (vertex_count edges) 1 in
        let all = counted_all (flat_map (λ (row : List ℕ). row) (edge_rows edges)) (replicate (vertex_count edges) 1) vertex (omega arith) in
        let one : get_or (replicate {A = ℕ} (vertex_count edges) 1) vertex 0 ≡ suc zero = get_or-replicate {A = ℕ} (vertex_count edges) vertex 1 0 within in
        let value = all.0 in
        let same = ap (λ (cs : List ℕ). get_or cs vertex 0) is in (
          omega arith,
          ap length is ∙ all.1 ∙ long,
        )

    circular : LeavesCircular edges counts
    circular vertex back =
        let within = has_within edges vertex back.next back.step in
        let value = (count_at vertex within).0 in
        omega arith

    length_counts : length counts ≡ vertex_count edges
    length_counts = ap length is ∙ length_all (flat_map (λ (row : List ℕ). row) (edge_rows edges)) (replicate (vertex_count edges) 1) ∙ length-replicate {A = ℕ} (vertex_count edges) 1
      where
        length_all : (vertices all : List ℕ) → length (fold with_arrival all vertices) ≡ length all
        length_all [] all = refl
        length_all (vertex ∷ vertices) all = length_all vertices (with_arrival all vertex) ∙ length-set all vertex (get_or all vertex 0 + 1)

    counted : (vertex : ℕ) → vertex < length counts
        → arrivals_at vertex (next_of_left counts (edge_rows edges)) + arrivals_at vertex (next_of_all edges [])
        + arrivals_at vertex (range_with_len 0 (vertex_count edges)) ≤ get_or counts vertex 0
    counted vertex inside = ⊎_elim
        (λ (within : vertex < vertex_count edges).
        let value = (count_at vertex within).0 in
        let fewer = left_fewer vertex counts (edge_rows edges) in
        let turn = (one_turn 0 (vertex_count edges) vertex).0 in
        let none : arrivals_at vertex (next_of_all edges []) ≡ 0 = refl in
        omega arith)
        (λ (past : vertex_count edges ≤ vertex).
        let long = length_counts in absurd (omega arith))
        (cases_lt vertex (vertex_count edges))

-- a vertex has its turn
pub next_turn : (edges : Edges) (counts : List ℕ) (vertex : ℕ) → vertex < vertex_count edges
    → AreCounted edges counts [] (range_with_len vertex (vertex_count edges - vertex))
    → AreCounted edges counts [] (vertex ∷ range_with_len (vertex + 1) (vertex_count edges - (vertex + 1)))
next_turn edges counts vertex within so_far = grind arith

pub turn_taken : (edges : Edges) (counts new last : List ℕ) (vertex : ℕ) (rest : List ℕ) → AreCounted edges counts [] (vertex ∷ rest)
    → (new, last) ≡ without_arrival (counts, []) vertex → AreCounted edges new last rest
turn_taken edges counts new last vertex rest so_far is =
    subst (λ (state : List ℕ × List ℕ). AreCounted edges state.0 state.1 rest) (sym is) (one_fewer edges counts [] rest vertex so_far)

-- ---- the end

-- if none remains, nothing leads back to itself
pub none_circular : (edges : Edges) (counts : List ℕ) → All (λ count. count ≡ 0) counts → LeavesCircular edges counts → (vertex : ℕ) → ¬ LeadsBack edges vertex
none_circular edges counts none circular vertex back =
    let some : 0 < get_or counts vertex 0 = circular vertex back in ⊎_elim
    (λ (within : vertex < length counts). let zeroth : get_or counts vertex 0 ≡ 0 = none vertex 0 within in absurd (omega arith))
    (λ (past : length counts ≤ vertex). let zeroth = get_or_past counts vertex 0 past in absurd (omega arith))
    (cases_lt vertex (length counts))

-- ---- both directions

pub held_more : (arrivals departures : List ℕ) (held new : List Bool) (place : ℕ) (both : Bool)
    → (length held ≡ place) × ((vertex : ℕ) → vertex < place → IsLeftIn arrivals vertex → IsLeftIn departures vertex → holds_in held vertex ≡ true)
    → new ≡ held ++ both ∷ [] → both ≡ (is_left (get_or arrivals place 0) && is_left (get_or departures place 0))
    → (length new ≡ place + 1) × ((vertex : ℕ) → vertex < place + 1 → IsLeftIn arrivals vertex → IsLeftIn departures vertex → holds_in new vertex ≡ true)
held_more arrivals departures held new place both so_far is both_is =
    let long = so_far.0 in
    let grown = length_push held both in (
      ap length is ∙ grown ∙ ap (λ n. n + 1) long,
      λ vertex less arrives departs.
          let value : get_or (held ++ both ∷ []) vertex false ≡ true = ⊎_elim
          (λ (before : vertex < place). get_or_append_left held (both ∷ []) false vertex (omega arith) ∙ so_far.1 vertex before arrives departs)
          (λ (from : place ≤ vertex).
          let same : vertex ≡ length held = omega arith in
          let at : place ≡ vertex = omega arith in
          ap (λ n. get_or (held ++ both ∷ []) n false) same ∙ get_or_last held both
          ∙ both_is ∙ ap (λ n. is_left (get_or arrivals n 0) && is_left (get_or departures n 0)) at
          ∙ ap (λ b. b && is_left (get_or departures vertex 0)) (is_left_more (get_or arrivals vertex 0) arrives)
          ∙ is_left_more (get_or departures vertex 0) departs)
          (cases_lt vertex place) in
          ap (λ (marks : List Bool). get_or marks vertex false) is ∙ value,
    )
  where
    get_or_last : (marks : List Bool) (mark : Bool) → get_or (marks ++ mark ∷ []) (length marks) false ≡ mark
    get_or_last [] mark = refl
    get_or_last (first ∷ marks) mark = get_or_last marks mark

-- the counts of a vertex's edges, in two parts
pub arrived : (rows : List (List ℕ)) (place : ℕ) (counts middle new next more : List ℕ) → place < length rows → next ++ more ≡ get_or rows place []
    → middle ≡ fold with_arrival counts next → new ≡ fold with_arrival middle more
    → fold with_arrival new (flat_map (λ row. row) (drop (place + 1) rows)) ≡ fold with_arrival counts (flat_map (λ row. row) (drop place rows))
arrived rows place counts middle new next more within is first second = grind (arith, fold-append, drop_more)
