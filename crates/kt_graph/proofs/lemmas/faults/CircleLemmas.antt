-- Paths through a graph, and those that lead back.
use Rattle.std.proofs.Common.{◌≡◌, ℕ, Bool, true, false, ◌⊎◌, ⊎_elim, inl, inr, List, [], ◌∷◌, ◌++◌, length, get_or, take, drop, All, ◌+◌, ◌<◌, refl, sym, ap, ◌∙◌, subst, arith}
use Rattle.kt_graph.proofs.Common.{Contains, cases_lt, false≢true, drop_more, get_or_past, length-append, length-map, take-append-drop, Contains-push, Contains-push_cases, Contains-append_left, Edges, Leads, Reaches, IsLeftIn, LeavesCircular, AreReversed, HasNext, HoldsCircular, IsDoneWith, IsFirstBack, LeadsBack, LeadsOn, Searches, Visits, vertex_count, holds_in, next_of, edge_rows}
use Rattle.kt_graph.proofs.lemmas.MemberLemmas.{Contains-none}

-- a path continues
pub Leads-join : {A : Type 0} (Edge : A → A → Type 0) (from : A) (steps : List A) (middle : A) (more : List A) (to : A)
    → Leads Edge from steps middle → Leads Edge middle more to → Leads Edge from (steps ++ more) to
Leads-join Edge from [] middle more to here on = subst (λ x. Leads Edge x more to) (sym here) on
Leads-join Edge from (step ∷ steps) middle more to way on = (way.0, Leads-join Edge step steps middle more to way.1 on)

pub Reaches-join : {A : Type 0} (Edge : A → A → Type 0) (from middle to : A) → Reaches Edge from middle → Reaches Edge middle to → Reaches Edge from to
Reaches-join Edge from middle to one other = (one.0 ++ other.0, Leads-join Edge from one.0 middle other.0 to one.1 other.1)

pub Reaches-step : {A : Type 0} (Edge : A → A → Type 0) (from to : A) → Edge from to → Reaches Edge from to
Reaches-step Edge from to step = (to ∷ [], (step, refl))

pub Reaches-none : {A : Type 0} (Edge : A → A → Type 0) (here : A) → Reaches Edge here here
Reaches-none Edge here = ([], refl)

-- ---- paths of one step or more

pub on_step : (edges : Edges) (from to : ℕ) → HasNext edges from to → LeadsOn edges from to
on_step edges from to step = record { next = to; step = step; path = Reaches-none (HasNext edges) to }

pub on_more : (edges : Edges) (from middle to : ℕ) → LeadsOn edges from middle → HasNext edges middle to → LeadsOn edges from to
on_more edges from middle to on step = record {
  next = on.next;
  step = on.step;
  path = Reaches-join (HasNext edges) on.next middle to on.path (Reaches-step (HasNext edges) middle to step);
}

-- what a vertex that leads on to another leads to by that one
pub around : (edges : Edges) (here there : ℕ) (steps : List ℕ) → Leads (HasNext edges) here steps there → LeadsOn edges there here → LeadsBack edges here
around edges here there [] same on = subst (λ v. LeadsOn edges v here) (sym same) on
around edges here there (step ∷ steps) way on = record {
  next = step;
  step = way.0;
  path = Reaches-join (HasNext edges) step there here (steps, way.1)
      (Reaches-join (HasNext edges) there on.next here (Reaches-step (HasNext edges) there on.next on.step) on.path);
}

-- ---- the other direction

reversed_way : (edges reversed : Edges) → AreReversed edges reversed → (from : ℕ) (steps : List ℕ) (to : ℕ)
    → Leads (HasNext reversed) from steps to → Reaches (HasNext edges) to from
reversed_way edges reversed turned from [] to here = ([], sym here)
reversed_way edges reversed turned from (step ∷ steps) to way =
    Reaches-join (HasNext edges) to step from (reversed_way edges reversed turned step steps to way.1)
    (Reaches-step (HasNext edges) step from ((turned from step).0 way.0))

pub back_reversed : (edges reversed : Edges) → AreReversed edges reversed → (vertex : ℕ) → LeadsBack reversed vertex → LeadsBack edges vertex
back_reversed edges reversed turned vertex back =
    let way : Reaches (HasNext edges) vertex back.next = reversed_way edges reversed turned back.next back.path.0 vertex back.path.1 in
    around edges vertex back.next way.0 way.1 (on_step edges back.next vertex ((turned vertex back.next).0 back.step))

pub reversed_twice : (edges reversed : Edges) → AreReversed edges reversed → AreReversed reversed edges
reversed_twice edges reversed turned from to = ((turned to from).1, (turned to from).0)

-- ---- the vertices that lead anywhere

pub length-rows : (edges : Edges) → length (edge_rows edges) ≡ vertex_count edges
length-rows edges = grind (arith, length-append, length-map)

pub has_within : (edges : Edges) (vertex next : ℕ) → HasNext edges vertex next → vertex < vertex_count edges
has_within edges vertex next has = grind (arith, ⊎_elim, length-rows, get_or_past, Contains-none, cases_lt)

-- what remains in both directions has all that leads back to itself
pub held_in_both : (edges reversed : Edges) (arrivals departures : List ℕ) (held : List Bool) → AreReversed edges reversed → LeavesCircular edges arrivals
    → LeavesCircular reversed departures
    → ((vertex : ℕ) → IsLeftIn arrivals vertex → IsLeftIn departures vertex → holds_in held vertex ≡ true) → HoldsCircular edges held
held_in_both edges reversed arrivals departures held turned one other both vertex back =
    both vertex (one vertex back) (other vertex (back_reversed reversed edges (reversed_twice edges reversed turned) vertex back))

-- ---- the first of an order

pub first_at : (edges : Edges) (numbers : List ℕ) (place : ℕ) → place < length numbers → All (λ vertex. ¬ LeadsBack edges vertex) (take place numbers)
    → LeadsBack edges (get_or numbers place 0) → IsFirstBack edges numbers (get_or numbers place 0)
first_at edges numbers place within none back = record {
  earlier = take place numbers;
  later = drop (place + 1) numbers;
  cut = sym (take-append-drop place numbers) ∙ ap (λ rest. take place numbers ++ rest) (drop_more numbers place 0 within);
  back = back;
  none_earlier = none;
}

-- ---- a search

pub searches_begun : (edges : Edges) (first : ℕ) (held unvisited : List Bool) (work : List ℕ)
    → Visits (next_of edges first) held unvisited [] work → Searches edges first held unvisited work
searches_begun edges first held unvisited work visits = record {
  reached = λ vertex in'. ⊎_elim
      (λ (h : Contains [] vertex). absurd (omega (arith, h.1)))
      (λ (h : HasNext edges first vertex). on_step edges first vertex h)
      (visits.only vertex in');
  begun = visits.visited;
  done = λ vertex on off. inl (visits.noted vertex on off);
}

pub searches_on : (edges : Edges) (first other : ℕ) (held unvisited visited : List Bool) (work more : List ℕ)
    → Searches edges first held unvisited (work ++ other ∷ []) → ¬ (other ≡ first) → Visits (next_of edges other) unvisited visited work more
    → Searches edges first held visited more
searches_on edges first other held unvisited visited work more so_far differ visits = record {
  reached = λ vertex in'. ⊎_elim
      (λ (h : Contains work vertex). so_far.reached vertex (Contains-append_left work (other ∷ []) vertex h))
      (λ (h : HasNext edges other vertex). on_more edges first other vertex (so_far.reached other (Contains-push work other)) h)
      (visits.only vertex in');
  begun = λ next step. still next (so_far.begun next step);
  done = λ vertex on off. by vertex on off (holds_in unvisited vertex) refl;
}
  where
    still : (next : ℕ) → holds_in unvisited next ≡ false → holds_in visited next ≡ false
    still next off = at (holds_in visited next) refl
      where
        at : (b : Bool) → holds_in visited next ≡ b → holds_in visited next ≡ false
        at false e = e
        at true e = absurd (false≢true (sym off ∙ visits.fewer next e))

    by : (vertex : ℕ) → holds_in held vertex ≡ true → holds_in visited vertex ≡ false → (b : Bool) → holds_in unvisited vertex ≡ b
        → Contains more vertex ⊎ IsDoneWith edges first visited vertex
    by vertex on off true e = inl (visits.noted vertex e off)
    by vertex on off false e = ⊎_elim
        (λ (h : Contains (work ++ other ∷ []) vertex). ⊎_elim
        (λ (g : Contains work vertex). inl (visits.kept vertex g))
        (λ (same : other ≡ vertex). inr (rw (← same) record { other = differ; onward = λ next step. visits.visited next step }))
        (Contains-push_cases work other vertex h))
        (λ (h : IsDoneWith edges first unvisited vertex). inr (record { other = h.other; onward = λ next step. still next (h.onward next step) }))
        (so_far.done vertex on e)

never_visited : (edges : Edges) (first : ℕ) (held unvisited : List Bool) → HoldsCircular edges held → Searches edges first held unvisited []
    → (vertex : ℕ) (steps : List ℕ) → LeadsOn edges first vertex → Leads (HasNext edges) vertex steps first → holds_in unvisited vertex ≡ false → ⊥
never_visited edges first held unvisited circular so_far vertex [] on same off = grind (arith, ⊎_elim, around)
never_visited edges first held unvisited circular so_far vertex (step ∷ steps) on way off = ⊎_elim
    (λ (h : Contains [] vertex). absurd (omega (arith, h.1)))
    (λ (h : IsDoneWith edges first unvisited vertex).
    never_visited edges first held unvisited circular so_far step steps (on_more edges first vertex step on way.0) way.1 (h.onward step way.0))
    (so_far.done vertex (circular vertex (around edges vertex first (step ∷ steps) way on)) off)

pub searches_ended : (edges : Edges) (first : ℕ) (held unvisited : List Bool) → HoldsCircular edges held → Searches edges first held unvisited []
    → ¬ LeadsBack edges first
searches_ended edges first held unvisited circular so_far back =
    never_visited edges first held unvisited circular so_far back.next back.path.0 (on_step edges first back.next back.step) back.path.1
    (so_far.begun back.next back.step)
