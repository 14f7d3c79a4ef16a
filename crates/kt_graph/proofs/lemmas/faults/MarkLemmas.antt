-- Marks of vertices that are removed.
use Rattle.std.proofs.Common.{◌≡◌, ℕ, zero, suc, ◌+◌, ◌<◌, Bool, true, false, ⊎_elim, inl, inr, List, [], ◌∷◌, ◌++◌, length, get_or, set, take, cond, refl, sym, ap, ◌∙◌, arith}
use Rattle.kt_graph.proofs.Common.{Contains, cases_eq, cases_lt, false≢true, get_or-set_same, get_or-set_other, get_or_past, set_past, length_push, take_more, Contains-push, Contains-push_cases, Contains-append_cases, Contains-append_left, Contains-append_right, sum_by-set, Visits, count_held, holds_in, work_with}

-- the mark of a vertex that is taken is removed
pub taken_itself : (marks : List Bool) (place : ℕ) → holds_in (set marks place false) place ≡ false
taken_itself marks place = grind (arith, ⊎_elim, length, get_or-set_same, get_or, set_past, get_or_past, cases_lt)

-- and none is added
pub taken_others : (marks : List Bool) (place other : ℕ) → holds_in marks other ≡ false → holds_in (set marks place false) other ≡ false
taken_others marks place other off = grind (arith, ⊎_elim, get_or, taken_itself, get_or-set_other, cases_eq)

pub taken_fewer : (marks : List Bool) (place other : ℕ) → holds_in (set marks place false) other ≡ true → holds_in marks other ≡ true
taken_fewer marks place other on = grind (arith, false≢true, taken_others)

-- a mark that was removed is that of the vertex that was taken
pub taken_one : (marks : List Bool) (place other : ℕ) → holds_in marks other ≡ true → holds_in (set marks place false) other ≡ false → place ≡ other
taken_one marks place other on off = grind (arith, ⊎_elim, false≢true, get_or-set_other, cases_eq)

-- the marks that stay, where one was set
pub count_taken : (marks : List Bool) (place : ℕ) → holds_in marks place ≡ true → count_held (set marks place false) + 1 ≡ count_held marks
count_taken marks place on = grind (arith, ⊎_elim, length, sum_by-set, cond, false≢true, get_or_past, cases_lt)

-- and where none was
pub untaken : (marks : List Bool) (place : ℕ) → holds_in marks place ≡ false → set marks place false ≡ marks
untaken [] place off = refl
untaken (mark ∷ marks) zero off = ap (λ m. m ∷ marks) (sym off)
untaken (mark ∷ marks) (suc place) off = ap (λ ms. mark ∷ ms) (untaken marks place off)

-- one more vertex, which wasn't visited
pub visits_taken : (vertices : List ℕ) (old marks : List Bool) (before work : List ℕ) (vertex : ℕ) → Visits vertices old marks before work
    → holds_in marks vertex ≡ true → Visits (vertices ++ vertex ∷ []) old (set marks vertex false) before (work ++ vertex ∷ [])
visits_taken vertices old marks before work vertex so_far on = record {
  many =
      let fewer = count_taken marks vertex on in
      let more = length_push work vertex in
      let all = so_far.many in
      omega arith;
  fewer = λ other is. so_far.fewer other (taken_fewer marks vertex other is);
  visited = λ other in'. ⊎_elim
      (λ (h : Contains vertices other). taken_others marks vertex other (so_far.visited other h))
      (λ (e : vertex ≡ other). rw (← e) (taken_itself marks vertex))
      (Contains-push_cases vertices vertex other in');
  noted = λ other was off. by other was off (holds_in marks other) refl;
  kept = λ other in'. Contains-append_left work (vertex ∷ []) other (so_far.kept other in');
  only = λ other in'. ⊎_elim
      (λ (h : Contains work other). ⊎_elim (λ (g : Contains before other). inl g) (λ (g : Contains vertices other). inr (Contains-append_left vertices (vertex ∷ []) other g)) (so_far.only other h))
      (λ (e : vertex ≡ other). inr (rw (← e) (Contains-push vertices vertex)))
      (Contains-push_cases work vertex other in');
}
  where
    by : (other : ℕ) → holds_in old other ≡ true → holds_in (set marks vertex false) other ≡ false → (b : Bool) → holds_in marks other ≡ b → Contains (work ++ vertex ∷ []) other
    by other was off true e = rw (← taken_one marks vertex other e off) (Contains-push work vertex)
    by other was off false e = Contains-append_left work (vertex ∷ []) other (so_far.noted other was e)

-- one more that was
pub visits_passed : (vertices : List ℕ) (old marks : List Bool) (before work : List ℕ) (vertex : ℕ) → Visits vertices old marks before work
    → holds_in marks vertex ≡ false → Visits (vertices ++ vertex ∷ []) old (set marks vertex false) before work
visits_passed vertices old marks before work vertex so_far off = rw (untaken marks vertex off) record {
  many = so_far.many;
  fewer = so_far.fewer;
  visited = λ other in'. ⊎_elim
      (λ (h : Contains vertices other). so_far.visited other h)
      (λ (e : vertex ≡ other). rw (← e) off)
      (Contains-push_cases vertices vertex other in');
  noted = so_far.noted;
  kept = so_far.kept;
  only = λ other in'. ⊎_elim
      (λ (g : Contains before other). inl g)
      (λ (g : Contains vertices other). inr (Contains-append_left vertices (vertex ∷ []) other g))
      (so_far.only other in');
}

-- one more, whether it was or not
pub visits_more : (vertices : List ℕ) (old marks new : List Bool) (before work more : List ℕ) (place : ℕ)
    → Visits (take place vertices) old marks before work → place < length vertices
    → new ≡ set marks (get_or vertices place 0) false → more ≡ work_with (holds_in marks (get_or vertices place 0)) work (get_or vertices place 0)
    → Visits (take (place + 1) vertices) old new before more
visits_more vertices old marks new before work more place so_far within taken noted =
    rw (take_more vertices place 0 within, taken, noted) (by (holds_in marks (get_or vertices place 0)) refl)
  where
    by : (b : Bool) → holds_in marks (get_or vertices place 0) ≡ b
        → Visits (take place vertices ++ get_or vertices place 0 ∷ []) old (set marks (get_or vertices place 0) false) before (work_with b work (get_or vertices place 0))
    by true on = visits_taken (take place vertices) old marks before work (get_or vertices place 0) so_far on
    by false off = visits_passed (take place vertices) old marks before work (get_or vertices place 0) so_far off

-- two lists of vertices, one after the other
pub visits_join : (first second : List ℕ) (old middle new : List Bool) (before between after : List ℕ) → Visits first old middle before between
    → Visits second middle new between after → Visits (first ++ second) old new before after
visits_join first second old middle new before between after one other = record {
  many = other.many ∙ one.many;
  fewer = λ vertex on. one.fewer vertex (other.fewer vertex on);
  visited = λ vertex in'. ⊎_elim
      (λ (h : Contains first vertex). still vertex (one.visited vertex h))
      (λ (h : Contains second vertex). other.visited vertex h)
      (Contains-append_cases first second vertex in');
  noted = λ vertex was off. noted vertex was off (holds_in middle vertex) refl;
  kept = λ vertex in'. other.kept vertex (one.kept vertex in');
  only = λ vertex in'. ⊎_elim
      (λ (h : Contains between vertex). ⊎_elim
      (λ (g : Contains before vertex). inl g)
      (λ (g : Contains first vertex). inr (Contains-append_left first second vertex g))
      (one.only vertex h))
      (λ (h : Contains second vertex). inr (Contains-append_right first second vertex h))
      (other.only vertex in');
}
  where
    still : (vertex : ℕ) → holds_in middle vertex ≡ false → holds_in new vertex ≡ false
    still vertex off = by (holds_in new vertex) refl
      where
        by : (b : Bool) → holds_in new vertex ≡ b → holds_in new vertex ≡ false
        by false e = e
        by true e = absurd (false≢true (sym off ∙ other.fewer vertex e))

    noted : (vertex : ℕ) → holds_in old vertex ≡ true → holds_in new vertex ≡ false → (b : Bool) → holds_in middle vertex ≡ b → Contains after vertex
    noted vertex was off true e = other.noted vertex e off
    noted vertex was off false e = other.kept vertex (one.noted vertex was e)
