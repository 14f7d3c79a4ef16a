-- Statements and names of a plan that is read from the graph, by their places.
use Rattle.std.proofs.Common.{◌≡◌, ℕ, ◌+◌, Bool, true, false, List, length, Option, Some, None, refl, sym, ap, ◌∙◌, arith, suc, min, slice_get}
use Rattle.kati.proofs.Common.{Node}
use Rattle.kati.specs.inner.plan.Drawn.{GroupSketch, always_drawn, statement_drawn, statements_drawn}
use Rattle.kati.proofs.lemmas.plan.DrawnLemmas.{drawn_found, told_at, told_size}

module _ (groups : List (List Node)) (sketch : List GroupSketch) (i : ℕ) where
  pub group_there : (group : List Node) (one : GroupSketch) → Some group ≡ slice_get groups i → Some one ≡ slice_get sketch i
      → Some (statement_drawn group one) ≡ slice_get (statements_drawn groups sketch) i
  group_there group one is also = grind (arith, drawn_found, told_at)

  pub group_gone : None ≡ slice_get groups i → None ≡ slice_get (statements_drawn groups sketch) i
  group_gone is = ap (λ (o : Option (List Node)). drawn_found o (slice_get sketch i)) is ∙ sym (told_at groups sketch i)

  none_found : (group : Option (List Node)) → None ≡ drawn_found group None
  none_found None = refl
  none_found (Some group) = refl

  pub drawn_gone : None ≡ slice_get sketch i → None ≡ slice_get (statements_drawn groups sketch) i
  drawn_gone is = grind (arith, none_found, drawn_found, told_at)

-- ---- with the statement `always_built` before them

one_more : (n m : ℕ) → n ≡ m → n + 1 ≡ suc m
one_more n m same = omega (arith, same)

module _ (groups : List (List Node)) (sketch : List GroupSketch) (always : Bool) where
  pub size_with_always : always ≡ true
      → min (length groups) (length sketch) + 1 ≡ length (always_drawn always (statements_drawn groups sketch))
  size_with_always is = grind (arith, one_more, min, length, told_size)

  pub size_without_always : always ≡ false
      → min (length groups) (length sketch) ≡ length (always_drawn always (statements_drawn groups sketch))
  size_without_always is = grind (arith, told_size, length)
