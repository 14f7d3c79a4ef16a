use Rattle.std.proofs.Common.{inl, inr, refl, sym, ◌∙◌}
use Rattle.kati.proofs.checking.same_or_not.Goals as goal

pub returns-then-eq : goal.returns-then-eq
returns-then-eq c = inl (refl, c.eq.ensures.same.0 c.if-eq.true)

pub returns-else-eq : goal.returns-else-eq
returns-else-eq c = inr (refl, λ same. absurd (cc (sym (c.eq.ensures.same.1 same) ∙ c.if-eq.false)))
