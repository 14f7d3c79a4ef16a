use Rattle.std.proofs.Common.{arith, ◌≡◌, sym, refl}
use Rattle.kt_text.proofs.Common.{MatchOrdering, Ordering, Less, Equal, Greater}
use Rattle.kt_text.proofs.lemmas.SortLemmas.{order, fronts_decide}
use Rattle.kt_text.proofs.sort_key.SortKeyOrd.cmp.Goals as goal

decided_is : (found wanted : Ordering) → (found ≡ Equal → ⊥) → MatchOrdering found (wanted ≡ Less) (Unit {0}) (wanted ≡ Greater) → found ≡ wanted
decided_is Less wanted differs is = sym is
decided_is Equal wanted differs is = absurd (differs refl)
decided_is Greater wanted differs is = sym is

pub returns-in_default : goal.returns-in_default
returns-in_default c = grind (arith, fronts_decide, decided_is, order)
