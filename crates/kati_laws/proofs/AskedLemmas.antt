-- The names that a run asks for.
use Rattle.std.proofs.Common.{arith, ◌≡◌, ℕ, [], ap, inl, inr}
use Rattle.kati.proofs.Common.{Trace, traced, StepEnd, Gave, Stopped, left_of, Meaning, MeansAfter, MeansGoals, WantedGoals, prepared}
use Rattle.kati_laws.specs.Meaning.{NamesAreAsked}
use Rattle.kati.proofs.lemmas.OutcomeLemmas.{telling_asks}

what_goals_ask : (limit : ℕ) (want : WantedGoals) (trace : Trace) (m : Meaning) → MeansGoals limit want trace m → m.asked ≡ trace.asked
what_goals_ask limit want trace m (inl p) = grind (arith, telling_asks)
what_goals_ask limit want trace m (inr trouble) = ap (λ (n : Meaning). n.asked) trouble.means

after_asks : (limit : ℕ) (outcome : StepEnd Trace WantedGoals) (m : Meaning) → MeansAfter limit outcome m → m.asked ≡ (left_of outcome).asked
after_asks limit (Gave trace want) m h = what_goals_ask limit want trace m h
after_asks limit (Stopped trace fault) m h = ap (λ (n : Meaning). n.asked) h

pub names_are_asked : NamesAreAsked
names_are_asked args store asked m means = after_asks args.limit (prepared args store (traced [] asked)) m means
