-- A run has one meaning.
use Rattle.std.proofs.Common.{arith, ◌≡◌, List, [], ◌∷◌, map, Some, refl, sym, ap, ◌∙◌, ⊎_elim, inl, inr}
use Rattle.kati.proofs.Common.{Contains, IsStrictlySortedBy, ordering_reverse, All-contains, sorted_tail, All-after_first, none-some, same_Some, first_or_rest, in_first, in_rest, Text, Entry, Trace, traced, StepEnd, Gave, Stopped, Node, node_of, ComesFirst, IsFirst, IsGraph, IsSound, Trouble, no_rule, circular, reserved_name, one_file, Contains-none, Meaning, MeansAfter, MeansGoals, WantedGoals, meaning_of, prepared, planned}
use Rattle.std.specs.declared.cmp.Ordering.{Ordering}
use Rattle.std.specs.declared.cmp.Ordering.TheVariants.{Less, Equal, Greater}
use Rattle.std.proofs.lemmas.Cmp.{nat_list_cmp_total}
use Rattle.std.proofs.lemmas.Map.Lookups.{exact_bytes}
use Rattle.kati_laws.specs.Once.{HasOneMeaning}
use Rattle.kati.specs.Steps.{telling}
use Rattle.kati.proofs.lemmas.plan.PlanLemmas.{name_in, not_less, order}
use Rattle.kt_text.proofs.lemmas.SortLemmas.{never_both}

-- ---- names in order

equal_by : (x y : Text) → (order x y ≡ Less → ⊥) → (order y x ≡ Less → ⊥) → x ≡ y
equal_by x y not_below not_above = by (order x y) refl
  where
    by : (o : Ordering) → order x y ≡ o → x ≡ y
    by Less e = absurd (not_below e)
    by Equal e = exact_bytes x y e
    by Greater e = absurd (not_above (nat_list_cmp_total.antisymm y x ∙ ap ordering_reverse e))

first_once : (P : Text → Type 0) (one other : Text) → IsFirst P one → IsFirst P other → one ≡ other
first_once P one other f g = equal_by one other (g.least one f.holds) (f.least other g.holds)

not_before_first : (first : Text) (names : List Text) (name : Text) → IsStrictlySortedBy order (first ∷ names) → Contains (first ∷ names) name
    → order name first ≡ Less → ⊥
not_before_first first names name rises has less = grind (arith, ⊎_elim, not_less, never_both, All-contains, order, All-after_first, first_or_rest)

later_of : (first : Text) (names : List Text) (name : Text) → (first ≡ name → ⊥) → Contains (first ∷ names) name → Contains names name
later_of first names name other has = grind (arith, ⊎_elim, first_or_rest)

module _ (name other : Text) (names others : List Text) (rises : IsStrictlySortedBy order (name ∷ names)) where
  -- what is contained after the first of two lists whose first names are the same
  later_too : name ≡ other → ((one : Text) → Contains (name ∷ names) one → Contains (other ∷ others) one)
      → (one : Text) → Contains names one → Contains others one
  later_too first there one has =
      later_of other others one (λ (same : other ≡ one). not_less name one above (first ∙ same)) (there one (in_rest name one names has))
    where
      above : order name one ≡ Less
      above = All-contains (λ (q : Text). order name q ≡ Less) names one (All-after_first order name names rises) has

  same_first : IsStrictlySortedBy order (other ∷ others) → Contains (other ∷ others) name → Contains (name ∷ names) other → name ≡ other
  same_first rise there back = equal_by name other (not_before_first other others name rise there) (not_before_first name names other rises back)

-- names in order are recognised by what they contain
same_names : (names others : List Text) → IsStrictlySortedBy order names → IsStrictlySortedBy order others
    → ((name : Text) → Contains names name → Contains others name) → ((name : Text) → Contains others name → Contains names name) → names ≡ others
same_names [] [] rises rise there back = refl
same_names [] (other ∷ others) rises rise there back = Contains-none other (back other (in_first other others))
same_names (name ∷ names) [] rises rise there back = Contains-none name (there name (in_first name names))
same_names (name ∷ names) (other ∷ others) rises rise there back =
    let first : name ≡ other
    = same_first name other names others rises rise (there name (in_first name names)) (back other (in_first other others)) in
    ap (λ (one : Text). one ∷ names) first
    ∙ ap (λ (rest : List Text). other ∷ rest)
    (same_names names others (sorted_tail order name names rises) (sorted_tail order other others rise)
    (later_too name other names others rises first there) (later_too other name others names rise (sym first) back))

-- ---- the graph and what is wrong with it

module _ (rules : List Entry) (known goals : List Text) where
  graph_once : (nodes others : List Node) → IsGraph rules known goals nodes → IsGraph rules known goals others → nodes ≡ others
  graph_once nodes others one other = one.stored ∙ ap (map (node_of rules known)) same ∙ sym other.stored
    where
      same : map name_in nodes ≡ map name_in others
      same = same_names (map name_in nodes) (map name_in others) one.rises other.rises
          (λ name has. (other.reached name).1 ((one.reached name).0 has)) (λ name has. (one.reached name).1 ((other.reached name).0 has))

  sound_or_not : (trouble : Trouble) → IsSound rules known goals → ComesFirst rules known goals (Some trouble) → ⊥
  sound_or_not (no_rule goal) sound first = none-some goal (sym sound.free.uncircled.goals_made.made ∙ first)
  sound_or_not (circular name) sound first = sound.free.uncircled.uncircled name first.1.holds
  sound_or_not reserved_name sound first = sound.free.free first.1.0 first.1.1
  sound_or_not (one_file name) sound first = sound.single name first.1.holds

  trouble_once : (one other : Trouble) → ComesFirst rules known goals (Some one) → ComesFirst rules known goals (Some other) → one ≡ other
  trouble_once (no_rule goal) (no_rule other) f g = ap no_rule (same_Some goal other (sym f ∙ g))
  trouble_once (no_rule goal) (circular name) f g = absurd (none-some goal (sym g.0.made ∙ f))
  trouble_once (no_rule goal) reserved_name f g = absurd (none-some goal (sym g.0.goals_made.made ∙ f))
  trouble_once (no_rule goal) (one_file name) f g = absurd (none-some goal (sym g.0.uncircled.goals_made.made ∙ f))
  trouble_once (circular name) (no_rule goal) f g = absurd (none-some goal (sym f.0.made ∙ g))
  trouble_once (circular name) (circular other) f g = ap circular (first_once _ name other f.1 g.1)
  trouble_once (circular name) reserved_name f g = absurd (g.0.uncircled name f.1.holds)
  trouble_once (circular name) (one_file other) f g = absurd (g.0.uncircled.uncircled name f.1.holds)
  trouble_once reserved_name (no_rule goal) f g = absurd (none-some goal (sym f.0.goals_made.made ∙ g))
  trouble_once reserved_name (circular name) f g = absurd (f.0.uncircled name g.1.holds)
  trouble_once reserved_name reserved_name f g = refl
  trouble_once reserved_name (one_file name) f g = absurd (g.0.free f.1.0 f.1.1)
  trouble_once (one_file name) (no_rule goal) f g = absurd (none-some goal (sym f.0.uncircled.goals_made.made ∙ g))
  trouble_once (one_file name) (circular other) f g = absurd (f.0.uncircled.uncircled other g.1.holds)
  trouble_once (one_file name) reserved_name f g = absurd (f.0.free g.1.0 g.1.1)
  trouble_once (one_file name) (one_file other) f g = ap one_file (first_once _ name other f.1 g.1)

-- ---- the whole

goals_once : (limit : _) (want : WantedGoals) (trace : Trace) (m n : Meaning) → MeansGoals limit want trace m → MeansGoals limit want trace n → m ≡ n
goals_once limit want trace m n (inl p) (inl q) =
    p.means
    ∙ ap (λ (nodes : List Node). meaning_of (telling (planned want.read.book want.read.table limit want.goals nodes) trace))
    (graph_once want.read.book want.known want.goals p.nodes q.nodes p.graph.1 q.graph.1)
    ∙ sym q.means
goals_once limit want trace m n (inl p) (inr u) = absurd (sound_or_not want.read.book want.known want.goals u.trouble p.graph.0 u.first)
goals_once limit want trace m n (inr t) (inl q) = absurd (sound_or_not want.read.book want.known want.goals t.trouble q.graph.0 t.first)
goals_once limit want trace m n (inr t) (inr u) = grind (arith, trouble_once)

after_once : (limit : _) (outcome : StepEnd Trace WantedGoals) (m n : Meaning) → MeansAfter limit outcome m → MeansAfter limit outcome n → m ≡ n
after_once limit (Gave trace want) m n h k = goals_once limit want trace m n h k
after_once limit (Stopped trace fault) m n h k = h ∙ sym k

pub one_meaning : HasOneMeaning
one_meaning args store asked m n h k = after_once args.limit (prepared args store (traced [] asked)) m n h k
