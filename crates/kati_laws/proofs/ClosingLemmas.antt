-- Lists that are closed under steps, and what can be decided of their members.
use Rattle.std.proofs.Common.{◌≡◌, ◌⊎◌, ◌≤◌, ℕ, zero, suc, Bool, true, false, List, [], ◌∷◌, ◌++◌, length, refl, sym, ap, ◌∙◌, subst, ⊎_elim, inl, inr, arith}
use Rattle.kati.proofs.Common.{Contains, bytes_eq, true≢false, length-append, Contains-append_cases, Contains-append_left, Contains-append_right, bytes_eq-Decides, first_or_rest, in_first, in_rest, Text, Entry, HasInput, Contains-none}

-- whether something holds can be decided
abbrev pub Decided : Type 0 → Type 0
Decided P = P ⊎ (P → ⊥)

-- ---- the first of a list

-- the first name of a list with a property
pub record FirstOf (P : Text → Type 0) (names : List Text) : Type 0 where
  pub earlier : List Text
  pub one : Text
  pub later : List Text
  pub cut : names ≡ earlier ++ one ∷ later
  pub holds : P one
  pub none_earlier : (name : Text) → Contains earlier name → P name → ⊥

pub first_or_none : (P : Text → Type 0) (names : List Text) → ((name : Text) → Contains names name → Decided (P name))
    → FirstOf P names ⊎ ((name : Text) → Contains names name → P name → ⊥)
first_or_none P [] decide = inr (λ name has holds. Contains-none name has)
first_or_none P (first ∷ names) decide =
    by (decide first (in_first first names)) (first_or_none P names (λ name has. decide name (in_rest first name names has)))
  where
    other : (rest : List Text) → (P first → ⊥) → ((name : Text) → Contains rest name → P name → ⊥) → (name : Text) → Contains (first ∷ rest) name → P name → ⊥
    other rest isnt none name has holds = ⊎_elim
        (λ (same : first ≡ name). isnt (subst P (sym same) holds))
        (λ (later : Contains rest name). none name later holds)
        (first_or_rest first name rest has)

    by : Decided (P first) → FirstOf P names ⊎ ((name : Text) → Contains names name → P name → ⊥)
        → FirstOf P (first ∷ names) ⊎ ((name : Text) → Contains (first ∷ names) name → P name → ⊥)
    by (inl holds) rest = inl (record {
      earlier = [];
      one = first;
      later = names;
      cut = refl;
      holds = holds;
      none_earlier = λ name has so. Contains-none name has;
    })
    by (inr isnt) (inl found) = inl (record {
      earlier = first ∷ found.earlier;
      one = found.one;
      later = found.later;
      cut = ap (λ (l : List Text). first ∷ l) found.cut;
      holds = found.holds;
      none_earlier = other found.earlier isnt found.none_earlier;
    })
    by (inr isnt) (inr none) = inr (other names isnt none)

pub decide_in : (names : List Text) (name : Text) → Decided (Contains names name)
decide_in [] name = inr (λ none. Contains-none name none)
decide_in (first ∷ names) name = by (bytes_eq first name) refl (decide_in names name)
  where
    by : (b : Bool) → bytes_eq first name ≡ b → Decided (Contains names name) → Decided (Contains (first ∷ names) name)
    by true is rest = inl (subst (λ (n : Text). Contains (first ∷ names) n) ((bytes_eq-Decides first name).0 is) (in_first first names))
    by false is (inl later) = inl (in_rest first name names later)
    by false is (inr none) = inr (λ has. ⊎_elim
        (λ (same : first ≡ name). true≢false (sym ((bytes_eq-Decides first name).1 same) ∙ is)) none (first_or_rest first name names has))

-- ---- the least list that has the first names and, with a name, the next ones

-- all that it has is met on the way
pub record Closed (next : Text → List Text) (starts : List Text) (Met : Text → Type 0) : Type 0 where
  pub names : List Text
  pub met : (name : Text) → Contains names name → Met name
  pub begun : (name : Text) → Contains starts name → Contains names name
  pub closed : (name input : Text) → Contains names name → Contains (next name) input → Contains names input

in_cut : (earlier : List Text) (one : Text) (later : List Text) (name : Text) → Contains (earlier ++ one ∷ later) name
    → (one ≡ name) ⊎ Contains (earlier ++ later) name
in_cut earlier one later name has = ⊎_elim
    (λ (h : Contains earlier name). inr (Contains-append_left earlier later name h))
    (λ (h : Contains (one ∷ later) name). ⊎_elim
    (λ (same : one ≡ name). inl same)
    (λ (g : Contains later name). inr (Contains-append_right earlier later name g))
    (first_or_rest one name later h))
    (Contains-append_cases earlier (one ∷ later) name has)

module _ (next : Text → List Text) (starts universe : List Text) (Met : Text → Type 0)
    (starts_in : (name : Text) → Contains starts name → Contains universe name)
    (next_in : (name input : Text) → Contains universe name → Contains (next name) input → Contains universe input)
    (met_start : (name : Text) → Contains starts name → Met name)
    (met_next : (name input : Text) → Met name → Contains (next name) input → Met input) where
  -- a name that is still missing beside these
  abbrev Missing : List Text → Text → Type 0
  Missing done name = Contains starts name ⊎ ((one : Text) × Contains done one × Contains (next one) name)

  decide_missing : (done : List Text) (name : Text) → Decided (Missing done name)
  decide_missing done name = by (decide_in starts name) (first_or_none (λ (one : Text). Contains (next one) name) done (λ one has. decide_in (next one) name))
    where
      by : Decided (Contains starts name) → FirstOf (λ (one : Text). Contains (next one) name) done ⊎ ((one : Text) → Contains done one → Contains (next one) name → ⊥)
          → Decided (Missing done name)
      by (inl start) found = inl (inl start)
      by (inr isnt) (inl found) = inl (inr (
        found.one,
        subst (λ (l : List Text). Contains l found.one) (sym found.cut)
            (Contains-append_right found.earlier (found.one ∷ found.later) found.one (in_first found.one found.later)),
        found.holds,
      ))
      by (inr isnt) (inr none) = inr (λ missing. ⊎_elim isnt (λ (p : (one : Text) × Contains done one × Contains (next one) name). none p.0 p.1 p.2) missing)

  -- these are met, and each name of the universe is one of them or remains
  record Covers (done rest : List Text) : Type 0 where
    met : (name : Text) → Contains done name → Met name
    inside : (name : Text) → Contains done name → Contains universe name
    cover : (name : Text) → Contains universe name → Contains done name ⊎ Contains rest name

  whole : (done rest : List Text) → Covers done rest → ((name : Text) → Contains rest name → Missing done name → ⊥) → Closed next starts Met
  whole done rest so none = record {
    names = done;
    met = so.met;
    begun = λ name start. ⊎_elim (λ (h : Contains done name). h) (λ (h : Contains rest name). absurd (none name h (inl start)))
        (so.cover name (starts_in name start));
    closed = λ name input has needed. ⊎_elim (λ (h : Contains done input). h)
        (λ (h : Contains rest input). absurd (none input h (inr (name, has, needed)))) (so.cover input (next_in name input (so.inside name has) needed));
  }

  with_one : (done rest : List Text) → Covers done rest → (found : FirstOf (Missing done) rest) → Covers (found.one ∷ done) (found.earlier ++ found.later)
  with_one done rest so found = record {
    met = λ name has. ⊎_elim (λ (same : found.one ≡ name). subst Met same one_met) (so.met name) (first_or_rest found.one name done has);
    inside = λ name has. ⊎_elim (λ (same : found.one ≡ name). subst (Contains universe) same one_inside) (so.inside name) (first_or_rest found.one name done has);
    cover = λ name has. ⊎_elim
        (λ (h : Contains done name). inl (in_rest found.one name done h))
        (λ (h : Contains rest name). ⊎_elim
        (λ (same : found.one ≡ name). inl (subst (Contains (found.one ∷ done)) same (in_first found.one done)))
        (λ (g : Contains (found.earlier ++ found.later) name). inr g)
        (in_cut found.earlier found.one found.later name (subst (λ (l : List Text). Contains l name) found.cut h)))
        (so.cover name has);
  }
    where
      one_met : Met found.one
      one_met = ⊎_elim (met_start found.one)
          (λ (p : (one : Text) × Contains done one × Contains (next one) found.one). met_next p.0 found.one (so.met p.0 p.1) p.2) found.holds

      one_inside : Contains universe found.one
      one_inside = ⊎_elim (starts_in found.one)
          (λ (p : (one : Text) × Contains done one × Contains (next one) found.one). next_in p.0 found.one (so.inside p.0 p.1) p.2) found.holds

  shorter : (n : ℕ) (earlier : List Text) (one : Text) (later rest : List Text) → rest ≡ earlier ++ one ∷ later → length rest ≤ suc n
      → length (earlier ++ later) ≤ n
  shorter n earlier one later rest cut short = grind (arith, length, length-append)

  closing_from : (n : ℕ) (done rest : List Text) → length rest ≤ n → Covers done rest → Closed next starts Met
  closing_from zero done [] short so = whole done [] so (λ name has missing. Contains-none name has)
  closing_from zero done (first ∷ rest) short so = absurd (omega (arith, short))
  closing_from (suc n) done rest short so =
      by (first_or_none (Missing done) rest (λ name has. decide_missing done name)) (closing_from n)
    where
      by : FirstOf (Missing done) rest ⊎ ((name : Text) → Contains rest name → Missing done name → ⊥)
          → ((more left : List Text) → length left ≤ n → Covers more left → Closed next starts Met) → Closed next starts Met
      by (inl found) go = go (found.one ∷ done) (found.earlier ++ found.later)
          (shorter n found.earlier found.one found.later rest found.cut short) (with_one done rest so found)
      by (inr none) go = whole done rest so none

  pub closing : Closed next starts Met
  closing = closing_from (length universe) [] universe (omega arith) (record {
    met = λ name has. Contains-none name has;
    inside = λ name has. Contains-none name has;
    cover = λ name has. inr has;
  })

-- a list of names that has the goals and, with a name, its inputs
pub record IsClosed (rules : List Entry) (known goals names : List Text) : Type 0 where
  pub begun : (name : Text) → Contains goals name → Contains names name
  pub closed : (name input : Text) → Contains names name → HasInput rules known name input → Contains names input
