-- What pattern rules make of names: texts of bounded length, of the symbols that are there.
use Rattle.std.proofs.Common.{◌≡◌, ◌⊎◌, ◌≤◌, ◌<◌, ◌+◌, ◌-◌, ◌==◌, ◌&&◌, ℕ, zero, suc, Bool, true, false, not, List, [], ◌∷◌, ◌++◌, length, map, flat_map, take, drop, Option, Some, None, refl, sym, ap, subst, ⊎_elim, arith, if◌then◌else◌, fold, nat_le, option_map, filter_map}
use Rattle.kati.proofs.Common.{Contains, slice_range, option_and_then, option_to_list, leb-true, take-append-drop, Contains-append_cases, Contains-append_left, Contains-append_right, none-some, same_Some, Text, name_part, with_stem, Entry, after_dots, without_dots, all_needs, Candidate, are_short, candidate_by, candidate_of, candidates_for, directory_with_slash, fit_of, has_slash, left_out, matched_part, matching_from, needed_name, needed_names, nonempty, shorter, shortest, size_of, spelled_out, stem_of, unless_long, without_any, first_or_rest, from_flat_map, in_first, in_flat_map, in_rest, Contains-from_map, Contains-map, Contains-none, each_passes, Contains-from_filter_map}
use Rattle.kt_rules.specs.declared.line.entry.Target.{Target}
use Rattle.kt_text.specs.Match.{has_percent, pattern_back, pattern_front}
use Rattle.kt_graph.proofs.lemmas.search.GrowthLemmas.{from_by_size}
use Rattle.kt_graph.proofs.lemmas.nodes.MadeLemmas.{from_without_any, in_option}

-- ---- parts of lists

pub from_take : {A : Type 0} (n : ℕ) (xs : List A) (x : A) → Contains (take n xs) x → Contains xs x
from_take {A} n xs x has = subst (λ (l : List A). Contains l x) (take-append-drop n xs) (Contains-append_left (take n xs) (drop n xs) x has)

pub from_drop : {A : Type 0} (n : ℕ) (xs : List A) (x : A) → Contains (drop n xs) x → Contains xs x
from_drop {A} n xs x has = subst (λ (l : List A). Contains l x) (take-append-drop n xs) (Contains-append_right (take n xs) (drop n xs) x has)

-- ---- texts of few symbols

abbrev pub Below : ℕ → Text → Type 0
Below most text = (symbol : ℕ) → Contains text symbol → symbol < most

below_both : (most : ℕ) (one other : Text) → Below most one → Below most other → Below most (one ++ other)
below_both most one other first second symbol has = ⊎_elim (first symbol) (second symbol) (Contains-append_cases one other symbol has)

-- the numbers below a number
pub numbers : ℕ → List ℕ
numbers zero = []
numbers (suc n) = n ∷ numbers n

last_or_less : (n symbol : ℕ) → symbol < suc n → (n ≡ symbol) ⊎ (symbol < n)
last_or_less n symbol below = grind arith

in_numbers : (n symbol : ℕ) → symbol < n → Contains (numbers n) symbol
unfolding numbers
in_numbers zero symbol below = absurd (omega (arith, below))
in_numbers (suc n) symbol below = ⊎_elim
    (λ (same : n ≡ symbol). subst (Contains (n ∷ numbers n)) same (in_first n (numbers n)))
    (λ (less : symbol < n). in_rest n symbol (numbers n) (in_numbers n symbol less))
    (last_or_less n symbol below)

from_numbers : (n symbol : ℕ) → Contains (numbers n) symbol → symbol < n
unfolding numbers
from_numbers zero symbol has = Contains-none symbol has
from_numbers (suc n) symbol has = ⊎_elim
    (λ (same : n ≡ symbol). omega (arith, same))
    (λ (later : Contains (numbers n) symbol). omega (arith, from_numbers n symbol later))
    (first_or_rest n symbol (numbers n) has)

-- the texts of at most a number of symbols below a number
unfoldable pub texts : ℕ → ℕ → List Text
texts most zero = [] ∷ []
texts most (suc n) = [] ∷ flat_map (λ text. map (λ symbol. symbol ∷ text) (numbers most)) (texts most n)

pub in_texts : (most n : ℕ) (text : Text) → Below most text → length text ≤ n → Contains (texts most n) text
unfolding texts
in_texts most zero [] below short = in_first [] []
in_texts most zero (symbol ∷ text) below short = absurd (omega (arith, short))
in_texts most (suc n) [] below short = in_first [] (flat_map (λ text. map (λ symbol. symbol ∷ text) (numbers most)) (texts most n))
in_texts most (suc n) (symbol ∷ text) below short =
    in_rest [] (symbol ∷ text) (flat_map (λ rest. map (λ first. first ∷ rest) (numbers most)) (texts most n))
    (in_flat_map (λ rest. map (λ first. first ∷ rest) (numbers most)) (texts most n) text (symbol ∷ text)
    (in_texts most n text (λ one has. below one (in_rest symbol one text has)) (omega (arith, short)))
    (Contains-map (λ first. first ∷ text) (numbers most) symbol (in_numbers most symbol (below symbol (in_first symbol text)))))

pub from_texts : (most n : ℕ) (text : Text) → Contains (texts most n) text → Below most text
unfolding texts
from_texts most zero text has symbol inside = ⊎_elim
    (λ (same : [] ≡ text). Contains-none symbol (subst (λ (t : Text). Contains t symbol) (sym same) inside))
    (λ (none : Contains [] text). Contains-none text none)
    (first_or_rest [] text [] has)
from_texts most (suc n) text has symbol inside = ⊎_elim
    (λ (same : [] ≡ text). Contains-none symbol (subst (λ (t : Text). Contains t symbol) (sym same) inside))
    (λ (later : Contains (flat_map (λ rest. map (λ first. first ∷ rest) (numbers most)) (texts most n)) text).
    let found = from_flat_map (λ rest. map (λ first. first ∷ rest) (numbers most)) (texts most n) text later in
    let first = Contains-from_map (λ one. one ∷ found.0) (numbers most) text found.2 in ⊎_elim
    (λ (same : first.0 ≡ symbol). subst (λ (n : ℕ). n < most) same (from_numbers most first.0 first.1))
    (λ (rest : Contains found.0 symbol). from_texts most n found.0 found.1 symbol rest)
    (first_or_rest first.0 symbol found.0 (subst (λ (t : Text). Contains t symbol) (sym first.2) inside)))
    (first_or_rest [] text (flat_map (λ rest. map (λ first. first ∷ rest) (numbers most)) (texts most n)) has)

-- a number above all of these
pub bound : List ℕ → ℕ
bound [] = 48
bound (symbol ∷ symbols) = suc symbol + bound symbols

pub in_bound : (symbols : List ℕ) (symbol : ℕ) → Contains symbols symbol → symbol < bound symbols
unfolding bound
in_bound [] symbol has = Contains-none symbol has
in_bound (first ∷ symbols) symbol has = ⊎_elim
    (λ (same : first ≡ symbol). omega (arith, same))
    (λ (later : Contains symbols symbol). omega (arith, in_bound symbols symbol later))
    (first_or_rest first symbol symbols has)

pub least_bound : (symbols : List ℕ) → 48 ≤ bound symbols
unfolding bound
least_bound [] = omega arith
least_bound (symbol ∷ symbols) = omega (arith, least_bound symbols)

-- ---- what a pattern makes of a text

module _ (most : ℕ) (enough : 48 ≤ most) where
  dots_fit : (drops : Bool) (name : Text) → Below most name → Below most (after_dots drops name) × (length (after_dots drops name) ≤ length name)
  unfolding after_dots
  dots_fit drops [] below = (below, omega arith)
  dots_fit drops (byte ∷ []) below = by (drops && byte == 47)
    where
      by : (b : Bool) → Below most (if b then [] else byte ∷ []) × (length (if b then [] else byte ∷ []) ≤ 1)
      by true = (λ symbol has. Contains-none symbol has, omega arith)
      by false = (below, omega arith)
  dots_fit drops (byte ∷ next ∷ text) below =
      by (drops && byte == 47) (byte == 46 && next == 47)
      (dots_fit true (next ∷ text) (λ symbol has. below symbol (in_rest byte symbol (next ∷ text) has)))
      (dots_fit true text (λ symbol has. below symbol (in_rest byte symbol (next ∷ text) (in_rest next symbol text has))))
    where
      by : (b c : Bool) → Below most (after_dots true (next ∷ text)) × (length (after_dots true (next ∷ text)) ≤ length (next ∷ text))
          → Below most (after_dots true text) × (length (after_dots true text) ≤ length text)
          → Below most (if b then after_dots true (next ∷ text) else (if c then after_dots true text else byte ∷ next ∷ text))
          × (length (if b then after_dots true (next ∷ text) else (if c then after_dots true text else byte ∷ next ∷ text)) ≤ length (byte ∷ next ∷ text))
      by true c one two = (one.0, omega (arith, one.1))
      by false true one two = (two.0, omega (arith, two.1))
      by false false one two = (below, omega arith)

  here_fits : Below most (46 ∷ 47 ∷ [])
  here_fits symbol has = ⊎_elim
      (λ (same : 46 ≡ symbol). omega (arith, same, enough))
      (λ (h : Contains (47 ∷ []) symbol). ⊎_elim
      (λ (same : 47 ≡ symbol). omega (arith, same, enough)) (λ (none : Contains [] symbol). Contains-none symbol none) (first_or_rest 47 symbol [] h))
      (first_or_rest 46 symbol (47 ∷ []) has)

  without_fits : (name : Text) → Below most name → length name ≤ 4096 → Below most (without_dots name) × (length (without_dots name) ≤ 4096)
  unfolding without_dots
  without_fits name below short =
      by (length (after_dots false name) == 0 && not (length name == 0)) (dots_fit false name below)
    where
      by : (b : Bool) → Below most (after_dots false name) × (length (after_dots false name) ≤ length name)
          → Below most (if b then 46 ∷ 47 ∷ [] else after_dots false name) × (length (if b then 46 ∷ 47 ∷ [] else after_dots false name) ≤ 4096)
      by true fits = (here_fits, omega arith)
      by false fits = (fits.0, omega (arith, fits.1, short))

  stem_fits : (name stem : Text) → Below most name → Below most stem → Below most (with_stem name stem)
  unfolding pattern_front pattern_back
  stem_fits name stem below fits = by (has_percent name)
    where
      by : (b : Bool) → Below most (if b then pattern_front name ++ (stem ++ pattern_back name) else name)
      by true = below_both most (pattern_front name) (stem ++ pattern_back name) (λ symbol has. below symbol (from_take _ name symbol has))
          (below_both most stem (pattern_back name) fits (λ symbol has. below symbol (from_drop _ name symbol has)))
      by false = below

  needed_fits : (directory stem name : Text) → Below most name → Below most directory → Below most stem
      → length (spelled_out directory stem name) ≤ 4096 → Below most (needed_name directory stem name) × (length (needed_name directory stem name) ≤ 4096)
  needed_fits directory stem name below first second short = by (has_percent name) short
    where
      by : (b : Bool) → length (if b then directory ++ with_stem name stem else name) ≤ 4096
          → Below most (if b then without_dots (if b then directory ++ with_stem name stem else name) else name)
          × (length (if b then without_dots (if b then directory ++ with_stem name stem else name) else name) ≤ 4096)
      by true e = without_fits (directory ++ with_stem name stem) (below_both most directory (with_stem name stem) first (stem_fits name stem below second)) e
      by false e = (below, e)

  -- ---- a candidate

  fit_below : (pattern name : Text) (fit : Text × Text) → Below most name → fit_of pattern name ≡ Some fit → Below most fit.0 × Below most fit.1
  unfolding fit_of stem_of
  fit_below pattern name fit below is = by (Rattle.kt_text.specs.Match.stem_span pattern (matched_part pattern name)) is
    where
      part_below : (b : Bool) → Below most (if b then name else name_part name)
      part_below true = below
      part_below false = λ symbol has. below symbol (from_drop _ name symbol has)

      left_below : (b : Bool) → Below most (if b then [] else directory_with_slash name)
      left_below true = λ symbol has. Contains-none symbol has
      left_below false = λ symbol has. below symbol (from_take _ name symbol has)

      span_below : (place : ℕ × ℕ) → Below most (slice_range (matched_part pattern name) place.0 place.1)
      span_below place = λ symbol has. part_below (has_slash pattern) symbol
          (from_drop place.0 (matched_part pattern name) symbol (from_take (place.1 - place.0) (drop place.0 (matched_part pattern name)) symbol has))

      told : (stem : Text) → (b : Bool) → option_map (λ one. (left_out pattern name, one)) (if b then Some stem else None) ≡ Some fit → (left_out pattern name, stem) ≡ fit
      told stem true e = same_Some (left_out pattern name, stem) fit e
      told stem false e = absurd (none-some fit e)

      by : (span : Option (ℕ × ℕ)) → option_map (λ stem. (left_out pattern name, stem))
          (option_and_then (λ place. nonempty (slice_range (matched_part pattern name) place.0 place.1)) span) ≡ Some fit → Below most fit.0 × Below most fit.1
      by None e = absurd (none-some fit e)
      by (Some place) e =
          let same = told (slice_range (matched_part pattern name) place.0 place.1) _ e in (
            subst (λ (t : Text). Below most t) (ap (λ (p : Text × Text). p.0) same) (left_below (has_slash pattern)),
            subst (λ (t : Text). Below most t) (ap (λ (p : Text × Text). p.1) same) (span_below place),
          )

  -- a candidate of a rule that is short
  record IsOf (rule : Entry) (name : Text) (one : Candidate) : Type 0 where
    fit : Text × Text
    pattern : Text
    is_fit : fit_of pattern name ≡ Some fit
    directory : one.directory ≡ fit.0
    stem : one.stem ≡ fit.1
    prerequisites : one.needs.prerequisites ≡ needed_names fit.0 fit.1 rule.needs.prerequisites
    order_only : one.needs.order_only ≡ needed_names fit.0 fit.1 rule.needs.order_only

  by_is : (number : ℕ) (rule : Entry) (name : Text) (target : Target) (one : Candidate) → candidate_by number rule name target ≡ Some one → IsOf rule name one
  by_is number rule name target one e = grind (arith, none-some)

  shorter_of : (P : Candidate → Type 0) (best : Candidate) (others : List Candidate) → P best → ((one : Candidate) → Contains others one → P one) → P (fold shorter best others)
  shorter_of P best [] first rest = first
  shorter_of P best (other ∷ others) first rest =
      shorter_of P (shorter best other) others (by (nat_le (size_of best) (size_of other))) (λ one has. rest one (in_rest other one others has))
    where
      by : (b : Bool) → P (if b then best else other)
      by true = first
      by false = rest other (in_first other others)

  shortest_of : (P : Candidate → Type 0) (candidates : List Candidate) (one : Candidate) → ((one : Candidate) → Contains candidates one → P one) → shortest candidates ≡ Some one → P one
  shortest_of P [] one each e = absurd (none-some one e)
  shortest_of P (candidate ∷ candidates) one each e = subst P (same_Some (fold shorter candidate candidates) one e)
      (shorter_of P candidate candidates (each candidate (in_first candidate candidates)) (λ other has. each other (in_rest candidate other candidates has)))

  candidate_is : (number : ℕ) (rule : Entry) (name : Text) (one : Candidate) → candidate_of number rule name ≡ Some one
      → IsOf rule name one × (are_short one.directory one.stem rule.needs ≡ true)
  unfolding candidate_of
  candidate_is number rule name one e = by (shortest (filter_map (candidate_by number rule name) rule.targets)) refl e
    where
      short : (candidate : Candidate) (b : Bool) → are_short candidate.directory candidate.stem rule.needs ≡ b → (if b then Some candidate else None) ≡ Some one
          → (candidate ≡ one) × (are_short candidate.directory candidate.stem rule.needs ≡ true)
      short candidate true is e = (same_Some candidate one e, is)
      short candidate false is e = absurd (none-some one e)

      by : (o : Option Candidate) → shortest (filter_map (candidate_by number rule name) rule.targets) ≡ o → option_and_then (unless_long rule) o ≡ Some one
          → IsOf rule name one × (are_short one.directory one.stem rule.needs ≡ true)
      by None f e = absurd (none-some one e)
      by (Some candidate) f e =
          let so = short candidate (are_short candidate.directory candidate.stem rule.needs) refl e in (
            subst (IsOf rule name) so.0 (shortest_of (IsOf rule name) (filter_map (candidate_by number rule name) rule.targets) candidate
                (λ other has. let found = Contains-from_filter_map (candidate_by number rule name) rule.targets other has in by_is number rule name found.0 other found.2) f),
            subst (λ (c : Candidate). are_short c.directory c.stem rule.needs ≡ true) so.0 so.1,
          )

  needs_fit : (directory stem : Text) (names : List Text) (input : Text) → Below most directory → Below most stem
      → ((name : Text) → Contains names name → Below most name × (length (spelled_out directory stem name) ≤ 4096))
      → Contains (needed_names directory stem names) input → Below most input × (length input ≤ 4096)
  unfolding needed_names
  needs_fit directory stem names input first second each has =
      let found = Contains-from_map (needed_name directory stem) names input has in
      subst (λ (t : Text). Below most t × (length t ≤ 4096)) found.2
      (needed_fits directory stem found.0 (each found.0 found.1).0 first second (each found.0 found.1).1)

  candidate_fits : (rule : Entry) (name : Text) (one : Candidate) (input : Text) → Below most name → ((need : Text) → Contains (all_needs rule.needs) need → Below most need)
      → IsOf rule name one → are_short one.directory one.stem rule.needs ≡ true → Contains (all_needs one.needs) input → Below most input × (length input ≤ 4096)
  candidate_fits rule name one input below needs of short has =
      let fits = fit_below of.pattern name of.fit below of.is_fit in
      let each : (need : Text) → Contains (all_needs rule.needs) need → Below most need × (length (spelled_out of.fit.0 of.fit.1 need) ≤ 4096)
      = λ need h. (
        needs need h,
        short_one of.fit.0 of.fit.1 need
            (each_passes (λ n. nat_le (length (spelled_out of.fit.0 of.fit.1 n)) 4096) (all_needs rule.needs)
            (subst (λ (t : Text). are_short of.fit.0 t rule.needs ≡ true) of.stem (subst (λ (t : Text). are_short t one.stem rule.needs ≡ true) of.directory short)) need h),
      ) in
      ⊎_elim
      (λ (h : Contains one.needs.prerequisites input). needs_fit of.fit.0 of.fit.1 rule.needs.prerequisites input fits.0 fits.1
      (λ need g. each need (Contains-append_left rule.needs.prerequisites rule.needs.order_only need g))
      (subst (λ (l : List Text). Contains l input) of.prerequisites h))
      (λ (h : Contains one.needs.order_only input). needs_fit of.fit.0 of.fit.1 rule.needs.order_only input fits.0 fits.1
      (λ need g. each need (Contains-append_right rule.needs.prerequisites rule.needs.order_only need g))
      (subst (λ (l : List Text). Contains l input) of.order_only h))
      (Contains-append_cases one.needs.prerequisites one.needs.order_only input has)
    where
      short_one : (directory stem need : Text) → nat_le (length (spelled_out directory stem need)) 4096 ≡ true → length (spelled_out directory stem need) ≤ 4096
      short_one directory stem need e = leb-true (length (spelled_out directory stem need)) 4096 e

  matching_is : (number : ℕ) (rules : List Entry) (name : Text) (one : Candidate) → Contains (matching_from number rules name) one
      → (at : ℕ) × (rule : Entry) × Contains rules rule × (candidate_of at rule name ≡ Some one)
  unfolding matching_from
  matching_is number [] name one has = Contains-none one has
  matching_is number (rule ∷ rules) name one has = ⊎_elim
      (λ (here : Contains (option_to_list (candidate_of number rule name)) one). (number, rule, in_first rule rules, in_option (candidate_of number rule name) one here))
      (λ (later : Contains (matching_from (number + 1) rules name) one).
      let found = matching_is (number + 1) rules name one later in (found.0, found.1, in_rest rule found.1 rules found.2, found.3))
      (Contains-append_cases (option_to_list (candidate_of number rule name)) (matching_from (number + 1) rules name) one has)

  -- the prerequisites of a candidate of some rules fit
  pub chosen_fits : (rules : List Entry) (in_chain : Bool) (name : Text) (one : Candidate) (input : Text) → Below most name
      → ((rule : Entry) (need : Text) → Contains rules rule → Contains (all_needs rule.needs) need → Below most need)
      → Contains (candidates_for rules in_chain name) one → Contains (all_needs one.needs) input → Below most input × (length input ≤ 4096)
  unfolding candidates_for
  chosen_fits rules in_chain name one input below needs has needed =
      let found = matching_is 0 rules name one (from_without_any in_chain (matching_from 0 rules name) one (from_by_size name (without_any in_chain (matching_from 0 rules name)) one has)) in
      let is = candidate_is found.0 found.1 name one found.3 in
      candidate_fits found.1 name one input below (λ need h. needs found.1 need found.2 h) is.0 is.1 needed
