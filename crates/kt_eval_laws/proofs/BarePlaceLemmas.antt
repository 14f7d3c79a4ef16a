-- The first place of a byte outside parentheses is found.
use Rattle.std.proofs.Common.{◌≡◌, ◌==◌, ◌&&◌, ◌<◌, ◌-◌, ◌+◌, ℕ, zero, suc, true, false, [], ◌∷◌, Option, Some, None, length, take, refl, sym, ap, subst, ◌∙◌, arith, zero-add, ⊎_elim, slice_index, MatchOption}
use Rattle.kt_eval.proofs.Common.{and_from, and_parts, cases_Bool, eq-eqb, eqb-true, false≢true, Text, Closes, after-close, after-open, after-other, closes-close, closes-open, closes-other, count_nil}
use Rattle.kt_list.proofs.general.Numbers.{above_zero, sum_suc}
use Rattle.kt_eval.specs.reading.Conditions.{bare_place}
use Rattle.kt_eval_laws.specs.BarePlaces.{BarePlaceLaw, IsBare, IsFirstBare}

-- the byte is at the place, and with a given number open before the text each is closed before it
record IsBareIn (wanted depth : ℕ) (text : Text) (place : ℕ) : Type 0 where
  within : place < length text
  is : slice_index text place ≡ wanted
  closes : Closes 40 41 depth (take place text)

-- the result of the search for a text that begins at a place
abbrev Search : ℕ → ℕ → ℕ → Text → Option ℕ → Type 0
Search wanted depth at text found =
    MatchOption found ((k : ℕ) → ¬ IsBareIn wanted depth text k)
    (λ place. (size : ℕ) × (place ≡ at + size) × IsBareIn wanted depth text size × ((k : ℕ) → k < size → ¬ IsBareIn wanted depth text k))

module _ (wanted depth deeper byte : ℕ) (text : Text) (out : (t : Text) → Closes 40 41 depth (byte ∷ t) → Closes 40 41 deeper t) where
  tail : (k : ℕ) → IsBareIn wanted depth (byte ∷ text) (suc k) → IsBareIn wanted deeper text k
  tail k bare = record { within = (let w = bare.within in omega arith); is = bare.is; closes = out (take k text) bare.closes }

  none_before : (size : ℕ) → ¬ IsBareIn wanted depth (byte ∷ text) 0 → ((k : ℕ) → k < size → ¬ IsBareIn wanted deeper text k)
      → (k : ℕ) → k < suc size → ¬ IsBareIn wanted depth (byte ∷ text) k
  none_before size not_here later zero l bare = not_here bare
  none_before size not_here later (suc k) l bare = later k (omega arith) (tail k bare)

  none_at_all : ¬ IsBareIn wanted depth (byte ∷ text) 0 → ((k : ℕ) → ¬ IsBareIn wanted deeper text k) → (k : ℕ) → ¬ IsBareIn wanted depth (byte ∷ text) k
  none_at_all not_here later zero bare = not_here bare
  none_at_all not_here later (suc k) bare = later k (tail k bare)

-- one byte that isn't the one
onward : (wanted depth deeper at byte : ℕ) (text : Text) → ¬ IsBareIn wanted depth (byte ∷ text) 0 → ((t : Text) → Closes 40 41 depth (byte ∷ t) → Closes 40 41 deeper t)
    → ((t : Text) → Closes 40 41 deeper t → Closes 40 41 depth (byte ∷ t)) → (found : Option ℕ) → Search wanted deeper (at + 1) text found
    → Search wanted depth at (byte ∷ text) found
onward wanted depth deeper at byte text not_here out back None later = none_at_all wanted depth deeper byte text out not_here later
onward wanted depth deeper at byte text not_here out back (Some place) later = (
  suc later.0,
  sum_suc at place later.0 later.1,
  record {
    within = (let w = later.2.within in omega arith);
    is = later.2.is;
    closes = back (take later.0 text) later.2.closes;
  },
  none_before wanted depth deeper byte text out later.0 not_here later.3,
)

-- the empty part at the start closes what is open only if nothing is
nothing_open : (depth : ℕ) → Closes 40 41 depth [] → depth ≡ 0
nothing_open depth c = let a = count_nil 40 in let b = count_nil 41 in let e = c.even in omega arith

closed_nothing : Closes 40 41 0 []
closed_nothing = grind (arith, count_nil, take)

not_this : (wanted depth byte : ℕ) (text : Text) → (depth == 0 && byte == wanted) ≡ false → ¬ IsBareIn wanted depth (byte ∷ text) 0
not_this wanted depth byte text h bare =
    let none = nothing_open depth bare.closes in
    false≢true (sym h ∙ and_from (depth == 0) (byte == wanted) (eq-eqb depth 0 none) (eq-eqb byte wanted bare.is))

at-here : (wanted depth at byte : ℕ) (text : Text) → (depth == 0 && byte == wanted) ≡ true → bare_place wanted depth at (byte ∷ text) ≡ Some at
unfolding bare_place
at-here wanted depth at byte text h = rw h refl

at-open : (wanted depth at byte : ℕ) (text : Text) → (depth == 0 && byte == wanted) ≡ false → (byte == 40) ≡ true
    → bare_place wanted depth at (byte ∷ text) ≡ bare_place wanted (depth + 1) (at + 1) text
unfolding bare_place
at-open wanted depth at byte text h g = rw (h, g) refl

at-end : (wanted depth at byte : ℕ) (text : Text) → (depth == 0 && byte == wanted) ≡ false → (byte == 40) ≡ false → (byte == 41) ≡ true → (depth == 0) ≡ true
    → bare_place wanted depth at (byte ∷ text) ≡ None
unfolding bare_place
at-end wanted depth at byte text h g f z = rw (h, g, f, z) refl

at-close : (wanted depth at byte : ℕ) (text : Text) → (depth == 0 && byte == wanted) ≡ false → (byte == 40) ≡ false → (byte == 41) ≡ true → (depth == 0) ≡ false
    → bare_place wanted depth at (byte ∷ text) ≡ bare_place wanted (depth - 1) (at + 1) text
unfolding bare_place
at-close wanted depth at byte text h g f z = rw (h, g, f, z) refl

at-other : (wanted depth at byte : ℕ) (text : Text) → (depth == 0 && byte == wanted) ≡ false → (byte == 40) ≡ false → (byte == 41) ≡ false
    → bare_place wanted depth at (byte ∷ text) ≡ bare_place wanted depth (at + 1) text
unfolding bare_place
at-other wanted depth at byte text h g f = rw (h, g, f) refl

at-nil : (wanted depth at : ℕ) → bare_place wanted depth at [] ≡ None
unfolding bare_place
at-nil wanted depth at = refl

-- a closing one without its opening one
no_more : (wanted depth byte : ℕ) (text : Text) → (depth == 0 && byte == wanted) ≡ false → (byte == 40) ≡ false → (byte == 41) ≡ true → depth ≡ 0
    → (k : ℕ) → ¬ IsBareIn wanted depth (byte ∷ text) k
no_more wanted depth byte text h g f z zero bare = not_this wanted depth byte text h bare
no_more wanted depth byte text h g f z (suc k) bare = let some = (after-close 40 41 depth byte (take k text) g f bare.closes).0 in omega arith

looked_for : (wanted depth at : ℕ) (text : Text) → Search wanted depth at text (bare_place wanted depth at text)
looked_for wanted depth at [] = subst (Search wanted depth at []) (sym (at-nil wanted depth at)) (λ k bare. let w = bare.within in omega arith)
looked_for wanted depth at (byte ∷ text) =
    ⊎_elim
    (λ h.
    let parts = and_parts (depth == 0) (byte == wanted) h in
    subst (Search wanted depth at (byte ∷ text)) (sym (at-here wanted depth at byte text h)) (
      0,
      omega arith,
      record {
        within = omega arith;
        is = eqb-true byte wanted parts.1;
        closes = subst (λ d. Closes 40 41 d []) (sym (eqb-true depth 0 parts.0)) closed_nothing;
      },
      (λ k l. absurd (omega arith)),
    ))
    (λ h.
    let here = not_this wanted depth byte text h in
    ⊎_elim
    (λ g.
    let other : (byte == 41) ≡ false = ap (λ b. b == 41) (eqb-true byte 40 g) in
    subst (Search wanted depth at (byte ∷ text)) (sym (at-open wanted depth at byte text h g))
    (onward wanted depth (depth + 1) at byte text here (λ t. after-open 40 41 depth byte t g other) (λ t. closes-open 40 41 depth byte t g other)
    (bare_place wanted (depth + 1) (at + 1) text) (looked_for wanted (depth + 1) (at + 1) text)))
    (λ g. ⊎_elim
    (λ f. ⊎_elim
    (λ z. subst (Search wanted depth at (byte ∷ text)) (sym (at-end wanted depth at byte text h g f z)) (no_more wanted depth byte text h g f (eqb-true depth 0 z)))
    (λ z. subst (Search wanted depth at (byte ∷ text)) (sym (at-close wanted depth at byte text h g f z))
    (onward wanted depth (depth - 1) at byte text here (λ t c. (after-close 40 41 depth byte t g f c).1) (λ t. closes-close 40 41 depth byte t g f (above_zero depth z))
    (bare_place wanted (depth - 1) (at + 1) text) (looked_for wanted (depth - 1) (at + 1) text)))
    (cases_Bool (depth == 0)))
    (λ f. subst (Search wanted depth at (byte ∷ text)) (sym (at-other wanted depth at byte text h g f))
    (onward wanted depth depth at byte text here (λ t. after-other 40 41 depth byte t g f) (λ t. closes-other 40 41 depth byte t g f)
    (bare_place wanted depth (at + 1) text) (looked_for wanted depth (at + 1) text)))
    (cases_Bool (byte == 41)))
    (cases_Bool (byte == 40)))
    (cases_Bool (depth == 0 && byte == wanted))

-- ---- nothing open before the text

bare_in : (wanted : ℕ) (text : Text) (place : ℕ) → IsBare wanted text place → IsBareIn wanted 0 text place
bare_in wanted text place bare = grind arith

bare_of : (wanted : ℕ) (text : Text) (place : ℕ) → IsBareIn wanted 0 text place → IsBare wanted text place
bare_of wanted text place bare = grind arith

first_bare : (wanted : ℕ) (text : Text) (found : Option ℕ) → Search wanted 0 0 text found → MatchOption found ((place : ℕ) → ¬ IsBare wanted text place) (IsFirstBare wanted text)
first_bare wanted text None none = λ place bare. none place (bare_in wanted text place bare)
first_bare wanted text (Some place) some = grind (arith, zero-add, bare_of, bare_in)

pub bare_place_law : BarePlaceLaw
bare_place_law wanted text = first_bare wanted text (bare_place wanted 0 0 text) (looked_for wanted 0 0 text)
