-- The rule whose recipe is used, with those before and after it, and what rules need together.
use Rattle.std.proofs.Common.{◌≡◌, ℕ, suc, zero, Bool, true, false, not, cond, ◌+◌, ◌-◌, ◌<◌, ◌≤◌, List, [], ◌∷◌, ◌++◌, length, map, filter, fold, take, drop, get_or, Option, Some, None, refl, sym, ap, ◌∙◌, arith, rules}
use Rattle.kt_graph.proofs.Common.{before_last, after_last, last_or, suffix_len, append-nil, append_assoc, drop_at, get_or-append_right, get_or_at, length-append, length-take, length_push, map-append, take-append-drop, take_all, take_at, take_more, take_rest, flat_map-append, filter-append, fold-append, suffix_len_is, Needs, Target, Entry, needs_for, no_needs, with_name, all_needs, Text, has_recipe, joined_after, needed_by_parts, Part, joined_needs, needs_after, other_rules}
use Rattle.kt_rules.specs.declared.book.target_rule.TargetRule.{TargetRule}

-- ---- the last that passes

first_fails : {A : Type 0} (p : A → Bool) (x : A) (xs : List A) (b : Bool) → p x ≡ b → cond b (x ∷ filter p xs) (filter p xs) ≡ []
    → (p x ≡ false) × (filter p xs ≡ [])
first_fails p x xs b e h = grind arith

-- if a filter keeps nothing, nothing passes
none_passes : {A : Type 0} (p : A → Bool) (xs : List A) → filter p xs ≡ [] → (k : ℕ) (d : A) → k < length xs → p (get_or xs k d) ≡ false
none_passes p [] h k d l = absurd (omega arith)
none_passes p (x ∷ xs) h zero d l = (first_fails p x xs (p x) refl h).0
none_passes p (x ∷ xs) h (suc k) d l = none_passes p xs (first_fails p x xs (p x) refl h).1 k d (omega arith)

last_pushed : {A : Type 0} (o : Option A) (xs : List A) (x : A) → last_or o (xs ++ x ∷ []) ≡ Some x
last_pushed o [] x = refl
last_pushed o (y ∷ xs) x = last_pushed (Some y) xs x

-- the last that passes, and what is before and after it
pub last_cut : {A : Type 0} (p : A → Bool) (before : List A) (x : A) (after : List A) → p x ≡ true → filter p after ≡ []
    → (last_or None (filter p (before ++ x ∷ after)) ≡ Some x)
    × (before_last p (before ++ x ∷ after) ≡ before) × (after_last p (before ++ x ∷ after) ≡ after)
last_cut p before x after passes none =
    let n = length before in
    let all = before ++ x ∷ after in
    let split : all ≡ (before ++ x ∷ []) ++ after = sym (append_assoc before (x ∷ []) after) in
    let len : length all ≡ n + 1 + length after = omega (arith, length-append before (x ∷ after)) in
    let fails : (k : ℕ) → n + 1 ≤ k → k < length all → not (p (get_or all k x)) ≡ true
    = λ k low high. ap (λ y. not (p y)) (ap (λ l. get_or l k x) split ∙ get_or-append_right (before ++ x ∷ []) after (n + 1) k x (length_push before x) low)
    ∙ ap not (none_passes p after none (k - (n + 1)) x (omega (arith, len))) in
    let ends : 0 < n + 1 → not (p (get_or all (n + 1 - 1) x)) ≡ false
    = λ _. ap (λ y. not (p y)) (get_or_at before x after x (n + 1 - 1) (omega arith)) ∙ ap not passes in
    let last : suffix_len (λ y. not (p y)) all ≡ length all - (n + 1)
    = suffix_len_is (λ y. not (p y)) all (n + 1) x (omega (arith, len)) fails ends in
    let kept : filter p all ≡ filter p before ++ x ∷ []
    = filter-append p before (x ∷ after)
    ∙ ap (λ l. filter p before ++ l) (ap (λ b. cond b (x ∷ filter p after) (filter p after)) passes ∙ ap (λ l. x ∷ l) none) in (
      ap (last_or None) kept ∙ last_pushed None (filter p before) x,
      ap (λ s. take (length all - s - 1) all) last ∙ take_at before (x ∷ after) (length all - (length all - (n + 1)) - 1) (omega (arith, len)),
      ap (λ s. drop (length all - s) all) last ∙ ap (λ l. drop (length all - (length all - (n + 1))) l) split
          ∙ drop_at (before ++ x ∷ []) after (length all - (length all - (n + 1))) (length_push before x ∙ omega (arith, len)),
    )

-- the same if the last of a first part passes, and nothing after that part does
pub used_at : {B A : Type 0} (p : A → Bool) (f : B → A) (all left : List B) (x : B) → left ≡ take (length left) all → 0 < length left
    → x ≡ get_or left (length left - 1) x → p (f x) ≡ true → filter p (map f (drop (length left) all)) ≡ []
    → (last_or None (filter p (map f all)) ≡ Some (f x))
    × (before_last p (map f all) ≡ map f (take (length left - 1) left))
    × (after_last p (map f all) ≡ map f (take (length all - (length (take (length left - 1) left) + 1)) (drop (length (take (length left - 1) left) + 1) all)))
used_at p f all left x within some at passes none =
    let n = length left - 1 in
    let front = take n left in
    let rest = drop (length left) all in
    let len : length front + 1 ≡ length left = omega (arith, length-take n left) in
    let cut : left ≡ front ++ x ∷ []
    = sym (take_all (n + 1) left (omega arith)) ∙ take_more left n x (omega arith) ∙ ap (λ y. front ++ y ∷ []) (sym at) in
    let whole : all ≡ front ++ x ∷ rest
    = sym (take-append-drop (length left) all) ∙ ap (λ l. l ++ rest) (sym within ∙ cut) ∙ append_assoc front (x ∷ []) rest in
    let told : map f all ≡ map f front ++ f x ∷ map f rest = ap (map f) whole ∙ map-append f front (x ∷ rest) in
    let found = last_cut p (map f front) (f x) (map f rest) passes none in
    let later : take (length all - (length front + 1)) (drop (length front + 1) all) ≡ rest
    = take_rest all (length front + 1) ∙ ap (λ k. drop k all) len in (
      ap (λ l. last_or None (filter p l)) told ∙ found.0,
      ap (before_last p) told ∙ found.1,
      ap (after_last p) told ∙ found.2 ∙ ap (map f) (sym later),
    )

-- ---- what rules need together

pub joined_told : (first : Needs) (earlier later : List (Entry × Target)) → joined_after first earlier later ≡ needs_after first (joined_needs (earlier ++ later))
unfolding joined_needs
joined_told first earlier later = grind (arith, flat_map-append)

-- without rules
pub joined_own : (first : Needs) → joined_after first [] [] ≡ first
joined_own first = grind (arith, append-nil)

-- without later ones
pub joined_first : (first : Needs) (rules : List (Entry × Target)) → joined_after first rules [] ≡ needs_after first (joined_needs rules)
joined_first first rules = joined_told first rules [] ∙ ap (λ l. needs_after first (joined_needs l)) (append-nil rules)

-- without first ones, too
pub joined_alone : (rules : List (Entry × Target)) → joined_after no_needs rules [] ≡ joined_needs rules
joined_alone rules = joined_first no_needs rules

-- the prerequisites of the rule whose recipe is used come first
pub used_needs : (first : Needs) (used : Entry × Target) (rules earlier later : List (Entry × Target)) → first ≡ needs_for used.0 used.1
    → before_last has_recipe rules ≡ earlier → after_last has_recipe rules ≡ later
    → joined_after first earlier later ≡ needs_after (needs_for used.0 used.1) (joined_needs (other_rules rules))
used_needs first used rules earlier later is before after = grind (arith, joined_told)

-- ---- the parts of a double-colon node

pub one_more_part : {A : Type 0} (f : Entry × Target → A) (g : TargetRule → Entry × Target) (rules : List TargetRule) (i : ℕ) (rule : TargetRule) → i < length rules → rule ≡ get_or rules i rule
    → map f (map g (take (i + 1) rules)) ≡ map f (map g (take i rules)) ++ f (g rule) ∷ []
one_more_part f g rules i rule h at =
    ap (λ (l : List TargetRule). map f (map g l)) (take_more rules i rule h)
    ∙ ap (λ (r : TargetRule). map f (map g (take i rules ++ r ∷ []))) (sym at)
    ∙ ap (map f) (map-append g (take i rules) (rule ∷ []))
    ∙ map-append f (map g (take i rules)) (g rule ∷ [])

pub needed_more : (names middle new : List Text) (parts : List Part) (part : Part) → middle ≡ fold with_name names (needed_by_parts parts)
    → new ≡ fold with_name middle (all_needs part.needs) → new ≡ fold with_name names (needed_by_parts (parts ++ part ∷ []))
needed_more names middle new parts part one other = grind (arith, fold-append, append-nil, flat_map-append)
