-- Pattern rules, target by target, and those that are kept.
use Rattle.std.proofs.Common.{arith, rules, ◌≡◌, ℕ, Bool, true, false, cond, not, ◌&&◌, ◌||◌, if◌then◌else◌, List, [], ◌∷◌, ◌++◌, map, filter, reverse, Vec, Global, refl, sym, ap, ◌∙◌, true≢false, nat_eq}
use Rattle.kt_rules.proofs.Common.{and_parts, option_to_list, filter_map, flat_map, list_any, append-nil, append_assoc, reverse-append, list_any-append, bytes_eq, pointwise, nat_list_eq_equiv, and_parts, or_swap, or_swap, Text, Target, Entry, is_made, patterns_in, suffix_rule_as_pattern, repeats, unrepeated, patterns_of, names_eq, suffixes_of}
use Rattle.std.specs.Cmp.Derive.Mapped.{pointwise-map}
use Rattle.std.proofs.lemmas.Cmp.{lists_equiv}
use Rattle.indexmap.specs.IndexSet.{insert_key}
use Rattle.kt_rules.specs.declared.book.pattern_set.PatternKey.{PatternKey}
use Rattle.kt_rules.specs.declared.book.pattern_set.PatternSet.{PatternSet}
use Rattle.kt_rules.specs.inner.Patterns.{suffix_rules_at, stays_before, held, has_repeated, has_pattern, IsKeyOf}

-- the rules after the remaining ones are sorted: the kept ones are in reverse order, and the set has them all
pub record IsSorted (all left kept : List Entry) (set : PatternSet) : Type 0 where
  pub past : List Entry
  pub whole : left ++ past ≡ all
  pub stay : reverse kept ≡ unrepeated past
  pub same : (rule : Entry) → has_pattern set rule ≡ list_any (repeats rule) past

one_suffix_rule : (suffixes : List Text) (rule : Entry) (target : Target) (rest : List Target) (b : Bool)
    → filter_map (suffix_rule_as_pattern suffixes) (map (λ t. (rule, t)) (cond b (target ∷ rest) rest))
    ≡ (if b then option_to_list (suffix_rule_as_pattern suffixes (rule, target)) else []) ++ filter_map (suffix_rule_as_pattern suffixes) (map (λ t. (rule, t)) rest)
one_suffix_rule suffixes rule target rest b = grind arith

-- the suffix rules of the remaining targets
pub suffix_rules_left : (suffixes : List Text) (rule : Entry) (left rest : List Target) (target : Target) → left ≡ target ∷ rest
    → filter_map (suffix_rule_as_pattern suffixes) (map (λ t. (rule, t)) (filter (is_made rule) left))
    ≡ suffix_rules_at suffixes rule target ++ filter_map (suffix_rule_as_pattern suffixes) (map (λ t. (rule, t)) (filter (is_made rule) rest))
suffix_rules_left suffixes rule left rest target is = grind (arith, one_suffix_rule)

-- ---- pattern rules that are kept

stay_more : (kept past : List Entry) (one : Entry) (b : Bool) → reverse kept ≡ unrepeated past
    → reverse (kept ++ (if b then one ∷ [] else [])) ≡ (if b then one ∷ unrepeated past else unrepeated past)
stay_more kept past one b h = grind (arith, reverse-append, reverse, append-nil)

-- one more is sorted
pub sorted_more : (all left before kept kept' : List Entry) (set set' : PatternSet) (one : Entry) → IsSorted all before kept set → before ≡ left ++ one ∷ []
    → kept' ≡ kept ++ (if stays_before set one then one ∷ [] else [])
    → ((rule : Entry) → has_pattern set' rule ≡ (repeats rule one || has_pattern set rule))
    → IsSorted all left kept' set'
sorted_more all left before kept kept' set set' one sorted popped k more = grind (arith, not, append_assoc, reverse, stay_more)

-- ---- the keys of a set

-- keys are equal if their names are
abbrev keys_eq : PatternKey → PatternKey → Bool
keys_eq key other =
    names_eq (held key.targets.items) (held other.targets.items)
    && (names_eq (held key.prerequisites.items) (held other.prerequisites.items) && names_eq (held key.order_only.items) (held other.order_only.items))

-- the same as the equality of the keys themselves
abbrev held_eq : Vec (Vec ℕ Global) Global → Vec (Vec ℕ Global) Global → Bool
held_eq names others = pointwise (λ (x y : Vec ℕ Global). pointwise nat_eq x.items y.items) names.items others.items

abbrev pub keys_equal : PatternKey → PatternKey → Bool
keys_equal key other = held_eq key.targets other.targets && (held_eq key.prerequisites other.prerequisites && held_eq key.order_only other.order_only)

held_same : (names others : List (Vec ℕ Global)) → names_eq (held names) (held others) ≡ pointwise (λ (x y : Vec ℕ Global). pointwise nat_eq x.items y.items) names others
held_same names others = pointwise-map (λ (name : Vec ℕ Global). name.items) bytes_eq names others

keys_same : (key other : PatternKey) → keys_equal key other ≡ keys_eq key other
keys_same key other = grind (arith, held_same)

any_same : (key : PatternKey) (keys : List PatternKey) → list_any (keys_equal key) keys ≡ list_any (keys_eq key) keys
any_same key [] = refl
any_same key (other ∷ keys) = grind (arith, keys_same, any_same key keys)

names_congr : (names x y : List Text) → names_eq x y ≡ true → names_eq names x ≡ names_eq names y
names_congr names x y h =
    (lists_equiv nat_list_eq_equiv).symm names x ∙ (lists_equiv nat_list_eq_equiv).congr x y names h ∙ (lists_equiv nat_list_eq_equiv).symm y names

-- equal keys have the names of the same rules
has_congr : (rule : Entry) (x y : PatternKey) → keys_eq x y ≡ true → has_repeated rule x ≡ has_repeated rule y
has_congr rule x y h = grind (arith, and_parts, names_congr)

or_twice : (a b : Bool) → (a || (a || b)) ≡ (a || b)
or_twice a b = grind arith

-- a key that is among others adds nothing
absorbed : (rule : Entry) (key : PatternKey) (keys : List PatternKey) → list_any (keys_eq key) keys ≡ true
    → (has_repeated rule key || list_any (has_repeated rule) keys) ≡ list_any (has_repeated rule) keys
absorbed rule key [] h = absurd (true≢false (sym h))
absorbed rule key (other ∷ keys) h = by (keys_eq key other) refl h (λ k. absorbed rule key keys k)
  where
    by : (b : Bool) → keys_eq key other ≡ b → (b || list_any (keys_eq key) keys) ≡ true
        → (list_any (keys_eq key) keys ≡ true → (has_repeated rule key || list_any (has_repeated rule) keys) ≡ list_any (has_repeated rule) keys)
        → (has_repeated rule key || (has_repeated rule other || list_any (has_repeated rule) keys)) ≡ (has_repeated rule other || list_any (has_repeated rule) keys)
    by true e k step = ap (λ b. b || (has_repeated rule other || list_any (has_repeated rule) keys)) (has_congr rule key other e) ∙ or_twice (has_repeated rule other) (list_any (has_repeated rule) keys)
    by false e k step = or_swap (has_repeated rule key) (has_repeated rule other) (list_any (has_repeated rule) keys) ∙ ap (λ b. has_repeated rule other || b) (step k)

key_repeats : (rule one : Entry) (key : PatternKey) → IsKeyOf one key → has_repeated rule key ≡ repeats rule one
key_repeats rule one key is = grind arith

-- one more rule is in the set
pub key_added : (rule one : Entry) (key : PatternKey) (old new : List PatternKey) → IsKeyOf one key → new ≡ insert_key keys_equal old key
    → list_any (has_repeated rule) new ≡ (repeats rule one || list_any (has_repeated rule) old)
key_added rule one key old new is grown = grind (arith, any_same, key_repeats, absorbed, list_any-append)

known : (one : Entry) (key : PatternKey) (keys : List PatternKey) → IsKeyOf one key → list_any (keys_eq key) keys ≡ list_any (has_repeated one) keys
known one key [] is = refl
known one key (other ∷ keys) is = grind (arith, known one key keys is)

-- whether a rule's key is among others
pub key_known : (one : Entry) (key : PatternKey) (keys : List PatternKey) → IsKeyOf one key → list_any (keys_equal key) keys ≡ list_any (has_repeated one) keys
key_known one key keys is = any_same key keys ∙ known one key keys is

-- the pattern rules of a book's rules
pub patterns_kept : (held : List Entry) (suffixes : List Text) (rules all : List Entry) → suffixes ≡ suffixes_of held → held ≡ rules
    → all ≡ flat_map (patterns_in suffixes) held → unrepeated all ≡ patterns_of rules
unfolding patterns_of
patterns_kept held suffixes rules all told is are = grind arith
