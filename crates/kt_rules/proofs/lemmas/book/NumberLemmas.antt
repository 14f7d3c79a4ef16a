-- The numbers of the entries of explicit rules.
use Rattle.std.proofs.Common.{rules, ◌≡◌, ℕ, ◌+◌, Bool, cond, if◌then◌else◌, List, [], ◌∷◌, ◌++◌, map, filter, arith}
use Rattle.kt_rules.proofs.Common.{enumerate_from, flat_map, Text, Entry, suffixes_of, numbers_in, explicit_numbers}

-- a number for each item of a list that passes a test: the first item, and those after it
pub numbers_left : {A : Type 0} (test : A → Bool) (n : ℕ) (left rest : List A) (x : A) → left ≡ x ∷ rest
    → map (λ y. n) (filter test left) ≡ (if test x then n ∷ [] else []) ++ map (λ y. n) (filter test rest)
numbers_left {A} test n left rest x is = grind (arith, cond)

-- all rules are still to come
pub numbers_start : (rules left : List Entry) (count : ℕ) (name : Text) → left ≡ rules → count ≡ 0
    → flat_map (numbers_in (suffixes_of rules) name) (enumerate_from count left) ≡ explicit_numbers rules name
unfolding explicit_numbers
numbers_start rules left count name are none = grind arith

-- one rule, and then those after it
pub numbers_step : (suffixes : List Text) (name : Text) (rule : Entry) (left rest : List Entry) (count next : ℕ) → left ≡ rule ∷ rest → next ≡ count + 1
    → flat_map (numbers_in suffixes name) (enumerate_from count left)
    ≡ numbers_in suffixes name (count, rule) ++ flat_map (numbers_in suffixes name) (enumerate_from next rest)
numbers_step suffixes name rule left rest count next are more = grind arith
