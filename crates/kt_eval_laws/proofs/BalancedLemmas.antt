-- The arguments of a balanced text.
use Rattle.std.proofs.Common.{◌≡◌, ◌==◌, ◌≤◌, ◌+◌, ℕ, zero, suc, false, List, [], ◌∷◌, ◌++◌, Option, length, take, refl, sym, ap, subst, ◌∙◌, arith}
use Rattle.kt_eval.proofs.Common.{All, join_with_byte, All-nil, All-cons, take-append-le, take_all, Text, byte_count, IsBalanced, count_no, opener, closer, arguments_of}
use Rattle.kt_syntax.specs.declared.term.Mark.{Mark}
use Rattle.kt_syntax.specs.declared.term.Mark.TheVariants.{Byte, Parentheses, Braces}
use Rattle.std.proofs.lemmas.List.Sums.{sum_by-append}
use Rattle.kt_eval_laws.specs.Arguments.{IsClosed, AreArguments}
use Rattle.kt_eval_laws.proofs.SplitLemmas.{all_head, all_tail, others_length, are_arguments}

count_append : (mark : ℕ) (xs ys : Text) → byte_count mark (xs ++ ys) ≡ byte_count mark xs + byte_count mark ys
unfolding byte_count
count_append mark xs ys = sum_by-append _ xs ys

-- a comma is no mark
comma_opens : (mark : Mark) → (44 == opener mark) ≡ false
comma_opens Byte = refl
comma_opens Parentheses = refl
comma_opens Braces = refl

comma_closes : (mark : Mark) → (44 == closer mark) ≡ false
comma_closes Byte = refl
comma_closes Parentheses = refl
comma_closes Braces = refl

-- a prefix of a first part is one of the whole
front_within : (n : ℕ) (xs ys : Text) → (m : ℕ) × (take m (xs ++ ys) ≡ take n xs)
front_within zero xs ys = (0, refl)
front_within (suc n) [] ys = (0, refl)
front_within (suc n) (x ∷ xs) ys = let at = front_within n xs ys in (suc at.0, ap (λ (l : Text). x ∷ l) at.1)

-- and a prefix of the rest, with all before it
front_after : (n : ℕ) (xs rest : Text) → (m : ℕ) × (take m (xs ++ 44 ∷ rest) ≡ xs ++ 44 ∷ take n rest)
front_after n [] rest = (suc n, refl)
front_after n (x ∷ xs) rest = let at = front_after n xs rest in (suc at.0, ap (λ (l : Text). x ∷ l) at.1)

-- the marks of what a comma cuts
count_cut : (mark : Mark) (first rest : Text)
    → (byte_count (opener mark) (first ++ 44 ∷ rest) ≡ byte_count (opener mark) first + byte_count (opener mark) rest)
    × (byte_count (closer mark) (first ++ 44 ∷ rest) ≡ byte_count (closer mark) first + byte_count (closer mark) rest)
count_cut mark first rest = grind (arith, count_append, count_no, comma_opens, comma_closes)

-- a text that closes no more than it opens, spelled in another way
closes_no_more : (mark : Mark) (text other : Text) → text ≡ other
    → byte_count (closer mark) text ≤ byte_count (opener mark) text
    → byte_count (closer mark) other ≤ byte_count (opener mark) other
closes_no_more mark text other same h = subst (λ (x : Text). byte_count (closer mark) x ≤ byte_count (opener mark) x) same h

first_even : (mark : Mark) (first rest : Text) → IsBalanced (opener mark) (closer mark) (first ++ 44 ∷ rest)
    → IsClosed mark first → byte_count (closer mark) first ≡ byte_count (opener mark) first
first_even mark first rest balanced closed =
    let all : take (length first) (first ++ 44 ∷ rest) ≡ first =
    take-append-le (length first) first (44 ∷ rest) (omega arith) ∙ take_all (length first) first (omega arith) in
    let front = closes_no_more mark _ _ all (balanced.fronts (length first)) in
    let back = closed 0 in
    omega (arith, front, back)

first_balanced : (mark : Mark) (first rest : Text)
    → IsBalanced (opener mark) (closer mark) (first ++ 44 ∷ rest) → IsClosed mark first
    → IsBalanced (opener mark) (closer mark) first
first_balanced mark first rest balanced closed = record {
  fronts = λ n.
      let at = front_within n first (44 ∷ rest) in
      closes_no_more mark _ _ at.1 (balanced.fronts at.0);
  even = first_even mark first rest balanced closed;
}

rest_balanced : (mark : Mark) (first rest : Text) → IsBalanced (opener mark) (closer mark) (first ++ 44 ∷ rest)
    → IsClosed mark first → IsBalanced (opener mark) (closer mark) rest
rest_balanced mark first rest balanced closed = record { fronts = λ n. front n; even = whole }
  where
    front : (n : ℕ) → byte_count (closer mark) (take n rest) ≤ byte_count (opener mark) (take n rest)
    front n =
        let at = front_after n first rest in
        let f = closes_no_more mark _ _ at.1 (balanced.fronts at.0) in
        let c = count_cut mark first (take n rest) in
        let e = first_even mark first rest balanced closed in
        let o = c.0 in
        let k = c.1 in
        omega (arith, f, o, k, e)

    whole : byte_count (closer mark) rest ≡ byte_count (opener mark) rest
    whole =
        let c = count_cut mark first rest in
        let o = c.0 in
        let k = c.1 in
        let e = first_even mark first rest balanced closed in
        let f = balanced.even in
        omega (arith, f, o, k, e)

each_balanced : (mark : Mark) (first : Text) (others : List Text)
    → IsBalanced (opener mark) (closer mark) (join_with_byte 44 (first ∷ others))
    → All (IsClosed mark) (take (length others) (first ∷ others))
    → All (IsBalanced (opener mark) (closer mark)) (first ∷ others)
each_balanced mark first [] balanced closed = grind (arith, All-cons, All-nil)
each_balanced mark first (next ∷ others) balanced closed =
    let shorter = take (length others) (next ∷ others) in
    let rest = join_with_byte 44 (next ∷ others) in
    let whole = all_head (IsClosed mark) first shorter closed in
    All-cons (IsBalanced (opener mark) (closer mark)) first (next ∷ others)
    (first_balanced mark first rest balanced whole)
    (each_balanced mark next others (rest_balanced mark first rest balanced whole)
    (all_tail (IsClosed mark) first shorter closed))

arguments_balanced : (mark : Mark) (limit : Option ℕ) (text : Text) (arguments : List Text)
    → AreArguments mark limit text arguments
    → IsBalanced (opener mark) (closer mark) text → All (IsBalanced (opener mark) (closer mark)) arguments
arguments_balanced mark limit text [] are balanced = All-nil (IsBalanced (opener mark) (closer mark))
arguments_balanced mark limit text (first ∷ others) are balanced =
    each_balanced mark first others (subst (IsBalanced (opener mark) (closer mark)) (sym are.joined) balanced)
    (subst (λ (n : ℕ). All (IsClosed mark) (take n (first ∷ others))) (others_length first others) are.closed)

pub balanced_arguments : (mark : Mark) (limit : Option ℕ) (text : Text)
    → IsBalanced (opener mark) (closer mark) text
    → All (IsBalanced (opener mark) (closer mark)) (arguments_of mark limit text)
balanced_arguments mark limit text balanced = arguments_balanced mark limit text (arguments_of mark limit text)
    (are_arguments mark limit text) balanced
