-- The arguments of a call, each without the text before it.
use Rattle.std.proofs.Common.{◌≡◌, ◌==◌, ◌&&◌, ◌≤◌, ◌+◌, ◌-◌, ℕ, zero, suc, true, false, List, [], ◌∷◌, ◌++◌, Option, Some, None, length, take, get_or, refl, sym, ap, subst, ◌∙◌, append_assoc, append-nil, ⊎_elim, arith, if◌then◌else◌}
use Rattle.kt_eval.proofs.Common.{cases_Bool, eqb-true, eq-eqb, and_from, and_parts, false_from_ne_true, true≢false, false≢true, All, join_with_byte, onto_first, All-nil, All-cons, Text, byte_count, count_yes, count_no, count_nil, opener, closer, may_cut, cuts_arguments, one_less, nested, arguments_from, arguments_of}
use Rattle.kt_syntax.specs.declared.term.Mark.{Mark}
use Rattle.kt_syntax.specs.declared.term.Mark.TheVariants.{Byte, Parentheses, Braces}
use Rattle.kt_eval_laws.specs.Arguments.{IsClosed, HoldsNoCut, IsUpTo, AreArguments}

-- the arguments of a text in which this many marks are open
unfoldable pub split : Mark → Option ℕ → ℕ → Text → List Text
split mark left depth [] = [] ∷ []
split mark left depth (byte ∷ text) =
    if cuts_arguments byte depth left then [] ∷ split mark (one_less left) depth text
    else onto_first byte (split mark left (nested mark depth byte) text)

-- what comes before the first argument
before : Text → List Text → List Text
before argument [] = argument ∷ []
before argument (part ∷ parts) = (argument ++ part) ∷ parts

before-first : (argument : Text) (byte : ℕ) (parts : List Text)
    → before argument (onto_first byte parts) ≡ before (argument ++ byte ∷ []) parts
unfolding before
before-first argument byte [] = refl
before-first argument byte (part ∷ parts) = ap (λ (x : Text). x ∷ parts) (sym (append_assoc argument (byte ∷ []) part))

before-nothing : (byte : ℕ) (parts : List Text) → before [] (onto_first byte parts) ≡ onto_first byte parts
unfolding before
before-nothing byte [] = refl
before-nothing byte (part ∷ parts) = refl

split-cut : (mark : Mark) (left : Option ℕ) (depth byte : ℕ) (text : Text) → cuts_arguments byte depth left ≡ true
    → split mark left depth (byte ∷ text) ≡ [] ∷ split mark (one_less left) depth text
unfolding split
split-cut mark left depth byte text h = rw h refl

split-uncut : (mark : Mark) (left : Option ℕ) (depth byte : ℕ) (text : Text) → cuts_arguments byte depth left ≡ false
    → split mark left depth (byte ∷ text) ≡ onto_first byte (split mark left (nested mark depth byte) text)
unfolding split
split-uncut mark left depth byte text h = rw h refl

from-cut : (mark : Mark) (left : Option ℕ) (depth byte : ℕ) (argument text : Text) → cuts_arguments byte depth left ≡ true
    → arguments_from mark left depth argument (byte ∷ text)
    ≡ argument ∷ arguments_from mark (one_less left) depth [] text
unfolding arguments_from
from-cut mark left depth byte argument text h = rw h refl

from-uncut : (mark : Mark) (left : Option ℕ) (depth byte : ℕ) (argument text : Text) → cuts_arguments byte depth left ≡ false
    → arguments_from mark left depth argument (byte ∷ text)
    ≡ arguments_from mark left (nested mark depth byte) (argument ++ byte ∷ []) text
unfolding arguments_from
from-uncut mark left depth byte argument text h = rw h refl

before-split : (mark : Mark) (left : Option ℕ) (depth : ℕ) (text : Text)
    → before [] (split mark left depth text) ≡ split mark left depth text
unfolding split before
before-split mark left depth [] = refl
before-split mark left depth (byte ∷ text) = grind (arith, ⊎_elim, before, split-cut, split-uncut, before-nothing, cases_Bool)

from-split : (mark : Mark) (left : Option ℕ) (depth : ℕ) (argument text : Text)
    → arguments_from mark left depth argument text ≡ before argument (split mark left depth text)
unfolding split before arguments_from
from-split mark left depth argument [] = ap (λ (x : Text). x ∷ []) (sym (append-nil argument))
from-split mark left depth argument (byte ∷ text) = grind (arith, ⊎_elim, from-cut, before-split, append-nil, before, split-cut, from-uncut, before-first, split-uncut, cases_Bool, from-split mark (one_less left) depth [] text, from-split mark left (nested mark depth byte) (argument ++ byte ∷ []) text)

pub arguments-split : (mark : Mark) (limit : Option ℕ) (text : Text)
    → arguments_of mark limit text ≡ split mark limit 0 text
unfolding arguments_of
arguments-split mark limit text = from-split mark limit 0 [] text ∙ before-split mark limit 0 text

-- ---- how many marks are open at the end of a text

pub open_after : Mark → ℕ → Text → ℕ
open_after mark depth [] = depth
open_after mark depth (byte ∷ text) = open_after mark (nested mark depth byte) text

nested-open : (mark : Mark) (depth byte : ℕ) → (byte == opener mark) ≡ true → nested mark depth byte ≡ depth + 1
nested-open mark depth byte h = rw h refl

nested-close : (mark : Mark) (depth byte : ℕ) → (byte == opener mark) ≡ false → (byte == closer mark) ≡ true
    → nested mark depth byte ≡ depth - 1
nested-close mark depth byte h k = rw (h, k) refl

nested-other : (mark : Mark) (depth byte : ℕ) → (byte == opener mark) ≡ false → (byte == closer mark) ≡ false
    → nested mark depth byte ≡ depth
nested-other mark depth byte h k = rw (h, k) refl

no_closer : (mark : Mark) (byte : ℕ) → (byte == opener mark) ≡ true → (byte == closer mark) ≡ false
no_closer Byte byte h = ap (λ (b : ℕ). b == 41) (eqb-true byte 40 h)
no_closer Parentheses byte h = ap (λ (b : ℕ). b == 41) (eqb-true byte 40 h)
no_closer Braces byte h = ap (λ (b : ℕ). b == 125) (eqb-true byte 123 h)

-- what one more byte at the start changes in the counts and the depth
data Moves (mark : Mark) (depth byte : ℕ) (text : Text) : Type 0 where
  opens : (nested mark depth byte ≡ depth + 1)
      → (byte_count (opener mark) (byte ∷ text) ≡ 1 + byte_count (opener mark) text)
      → (byte_count (closer mark) (byte ∷ text) ≡ byte_count (closer mark) text) → Moves mark depth byte text
  closes : (nested mark depth byte ≡ depth - 1)
      → (byte_count (opener mark) (byte ∷ text) ≡ byte_count (opener mark) text)
      → (byte_count (closer mark) (byte ∷ text) ≡ 1 + byte_count (closer mark) text) → Moves mark depth byte text
  stays : (nested mark depth byte ≡ depth)
      → (byte_count (opener mark) (byte ∷ text) ≡ byte_count (opener mark) text)
      → (byte_count (closer mark) (byte ∷ text) ≡ byte_count (closer mark) text) → Moves mark depth byte text

moves : (mark : Mark) (depth byte : ℕ) (text : Text) → Moves mark depth byte text
moves mark depth byte text = grind (arith, ⊎_elim, nested-open, count_yes, count_no, no_closer, nested-close, nested-other, cases_Bool)

-- the marks of a text and those that are open before it are closed in it
record ClosesAll (mark : Mark) (depth : ℕ) (text : Text) : Type 0 where
  backs : IsClosed mark text
  all : byte_count (opener mark) text + depth ≤ byte_count (closer mark) text

nil_closed : (mark : Mark) → IsClosed mark []
nil_closed mark zero = let a = count_nil (opener mark) in omega (arith, a)
nil_closed mark (suc n) = let a = count_nil (opener mark) in omega (arith, a)

cons_closed : (mark : Mark) (byte : ℕ) (text : Text)
    → byte_count (opener mark) (byte ∷ text) ≤ byte_count (closer mark) (byte ∷ text) → IsClosed mark text
    → IsClosed mark (byte ∷ text)
cons_closed mark byte text h closed zero = h
cons_closed mark byte text h closed (suc n) = closed n

-- one more byte at the start
closes_cons : (mark : Mark) (depth byte : ℕ) (text : Text) → ClosesAll mark (nested mark depth byte) text
    → byte_count (opener mark) (byte ∷ text) + depth ≤ byte_count (closer mark) (byte ∷ text)
    → ClosesAll mark depth (byte ∷ text)
closes_cons mark depth byte text k whole = grind (arith, cons_closed)

closes_more : (mark : Mark) (depth byte : ℕ) (text : Text) → Moves mark depth byte text
    → ClosesAll mark (nested mark depth byte) text → ClosesAll mark depth (byte ∷ text)
closes_more mark depth byte text (opens n o c) k = grind (arith, closes_cons)
closes_more mark depth byte text (closes n o c) k = grind (arith, closes_cons)
closes_more mark depth byte text (stays n o c) k = grind (arith, closes_cons)

closes_tail : (mark : Mark) (depth byte : ℕ) (text : Text) → ClosesAll mark depth (byte ∷ text)
    → byte_count (opener mark) text + nested mark depth byte ≤ byte_count (closer mark) text
    → ClosesAll mark (nested mark depth byte) text
closes_tail mark depth byte text k whole = record { backs = λ m. k.backs (suc m); all = whole }

closes_less : (mark : Mark) (depth byte : ℕ) (text : Text) → Moves mark depth byte text
    → ClosesAll mark depth (byte ∷ text) → ClosesAll mark (nested mark depth byte) text
closes_less mark depth byte text (opens n o c) k = grind (arith, closes_tail)
closes_less mark depth byte text (closes n o c) k =
    let all = k.all in
    let back = k.backs 1 in
    closes_tail mark depth byte text k (omega (arith, n, o, c, all, back))
closes_less mark depth byte text (stays n o c) k = grind (arith, closes_tail)

closes_from : (mark : Mark) (depth : ℕ) (text : Text) → open_after mark depth text ≡ 0 → ClosesAll mark depth text
unfolding open_after
closes_from mark depth [] e = grind (arith, count_nil, nil_closed)
closes_from mark depth (byte ∷ text) e =
    closes_more mark depth byte text (moves mark depth byte text) (closes_from mark (nested mark depth byte) text e)

closes_to : (mark : Mark) (depth : ℕ) (text : Text) → ClosesAll mark depth text → open_after mark depth text ≡ 0
unfolding open_after
closes_to mark depth [] k = grind (arith, count_nil)
closes_to mark depth (byte ∷ text) k = grind (arith, closes_less, moves, closes_to mark (nested mark depth byte) text (closes_less mark depth byte text (moves mark depth byte text) k))

-- a text is closed if no mark is open at its end
pub closed_from : (mark : Mark) (text : Text) → open_after mark 0 text ≡ 0 → IsClosed mark text
closed_from mark text e = (closes_from mark 0 text e).backs

pub closed_to : (mark : Mark) (text : Text) → IsClosed mark text → open_after mark 0 text ≡ 0
closed_to mark text closed = let whole = closed 0 in closes_to mark 0 text
    (record { backs = closed; all = omega (arith, whole) })

-- ---- the relation

pub all_head : (P : Text → Type 0) (first : Text) (others : List Text) → All P (first ∷ others) → P first
all_head P first others all = all 0 first (omega arith)

pub all_tail : (P : Text → Type 0) (first : Text) (others : List Text) → All P (first ∷ others) → All P others
all_tail P first others all k d within = all (suc k) d (omega (arith, within))

-- no byte of a text cuts, before which this many marks are open
abbrev Uncut : Mark → ℕ → Text → Type 0
Uncut mark depth text = (front back : Text) → text ≡ front ++ 44 ∷ back → open_after mark depth front ≡ 0 → ⊥

uncut_from : (mark : Mark) (text : Text) → HoldsNoCut mark text → Uncut mark 0 text
uncut_from mark text whole front back e z = whole front back e (closed_from mark front z)

uncut_to : (mark : Mark) (text : Text) → Uncut mark 0 text → HoldsNoCut mark text
uncut_to mark text uncut front back e closed = uncut front back e (closed_to mark front closed)

nil_cut : (front back : Text) → [] ≡ front ++ 44 ∷ back → ⊥
nil_cut [] back e = let l = ap length e in absurd (omega (arith, l))
nil_cut (byte ∷ front) back e = let l = ap length e in absurd (omega (arith, l))

cut_byte : (byte depth : ℕ) (left : Option ℕ) → byte ≡ 44 → depth ≡ 0 → may_cut left ≡ true
    → cuts_arguments byte depth left ≡ true
cut_byte byte depth left comma even more = grind (arith, and_from, eq-eqb)

uncut_byte : (mark : Mark) (left : Option ℕ) (depth byte : ℕ) (text : Text)
    → (may_cut left ≡ true → Uncut mark depth (byte ∷ text)) → cuts_arguments byte depth left ≡ false
unfolding open_after
uncut_byte mark left depth byte text uncut =
    false_from_ne_true (cuts_arguments byte depth left) (λ h.
    let comma = and_parts (byte == 44) (depth == 0 && may_cut left) h in
    let even = and_parts (depth == 0) (may_cut left) comma.1 in
    uncut even.1 [] text (ap (λ (b : ℕ). b ∷ text) (eqb-true byte 44 comma.0)) (eqb-true depth 0 even.0))

uncut_tail : (mark : Mark) (depth byte : ℕ) (text : Text) → Uncut mark depth (byte ∷ text)
    → Uncut mark (nested mark depth byte) text
unfolding open_after
uncut_tail mark depth byte text uncut front back e z = uncut (byte ∷ front) back (ap (λ (x : Text). byte ∷ x) e) z

uncut_cons : (mark : Mark) (left : Option ℕ) (depth byte : ℕ) (text : Text) → cuts_arguments byte depth left ≡ false
    → may_cut left ≡ true
    → Uncut mark (nested mark depth byte) text → Uncut mark depth (byte ∷ text)
unfolding open_after
uncut_cons mark left depth byte text h more uncut [] back e z = grind (arith, get_or, true≢false, cut_byte)
uncut_cons mark left depth byte text h more uncut (other ∷ front) back e z = grind (arith, get_or, open_after)

-- an argument before a comma that cuts
split_at : (mark : Mark) (left : Option ℕ) (depth : ℕ) (argument rest : Text) → may_cut left ≡ true
    → open_after mark depth argument ≡ 0 → Uncut mark depth argument
    → split mark left depth (argument ++ 44 ∷ rest) ≡ argument ∷ split mark (one_less left) 0 rest
unfolding open_after
split_at mark left depth [] rest more even uncut = grind (arith, split-cut, cut_byte)
split_at mark left depth (byte ∷ argument) rest more even uncut =
    split-uncut mark left depth byte (argument ++ 44 ∷ rest) (uncut_byte mark left depth byte argument (λ _. uncut))
    ∙ ap (onto_first byte) (split_at mark left (nested mark depth byte) argument rest more even
    (uncut_tail mark depth byte argument uncut))

-- the last one
split_last : (mark : Mark) (left : Option ℕ) (depth : ℕ) (argument : Text)
    → (may_cut left ≡ true → Uncut mark depth argument) → split mark left depth argument ≡ argument ∷ []
unfolding split
split_last mark left depth [] uncut = refl
split_last mark left depth (byte ∷ argument) uncut =
    split-uncut mark left depth byte argument (uncut_byte mark left depth byte argument uncut)
    ∙ ap (onto_first byte) (split_last mark left (nested mark depth byte) argument
    (λ more. uncut_tail mark depth byte argument (uncut more)))

none_used : (limit : Option ℕ) → IsUpTo limit 0
none_used None = tt
none_used (Some most) = omega arith

one_used : (limit : Option ℕ) (count : ℕ) → IsUpTo limit (suc count)
    → (may_cut limit ≡ true) × IsUpTo (one_less limit) count
one_used None count up = (refl, tt)
one_used (Some zero) count up = absurd (omega (arith, up))
one_used (Some (suc most)) count up = (refl, omega (arith, up))

one_more_used : (limit : Option ℕ) (count : ℕ) → may_cut limit ≡ true → IsUpTo (one_less limit) count
    → IsUpTo limit (suc count)
one_more_used None count more up = tt
one_more_used (Some zero) count more up = absurd (false≢true more)
one_more_used (Some (suc most)) count more up = omega (arith, up)

-- arguments with a first one
record Shape (mark : Mark) (limit : Option ℕ) (text first : Text) (others : List Text) : Type 0 where
  joined : join_with_byte 44 (first ∷ others) ≡ text
  few : IsUpTo limit (length others)
  closed : All (IsClosed mark) (take (length others) (first ∷ others))
  whole : All (HoldsNoCut mark) (take (length others) (first ∷ others))
  last : IsUpTo limit (suc (length others)) → All (HoldsNoCut mark) (first ∷ others)

pub others_length : (first : Text) (others : List Text) → length (first ∷ others) - 1 ≡ length others
others_length first others = omega arith

shape_to : (mark : Mark) (limit : Option ℕ) (text first : Text) (others : List Text)
    → Shape mark limit text first others → AreArguments mark limit text (first ∷ others)
shape_to mark limit text first others s =
    let e = sym (others_length first others) in
    record {
      some = omega arith;
      joined = s.joined;
      few = subst (IsUpTo limit) e s.few;
      closed = subst (λ (n : ℕ). All (IsClosed mark) (take n (first ∷ others))) e s.closed;
      whole = subst (λ (n : ℕ). All (HoldsNoCut mark) (take n (first ∷ others))) e s.whole;
      last = s.last;
    }

shape_from : (mark : Mark) (limit : Option ℕ) (text first : Text) (others : List Text)
    → AreArguments mark limit text (first ∷ others) → Shape mark limit text first others
shape_from mark limit text first others are =
    let e = others_length first others in
    record {
      joined = are.joined;
      few = subst (IsUpTo limit) e are.few;
      closed = subst (λ (n : ℕ). All (IsClosed mark) (take n (first ∷ others))) e are.closed;
      whole = subst (λ (n : ℕ). All (HoldsNoCut mark) (take n (first ∷ others))) e are.whole;
      last = are.last;
    }

-- ---- there is one way at most

split_only : (mark : Mark) (limit : Option ℕ) (first : Text) (others : List Text) → IsUpTo limit (length others)
    → All (IsClosed mark) (take (length others) (first ∷ others))
    → All (HoldsNoCut mark) (take (length others) (first ∷ others))
    → (IsUpTo limit (suc (length others)) → All (HoldsNoCut mark) (first ∷ others))
    → split mark limit 0 (join_with_byte 44 (first ∷ others)) ≡ first ∷ others
split_only mark limit first [] few closed whole last =
    split_last mark limit 0 first (λ more. uncut_from mark first
    (all_head (HoldsNoCut mark) first [] (last (one_more_used limit 0 more (none_used (one_less limit))))))
split_only mark limit first (next ∷ others) few closed whole last =
    let used = one_used limit (length others) few in
    let shorter = take (length others) (next ∷ others) in
    split_at mark limit 0 first (join_with_byte 44 (next ∷ others)) used.0
    (closed_to mark first (all_head (IsClosed mark) first shorter closed))
    (uncut_from mark first (all_head (HoldsNoCut mark) first shorter whole))
    ∙ ap (λ (x : List Text). first ∷ x) (split_only mark (one_less limit) next others used.1
    (all_tail (IsClosed mark) first shorter closed) (all_tail (HoldsNoCut mark) first shorter whole)
    (λ up. all_tail (HoldsNoCut mark) first (next ∷ others)
    (last (one_more_used limit (suc (length others)) used.0 up))))

pub arguments_only : (mark : Mark) (limit : Option ℕ) (text : Text) (arguments : List Text)
    → AreArguments mark limit text arguments → arguments ≡ arguments_of mark limit text
arguments_only mark limit text [] are = let some = are.some in absurd (omega (arith, some))
arguments_only mark limit text (first ∷ others) are =
    let s = shape_from mark limit text first others are in
    sym (arguments-split mark limit text ∙ ap (split mark limit 0) (sym s.joined)
    ∙ split_only mark limit first others s.few s.closed s.whole s.last)

-- ---- and there is one

-- the arguments of a text before which this many marks are open
Parts : Mark → Option ℕ → ℕ → Text → Text → List Text → Type 0
Parts mark limit depth text first [] = (first ≡ text) × (may_cut limit ≡ true → Uncut mark depth first)
Parts mark limit depth text first (next ∷ others) =
    (may_cut limit ≡ true) × (open_after mark depth first ≡ 0) × Uncut mark depth first
    × ((rest : Text) × (first ++ 44 ∷ rest ≡ text) × Parts mark (one_less limit) 0 rest next others)

record Found (mark : Mark) (limit : Option ℕ) (depth : ℕ) (text : Text) : Type 0 where
  first : Text
  others : List Text
  are : split mark limit depth text ≡ first ∷ others
  parts : Parts mark limit depth text first others

parts_longer : (mark : Mark) (limit : Option ℕ) (depth byte : ℕ) (text first : Text) (others : List Text)
    → cuts_arguments byte depth limit ≡ false
    → Parts mark limit (nested mark depth byte) text first others
    → Parts mark limit depth (byte ∷ text) (byte ∷ first) others
unfolding Parts open_after
parts_longer mark limit depth byte text first [] h (same, uncut) = (
  ap (λ (x : Text). byte ∷ x) same,
  λ more. uncut_cons mark limit depth byte first h more (uncut more),
)
parts_longer mark limit depth byte text first (next ∷ others) h (more, even, uncut, (rest, whole, p)) = (
  more,
  even,
  uncut_cons mark limit depth byte first h more uncut,
  (rest, ap (λ (x : Text). byte ∷ x) whole, p),
)

found_cut : (mark : Mark) (limit : Option ℕ) (depth byte : ℕ) (text : Text) → cuts_arguments byte depth limit ≡ true
    → Found mark (one_less limit) depth text → Found mark limit depth (byte ∷ text)
unfolding Parts open_after
found_cut mark limit depth byte text h f =
    let comma = and_parts (byte == 44) (depth == 0 && may_cut limit) h in
    let even = and_parts (depth == 0) (may_cut limit) comma.1 in
    record {
      first = [];
      others = f.first ∷ f.others;
      are = split-cut mark limit depth byte text h ∙ ap (λ (x : List Text). [] ∷ x) f.are;
      parts = (
        even.1,
        eqb-true depth 0 even.0,
        λ front back e z. nil_cut front back e,
        (
          text,
          ap (λ (b : ℕ). b ∷ text) (sym (eqb-true byte 44 comma.0)),
          subst (λ (n : ℕ). Parts mark (one_less limit) n text f.first f.others) (eqb-true depth 0 even.0) f.parts,
        ),
      );
    }

found_uncut : (mark : Mark) (limit : Option ℕ) (depth byte : ℕ) (text : Text) → cuts_arguments byte depth limit ≡ false
    → Found mark limit (nested mark depth byte) text → Found mark limit depth (byte ∷ text)
found_uncut mark limit depth byte text h f = record {
  first = byte ∷ f.first;
  others = f.others;
  are = split-uncut mark limit depth byte text h ∙ ap (onto_first byte) f.are;
  parts = parts_longer mark limit depth byte text f.first f.others h f.parts;
}

found_nil : (mark : Mark) (limit : Option ℕ) (depth : ℕ) → Found mark limit depth []
unfolding split Parts
found_nil mark limit depth = record {
  first = [];
  others = [];
  are = refl;
  parts = (refl, λ more front back e z. nil_cut front back e);
}

found : (mark : Mark) (limit : Option ℕ) (depth : ℕ) (text : Text) → Found mark limit depth text
found mark limit depth [] = found_nil mark limit depth
found mark limit depth (byte ∷ text) =
    ⊎_elim (λ h. found_cut mark limit depth byte text h (found mark (one_less limit) depth text))
    (λ h. found_uncut mark limit depth byte text h (found mark limit (nested mark depth byte) text))
    (cases_Bool (cuts_arguments byte depth limit))

shape : (mark : Mark) (limit : Option ℕ) (text first : Text) (others : List Text)
    → Parts mark limit 0 text first others → Shape mark limit text first others
unfolding Parts
shape mark limit text first [] (same, uncut) = record {
  joined = same;
  few = none_used limit;
  closed = All-nil (IsClosed mark);
  whole = All-nil (HoldsNoCut mark);
  last = λ up. All-cons (HoldsNoCut mark) first [] (uncut_to mark first (uncut (one_used limit 0 up).0))
      (All-nil (HoldsNoCut mark));
}
shape mark limit text first (next ∷ others) (more, even, uncut, (rest, joined, p)) =
    let s = shape mark (one_less limit) rest next others p in
    let whole = uncut_to mark first uncut in
    record {
      joined = ap (λ (x : Text). first ++ 44 ∷ x) s.joined ∙ joined;
      few = one_more_used limit (length others) more s.few;
      closed = All-cons (IsClosed mark) first (take (length others) (next ∷ others))
          (closed_from mark first even) s.closed;
      whole = All-cons (HoldsNoCut mark) first (take (length others) (next ∷ others)) whole s.whole;
      last = λ up. All-cons (HoldsNoCut mark) first (next ∷ others) whole
          (s.last (one_used limit (suc (length others)) up).1);
    }

pub are_arguments : (mark : Mark) (limit : Option ℕ) (text : Text)
    → AreArguments mark limit text (arguments_of mark limit text)
are_arguments mark limit text =
    let f = found mark limit 0 text in
    subst (AreArguments mark limit text) (sym (arguments-split mark limit text ∙ f.are))
    (shape_to mark limit text f.first f.others (shape mark limit text f.first f.others f.parts))
