-- Lists that rise by bytes, and the numbers by which words are told apart.
use Rattle.std.proofs.Common.{◌≡◌, ℕ, zero, suc, ◌+◌, ◌*◌, ◌^◌, ◌<◌, ◌≤◌, true, false, List, [], ◌∷◌, ◌⊎◌, inl, inr, ⊎_elim, length, fold, refl, sym, ◌∙◌, ap, subst, arith, drop, add-one, nat_eq, slice_index}
use Rattle.kt_text.proofs.Common.{All, Contains, dedup, MatchOrdering, nat_cmp, match_ordering, ordering_reverse, ordering_then, is_eq, Ordering, Less, Equal, Greater, drop_more, drop_all, get_or_past, bytes_eq-Decides, true≢false, cases_lt, Text, word_set}
use Rattle.std.specs.List.Sorted.{IsPermutation, IsSorted, IsStrictlySortedBy}
use Rattle.std.specs.Cmp.Lexicographic.{slice_cmp, pointwise, bytes_decides, nat_list_eq_equiv, texts_ties}
use Rattle.std.specs.BTreeSet.{insert_key}
use Rattle.std.specs.Cmp.{nat_cmp_is}
use Rattle.std.proofs.lemmas.Cmp.{nat_list_cmp_total, tied_itself, ranked}
use Rattle.std.proofs.Math.Nat.{add-mul, mul_assoc, mul_comm, mul-le-mul_right, pow-suc, pow-le-pow_right}
use Rattle.std.proofs.lemmas.Map.Text.{is_eq-slice_cmp}
use Rattle.std.proofs.lemmas.Map.Keys.{sorted_tail}
use Rattle.std.proofs.lemmas.Map.Views.{All-after_first, All-insert_key}
use Rattle.std.proofs.lemmas.Map.Made.{Contains-tail}
use Rattle.std.proofs.lemmas.List.Kept.{IsStrictlySortedBy-dedup, Contains-dedup, Contains-from_dedup}
use Rattle.std.proofs.lemmas.List.Sorted.{IsPermutation-sym, Contains-permutation}
use Rattle.std.proofs.lemmas.List.Elements.{All-contains, All-weaker, All-cons, All-head, All-tail, Contains-append_right, recursion_from_All}
use Rattle.kt_text.specs.views.Sorted.{IsSorting, front_number}

-- the order of texts by bytes
abbrev pub order : Text → Text → Ordering
order = slice_cmp nat_cmp

-- a list that rises by bytes, without a repeat
abbrev pub Rises : List Text → Type 0
Rises = IsStrictlySortedBy order

-- `Less` is neither of the other answers
less_differs : Less ≡ Equal → ⊥
less_differs e = true≢false (sym (ap is_eq e))

less_not_greater : Less ≡ Greater → ⊥
less_not_greater e = true≢false (ap (λ o. match_ordering o true true false) e)

-- a word isn't below itself, and no two are below each other
pub never_itself : (word : Text) → order word word ≡ Less → ⊥
never_itself word l = less_differs (sym l ∙ tied_itself nat_list_cmp_total word)

pub never_both : (word other : Text) → order word other ≡ Less → order other word ≡ Less → ⊥
never_both word other l m = less_not_greater (sym l ∙ nat_list_cmp_total.antisymm word other ∙ ap ordering_reverse m)

-- a list that rises has nothing below its first word
nothing_below : (word first : Text) (words : List Text) → Rises (first ∷ words) → Contains (first ∷ words) word → order word first ≡ Less → ⊥
nothing_below word first words rises has below = grind (arith, Contains-tail, never_itself, never_both, All-contains, All-after_first)

-- so its first word isn't among the others
first_once : (first : Text) (words : List Text) → Rises (first ∷ words) → Contains words first → ⊥
first_once first words rises has = never_itself first (All-contains (λ other. order first other ≡ Less) words first (All-after_first order first words rises) has)

-- the first word of a list is in it
pub Contains-first : (word : Text) (words : List Text) → Contains (word ∷ words) word
Contains-first word words = (0, omega arith, refl)

-- and so is a word of the rest
pub Contains-later : (first : Text) (words : List Text) (word : Text) → Contains words word → Contains (first ∷ words) word
Contains-later first words word has = Contains-append_right (first ∷ []) words word has

-- an empty list has no word
none_contained : (word : Text) → Contains [] word → ⊥
none_contained word has = absurd (omega (arith, has.1))

-- an answer is one of three
cases_order : (o : Ordering) → (o ≡ Less) ⊎ ((o ≡ Equal) ⊎ (o ≡ Greater))
cases_order o = grind arith

-- words that tie are equal
pub same_from_tie : (word other : Text) → order word other ≡ Equal → word ≡ other
same_from_tie word other e = (bytes_eq-Decides word other).0 (sym (is_eq-slice_cmp word other) ∙ ap is_eq e)

-- two lists that rise and have the same words begin alike
same_first : (first other : Text) (words others : List Text) → Rises (first ∷ words) → Rises (other ∷ others)
    → Contains (other ∷ others) first → Contains (first ∷ words) other → first ≡ other
same_first first other words others rises rise there back =
    ⊎_elim (λ l. absurd (nothing_below first other others rise there l))
    (λ h. ⊎_elim (λ e. same_from_tie first other e)
    (λ g. absurd (nothing_below other first words rises back (nat_list_cmp_total.antisymm other first ∙ ap ordering_reverse g))) h)
    (cases_order (order first other))

-- two lists that rise and have the same words are equal
pub same_from_members : (words others : List Text) → Rises words → Rises others
    → ((word : Text) → Contains words word → Contains others word) → ((word : Text) → Contains others word → Contains words word) → words ≡ others
same_from_members [] [] rises rise there back = refl
same_from_members [] (other ∷ others) rises rise there back = absurd (none_contained other (back other (Contains-first other others)))
same_from_members (first ∷ words) [] rises rise there back = absurd (none_contained first (there first (Contains-first first words)))
same_from_members (first ∷ words) (other ∷ others) rises rise there back =
    let same : first ≡ other = same_first first other words others rises rise (there first (Contains-first first words)) (back other (Contains-first other others)) in
    let rest : words ≡ others = same_from_members words others (sorted_tail order first words rises) (sorted_tail order other others rise)
    (λ word has. Contains-tail other others word (λ e. first_once first words rises (rw (same ∙ e) has)) (there word (Contains-later first words word has)))
    (λ word has. Contains-tail first words word (λ e. first_once other others rise (rw (sym same ∙ e) has)) (back word (Contains-later other others word has))) in
    ap (λ w. w ∷ words) same ∙ ap (λ ws. other ∷ ws) rest

-- the first word of a list, or one of the others
contains_cases : (first : Text) (words : List Text) (word : Text) → Contains (first ∷ words) word → (first ≡ word) ⊎ Contains words word
contains_cases first words word h = grind arith

-- a word below all of a list, put before it
pub rises_more : (first : Text) (words : List Text) → All (λ other. order first other ≡ Less) words → Rises words → Rises (first ∷ words)
unfolding IsStrictlySortedBy
rises_more first words below rises = (recursion_from_All (λ other. order first other ≡ Less) words below, rises)

-- one word more in a set of words
abbrev with_word : Text → Text → List Text → Ordering → List Text
with_word word first words o = match_ordering o (word ∷ first ∷ words) (first ∷ words) (first ∷ insert_key order words word)

-- the set still rises
insert_rises : (word : Text) (words : List Text) → Rises words → Rises (insert_key order words word)
insert_rises word [] rises = rises_more word [] (λ k d l. absurd (omega arith)) rises
insert_rises word (first ∷ words) rises =
    let above = All-after_first order first words rises in
    let goal : Ordering → Type 0 = λ o. order word first ≡ o → Rises (with_word word first words o) in
    elim (order word first) as goal [
      | Less ↦ λ l. rises_more word (first ∷ words)
          (All-cons (λ other. order word other ≡ Less) first words l
          (All-weaker (λ other. order first other ≡ Less) (λ other. order word other ≡ Less) (λ other m. nat_list_cmp_total.trans word first other l m) words above)) rises
      | Equal ↦ λ e. rises
      | Greater ↦ λ g. rises_more first (insert_key order words word)
          (All-insert_key order word (λ other. order first other ≡ Less) words above (nat_list_cmp_total.antisymm first word ∙ ap ordering_reverse g))
          (insert_rises word words (sorted_tail order first words rises))
    ] refl

-- it has the word
insert_holds : (word : Text) (words : List Text) → Contains (insert_key order words word) word
insert_holds word [] = Contains-first word []
insert_holds word (first ∷ words) =
    let goal : Ordering → Type 0 = λ o. order word first ≡ o → Contains (with_word word first words o) word in
    elim (order word first) as goal [
      | Less ↦ λ l. Contains-first word (first ∷ words)
      | Equal ↦ λ e. rw (same_from_tie word first e) (Contains-first first words)
      | Greater ↦ λ g. Contains-later first (insert_key order words word) word (insert_holds word words)
    ] refl

-- it keeps its words
insert_keeps : (word : Text) (words : List Text) (other : Text) → Contains words other → Contains (insert_key order words word) other
insert_keeps word [] other has = absurd (none_contained other has)
insert_keeps word (first ∷ words) other has =
    elim (order word first) as (λ o. Contains (with_word word first words o) other) [
      | Less ↦ Contains-later word (first ∷ words) other has
      | Equal ↦ has
      | Greater ↦ ⊎_elim (λ e. subst (λ w. Contains (w ∷ insert_key order words word) other) (sym e) (Contains-first other (insert_key order words word)))
          (λ later. Contains-later first (insert_key order words word) other (insert_keeps word words other later)) (contains_cases first words other has)
    ]

-- and has no others
insert_from : (word : Text) (words : List Text) (other : Text) → Contains (insert_key order words word) other → (word ≡ other) ⊎ Contains words other
insert_from word [] other = λ has. contains_cases word [] other has
insert_from word (first ∷ words) other =
    elim (order word first) as (λ o. Contains (with_word word first words o) other → (word ≡ other) ⊎ Contains (first ∷ words) other) [
      | Less ↦ λ has. contains_cases word (first ∷ words) other has
      | Equal ↦ λ has. inr has
      | Greater ↦ λ has. ⊎_elim (λ e. inr (rw e (Contains-first other words)))
          (λ later. ⊎_elim (λ e. inl e) (λ there. inr (Contains-later first words other there)) (insert_from word words other later))
          (contains_cases first (insert_key order words word) other has)
    ]

-- the words of a list put into a set, one by one
abbrev put_all : List Text → List Text → List Text
put_all found texts = fold (insert_key order) found texts

-- what they become rises
put_all-rises : (found texts : List Text) → Rises found → Rises (put_all found texts)
put_all-rises found [] rises = rises
put_all-rises found (text ∷ texts) rises = put_all-rises (insert_key order found text) texts (insert_rises text found rises)

-- it has all words
put_all-keeps : (found texts : List Text) (word : Text) → Contains found word ⊎ Contains texts word → Contains (put_all found texts) word
put_all-keeps found [] word has = ⊎_elim (λ h. h) (λ h. absurd (none_contained word h)) has
put_all-keeps found (text ∷ texts) word has =
    put_all-keeps (insert_key order found text) texts word
    (⊎_elim (λ h. inl (insert_keeps text found word h))
    (λ h. ⊎_elim (λ e. inl (rw e (insert_holds word found))) (λ later. inr later) (contains_cases text texts word h)) has)

-- and no others
put_all-from : (found texts : List Text) (word : Text) → Contains (put_all found texts) word → Contains found word ⊎ Contains texts word
put_all-from found [] word has = inl has
put_all-from found (text ∷ texts) word has =
    ⊎_elim (λ h. ⊎_elim (λ e. inr (rw e (Contains-first word texts))) (λ there. inl there) (insert_from text found word h))
    (λ later. inr (Contains-later text texts word later))
    (put_all-from (insert_key order found text) texts word has)

-- the empty list rises
nil_rises : Rises []
unfolding IsStrictlySortedBy
nil_rises = tt

-- the set of the words is their sorting
pub word_set-sorts : (texts : List Text) → IsSorting texts (word_set texts)
unfolding word_set
word_set-sorts texts = record {
  rises = put_all-rises [] texts nil_rises;
  members = λ word. (λ has. ⊎_elim (λ h. absurd (none_contained word h)) (λ h. h) (put_all-from [] texts word has), λ has. put_all-keeps [] texts word (inr has));
}

-- there is one sorting
pub sorting_is : (texts sorted : List Text) → IsSorting texts sorted → sorted ≡ word_set texts
sorting_is texts sorted s =
    let set = word_set-sorts texts in
    same_from_members sorted (word_set texts) s.rises set.rises
    (λ word has. (set.members word).1 ((s.members word).0 has)) (λ word has. (s.members word).1 ((set.members word).0 has))

-- bytes, each of eight bits
abbrev pub AreBytes : Text → Type 0
AreBytes text = All (λ byte. byte < 256) text

-- a power of 256 is positive
power_some : (n : ℕ) → 0 < 256 ^ n
power_some zero = omega arith
power_some (suc n) = omega (arith, power_some n, pow-suc 256 n)

-- the number of the first bytes is smaller than the place of a byte before them
front_number-below : (n : ℕ) (text : Text) → AreBytes text → front_number n text < 256 ^ n
unfolding front_number
front_number-below zero text small = omega arith
front_number-below (suc n) [] small = power_some (suc n)
front_number-below (suc n) (byte ∷ text) small =
    let first : byte ≤ 255 = omega (arith, All-head (λ b. b < 256) byte text small) in
    let rest = front_number-below n text (All-tail (λ b. b < 256) byte text small) in
    let most = mul-le-mul_right (256 ^ n) first in
    let power = pow-suc 256 n in
    omega (arith, most, rest, power)

-- a smaller number is that of a word further ahead
front_number-less : (n : ℕ) (word other : Text) → AreBytes word → AreBytes other → front_number n word < front_number n other → order word other ≡ Less
unfolding front_number
front_number-less zero word other small tiny less = absurd (omega arith)
front_number-less (suc n) [] [] small tiny less = absurd (omega arith)
front_number-less (suc n) [] (b ∷ other) small tiny less = refl
front_number-less (suc n) (a ∷ word) [] small tiny less = absurd (omega arith)
front_number-less (suc n) (a ∷ word) (b ∷ other) small tiny less =
    let later = All-tail (λ byte. byte < 256) a word small in
    let rest = All-tail (λ byte. byte < 256) b other tiny in
    let bound = front_number-below n other rest in
    ⊎_elim (λ l. ap (λ o. ordering_then o (order word other)) (sym (nat_cmp_is a b Less l)))
    (λ h. ⊎_elim
    (λ g. let most = mul-le-mul_right (256 ^ n) g in absurd (omega (arith, most, bound, less)))
    (λ same. let equal : a ≡ b = omega arith in
    ap (λ o. ordering_then o (order word other)) (sym (nat_cmp_is a b Equal equal))
    ∙ front_number-less n word other later rest (omega (arith, less, ap (λ m. m * 256 ^ n) equal)))
    (cases_lt b a))
    (cases_lt a b)

-- what a comparison of the numbers says of the words
pub fronts_decide : (word other : Text) (front back : ℕ) (o : Ordering) → front ≡ front_number 8 word → back ≡ front_number 8 other
    → AreBytes word → AreBytes other → o ≡ nat_cmp front back → MatchOrdering o (order word other ≡ Less) (Unit {0}) (order word other ≡ Greater)
fronts_decide word other front back Less f g small tiny c = grind (arith, front_number-less, ranked)
fronts_decide word other front back Equal f g small tiny c = tt
fronts_decide word other front back Greater f g small tiny c =
    nat_list_cmp_total.antisymm word other ∙ ap ordering_reverse (front_number-less 8 other word tiny small (rw (← f, ← g) (ranked front back Greater c)))

-- no bytes make 0
front_number-nil : (n : ℕ) → front_number n [] ≡ 0
unfolding front_number
front_number-nil n = grind arith

-- the first byte of what is left, or none
front_number-first : (n i : ℕ) (text : Text) → front_number (suc n) (drop i text) ≡ slice_index text i * 256 ^ n + front_number n (drop (i + 1) text)
unfolding front_number
front_number-first n i text = grind (arith, ⊎_elim, drop_more, drop_all, get_or_past, front_number-nil, cases_lt, length)

-- one step of the loop that puts bytes together
pub front_number-more : (n i front : ℕ) (text : Text) → front * 256 ^ suc n + front_number (suc n) (drop i text) ≡ (front * 256 + slice_index text i) * 256 ^ n + front_number n (drop (i + 1) text)
front_number-more n i front text = grind (arith, pow-suc, mul_assoc, add-mul, mul_comm, front_number-first)

-- a given number of bytes fit into eight
pub front_fits : (front i : ℕ) → front < 256 ^ i → i < 8 → front < 256 ^ 7
front_fits front i small l = grind (arith, pow-le-pow_right)

-- and one byte more fits into its place
pub front_grows : (front byte i : ℕ) → front < 256 ^ i → byte < 256 → front * 256 + byte < 256 ^ (i + 1)
front_grows front byte i small tiny =
    let power : 256 ^ (i + 1) ≡ 256 ^ i * 256 = rw add-one (pow-suc 256 i) in
    omega (arith, power, small)

-- the number so far, put before what is left
pub front_number-start : (text : Text) → 0 * 256 ^ 8 + front_number 8 (drop 0 text) ≡ front_number 8 text
front_number-start text = omega arith

-- the number when no byte is left
pub front_number-end : (n front whole : ℕ) (text : Text) → n ≡ 0 → front * 256 ^ n + front_number n text ≡ whole → front ≡ whole
unfolding front_number
front_number-end n front whole text none before = grind arith

-- a list that is sorted and then rid of words that stand beside an equal one
pub sorted_once : (texts sorted once : List Text) → IsPermutation texts sorted → IsSorted order sorted → once ≡ dedup (pointwise nat_eq) sorted → once ≡ word_set texts
sorted_once texts sorted once moved up left =
    left ∙ sorting_is texts (dedup (pointwise nat_eq) sorted) (record {
      rises = IsStrictlySortedBy-dedup nat_list_cmp_total texts_ties sorted up;
      members = λ word. (
        λ has. Contains-permutation sorted texts word (IsPermutation-sym texts sorted moved) (Contains-from_dedup (pointwise nat_eq) sorted word has),
        λ has. Contains-dedup nat_list_eq_equiv (λ x y e. (bytes_decides x y).0 e) sorted word (Contains-permutation texts sorted word moved has),
      );
    })
