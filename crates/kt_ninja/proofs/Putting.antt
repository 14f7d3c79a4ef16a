-- How texts that are put into a block follow one another.
use Rattle.std.proofs.Common.{◌≡◌, ℕ, ◌+◌, List, [], ◌++◌, refl, sym, ap, subst, ◌∙◌, append_assoc, append-nil, arith, ◌<◌, ◌≤◌, ◌*◌, ◌⊎◌, length, Bool, true, false}
use Rattle.kt_ninja.proofs.Common.{length-append, Block}
use Rattle.kt_list.specs.Counters.{Rises}
use Rattle.kt_ninja.specs.Written.{GrowsByFront, SinkSeen}
use Rattle.kt_ninja.specs.inner.Blocks.{Moves, PutsBy, Counts, Passes, HandsOver, Puts, PrintsBy, Prints}
use Rattle.kt_ninja.proofs.Growth.{appended-nil, front_after, front_of_more, takes_twice}

-- what waited and the first text, cut where the block stood in between, goes on with the second text
moved_on : (waiting first second front middle : List ℕ) → waiting ++ first ≡ front ++ middle
    → waiting ++ (first ++ second) ≡ front ++ (middle ++ second)
moved_on waiting first second front middle cut = grind (arith, append_assoc)

moves_then : (a b c : SinkSeen) (v w x : List ℕ) (first second : List ℕ)
    → Moves a v b w first → Moves b w c x second → Moves a v c x (first ++ second)
moves_then a b c v w x first second one two = record {
  front = one.front ++ two.front;
  cut = moved_on v first second one.front w one.cut ∙ ap (λ t. one.front ++ t) two.cut ∙ sym (append_assoc one.front two.front x);
  grown = takes_twice a b c one.front two.front one.grown two.grown;
}

cut_then : (a b c : SinkSeen) (v w : List ℕ) (first second : List ℕ)
    → Moves a v b w first → GrowsByFront b c (w ++ second) → GrowsByFront a c (v ++ (first ++ second))
cut_then a b c v w first second one two =
    let P : List ℕ → Type 0 = λ t. GrowsByFront a c t in
    subst P (sym (moved_on v first second one.front w one.cut)) (front_after a b c one.front (w ++ second) one.grown two)

cut_before : (a b c : SinkSeen) (v first second : List ℕ)
    → GrowsByFront a b (v ++ first) → c.written ≡ b.written → GrowsByFront a c (v ++ (first ++ second))
cut_before a b c v first second one two = grind (arith, front_of_more, append_assoc)

by_then : (f g h : Bool) (a b c : SinkSeen) (v w x : List ℕ) (first second : List ℕ)
    → PutsBy f g a v b w first → PutsBy g h b w c x second → PutsBy f h a v c x (first ++ second)
by_then f g h a b c v w x first second one two = grind (arith, moves_then, cut_then, cut_before)

counts_then : (f g h : Bool) (a b c : SinkSeen) → Counts f g a b → Counts g h b c → Counts f h a c
counts_then false false false a b c one two = two ∙ one
counts_then false false true a b c one two = let P : ℕ → Type 0 = λ n. (n ≤ c.failed) × Rises n c.failed in subst P one two
counts_then false true false a b c one two = absurd two
counts_then false true true a b c one two =
    let P : ℕ → Type 0 = λ n. (a.failed ≤ n) × Rises a.failed n in subst P (sym two) one
counts_then true false h a b c one two = absurd one
counts_then true true false a b c one two = absurd two
counts_then true true true a b c one two = two ∙ one

pub passes_then : {S : Type 0} {seen : S → SinkSeen} {old middle new : Block S} (first second : List ℕ)
    → Passes seen old middle first → Passes seen middle new second → Passes seen old new (first ++ second)
passes_then {S} {seen} {old} {middle} {new} first second one two = grind (arith, by_then, counts_then)

rest_then : (v w x first second m n : ℕ) → v + first ≡ m * 4096 + w → w + second ≡ n * 4096 + x → v + (first + second) ≡ (m + n) * 4096 + x
rest_then v w x first second m n one two = omega (arith, one, two)

more_then : (w x second m n : ℕ) → w + second ≡ n * 4096 + x → (m ≡ 0) ⊎ (0 < w) → (n ≡ 0) ⊎ (0 < x) → (m + n ≡ 0) ⊎ (0 < x)
more_then w x second m n is one h = grind arith

hands_then : {S : Type 0} {old middle new : Block S} (first second : List ℕ)
    → HandsOver old middle first → HandsOver middle new second → HandsOver old new (first ++ second)
hands_then {S} {old} {middle} {new} first second one two =
    let w = length middle.waiting.items in
    let x = length new.waiting.items in
    record {
      times = one.times + two.times;
      rest = ap (λ n. length old.waiting.items + n) (length-append first second)
          ∙ rest_then (length old.waiting.items) w x (length first) (length second) one.times two.times one.rest two.rest;
      more = more_then w x (length second) one.times two.times two.rest one.more two.more;
      none = λ never. two.none (omega (arith, never)) ∙ one.none (omega (arith, never));
    }

-- one text after the other
pub puts_then : {S : Type 0} {seen : S → SinkSeen} {old middle new : Block S} (first second : List ℕ)
    → Puts seen old middle first → Puts seen middle new second → Puts seen old new (first ++ second)
puts_then first second one two = grind (arith, passes_then, hands_then)

by_none : (f : Bool) (a : SinkSeen) (v : List ℕ) → PutsBy f f a v a v []
by_none f a v = grind (arith, append-nil, appended-nil)

counts_none : (f : Bool) (a : SinkSeen) → Counts f f a a
counts_none false a = refl
counts_none true a = refl

-- no text
pub puts_none : {S : Type 0} {seen : S → SinkSeen} (way : Block S) → Puts seen way way []
puts_none {S} {seen} way = grind (arith, by_none, counts_none)

-- of this whole text all is put but this
pub record PutsUpTo {S : Type 0} (seen : S → SinkSeen) (old new : Block S) (whole left : List ℕ) : Type 0 where
  pub done : List ℕ
  pub cut : whole ≡ done ++ left
  pub puts : Puts seen old new done

-- none is put yet
pub up_to_start : {S : Type 0} {seen : S → SinkSeen} (way : Block S) (whole : List ℕ) → PutsUpTo seen way way whole whole
up_to_start way whole = record { done = []; cut = refl; puts = puts_none way }

-- the next text of those that are left is put
pub up_to_more : {S : Type 0} {seen : S → SinkSeen} {old middle new : Block S} {whole : List ℕ} (left next rest : List ℕ)
    → left ≡ next ++ rest → PutsUpTo seen old middle whole left → Puts seen middle new next
    → PutsUpTo seen old new whole rest
up_to_more left next rest is so puts = record {
  done = so.done ++ next;
  cut = so.cut ∙ ap (λ t. so.done ++ t) is ∙ sym (append_assoc so.done next rest);
  puts = puts_then so.done next so.puts puts;
}

-- what is left is put
pub up_to_all : {S : Type 0} {seen : S → SinkSeen} {old middle new : Block S} {whole : List ℕ} (left : List ℕ)
    → PutsUpTo seen old middle whole left → Puts seen middle new left → Puts seen old new whole
up_to_all {S} {seen} {old} {middle} {new} {whole} left so puts =
    let P : List ℕ → Type 0 = λ t. Puts seen old new t in subst P (sym so.cut) (puts_then so.done left so.puts puts)

-- nothing is left
pub up_to_end : {S : Type 0} {seen : S → SinkSeen} {old new : Block S} {whole : List ℕ} (left : List ℕ)
    → left ≡ [] → PutsUpTo seen old new whole left → Puts seen old new whole
up_to_end {S} {seen} {old} {new} {whole} left none so = grind (arith, append-nil)

by_end : (failed : Bool) (old new : SinkSeen) (text : List ℕ) → PutsBy false failed old [] new [] text → PrintsBy failed old new text
by_end failed old new text moves = grind (arith, append-nil)

-- a text that was put into an empty block, and what waits of it handed over
pub printed : {S : Type 0} {seen : S → SinkSeen} {text : List ℕ} (old middle new : Block S) (a b : S)
    → Puts seen old middle text → Passes seen middle new [] → new.waiting.items ≡ []
    → old.waiting.items ≡ [] → old.failed ≡ false → old.sink.now ≡ a → new.sink.now ≡ b
    → Prints seen a b new.failed text
printed {S} {seen} {text} old middle new a b one flush flushed empty fresh first last =
    let T : List ℕ → Type 0 = λ t. Passes seen old new t in
    let puts = subst T (append-nil text) (passes_then text [] one.passes flush) in
    let P : Bool → List ℕ → List ℕ → Type 0 = λ f v w. PutsBy f new.failed (seen old.sink.now) v (seen new.sink.now) w text in
    let C : Bool → Type 0 = λ f. Counts f new.failed (seen old.sink.now) (seen new.sink.now) in
    let now = subst (λ (f : Bool). P f [] []) fresh
    (subst (λ (v : List ℕ). P old.failed v []) empty (subst (λ (w : List ℕ). P old.failed old.waiting.items w) flushed puts.puts)) in
    let here : PrintsBy new.failed (seen old.sink.now) (seen new.sink.now) text =
    by_end new.failed (seen old.sink.now) (seen new.sink.now) text now in
    let counts : Counts false new.failed (seen old.sink.now) (seen new.sink.now) = subst C fresh puts.counts in
    record {
      prints = subst (λ (s : S). PrintsBy new.failed (seen a) (seen s) text) last
          (subst (λ (s : S). PrintsBy new.failed (seen s) (seen new.sink.now) text) first here);
      counts = subst (λ (s : S). Counts false new.failed (seen a) (seen s)) last
          (subst (λ (s : S). Counts false new.failed (seen s) (seen new.sink.now)) first counts);
    }
