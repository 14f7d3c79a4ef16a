-- The first semicolon of a line is that of its condensed text.
use Rattle.std.proofs.Common.{◌≡◌, ◌<◌, ◌≤◌, ◌+◌, ◌&&◌, ℕ, zero, suc, Bool, true, false, not, List, [], ◌∷◌, ◌++◌, length, take, drop, refl, sym, ap, subst, ◌∙◌, arith, append_assoc, zero-add, take-append-drop, ⊎_elim}
use Rattle.kt_syntax.proofs.Common.{and_parts, cases_Bool, false_from_ne_true, false≢true, not-true, nil_from_length, take-append-le, take-append-add, take-length, list_any, Text, condensed_of, condensed_alone, head_end}
use Rattle.kt_text_laws.proofs.Numbers.{suc_sum}
use Rattle.kt_text_laws.specs.Condensing.{IsGap, IsNewline, Spacing, is_continuation, spelled, space, tab, continuation, returned}
use Rattle.kt_text_laws.proofs.CuttingLemmas.{FirstNewline, first_newline, no_newline, first_continued, first_ended}
use Rattle.kt_text_laws.proofs.GapLemmas.{past, condenses, newline_end, shorter, spelling}
use Rattle.kt_text_laws.proofs.NewlineLemmas.{IsFree, free_at, free_take}
use Rattle.kt_text_laws.proofs.OneCondensing.{Around, around, left_of_gap}
use Rattle.kt_syntax_laws.specs.Condensed.{HasNoSemicolon, SemicolonLaw}
use Rattle.kt_syntax_laws.proofs.StopLemmas.{State, at-no, at-yes, found_at, head_found, next, stops, plain, dollar, within}
use Rattle.kt_syntax_laws.proofs.StopPlaces.{Stop, ahead, later}

-- ---- over a text that is passed

go : State → Text → State
go state [] = state
go state (byte ∷ text) = go (next state byte) text

is_clear : State → Text → Bool
is_clear state [] = true
is_clear state (byte ∷ text) = not (stops state byte) && is_clear (next state byte) text

stop_here : (a b : Bool) → (not a && b) ≡ false → a ≡ false → b ≡ false
stop_here a b h e = sym (ap (λ x. not x && b) e) ∙ h

nothing_ahead : (found : Stop) → found ≡ ahead 0 found
nothing_ahead found = ap (λ n. (n, found.1)) (sym (zero-add found.0))

one_ahead : (n : ℕ) (found : Stop) → later (ahead n found) ≡ ahead (suc n) found
one_ahead n found = ap (λ k. (k, found.1)) (suc_sum n found.0)

passed : (state : State) (front rest : Text) → is_clear state front ≡ true → found_at state (front ++ rest) ≡ ahead (length front) (found_at (go state front) rest)
unfolding is_clear go
passed state [] rest h = nothing_ahead (found_at state rest)
passed state (byte ∷ front) rest h =
    let parts = and_parts (not (stops state byte)) (is_clear (next state byte) front) h in
    at-no state byte (front ++ rest) (not-true (stops state byte) parts.0) ∙ ap later (passed (next state byte) front rest parts.1)
    ∙ one_ahead (length front) (found_at (go (next state byte) front) rest)

-- or at which the search stops
record Blocked (state : State) (front : Text) : Type 0 where
  same : (rest : Text) → found_at state (front ++ rest) ≡ found_at state front
  less : (found_at state front).0 < length front

blocked : (state : State) (front : Text) → is_clear state front ≡ false → Blocked state front
unfolding is_clear
blocked state [] h = absurd (false≢true (sym h))
blocked state (byte ∷ front) h =
    ⊎_elim
    (λ e. record {
      same = λ rest. at-yes state byte (front ++ rest) e ∙ sym (at-yes state byte front e);
      less = subst (λ (found : Stop). found.0 < length (byte ∷ front)) (sym (at-yes state byte front e)) (omega arith);
    })
    (λ e.
    let rest_of = blocked (next state byte) front (stop_here (stops state byte) (is_clear (next state byte) front) h e) in
    let less = rest_of.less in
    record {
      same = λ rest. at-no state byte (front ++ rest) e ∙ ap later (rest_of.same rest) ∙ sym (at-no state byte front e);
      less = subst (λ (found : Stop). found.0 < length (byte ∷ front)) (sym (at-no state byte front e)) (omega (arith, less));
    })
    (cases_Bool (stops state byte))

together : (a b c : Bool) → (a && (b && c)) ≡ ((a && b) && c)
together a b c = grind arith

clear-append : (state : State) (first second : Text) → is_clear state (first ++ second) ≡ (is_clear state first && is_clear (go state first) second)
unfolding is_clear go
clear-append state [] second = refl
clear-append state (byte ∷ first) second = grind (arith, not, stops, next, together, is_clear, go, clear-append (next state byte) first second)

go-append : (state : State) (first second : Text) → go state (first ++ second) ≡ go (go state first) second
unfolding go
go-append state [] second = refl
go-append state (byte ∷ first) second = go-append (next state byte) first second

-- ---- blanks and continuations

-- what a blank leaves
abbrev settle : State → State
settle state = next state 32

one_settles : (state : State) (one : Spacing) → (is_clear state (spelled one) ≡ true) × (go state (spelled one) ≡ settle state)
unfolding is_clear go
one_settles (plain odd) space = (refl, refl)
one_settles (plain odd) tab = (refl, refl)
one_settles (plain odd) continuation = (refl, refl)
one_settles (plain odd) returned = (refl, refl)
one_settles dollar space = (refl, refl)
one_settles dollar tab = (refl, refl)
one_settles dollar continuation = (refl, refl)
one_settles dollar returned = (refl, refl)
one_settles (within false depth) space = (refl, refl)
one_settles (within false depth) tab = (refl, refl)
one_settles (within false depth) continuation = (refl, refl)
one_settles (within false depth) returned = (refl, refl)
one_settles (within true depth) space = (refl, refl)
one_settles (within true depth) tab = (refl, refl)
one_settles (within true depth) continuation = (refl, refl)
one_settles (within true depth) returned = (refl, refl)

one_clear : (state : State) (one : Spacing) → is_clear state (spelled one) ≡ true
one_clear state one = (one_settles state one).0

one_goes : (state : State) (one : Spacing) → go state (spelled one) ≡ settle state
one_goes state one = (one_settles state one).1

settled : (state : State) → settle (settle state) ≡ settle state
settled (plain odd) = refl
settled dollar = refl
settled (within false depth) = refl
settled (within true depth) = refl

run_clear : (state : State) (run : List Spacing) → is_clear state (spelling run) ≡ true
unfolding is_clear
run_clear state [] = refl
run_clear state (one ∷ run) = grind (arith, clear-append, is_clear, go, one_clear, run_clear (go state (spelled one)) run)

run_settled : (state : State) (run : List Spacing) → go (settle state) (spelling run) ≡ settle state
unfolding go
run_settled state [] = refl
run_settled state (one ∷ run) = grind (arith, go-append, go, one_goes, settled, run_settled state run)

run_goes : (state : State) (run : List Spacing) → list_any is_continuation run ≡ true → go state (spelling run) ≡ settle state
run_goes state [] h = absurd (false≢true h)
run_goes state (one ∷ run) h = go-append state (spelled one) (spelling run) ∙ ap (λ s. go s (spelling run)) (one_goes state one) ∙ run_settled state run

space_shown : (state : State) → stops state 32 ≡ false
space_shown (plain odd) = refl
space_shown dollar = refl
space_shown (within braces depth) = refl

-- ---- newlines

newline_shown : (state : State) → stops state 10 ≡ false
newline_shown (plain odd) = refl
newline_shown dollar = refl
newline_shown (within braces depth) = refl

newline_moves : (state : State) → next state 10 ≡ settle state
newline_moves (plain odd) = refl
newline_moves dollar = refl
newline_moves (within false depth) = refl
newline_moves (within true depth) = refl

mark_clear : (state : State) → (is_clear state (10 ∷ []) ≡ true) × (is_clear state (13 ∷ 10 ∷ []) ≡ true)
unfolding is_clear
mark_clear (plain odd) = (refl, refl)
mark_clear dollar = (refl, refl)
mark_clear (within false depth) = (refl, refl)
mark_clear (within true depth) = (refl, refl)

mark_goes : (state : State) → (go state (10 ∷ []) ≡ settle state) × (go state (13 ∷ 10 ∷ []) ≡ settle state)
unfolding go
mark_goes (plain odd) = (refl, refl)
mark_goes dollar = (refl, refl)
mark_goes (within false depth) = (refl, refl)
mark_goes (within true depth) = (refl, refl)

-- ---- one cut

-- a text up to the first newline or run, that, and what follows, whatever is cut off there
record Cut (text : Text) : Type 0 where
  kept : Text
  middle : Text
  back : Text
  mark : ℕ
  whole : text ≡ kept ++ (middle ++ back)
  free : IsFree kept
  condensed : (n : ℕ) → condensed_of (kept ++ (middle ++ take n back)) ≡ kept ++ (mark ∷ condensed_of (take n back))
  clear : (state : State) → is_clear state middle ≡ true
  goes : (state : State) → go state middle ≡ settle state
  shown : (state : State) → stops state mark ≡ false
  moves : (state : State) → next state mark ≡ settle state
  left : (fuel : ℕ) → length text ≤ suc fuel → length back ≤ fuel

-- the search in a text and in what it is condensed to
record Alike (state : State) (text : Text) : Type 0 where
  flag : (found_at state text).1 ≡ (found_at state (condensed_of text)).1
  front : condensed_of (take ((found_at state text).0) text) ≡ take ((found_at state (condensed_of text)).0) (condensed_of text)

-- from what is found in both
alike : (state : State) (text : Text) (one other : Stop) → found_at state text ≡ one → found_at state (condensed_of text) ≡ other → one.1 ≡ other.1
    → condensed_of (take one.0 text) ≡ take other.0 (condensed_of text) → Alike state text
alike state text one other e f same front = grind (arith, take)

whole_condensed : (text : Text) (c : Cut text) → condensed_of text ≡ c.kept ++ (c.mark ∷ condensed_of c.back)
whole_condensed text c =
    let all : take (length c.back) c.back ≡ c.back = take-length c.back in
    ap condensed_of (c.whole ∙ ap (λ t. c.kept ++ (c.middle ++ t)) (sym all)) ∙ c.condensed (length c.back) ∙ ap (λ t. c.kept ++ (c.mark ∷ condensed_of t)) all

free_itself : (text : Text) → IsFree text → condensed_of text ≡ text
free_itself text free = condensed_alone text (free_at text free)

blocked_cut : (state : State) (text : Text) (c : Cut text) → Blocked state c.kept → Alike state text
blocked_cut state text c b =
    let found : Stop = found_at state c.kept in
    let less = b.less in
    let low : found.0 ≤ length c.kept = omega (arith, less) in
    alike state text found found (ap (found_at state) c.whole ∙ b.same (c.middle ++ c.back)) (ap (found_at state) (whole_condensed text c) ∙ b.same (c.mark ∷ condensed_of c.back)) refl
    (ap (λ t. condensed_of (take found.0 t)) c.whole ∙ ap condensed_of (take-append-le found.0 c.kept (c.middle ++ c.back) low)
    ∙ free_itself (take found.0 c.kept) (free_take found.0 c.kept c.free) ∙ sym (take-append-le found.0 c.kept (c.mark ∷ condensed_of c.back) low)
    ∙ ap (take found.0) (sym (whole_condensed text c)))

passed_cut : (state : State) (text : Text) (c : Cut text) → is_clear state c.kept ≡ true → Alike (settle (go state c.kept)) c.back → Alike state text
passed_cut state text c h rest =
    let at : State = go state c.kept in
    let one : Stop = found_at (settle at) c.back in
    let other : Stop = found_at (settle at) (condensed_of c.back) in
    alike state text (ahead (length c.kept) (ahead (length c.middle) one)) (ahead (length c.kept) (later other))
    (ap (found_at state) c.whole ∙ passed state c.kept (c.middle ++ c.back) h
    ∙ ap (ahead (length c.kept)) (passed at c.middle c.back (c.clear at) ∙ ap (λ s. ahead (length c.middle) (found_at s c.back)) (c.goes at)))
    (ap (found_at state) (whole_condensed text c) ∙ passed state c.kept (c.mark ∷ condensed_of c.back) h
    ∙ ap (ahead (length c.kept)) (at-no at c.mark (condensed_of c.back) (c.shown at) ∙ ap (λ s. later (found_at s (condensed_of c.back))) (c.moves at)))
    rest.flag
    (ap (λ t. condensed_of (take (length c.kept + (length c.middle + one.0)) t)) c.whole
    ∙ ap condensed_of
    (take-append-add c.kept (c.middle ++ c.back) (length c.middle + one.0) ∙ ap (λ t. c.kept ++ t) (take-append-add c.middle c.back one.0))
    ∙ c.condensed one.0 ∙ ap (λ t. c.kept ++ (c.mark ∷ t)) rest.front
    ∙ sym (ap (take (length c.kept + suc other.0)) (whole_condensed text c) ∙ take-append-add c.kept (c.mark ∷ condensed_of c.back) (suc other.0)))

at_cut : (state : State) (text : Text) (c : Cut text) → ((s : State) → Alike s c.back) → Alike state text
at_cut state text c rest =
    ⊎_elim (λ h. passed_cut state text c h (rest (settle (go state c.kept)))) (λ h. blocked_cut state text c (blocked state c.kept h)) (cases_Bool (is_clear state c.kept))

-- ---- each text

gap_front : (kept : Text) (run : List Spacing) (back : Text) (n : ℕ) → IsGap kept run back → IsGap kept run (take n back)
gap_front kept run back n gap = record {
  holds = gap.holds;
  stands = gap.stands;
  before = gap.before;
  after = λ one rest e. gap.after one (rest ++ drop n back) (sym (take-append-drop n back) ∙ ap (λ t. t ++ drop n back) e ∙ append_assoc (spelled one) rest (drop n back));
}

gap_cut : (text : Text) → Around text → Cut text
gap_cut text r = record {
  kept = r.kept;
  middle = spelling r.run;
  back = r.back;
  mark = 32;
  whole = r.whole;
  free = r.free;
  condensed = λ n. condenses.gap r.kept r.run (take n r.back) (gap_front r.kept r.run r.back n r.gap) ∙ ap (λ t. t ++ (32 ∷ condensed_of (take n r.back))) (free_itself r.kept r.free);
  clear = λ state. run_clear state r.run;
  goes = λ state. run_goes state r.run r.gap.holds;
  shown = space_shown;
  moves = λ state. refl;
  left = λ fuel small. left_of_gap text r.kept r.run r.back fuel r.whole r.gap.holds small;
}

newline_cut : (text front mark after : Text) → text ≡ front ++ (mark ++ after) → IsFree front → IsNewline front mark → Cut text
newline_cut text front mark after whole free is =
    let end = newline_end front mark is in
    record {
      kept = front;
      middle = mark;
      back = after;
      mark = 10;
      whole = whole;
      free = free;
      condensed = λ n. condenses.newline front mark (take n after) is ∙ ap (λ t. t ++ (10 ∷ condensed_of (take n after))) (free_itself front free);
      clear = λ state. ⊎_elim (λ e. ap (is_clear state) e ∙ (mark_clear state).1) (λ e. ap (is_clear state) e.0 ∙ (mark_clear state).0) is.form;
      goes = λ state. ⊎_elim (λ e. ap (go state) e ∙ (mark_goes state).1) (λ e. ap (go state) e.0 ∙ (mark_goes state).0) is.form;
      shown = newline_shown;
      moves = newline_moves;
      left = λ fuel small. shorter text (front ++ end.0) after fuel (whole ∙ past front mark end.0 after end.1) small;
    }

alike_free : (state : State) (text : Text) → IsFree text → Alike state text
alike_free state text free = grind (arith, found_at, free_itself, alike, take, free_take)

alike_by : (fuel : ℕ) (text : Text) → length text ≤ suc fuel → ((back : Text) → length back ≤ fuel → (state : State) → Alike state back) → FirstNewline text → (state : State) → Alike state text
alike_by fuel text small rest (no_newline free) state = alike_free state text free
alike_by fuel text small rest (first_continued front after one whole free is even) state =
    let c = gap_cut text (subst Around (sym whole) (around front one after free is even)) in
    at_cut state text c (rest c.back (c.left fuel small))
alike_by fuel text small rest (first_ended front mark after whole free is) state =
    let c = newline_cut text front mark after whole free is in
    at_cut state text c (rest c.back (c.left fuel small))

alike_within : (fuel : ℕ) (text : Text) → length text ≤ fuel → (state : State) → Alike state text
unfolding IsFree
alike_within zero text small state = alike_free state text (subst IsFree (sym (nil_from_length text (omega (arith, small)))) tt)
alike_within (suc fuel) text small state = alike_by fuel text small (alike_within fuel) (first_newline text) state

-- ---- the head's end

end_is : (text : Text) → head_end text ≡ (found_at (plain false) text).0
unfolding head_end
end_is text = (head_found text).place

not_found : (text : Text) → HasNoSemicolon text → (found_at (plain false) text).1 ≡ false
not_found text none =
    let found = head_found text in
    let end = end_is text in
    false_from_ne_true (found_at (plain false) text).1 (λ h. let less = found.semicolon h in omega (arith, none, end, less))

none_found : (text : Text) → (found_at (plain false) text).1 ≡ false → HasNoSemicolon text
none_found text h = end_is text ∙ (head_found text).none h

alike_line : (line : Text) → Alike (plain false) line
alike_line line = alike_within (length line) line (omega arith) (plain false)

pub semicolon_law : SemicolonLaw
semicolon_law = record {
  none = λ line. (
    (λ none. none_found (condensed_of line) (sym (alike_line line).flag ∙ not_found line none)),
    (λ none. none_found line ((alike_line line).flag ∙ not_found (condensed_of line) none)),
  );
  same = λ line. ap (λ n. condensed_of (take n line)) (end_is line) ∙ (alike_line line).front ∙ ap (λ n. take n (condensed_of line)) (sym (end_is (condensed_of line)));
}
