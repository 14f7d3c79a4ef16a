-- A text cut at its first newline, and what condensing makes of what stands before it.
use Rattle.std.proofs.Common.{◌≡◌, ◌≢◌, ◌⊎◌, ◌-◌, ◌==◌, ◌&&◌, ℕ, Bool, true, false, not, List, [], ◌∷◌, ◌++◌, length, take, refl, sym, ap, ap₂, subst, ◌∙◌, arith, append_assoc, append-nil, length-append, cond, if◌then◌else◌, inl, inr, ⊎_elim, nat_lt, slice_index}
use Rattle.kt_text.proofs.Common.{cases_Bool, eq-eqb, eqb-true, false≢true, lt-ltb, ne_eqb, reverse-append, take_at, get_or-append_seam, no_cr, without_terminator, Text, trimmed_end, trimmed_start, condensed_line, condensed_of, groups, is_continued, is_continued_text, is_ended, newline_pieces, space_before}
use Rattle.kt_text_laws.specs.Condensing.{IsNewline, Spacing, is_continuation, space, spelled, tab, continuation, returned}
use Rattle.kt_text.proofs.lemmas.CondensedLemmas.{condensed_of-start, left_text, left_text-alone, left_text-step, one_group, one_piece}
use Rattle.kt_text_laws.proofs.CondensingLemmas.{no_end}
use Rattle.kt_text_laws.proofs.LineTextLemmas.{content_ended, pieces_after}
use Rattle.kt_text_laws.proofs.NewlineLemmas.{IsFree, free_append, free_at, free_front}
use Rattle.kt_text_laws.proofs.Numbers.{one_more_odd}

-- ---- the first newline of a text

-- a text without newline, or its bytes up to the first one, which is continued or isn't
pub data FirstNewline (text : Text) : Type 0 where
  no_newline : IsFree text → FirstNewline text
  first_continued : (front after : Text) (one : Spacing) → text ≡ front ++ (spelled one ++ after) → IsFree front → is_continuation one ≡ true
      → is_continued_text front ≡ false → FirstNewline text
  first_ended : (front mark after : Text) → text ≡ front ++ (mark ++ after) → IsFree front → IsNewline front mark → FirstNewline text

-- a text by its last byte
pub record HasLast (text : Text) : Type 0 where
  pub front : Text
  pub last : ℕ
  pub whole : text ≡ front ++ last ∷ []

pub last_of : (byte : ℕ) (text : Text) → HasLast (byte ∷ text)
last_of byte [] = record { front = []; last = byte; whole = refl }
last_of byte (next ∷ text) = let later = last_of next text in record { front = byte ∷ later.front; last = later.last; whole = ap (λ l. byte ∷ l) later.whole }

pub last_at : (front : Text) (byte : ℕ) → slice_index (front ++ byte ∷ []) (length (front ++ byte ∷ []) - 1) ≡ byte
last_at front byte =
    let size = length-append front (byte ∷ []) in
    let n : length (front ++ byte ∷ []) - 1 ≡ length front = omega (arith, size) in
    ap (slice_index (front ++ byte ∷ [])) n ∙ get_or-append_seam front byte [] 0

-- one backslash more
pub odd_more : (front : Text) → is_continued_text (front ++ 92 ∷ []) ≡ not (is_continued_text front)
odd_more front = grind (arith, reverse-append, one_more_odd)

-- and one other byte
even_other : (front : Text) (byte : ℕ) → (byte == 92) ≡ false → is_continued_text (front ++ byte ∷ []) ≡ false
even_other front byte h = grind (arith, reverse-append)

-- a text whose last byte isn't the one that would be cut off
kept_whole : (text : Text) (byte : ℕ) (other : Text) → (slice_index text (length text - 1) == byte) ≡ false
    → cond (nat_lt 0 (length text) && slice_index text (length text - 1) == byte) other text ≡ text
kept_whole text byte other h = grind (arith, nat_lt, length, cond)

no_cr-other : (text : Text) → slice_index text (length text - 1) ≢ 13 → no_cr text ≡ text
no_cr-other text h = kept_whole text 13 (take (length text - 1) text) (ne_eqb (slice_index text (length text - 1)) 13 h)

pub front_at : (front : Text) (byte : ℕ) → take (length (front ++ byte ∷ []) - 1) (front ++ byte ∷ []) ≡ front
front_at front byte = let size = length-append front (byte ∷ []) in take_at front (byte ∷ []) (length (front ++ byte ∷ []) - 1) (omega (arith, size))

no_cr-return : (front : Text) → no_cr (front ++ 13 ∷ []) ≡ front
no_cr-return front = grind (arith, length-append, lt-ltb, length, eq-eqb, last_at, front_at)

-- a text with an odd number of backslashes at its end
record EndsOdd (text : Text) : Type 0 where
  pub front : Text
  pub whole : text ≡ front ++ 92 ∷ []
  pub even : is_continued_text front ≡ false

not_true : (b : Bool) → not b ≡ true → b ≡ false
not_true b h = grind (arith, false≢true)

ends_odd : (text : Text) → is_continued_text text ≡ true → EndsOdd text
ends_odd [] odd = absurd (false≢true odd)
ends_odd (byte ∷ text) odd =
    let view = last_of byte text in
    ⊎_elim (λ h.
    let whole : byte ∷ text ≡ view.front ++ 92 ∷ [] = view.whole ∙ ap (λ b. view.front ++ b ∷ []) (eqb-true view.last 92 h) in
    record { front = view.front; whole = whole; even = not_true _ (sym (odd_more view.front) ∙ sym (ap (λ t. is_continued_text t) whole) ∙ odd) })
    (λ h. absurd (false≢true (sym (ap (λ t. is_continued_text t) view.whole ∙ even_other view.front view.last h) ∙ odd)))
    (cases_Bool (view.last == 92))

-- a newline that stands after these bytes
at_newline : (front after : Text) → IsFree front → slice_index front (length front - 1) ≢ 13 → FirstNewline (front ++ 10 ∷ after)
unfolding IsFree
at_newline front after free other =
    ⊎_elim (λ h.
    let odd = ends_odd front h in
    first_continued odd.front after continuation (ap (λ t. t ++ 10 ∷ after) odd.whole ∙ append_assoc odd.front (92 ∷ []) (10 ∷ after))
    (free_front odd.front (92 ∷ []) (subst IsFree odd.whole free)) refl odd.even)
    (λ h. first_ended front (10 ∷ []) after refl free (record { form = inr (refl, other); ends = h }))
    (cases_Bool (is_continued_text front))

-- and one with a carriage return before it
at_return : (front after : Text) → IsFree front → FirstNewline (front ++ (13 ∷ 10 ∷ after))
at_return front after free =
    ⊎_elim (λ h.
    let odd = ends_odd front h in
    first_continued odd.front after returned (ap (λ t. t ++ (13 ∷ 10 ∷ after)) odd.whole ∙ append_assoc odd.front (92 ∷ []) (13 ∷ 10 ∷ after))
    (free_front odd.front (92 ∷ []) (subst IsFree odd.whole free)) refl odd.even)
    (λ h. first_ended front (13 ∷ 10 ∷ []) after refl free (record { form = inl refl; ends = h }))
    (cases_Bool (is_continued_text front))

by_last : (front after : Text) → IsFree front → FirstNewline (front ++ 10 ∷ after)
by_last [] after free = at_newline [] after free (λ e. false≢true (eq-eqb 0 13 e))
by_last (byte ∷ text) after free =
    let view = last_of byte text in
    ⊎_elim (λ h.
    let whole : byte ∷ text ≡ view.front ++ 13 ∷ [] = view.whole ∙ ap (λ b. view.front ++ b ∷ []) (eqb-true view.last 13 h) in
    subst FirstNewline (sym (ap (λ t. t ++ 10 ∷ after) whole ∙ append_assoc view.front (13 ∷ []) (10 ∷ after)))
    (at_return view.front after (free_front view.front (13 ∷ []) (subst IsFree whole free))))
    (λ h. at_newline (byte ∷ text) after free
    (λ e. false≢true (sym h ∙ eq-eqb view.last 13 (sym (last_at view.front view.last) ∙ sym (ap (λ t. slice_index t (length t - 1)) view.whole) ∙ e))))
    (cases_Bool (view.last == 13))

-- where the first newline stands
record HasNewline (text : Text) : Type 0 where
  pub front : Text
  pub after : Text
  pub whole : text ≡ front ++ 10 ∷ after
  pub free : IsFree front

newline_in : (text : Text) → IsFree text ⊎ HasNewline text
unfolding IsFree
newline_in [] = inl tt
newline_in (byte ∷ text) =
    ⊎_elim (λ h. inr (record { front = []; after = text; whole = ap (λ b. b ∷ text) (eqb-true byte 10 h); free = tt }))
    (λ h. ⊎_elim (λ free. inl (h, free))
    (λ found. inr (record { front = byte ∷ found.front; after = found.after; whole = ap (λ t. byte ∷ t) found.whole; free = (h, found.free) }))
    (newline_in text))
    (cases_Bool (byte == 10))

pub first_newline : (text : Text) → FirstNewline text
first_newline text =
    ⊎_elim (λ free. no_newline free) (λ found. subst FirstNewline (sym found.whole) (by_last found.front found.after found.free)) (newline_in text)

-- ---- what a line becomes

-- what is made of a text, by whether a continuation stands before it
unfoldable pub condensed_from : Bool → Text → Text
condensed_from continued text = left_text continued (groups (newline_pieces text))

pub condensed_from-start : (text : Text) → condensed_from false text ≡ condensed_of text
unfolding condensed_from
condensed_from-start text = condensed_of-start text

-- what is kept of a line between continuations or none, without its newline
abbrev pub kept_part : Bool → Bool → Text → Text
kept_part false false text = text
kept_part false true text = trimmed_end text
kept_part true true text = trimmed_end (trimmed_start text)
kept_part true false text = trimmed_start text

abbrev pub part : Bool → Bool → Text → Text
part continued continues text = space_before continued continues (kept_part continued continues text) ++ kept_part continued continues text

line_more : (continued : Bool) (line front : Text) → without_terminator line ≡ front ++ 92 ∷ [] → condensed_line continued true line ≡ part continued true front
unfolding condensed_line
line_more continued line front e = grind (arith, take, length, front_at, append-nil)

line_last : (continued : Bool) (line front : Text) → without_terminator line ≡ front → is_ended line ≡ true
    → condensed_line continued false line ≡ part continued false front ++ 10 ∷ []
unfolding condensed_line
line_last continued line front e ends = grind arith

content_free : (line : Text) → IsFree line → without_terminator line ≡ line
unfolding is_ended
content_free line free = kept_whole line 10 (no_cr (take (length line - 1) line)) (no_end line free)

line_alone : (continued : Bool) (line : Text) → IsFree line → condensed_line continued false line ≡ part continued false line
unfolding condensed_line
line_alone continued line free = grind (arith, no_end, append-nil, content_free)

-- a text without newline
from_pieces : (continued : Bool) (text : Text) (found : List Text) → found ≡ text ∷ [] → left_text continued (groups found) ≡ condensed_line continued false text
from_pieces continued text found e = grind (arith, left_text, one_group, left_text-alone, append-nil)

pub from_free : (continued : Bool) (text : Text) → IsFree text → condensed_from continued text ≡ part continued false text
unfolding condensed_from
from_free continued text free = from_pieces continued text (newline_pieces text) (one_piece text (free_at text free)) ∙ line_alone continued text free

-- a line with its newline
ends_so : (front : Text) → is_ended (front ++ 10 ∷ []) ≡ true
unfolding is_ended
ends_so front = eq-eqb _ 10 (last_at front 10)

line_step : (more continued : Bool) (line after : Text) → is_ended line ≡ true → is_continued line ≡ more → newline_pieces (line ++ after) ≡ line ∷ newline_pieces after
    → condensed_from continued (line ++ after) ≡ condensed_line continued more line ++ condensed_from more after
unfolding condensed_from
line_step more continued line after ends h cut =
    ap (λ l. left_text continued (groups l)) (cut ∙ ap (λ b. line ∷ (if b then newline_pieces after else [])) (sym ends))
    ∙ left_text-step continued line after (λ none. absurd (false≢true (sym none ∙ ends)))
    ∙ ap (λ b. condensed_line continued b line ++ left_text b (groups (newline_pieces after))) (both more (is_continued line) (is_ended line) h ends)
  where
    both : (m a b : Bool) → a ≡ m → b ≡ true → (a && b) ≡ m
    both true a b e f = ap₂ (λ x y. x && y) e f
    both false a b e f = ap₂ (λ x y. x && y) e f

-- what stands before its newline
pub record Ending (front mark kept : Text) : Type 0 where
  pub before : Text
  pub whole : front ++ mark ≡ before ++ 10 ∷ []
  pub free : IsFree before
  pub content : no_cr before ≡ kept

pub ending_continued : (front : Text) (one : Spacing) → IsFree front → is_continuation one ≡ true → Ending front (spelled one) (front ++ 92 ∷ [])
unfolding IsFree
ending_continued front space free h = absurd (false≢true h)
ending_continued front tab free h = absurd (false≢true h)
ending_continued front continuation free h = grind (arith, append_assoc, free_append, no_cr-other, false≢true, eq-eqb, last_at)
ending_continued front returned free h = record {
  before = front ++ (92 ∷ 13 ∷ []);
  whole = sym (append_assoc front (92 ∷ 13 ∷ []) (10 ∷ []));
  free = free_append front (92 ∷ 13 ∷ []) free (refl, (refl, tt));
  content = ap (λ (t : Text). no_cr t) (sym (append_assoc front (92 ∷ []) (13 ∷ []))) ∙ no_cr-return (front ++ 92 ∷ []);
}

pub ending_newline : (front mark : Text) → IsFree front → IsNewline front mark → Ending front mark front
unfolding IsFree
ending_newline front mark free is =
    ⊎_elim (λ e. record {
      before = front ++ 13 ∷ [];
      whole = ap (λ t. front ++ t) e ∙ sym (append_assoc front (13 ∷ []) (10 ∷ []));
      free = free_append front (13 ∷ []) free (refl, tt);
      content = no_cr-return front;
    })
    (λ e. record { before = front; whole = ap (λ t. front ++ t) e.0; free = free; content = no_cr-other front e.1 })
    is.form

from_ending : (more continued : Bool) (front mark kept after : Text) → (e : Ending front mark kept) → is_continued_text kept ≡ more
    → condensed_from continued (front ++ (mark ++ after)) ≡ condensed_line continued more (e.before ++ 10 ∷ []) ++ condensed_from more after
unfolding is_continued
from_ending more continued front mark kept after e h = grind (arith, append_assoc, line_step, ends_so, content_ended, pieces_after)

pub from_continued : (continued : Bool) (front : Text) (one : Spacing) (after : Text) → IsFree front → is_continuation one ≡ true → is_continued_text front ≡ false
    → condensed_from continued (front ++ (spelled one ++ after)) ≡ part continued true front ++ condensed_from true after
from_continued continued front one after free is even =
    let e = ending_continued front one free is in
    from_ending true continued front (spelled one) (front ++ 92 ∷ []) after e (odd_more front ∙ ap not even)
    ∙ ap (λ t. t ++ condensed_from true after) (line_more continued (e.before ++ 10 ∷ []) front (content_ended e.before ∙ e.content))

pub from_ended : (continued : Bool) (front mark after : Text) → IsFree front → IsNewline front mark
    → condensed_from continued (front ++ (mark ++ after)) ≡ part continued false front ++ (10 ∷ condensed_from false after)
from_ended continued front mark after free is =
    let e = ending_newline front mark free is in
    from_ending false continued front mark front after e is.ends
    ∙ ap (λ t. t ++ condensed_from false after) (line_last continued (e.before ++ 10 ∷ []) front (content_ended e.before ∙ e.content) (ends_so e.before))
    ∙ append_assoc (part continued false front) (10 ∷ []) (condensed_from false after)
