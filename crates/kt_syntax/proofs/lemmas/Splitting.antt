-- A text has exactly one splitting into terms.
use Rattle.std.proofs.Common.{◌≡◌, ◌≢◌, ◌==◌, ◌≤◌, ◌<◌, ◌+◌, not, ℕ, zero, suc, Bool, true, false, ◌&&◌, List, [], ◌∷◌, ◌++◌, Option, Some, None, length, take, drop, refl, sym, ap, subst, ◌∙◌, arith, ⊎_elim, inl, inr, append_assoc, length-drop}
use Rattle.kt_syntax.proofs.Common.{nat_tests, cases_Bool, eqb-true, false≢true, and_parts, take-append-drop, take_all, drop_all, take_at, drop_at, length-take-le, take-take, append-nil, take-append-add, drop-append-add, Text, Byte, Parentheses, Braces, Term, Continuations, kept, dropped, literal, dollar, reference, unclosed, byte_count, is_reference_mark, unit_length, IsBalanced, IsUnclosed, EndsRun, IsSingle, IsTerm, IsSplittingIn, OneSplitting, closing, reference_of, single, after_dollar, literal_run, first_term, terms_after, terms_of}
use Rattle.kt_syntax.specs.declared.term.Mark.{Mark}
use Rattle.kt_syntax.proofs.lemmas.Closing.{count_no, closed_found, closed_sound, unclosed_sound, unclosed_found}
use Rattle.kt_syntax.proofs.lemmas.Runs.{run, run_within, run_free, run_ends, run_length, no_dollar}

-- ---- the terms of what follows

terms_after-drop : (continuations : Continuations) (n : ℕ) (text : Text) → terms_after continuations n text ≡ terms_after continuations 0 (drop n text)
unfolding terms_after
terms_after-drop continuations zero text = refl
terms_after-drop continuations (suc n) [] = refl
terms_after-drop continuations (suc n) (byte ∷ text) = terms_after-drop continuations n text

pub terms_of-nil : (continuations : Continuations) → terms_after continuations 0 [] ≡ []
unfolding terms_after
terms_of-nil continuations = refl

pub terms_of-cons : (continuations : Continuations) (byte : ℕ) (text : Text) → terms_after continuations 0 (byte ∷ text) ≡ (first_term continuations byte text).0 ∷ terms_after continuations 0 (drop (first_term continuations byte text).1 text)
unfolding terms_after
terms_of-cons continuations byte text = ap (λ (later : List Term). (first_term continuations byte text).0 ∷ later) (terms_after-drop continuations (first_term continuations byte text).1 text)

cut_taken : (text front rest : Text) (byte n : ℕ) → text ≡ front ++ byte ∷ rest → n ≡ length front + 1 → take n text ≡ front ++ byte ∷ []
cut_taken text front rest byte n e size = rw (size, e) (take-append-add front (byte ∷ rest) 1)

-- ---- a term is the first

pub terms_first : (continuations : Continuations) (byte : ℕ) (text rest : Text) (piece : Term) → (first_term continuations byte text).0 ≡ piece → drop (first_term continuations byte text).1 text ≡ rest
    → terms_after continuations 0 (byte ∷ text) ≡ piece ∷ terms_after continuations 0 rest
terms_first continuations byte text rest piece p d = grind (arith, terms_of-cons)

literal_first : (continuations : Continuations) (byte : ℕ) (bytes rest : Text) → (byte == 36) ≡ false → run (bytes ++ rest) ≡ length bytes → (first_term continuations byte (bytes ++ rest)).0 ≡ literal (byte ∷ bytes)
unfolding first_term
literal_first continuations byte bytes rest h size = grind (arith, take, take_at, length)

literal_after : (continuations : Continuations) (byte : ℕ) (bytes rest : Text) → (byte == 36) ≡ false → run (bytes ++ rest) ≡ length bytes → drop (first_term continuations byte (bytes ++ rest)).1 (bytes ++ rest) ≡ rest
unfolding first_term
literal_after continuations byte bytes rest h size = grind (arith, drop_at, length)

from_literal : (continuations : Continuations) (byte : ℕ) (bytes rest : Text) → byte_count 36 (byte ∷ bytes) ≡ 0 → EndsRun rest
    → terms_after continuations 0 (byte ∷ (bytes ++ rest)) ≡ literal (byte ∷ bytes) ∷ terms_after continuations 0 rest
from_literal continuations byte bytes rest free ends = grind (arith, no_dollar, run_length, terms_first, literal_first, literal_after)

-- after a dollar
terms_past : (continuations : Continuations) (text rest : Text) (piece : Term) (n : ℕ) → after_dollar continuations text ≡ (piece, n) → drop n text ≡ rest → terms_after continuations 0 (36 ∷ text) ≡ piece ∷ terms_after continuations 0 rest
unfolding first_term
terms_past continuations text rest piece n e d = grind (arith, terms_first)

referred_cut : (mark : Mark) (body rest : Text) (closer : ℕ) → reference_of mark (body ++ closer ∷ rest) (Some (length body)) ≡ (reference mark body, length body + 2)
referred_cut mark body rest closer = ap (λ (x : Text). (reference mark x, length body + 2)) (take_at body (closer ∷ rest) (length body) refl)

after_mark : (body rest : Text) (opener closer : ℕ) → drop (length body + 2) (opener ∷ (body ++ closer ∷ rest)) ≡ rest
after_mark body rest opener closer = grind (arith, length, drop-append-add)

from_parentheses : (continuations : Continuations) (body rest : Text) → IsBalanced 40 41 body → terms_after continuations 0 (36 ∷ 40 ∷ (body ++ 41 ∷ rest)) ≡ reference Parentheses body ∷ terms_after continuations 0 rest
unfolding after_dollar
from_parentheses continuations body rest b =
    terms_past continuations (40 ∷ (body ++ 41 ∷ rest)) rest (reference Parentheses body) (length body + 2)
    (ap (reference_of Parentheses (body ++ 41 ∷ rest)) (closed_found 40 41 (λ e. omega arith) (body ++ 41 ∷ rest) body rest refl b) ∙ referred_cut Parentheses body rest 41)
    (after_mark body rest 40 41)

from_braces : (continuations : Continuations) (body rest : Text) → IsBalanced 123 125 body → terms_after continuations 0 (36 ∷ 123 ∷ (body ++ 125 ∷ rest)) ≡ reference Braces body ∷ terms_after continuations 0 rest
unfolding after_dollar
from_braces continuations body rest b =
    terms_past continuations (123 ∷ (body ++ 125 ∷ rest)) rest (reference Braces body) (length body + 2)
    (ap (reference_of Braces (body ++ 125 ∷ rest)) (closed_found 123 125 (λ e. omega arith) (body ++ 125 ∷ rest) body rest refl b) ∙ referred_cut Braces body rest 125)
    (after_mark body rest 123 125)

past_end : (opener : ℕ) (tail : Text) → drop (1 + length tail) (opener ∷ tail) ≡ []
past_end opener tail = drop_all (1 + length tail) (opener ∷ tail) (omega arith)

from_open_parenthesis : (continuations : Continuations) (tail : Text) → IsUnclosed 40 41 tail → terms_after continuations 0 (36 ∷ 40 ∷ tail) ≡ unclosed ∷ terms_after continuations 0 []
unfolding after_dollar
from_open_parenthesis continuations tail lacks =
    terms_past continuations (40 ∷ tail) [] unclosed (1 + length tail) (ap (reference_of Parentheses tail) (unclosed_found 40 41 (λ e. omega arith) tail lacks)) (past_end 40 tail)

from_open_brace : (continuations : Continuations) (tail : Text) → IsUnclosed 123 125 tail → terms_after continuations 0 (36 ∷ 123 ∷ tail) ≡ unclosed ∷ terms_after continuations 0 []
unfolding after_dollar
from_open_brace continuations tail lacks =
    terms_past continuations (123 ∷ tail) [] unclosed (1 + length tail) (ap (reference_of Braces tail) (unclosed_found 123 125 (λ e. omega arith) tail lacks)) (past_end 123 tail)

from_dollar : (continuations : Continuations) (rest : Text) → terms_after continuations 0 (36 ∷ 36 ∷ rest) ≡ dollar ∷ terms_after continuations 0 rest
unfolding after_dollar
from_dollar continuations rest = terms_past continuations (36 ∷ rest) rest dollar 1 refl refl

from_last : (continuations : Continuations) → terms_after continuations 0 (36 ∷ []) ≡ literal [] ∷ terms_after continuations 0 []
unfolding after_dollar
from_last continuations = terms_past continuations [] [] (literal []) 0 refl refl

pub record IsPlain (byte : ℕ) : Type 0 where
  pub no_dollar_here : (byte == 36) ≡ false
  pub no_parenthesis : (byte == 40) ≡ false
  pub no_brace : (byte == 123) ≡ false

plain_byte : (byte : ℕ) (others : Bool) → (not (is_reference_mark byte) && others) ≡ true → IsPlain byte
plain_byte byte others h = grind (arith, and_parts, not, false≢true)

past-single : (continuations : Continuations) (byte : ℕ) (text : Text) → IsPlain byte → after_dollar continuations (byte ∷ text) ≡ single continuations (byte ∷ text)
unfolding after_dollar
past-single continuations byte text p = rw (p.no_dollar_here, p.no_parenthesis, p.no_brace) refl

from_single : (continuations : Continuations) (body rest : Text) → IsSingle continuations body rest → terms_after continuations 0 (36 ∷ (body ++ rest)) ≡ reference Byte body ∷ terms_after continuations 0 rest
from_single continuations [] rest s = let some = s.some in absurd (omega arith)
from_single continuations (byte ∷ body) rest s =
    terms_past continuations (byte ∷ (body ++ rest)) rest (reference Byte (byte ∷ body)) (suc (length body))
    (past-single continuations byte (body ++ rest) (plain_byte byte true s.plain)
    ∙ ap (λ (n : ℕ). (reference Byte (take n (byte ∷ (body ++ rest))), n)) (sym s.unit)
    ∙ ap (λ (x : Text). (reference Byte x, suc (length body))) (take_at (byte ∷ body) rest (suc (length body)) refl))
    (drop_at (byte ∷ body) rest (suc (length body)) refl)

at_text : (continuations : Continuations) (text spelled rest whole : Text) (piece : Term) → text ≡ spelled ++ rest → spelled ++ rest ≡ whole → terms_after continuations 0 whole ≡ piece ∷ terms_after continuations 0 rest
    → terms_after continuations 0 text ≡ piece ∷ terms_after continuations 0 rest
at_text continuations text spelled rest whole piece e w t = ap (terms_after continuations 0) (e ∙ w) ∙ t

joined : (body rest : Text) (closer : ℕ) → (body ++ closer ∷ []) ++ rest ≡ body ++ closer ∷ rest
joined body rest closer = append_assoc body (closer ∷ []) rest

-- a term that a text begins with is its first one
pub term_first : (continuations : Continuations) (piece : Term) (text spelled rest : Text) → text ≡ spelled ++ rest → IsTerm continuations piece spelled rest → terms_after continuations 0 text ≡ piece ∷ terms_after continuations 0 rest
term_first continuations (literal []) text spelled rest e is = grind (arith, from_last)
term_first continuations (literal (byte ∷ bytes)) text spelled rest e is = grind (arith, at_text, from_literal)
term_first continuations dollar text spelled rest e is = at_text continuations text spelled rest (36 ∷ 36 ∷ rest) dollar e (ap (λ (x : Text). x ++ rest) is) (from_dollar continuations rest)
term_first continuations (reference Byte body) text spelled rest e is = grind (arith, at_text, from_single)
term_first continuations (reference Parentheses body) text spelled rest e is = grind (arith, at_text, joined, from_parentheses)
term_first continuations (reference Braces body) text spelled rest e is = grind (arith, at_text, joined, from_braces)
term_first continuations unclosed text spelled rest e is = grind (arith, append-nil, ⊎_elim, from_open_parenthesis, from_open_brace)

-- a splitting is the one that is computed
pub only_splitting : (continuations : Continuations) (pieces : List Term) (text : Text) → IsSplittingIn continuations text pieces → pieces ≡ terms_after continuations 0 text
only_splitting continuations [] text e = sym (ap (terms_after continuations 0) e ∙ terms_of-nil continuations)
only_splitting continuations (piece ∷ pieces) text s =
    ap (λ (x : List Term). piece ∷ x) (only_splitting continuations pieces s.1 s.4) ∙ sym (term_first continuations piece text s.0 s.1 s.2 s.3)

-- ---- the first term is one

abbrev Sound : Continuations → Text → Term × ℕ → Type 0
Sound continuations text x = (x.1 ≤ length text) × IsTerm continuations x.0 (36 ∷ take x.1 text) (drop x.1 text)

-- a text that its mark closes, or doesn't
closed_part : (opener closer : ℕ) → opener ≢ closer → (tail : Text) (place : ℕ) → closing opener closer 0 0 tail ≡ Some place
    → (place + 2 ≤ length (opener ∷ tail)) × ((36 ∷ take (place + 2) (opener ∷ tail) ≡ 36 ∷ opener ∷ (take place tail ++ closer ∷ []))
    × IsBalanced opener closer (take place tail))
closed_part opener closer ne tail place e =
    let s = closed_sound opener closer ne tail place e in
    let within = s.0 in
    let size : place + 2 ≡ length (opener ∷ take place tail) + 1 = rw (length-take-le place tail (omega arith)) (omega arith) in
    let cut = cut_taken (opener ∷ tail) (opener ∷ take place tail) (drop (suc place) tail) closer (place + 2) (ap (λ (x : Text). opener ∷ x) s.1) size in
    (omega arith, (ap (λ (x : Text). 36 ∷ x) cut, s.2))

open_part : (opener closer : ℕ) → opener ≢ closer → (tail : Text) → closing opener closer 0 0 tail ≡ None
    → (1 + length tail ≤ length (opener ∷ tail)) × (drop (1 + length tail) (opener ∷ tail) ≡ []) × (36 ∷ take (1 + length tail) (opener ∷ tail) ≡ 36 ∷ opener ∷ tail)
    × IsUnclosed opener closer tail
open_part opener closer ne tail e = grind (arith, take, length, take_all, past_end, unclosed_sound)

sound_parentheses : (continuations : Continuations) (tail : Text) (found : Option ℕ) → closing 40 41 0 0 tail ≡ found → Sound continuations (40 ∷ tail) (reference_of Parentheses tail found)
sound_parentheses continuations tail None e =
    let part = open_part 40 41 (λ k. omega arith) tail e in
    (part.0, (part.1, (tail, inl (part.2, part.3))))
sound_parentheses continuations tail (Some place) e = closed_part 40 41 (λ k. omega arith) tail place e

sound_braces : (continuations : Continuations) (tail : Text) (found : Option ℕ) → closing 123 125 0 0 tail ≡ found → Sound continuations (123 ∷ tail) (reference_of Braces tail found)
sound_braces continuations tail None e =
    let part = open_part 123 125 (λ k. omega arith) tail e in
    (part.0, (part.1, (tail, inr (part.2, part.3))))
sound_braces continuations tail (Some place) e = closed_part 123 125 (λ k. omega arith) tail place e

unit_within : (continuations : Continuations) (byte : ℕ) (text : Text) → (0 < unit_length continuations (byte ∷ text)) × (unit_length continuations (byte ∷ text) ≤ length (byte ∷ text))
unit_within kept byte text = (grind arith, grind (arith, nat_tests))
unit_within dropped byte text = (grind arith, grind (arith, nat_tests))

sound_single : (continuations : Continuations) (byte : ℕ) (text : Text) → IsPlain byte → Sound continuations (byte ∷ text) (single continuations (byte ∷ text))
sound_single continuations byte text p = grind (arith, unit_within, length, take, length-take-le, take-append-drop, not, take-take)

past-dollar : (continuations : Continuations) (byte : ℕ) (text : Text) → (byte == 36) ≡ true → after_dollar continuations (byte ∷ text) ≡ (dollar, 1)
unfolding after_dollar
past-dollar continuations byte text h = rw h refl

sound_after : (continuations : Continuations) (text : Text) → Sound continuations text (after_dollar continuations text)
unfolding after_dollar
sound_after continuations [] = (omega arith, (refl, refl))
sound_after continuations (byte ∷ text) =
    ⊎_elim (λ h. subst (Sound continuations (byte ∷ text)) (sym (past-dollar continuations byte text h)) (omega arith, ap (λ (b : ℕ). 36 ∷ b ∷ []) (eqb-true byte 36 h)))
    (λ h. ⊎_elim (λ k.
    subst (λ b. Sound continuations (b ∷ text) (after_dollar continuations (b ∷ text))) (sym (eqb-true byte 40 k)) (sound_parentheses continuations text (closing 40 41 0 0 text) refl))
    (λ k. ⊎_elim (λ l.
    subst (λ b. Sound continuations (b ∷ text) (after_dollar continuations (b ∷ text))) (sym (eqb-true byte 123 l)) (sound_braces continuations text (closing 123 125 0 0 text) refl))
    (λ l. let p : IsPlain byte = record { no_dollar_here = h; no_parenthesis = k; no_brace = l } in
    subst (Sound continuations (byte ∷ text)) (sym (past-single continuations byte text p)) (sound_single continuations byte text p))
    (cases_Bool (byte == 123)))
    (cases_Bool (byte == 40)))
    (cases_Bool (byte == 36))

pub record FirstTerm (continuations : Continuations) (byte : ℕ) (text : Text) : Type 0 where
  pub within : (first_term continuations byte text).1 ≤ length text
  pub is : IsTerm continuations (first_term continuations byte text).0 (byte ∷ take (first_term continuations byte text).1 text) (drop (first_term continuations byte text).1 text)

abbrev IsFirst : Continuations → ℕ → Text → Term × ℕ → Type 0
IsFirst continuations byte text x = (x.1 ≤ length text) × IsTerm continuations x.0 (byte ∷ take x.1 text) (drop x.1 text)

dollar-first : (continuations : Continuations) (byte : ℕ) (text : Text) → (byte == 36) ≡ true → first_term continuations byte text ≡ after_dollar continuations text
unfolding first_term
dollar-first continuations byte text h = rw h refl

other-first : (continuations : Continuations) (byte : ℕ) (text : Text) → (byte == 36) ≡ false → first_term continuations byte text ≡ literal_run byte text
unfolding first_term
other-first continuations byte text h = rw h refl

first_is : (continuations : Continuations) (byte : ℕ) (text : Text) → IsFirst continuations byte text (first_term continuations byte text)
unfolding first_term
first_is continuations byte text = grind (arith, ⊎_elim, dollar-first, eqb-true, sound_after, other-first, run_within, count_no, take, run, run_free, run_ends, cases_Bool)

pub first_sound : (continuations : Continuations) (byte : ℕ) (text : Text) → FirstTerm continuations byte text
first_sound continuations byte text = let f = first_is continuations byte text in record { within = f.0; is = f.1 }

-- what is computed is a splitting
split_up_to : (continuations : Continuations) (n : ℕ) (text : Text) → length text ≤ n → IsSplittingIn continuations text (terms_after continuations 0 text)
split_up_to continuations n [] small = subst (IsSplittingIn continuations []) (sym (terms_of-nil continuations)) refl
split_up_to continuations zero (byte ∷ text) small = absurd (omega arith)
split_up_to continuations (suc n) (byte ∷ text) small =
    let f = first_sound continuations byte text in
    let more = (first_term continuations byte text).1 in
    let later : length (drop more text) ≤ n = rw (length-drop more text) (omega arith) in
    subst (IsSplittingIn continuations (byte ∷ text)) (sym (terms_of-cons continuations byte text))
    (byte ∷ take more text, drop more text, ap (λ (x : Text). byte ∷ x) (sym (take-append-drop more text)), f.is, split_up_to continuations n (drop more text) later)

pub splits : (continuations : Continuations) (text : Text) → IsSplittingIn continuations text (terms_after continuations 0 text)
splits continuations text = split_up_to continuations (length text) text (omega arith)

-- there are no more terms than bytes
count_after : (continuations : Continuations) (skip : ℕ) (text : Text) → length (terms_after continuations skip text) ≤ length text
unfolding terms_after
count_after continuations skip [] = omega arith
count_after continuations zero (byte ∷ text) = let later = count_after continuations (first_term continuations byte text).1 text in omega arith
count_after continuations (suc skip) (byte ∷ text) = let later = count_after continuations skip text in omega arith

pub term_count_bound : (continuations : Continuations) (text : Text) → length (terms_after continuations 0 text) ≤ length text
unfolding terms_of
term_count_bound continuations text = count_after continuations 0 text

-- of a text whose carriage continuations are dropped
pub one_splitting : OneSplitting terms_of
unfolding terms_of
one_splitting text = (splits dropped text, λ pieces s. only_splitting dropped pieces text s)

pub text_count_bound : (text : Text) → length (terms_of text) ≤ length text
unfolding terms_of
text_count_bound text = term_count_bound dropped text

pub text_ends : terms_of [] ≡ []
unfolding terms_of
text_ends = terms_of-nil dropped

pub text_first : (byte : ℕ) (text rest : Text) (piece : Term) → (first_term dropped byte text).0 ≡ piece → drop (first_term dropped byte text).1 text ≡ rest
    → terms_of (byte ∷ text) ≡ piece ∷ terms_of rest
unfolding terms_of
text_first byte text rest piece p d = terms_first dropped byte text rest piece p d
