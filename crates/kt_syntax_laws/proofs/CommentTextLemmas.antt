-- What is left of a text without its comment, cut by cut.
use Rattle.std.proofs.Common.{◌≡◌, ◌≢◌, ◌⊎◌, ◌≤◌, ◌+◌, ◌/◌, ◌%◌, ◌==◌, ℕ, zero, suc, Bool, true, false, not, List, [], ◌∷◌, ◌++◌, length, drop, if◌then◌else◌, refl, sym, ap, subst, ◌∙◌, arith, append_assoc, append-nil, length-append, zero-add, inl, inr, ⊎_elim, slice_index}
use Rattle.kt_syntax.proofs.Common.{and_parts, cases_Bool, eq-eqb, eqb-true, false≢true, ne_eqb, not-true, nil_from_length, Text, goes_odd, mask_byte, mask_from, mask_of, more_masked, before_comment, comment_place, backslashes, uncommented, uncommented_of}
use Rattle.kt_text_laws.proofs.Numbers.{one_more_odd, suc_sum}
use Rattle.kt_syntax_laws.proofs.SignLemmas.{comment-nil}
use Rattle.kt_syntax_laws.specs.CommentTexts.{CommentLaw, IsFirstSign, Uncomments, has_no_sign, signed}

-- ---- symbols and bytes

-- neither a backslash nor a number sign
abbrev IsOther : ℕ → Type 0
IsOther symbol = (symbol ≢ 92) × (symbol ≢ 35)

two_other : (symbol : ℕ) → (symbol == 92) ≡ false → (symbol == 35) ≡ false → IsOther symbol
two_other symbol h g = (λ e. false≢true (sym h ∙ eq-eqb symbol 92 e), λ e. false≢true (sym g ∙ eq-eqb symbol 35 e))

masked_other : (byte more : ℕ) → more ≢ 0 → IsOther (mask_byte byte more)
masked_other byte more some = grind (arith, ⊎_elim, two_other, ne_eqb, cases_Bool)

-- where a symbol is a backslash or a number sign, so is the byte
Shows : List ℕ → Text → Type 0
Shows [] [] = Unit {0}
Shows [] (byte ∷ text) = ⊥
Shows (symbol ∷ mask) [] = ⊥
Shows (symbol ∷ mask) (byte ∷ text) = (symbol ≡ 92 → byte ≡ 92) × (symbol ≡ 35 → byte ≡ 35) × Shows mask text

itself : (byte more k : ℕ) → k ≢ 256 → k ≢ 32 → mask_byte byte more ≡ k → byte ≡ k
itself byte more k a b = grind (arith, ⊎_elim, cases_Bool)

shows : (skip symbol : ℕ) (odd : Bool) (text : Text) → (skip ≢ 0 → IsOther symbol) → Shows (mask_from skip symbol odd text) text
unfolding mask_from Shows
shows skip symbol odd [] other = tt
shows (suc skip) symbol odd (byte ∷ text) other =
    let o = other (λ e. let k = e in omega arith) in
    ((λ e. absurd (o.0 e)), (λ e. absurd (o.1 e)), shows skip symbol (goes_odd odd byte) text (λ some. o))
shows zero symbol odd (byte ∷ text) other =
    let more : ℕ = more_masked odd byte text in (
      itself byte more 92 (λ e. false≢true (eq-eqb 92 256 e)) (λ e. false≢true (eq-eqb 92 32 e)),
      itself byte more 35 (λ e. false≢true (eq-eqb 35 256 e)) (λ e. false≢true (eq-eqb 35 32 e)),
      shows more (mask_byte byte more) (goes_odd odd byte) text (masked_other byte more),
    )

text_shows : (text : Text) → Shows (mask_of text) text
unfolding mask_of
text_shows text = shows 0 0 false text (λ some. absurd (some refl))

shows_front : (before after front back : List ℕ) → length before ≡ length front → Shows (before ++ after) (front ++ back) → Shows before front
unfolding Shows
shows_front [] after [] back e s = tt
shows_front [] after (byte ∷ front) back e s = absurd (omega arith)
shows_front (symbol ∷ before) after [] back e s = absurd (omega arith)
shows_front (symbol ∷ before) after (byte ∷ front) back e s = (s.0, s.1, shows_front before after front back (omega arith) s.2)

-- behind a number sign outside references the mask begins anew
from_start : (symbol : ℕ) (text : Text) → mask_from 0 symbol false text ≡ mask_of text
unfolding mask_from mask_of
from_start symbol [] = refl
from_start symbol (byte ∷ text) = refl

tail_of : (first second : ℕ) (xs ys : List ℕ) → first ∷ xs ≡ second ∷ ys → xs ≡ ys
tail_of first second xs ys e = ap (drop 1) e

head_of : (first second : ℕ) (xs ys : List ℕ) → first ∷ xs ≡ second ∷ ys → first ≡ second
head_of first second xs ys e = ap (λ l. slice_index l 0) e

anew : (skip symbol : ℕ) (odd : Bool) (front back before after : List ℕ) → (skip ≢ 0 → IsOther symbol) → length before ≡ length front
    → mask_from skip symbol odd (front ++ (35 ∷ back)) ≡ before ++ (35 ∷ after) → after ≡ mask_of back
unfolding mask_from more_masked
anew (suc skip) symbol odd [] back [] after other size e = absurd ((other (λ z. let k = z in omega arith)).1 (head_of symbol 35 _ after e))
anew zero symbol odd [] back [] after other size e = sym (tail_of 35 35 (mask_from 0 35 false back) after e) ∙ from_start 35 back
anew skip symbol odd [] back (first ∷ before) after other size e = absurd (omega arith)
anew skip symbol odd (byte ∷ front) back [] after other size e = absurd (omega arith)
anew (suc skip) symbol odd (byte ∷ front) back (first ∷ before) after other size e =
    let o = other (λ z. let k = z in omega arith) in
    anew skip symbol (goes_odd odd byte) front back before after (λ some. o) (omega arith) (tail_of symbol first _ (before ++ (35 ∷ after)) e)
anew zero symbol odd (byte ∷ front) back (first ∷ before) after other size e =
    let more : ℕ = more_masked odd byte (front ++ (35 ∷ back)) in
    anew more (mask_byte byte more) (goes_odd odd byte) front back before after (masked_other byte more) (omega arith)
    (tail_of (mask_byte byte more) first _ (before ++ (35 ∷ after)) e)

-- ---- runs of backslashes

one_more : (run : ℕ) (text : Text) → backslashes (suc run) ++ text ≡ backslashes run ++ (92 ∷ text)
one_more zero text = refl
one_more (suc run) text = ap (λ t. 92 ∷ t) (one_more run text)

run_more : (run : ℕ) (text : Text) → backslashes (run + 1) ++ text ≡ backslashes run ++ (92 ∷ text)
run_more run text = let n : run + 1 ≡ suc run = omega arith in ap (λ k. backslashes k ++ text) n ∙ one_more run text

-- ---- one symbol

sign_free : (symbol : ℕ) (mask : List ℕ) → has_no_sign (symbol ∷ mask) ≡ true → ((symbol == 35) ≡ false) × (has_no_sign mask ≡ true)
sign_free symbol mask h = let parts = and_parts (not (symbol == 35)) (has_no_sign mask) h in (not-true (symbol == 35) parts.0, parts.1)

at_backslash : (run symbol byte : ℕ) (mask : List ℕ) (text : Text) → (symbol == 92) ≡ true → uncommented run (symbol ∷ mask) (byte ∷ text) ≡ uncommented (run + 1) mask text
unfolding uncommented
at_backslash run symbol byte mask text h = rw h refl

at_other : (run symbol byte : ℕ) (mask : List ℕ) (text : Text) → (symbol == 92) ≡ false → (symbol == 35) ≡ false
    → uncommented run (symbol ∷ mask) (byte ∷ text) ≡ backslashes run ++ (byte ∷ uncommented 0 mask text)
unfolding uncommented
at_other run symbol byte mask text h g = rw (h, g) refl

at_comment : (run : ℕ) (mask : List ℕ) (text : Text) → (run % 2 == 1) ≡ false → uncommented run (35 ∷ mask) (35 ∷ text) ≡ backslashes (run / 2)
unfolding uncommented
at_comment run mask text h = rw h (append-nil (backslashes (run / 2)))

at_literal : (run : ℕ) (mask : List ℕ) (text : Text) → (run % 2 == 1) ≡ true → uncommented run (35 ∷ mask) (35 ∷ text) ≡ backslashes (run / 2) ++ (35 ∷ uncommented 0 mask text)
unfolding uncommented
at_literal run mask text h = rw h refl

place_goes : (odd : Bool) (symbol : ℕ) (mask : List ℕ) → (symbol == 35) ≡ false → before_comment odd (symbol ∷ mask) ≡ suc (before_comment (goes_odd odd symbol) mask)
unfolding before_comment
place_goes odd symbol mask h = rw h refl

place_comment : (mask : List ℕ) → before_comment false (35 ∷ mask) ≡ 0
unfolding before_comment
place_comment mask = refl

place_literal : (mask : List ℕ) → before_comment true (35 ∷ mask) ≡ suc (before_comment false mask)
unfolding before_comment
place_literal mask = refl

-- whether a run so long is odd, one symbol later
odd_run : ℕ → Bool
odd_run run = run % 2 == 1

run_next : ℕ → ℕ → ℕ
run_next run symbol = if symbol == 92 then run + 1 else 0

odd_next : (run symbol : ℕ) → goes_odd (odd_run run) symbol ≡ odd_run (run_next run symbol)
unfolding odd_run run_next
odd_next run symbol = grind (arith, ⊎_elim, one_more_odd, cases_Bool)

-- ---- symbols without a number sign

text_stays : (run : ℕ) (mask : List ℕ) (text : Text) → Shows mask text → has_no_sign mask ≡ true → uncommented run mask text ≡ backslashes run ++ text
unfolding Shows uncommented
text_stays run [] [] s n = sym (append-nil (backslashes run))
text_stays run [] (byte ∷ text) s n = absurd s
text_stays run (symbol ∷ mask) [] s n = absurd s
text_stays run (symbol ∷ mask) (byte ∷ text) s n =
    let free = sign_free symbol mask n in
    ⊎_elim
    (λ h. at_backslash run symbol byte mask text h ∙ text_stays (run + 1) mask text s.2 free.1 ∙ run_more run text
    ∙ ap (λ b. backslashes run ++ (b ∷ text)) (sym (s.0 (eqb-true symbol 92 h))))
    (λ h. at_other run symbol byte mask text h free.0 ∙ ap (λ t. backslashes run ++ (byte ∷ t)) (text_stays 0 mask text s.2 free.1))
    (cases_Bool (symbol == 92))

place_stays : (odd : Bool) (mask : List ℕ) → has_no_sign mask ≡ true → before_comment odd mask ≡ length mask
place_stays odd [] n = comment-nil odd
place_stays odd (symbol ∷ mask) n =
    let free = sign_free symbol mask n in
    place_goes odd symbol mask free.0 ∙ ap suc (place_stays (goes_odd odd symbol) mask free.1)

-- no backslash stands at the end of symbols that come after so many
EndsOther : ℕ → List ℕ → Type 0
EndsOther run [] = run ≡ 0
EndsOther run (symbol ∷ mask) = EndsOther (run_next run symbol) mask

ends_other : (run : ℕ) (mask : List ℕ) → (mask ≡ [] → run ≡ 0) → ((others : List ℕ) → mask ≢ others ++ 92 ∷ []) → EndsOther run mask
unfolding EndsOther run_next
ends_other run [] first all = first refl
ends_other run (symbol ∷ []) first all =
    ⊎_elim (λ h. absurd (all [] (ap (λ b. b ∷ []) (eqb-true symbol 92 h)))) (λ h. rw h refl) (cases_Bool (symbol == 92))
ends_other run (symbol ∷ next ∷ mask) first all =
    ends_other (run_next run symbol) (next ∷ mask) (λ e. let n = ap length e in absurd (omega arith)) (λ others e. all (symbol ∷ others) (ap (λ l. symbol ∷ l) e))

-- what stands before the first number sign stays
text_leads : (run : ℕ) (before front mask : List ℕ) (text : Text) → Shows before front → has_no_sign before ≡ true → EndsOther run before
    → uncommented run (before ++ mask) (front ++ text) ≡ backslashes run ++ (front ++ uncommented 0 mask text)
unfolding Shows EndsOther run_next
text_leads run [] [] mask text s n e = ap (λ r. uncommented r mask text) e ∙ ap (λ r. backslashes r ++ uncommented 0 mask text) (sym e)
text_leads run [] (byte ∷ front) mask text s n e = absurd s
text_leads run (symbol ∷ before) [] mask text s n e = absurd s
text_leads run (symbol ∷ before) (byte ∷ front) mask text s n e =
    let free = sign_free symbol before n in
    ⊎_elim
    (λ h.
    let more : run_next run symbol ≡ run + 1 = rw h refl in
    at_backslash run symbol byte (before ++ mask) (front ++ text) h
    ∙ text_leads (run + 1) before front mask text s.2 free.1 (subst (λ r. EndsOther r before) more e)
    ∙ run_more run (front ++ uncommented 0 mask text) ∙ ap (λ b. backslashes run ++ (b ∷ (front ++ uncommented 0 mask text))) (sym (s.0 (eqb-true symbol 92 h))))
    (λ h.
    let none : run_next run symbol ≡ 0 = rw h refl in
    at_other run symbol byte (before ++ mask) (front ++ text) h free.0
    ∙ ap (λ t. backslashes run ++ (byte ∷ t)) (text_leads 0 before front mask text s.2 free.1 (subst (λ r. EndsOther r before) none e)))
    (cases_Bool (symbol == 92))

nothing_before : (mask : List ℕ) → before_comment (odd_run 0) mask ≡ 0 + before_comment false mask
unfolding odd_run
nothing_before mask = sym (zero-add (before_comment false mask))

place_leads : (run : ℕ) (before mask : List ℕ) → has_no_sign before ≡ true → EndsOther run before
    → before_comment (odd_run run) (before ++ mask) ≡ length before + before_comment false mask
unfolding EndsOther
place_leads run [] mask n e = ap (λ r. before_comment (odd_run r) mask) e ∙ nothing_before mask
place_leads run (symbol ∷ before) mask n e =
    let free = sign_free symbol before n in
    place_goes (odd_run run) symbol (before ++ mask) free.0 ∙ ap (λ o. suc (before_comment o (before ++ mask))) (odd_next run symbol)
    ∙ ap suc (place_leads (run_next run symbol) before mask free.1 e) ∙ suc_sum (length before) (before_comment false mask)

-- a run
text_runs : (run more : ℕ) (mask : List ℕ) (text : Text) → uncommented run (backslashes more ++ mask) (backslashes more ++ text) ≡ uncommented (run + more) mask text
text_runs run zero mask text = ap (λ r. uncommented r mask text) (omega arith)
text_runs run (suc more) mask text = grind (arith, at_backslash, text_runs (run + 1) more mask text)

place_runs : (run more : ℕ) (mask : List ℕ) → before_comment (odd_run run) (backslashes more ++ mask) ≡ more + before_comment (odd_run (run + more)) mask
unfolding run_next
place_runs run zero mask = grind (arith, odd_run, zero-add)
place_runs run (suc more) mask =
    let same : run + 1 + more ≡ run + suc more = omega arith in
    place_goes (odd_run run) 92 (backslashes more ++ mask) refl ∙ ap (λ o. suc (before_comment o (backslashes more ++ mask))) (odd_next run 92)
    ∙ ap suc (place_runs (run + 1) more mask) ∙ ap (λ r. suc (more + before_comment (odd_run r) mask)) same
    ∙ suc_sum more (before_comment (odd_run (run + suc more)) mask)

-- ---- the first number sign

abbrev symbols_of : (front : Text) (run : ℕ) (back : Text) → IsFirstSign front run back → List ℕ
symbols_of front run back is = is.before ++ (backslashes run ++ (35 ∷ is.after))

after_sign : (front : Text) (run : ℕ) (back : Text) → (is : IsFirstSign front run back) → is.after ≡ mask_of back
unfolding mask_of
after_sign front run back is =
    let longer : length (is.before ++ backslashes run) ≡ length (front ++ backslashes run) =
    length-append is.before (backslashes run) ∙ ap (λ n. n + length (backslashes run)) is.size ∙ sym (length-append front (backslashes run)) in
    anew 0 0 false (front ++ backslashes run) back (is.before ++ backslashes run) is.after (λ some. absurd (some refl)) longer
    (ap (mask_from 0 0 false) (append_assoc front (backslashes run) (35 ∷ back)) ∙ is.symbols ∙ sym (append_assoc is.before (backslashes run) (35 ∷ is.after)))

sign_text : (front : Text) (run : ℕ) (back : Text) → (is : IsFirstSign front run back)
    → uncommented_of (signed front run back) ≡ front ++ uncommented run (35 ∷ mask_of back) (35 ∷ back)
unfolding uncommented_of
sign_text front run back is =
    let shown = shows_front is.before (backslashes run ++ (35 ∷ is.after)) front (backslashes run ++ (35 ∷ back)) is.size (subst (λ m. Shows m (signed front run back)) is.symbols (text_shows (signed front run back))) in
    let none : 0 + run ≡ run = omega arith in
    ap (λ m. uncommented 0 m (signed front run back)) is.symbols
    ∙ text_leads 0 is.before front (backslashes run ++ (35 ∷ is.after)) (backslashes run ++ (35 ∷ back)) shown is.first (ends_other 0 is.before (λ e. refl) is.all)
    ∙ ap (λ t. front ++ t) (text_runs 0 run (35 ∷ is.after) (35 ∷ back) ∙ ap (λ r. uncommented r (35 ∷ is.after) (35 ∷ back)) none
    ∙ ap (λ m. uncommented run (35 ∷ m) (35 ∷ back)) (after_sign front run back is))

sign_place : (front : Text) (run : ℕ) (back : Text) → (is : IsFirstSign front run back)
    → comment_place (signed front run back) ≡ length front + (run + before_comment (odd_run run) (35 ∷ mask_of back))
unfolding odd_run
sign_place front run back is =
    let none : 0 + run ≡ run = omega arith in
    ap (before_comment false) is.symbols
    ∙ place_leads 0 is.before (backslashes run ++ (35 ∷ is.after)) is.first (ends_other 0 is.before (λ e. refl) is.all)
    ∙ ap (λ n. n + before_comment false (backslashes run ++ (35 ∷ is.after))) is.size
    ∙ ap (λ n. length front + n) (place_runs 0 run (35 ∷ is.after) ∙ ap (λ r. run + before_comment (odd_run r) (35 ∷ is.after)) none
    ∙ ap (λ m. run + before_comment (odd_run run) (35 ∷ m)) (after_sign front run back is))

unsigned_text : (text : Text) → has_no_sign (mask_of text) ≡ true → uncommented_of text ≡ text
unfolding uncommented_of
unsigned_text text none = text_stays 0 (mask_of text) text (text_shows text) none

mask_long : (mask : List ℕ) (text : Text) → Shows mask text → length mask ≡ length text
unfolding Shows
mask_long [] [] s = refl
mask_long [] (byte ∷ text) s = absurd s
mask_long (symbol ∷ mask) [] s = absurd s
mask_long (symbol ∷ mask) (byte ∷ text) s = ap suc (mask_long mask text s.2)

even_run : (run : ℕ) → run % 2 ≡ 0 → odd_run run ≡ false
unfolding odd_run
even_run run h = ne_eqb (run % 2) 1 (λ e. omega arith)

uneven_run : (run : ℕ) → run % 2 ≡ 1 → odd_run run ≡ true
unfolding odd_run
uneven_run run h = eq-eqb (run % 2) 1 h

comment_text : (front : Text) (run : ℕ) (back : Text) → IsFirstSign front run back → run % 2 ≡ 0 → uncommented_of (signed front run back) ≡ front ++ backslashes (run / 2)
unfolding odd_run
comment_text front run back is h = sign_text front run back is ∙ ap (λ t. front ++ t) (at_comment run (mask_of back) back (even_run run h))

literal_text : (front : Text) (run : ℕ) (back : Text) → IsFirstSign front run back → run % 2 ≡ 1
    → uncommented_of (signed front run back) ≡ front ++ (backslashes (run / 2) ++ (35 ∷ uncommented_of back))
unfolding odd_run uncommented_of
literal_text front run back is h = sign_text front run back is ∙ ap (λ t. front ++ t) (at_literal run (mask_of back) back (uneven_run run h))

comment_at : (front : Text) (run : ℕ) (back : Text) → IsFirstSign front run back → run % 2 ≡ 0 → comment_place (signed front run back) ≡ length front + run
comment_at front run back is h = grind (arith, sign_place, length, even_run, place_comment)

literal_at : (front : Text) (run : ℕ) (back : Text) → IsFirstSign front run back → run % 2 ≡ 1
    → comment_place (signed front run back) ≡ length front + (run + (1 + comment_place back))
literal_at front run back is h = grind (arith, sign_place, length, uneven_run, place_literal)

uncomments : Uncomments uncommented_of comment_place
uncomments = grind (arith, unsigned_text, place_stays, mask_long, text_shows, comment_text, comment_at, literal_text, literal_at)

-- ---- one answer

-- where the first number sign stands, with the backslashes before it
record Found (mask : List ℕ) (text : Text) : Type 0 where
  before : List ℕ
  run : ℕ
  after : List ℕ
  front : Text
  back : Text
  symbols : mask ≡ before ++ (backslashes run ++ (35 ∷ after))
  whole : text ≡ signed front run back
  size : length before ≡ length front
  first : has_no_sign before ≡ true
  all : (others : List ℕ) → before ≢ others ++ 92 ∷ []

not_nil : (others : List ℕ) (symbol : ℕ) → [] ≢ others ++ symbol ∷ []
not_nil others symbol e = let n = ap length e ∙ length-append others (symbol ∷ []) in absurd (omega (arith, n))

found_here : (symbol byte : ℕ) (mask : List ℕ) (text : Text) → symbol ≡ 35 → byte ≡ 35 → Found (symbol ∷ mask) (byte ∷ text)
found_here symbol byte mask text e f = record {
  before = [];
  run = 0;
  after = mask;
  front = [];
  back = text;
  symbols = ap (λ s. s ∷ mask) e;
  whole = ap (λ b. b ∷ text) f;
  size = refl;
  first = refl;
  all = λ others. not_nil others 92;
}

-- one symbol more before what stands before it
no_more : (symbol : ℕ) (before : List ℕ) → ((symbol == 92) ≡ true → before ≢ []) → ((others : List ℕ) → before ≢ others ++ 92 ∷ []) → (others : List ℕ) → symbol ∷ before ≢ others ++ 92 ∷ []
no_more symbol before some all [] e = some (eq-eqb symbol 92 (head_of symbol 92 before [] e)) (tail_of symbol 92 before [] e)
no_more symbol before some all (other ∷ others) e = all others (tail_of symbol other before (others ++ 92 ∷ []) e)

found_more : (symbol byte : ℕ) (mask : List ℕ) (text : Text) → (f : Found mask text) → (symbol == 35) ≡ false → ((symbol == 92) ≡ true → f.before ≢ []) → Found (symbol ∷ mask) (byte ∷ text)
found_more symbol byte mask text f h some = record {
  before = symbol ∷ f.before;
  run = f.run;
  after = f.after;
  front = byte ∷ f.front;
  back = f.back;
  symbols = ap (λ m. symbol ∷ m) f.symbols;
  whole = ap (λ t. byte ∷ t) f.whole;
  size = ap suc f.size;
  first = rw h f.first;
  all = no_more symbol f.before some f.all;
}

-- or one backslash more of the run
found_run : (mask : List ℕ) (text : Text) (symbol byte : ℕ) → (f : Found mask text) → symbol ≡ 92 → byte ≡ 92 → f.before ≡ [] → Found (symbol ∷ mask) (byte ∷ text)
found_run mask text symbol byte f e b none =
    let bare : f.front ≡ [] = nil_from_length f.front (sym f.size ∙ ap length none) in
    record {
      before = [];
      run = suc f.run;
      after = f.after;
      front = [];
      back = f.back;
      symbols = ap (λ s. s ∷ mask) e ∙ ap (λ m. 92 ∷ m) (f.symbols ∙ ap (λ l. l ++ (backslashes f.run ++ (35 ∷ f.after))) none);
      whole = ap (λ s. s ∷ text) b ∙ ap (λ t. 92 ∷ t) (f.whole ∙ ap (λ l. signed l f.run f.back) bare);
      size = refl;
      first = refl;
      all = λ others. not_nil others 92;
    }

nil_or_not : (l : List ℕ) → (l ≡ []) ⊎ (l ≢ [])
nil_or_not [] = inl refl
nil_or_not (x ∷ l) = inr (λ e. let n = ap length e in absurd (omega (arith, n)))

found_by : (symbol byte : ℕ) (mask : List ℕ) (text : Text) → (symbol ≡ 92 → byte ≡ 92) → (symbol == 35) ≡ false → Found mask text → Found (symbol ∷ mask) (byte ∷ text)
found_by symbol byte mask text same h f =
    ⊎_elim
    (λ g. ⊎_elim (λ none. found_run mask text symbol byte f (eqb-true symbol 92 g) (same (eqb-true symbol 92 g)) none) (λ some. found_more symbol byte mask text f h (λ e. some)) (nil_or_not f.before))
    (λ g. found_more symbol byte mask text f h (λ e. absurd (false≢true (sym g ∙ e))))
    (cases_Bool (symbol == 92))

find : (mask : List ℕ) (text : Text) → Shows mask text → (has_no_sign mask ≡ true) ⊎ Found mask text
unfolding Shows
find [] text s = inl refl
find (symbol ∷ mask) [] s = absurd s
find (symbol ∷ mask) (byte ∷ text) s =
    ⊎_elim
    (λ h. inr (found_here symbol byte mask text (eqb-true symbol 35 h) (s.1 (eqb-true symbol 35 h))))
    (λ h. ⊎_elim (λ none. inl (rw h none)) (λ f. inr (found_by symbol byte mask text s.0 h f)) (find mask text s.2))
    (cases_Bool (symbol == 35))

is_first : (text : Text) (f : Found (mask_of text) text) → IsFirstSign f.front f.run f.back
is_first text f = grind arith

left_over : (text front : Text) (run : ℕ) (back : Text) (fuel : ℕ) → text ≡ signed front run back → length text ≤ suc fuel → length back ≤ fuel
left_over text front run back fuel whole small = grind (arith, length, length-append)

parity : (n : ℕ) → (n % 2 ≡ 0) ⊎ (n % 2 ≡ 1)
parity n = ⊎_elim (λ h. inr (eqb-true (n % 2) 1 h)) (λ h. inl (let other : (n % 2 ≡ 1 → ⊥) = (λ e. false≢true (sym h ∙ eq-eqb (n % 2) 1 e)) in omega arith)) (cases_Bool (n % 2 == 1))

nothing_masked : has_no_sign (mask_of []) ≡ true
unfolding mask_of mask_from
nothing_masked = refl

module _ (one : Text → Text) (at : Text → ℕ) (other : Text → Text) (there : Text → ℕ) (a : Uncomments one at) (b : Uncomments other there) where
  abbrev Same : Text → Type 0
  Same text = (one text ≡ other text) × (at text ≡ there text)

  same_sign : (front : Text) (run : ℕ) (back : Text) → IsFirstSign front run back → Same back → (run % 2 ≡ 0) ⊎ (run % 2 ≡ 1) → Same (signed front run back)
  same_sign front run back is later h = grind (arith, length)

  same_stays : (text : Text) → has_no_sign (mask_of text) ≡ true → Same text
  same_stays text none = grind arith

  same_by : (fuel : ℕ) (text : Text) → length text ≤ suc fuel → ((back : Text) → length back ≤ fuel → Same back) → (has_no_sign (mask_of text) ≡ true) ⊎ Found (mask_of text) text
      → Same text
  same_by fuel text small later (inl none) = same_stays text none
  same_by fuel text small later (inr f) =
      subst Same (sym f.whole)
      (same_sign f.front f.run f.back (is_first text f) (later f.back (left_over text f.front f.run f.back fuel f.whole small)) (parity f.run))

  same_within : (fuel : ℕ) (text : Text) → length text ≤ fuel → Same text
  same_within zero [] small = same_stays [] nothing_masked
  same_within zero (byte ∷ text) small = absurd (omega arith)
  same_within (suc fuel) text small = same_by fuel text small (same_within fuel) (find (mask_of text) text (text_shows text))

pub comment_law : CommentLaw
comment_law = record {
  is = uncomments;
  only = λ uncomment place is text. same_within uncomment place uncommented_of comment_place is uncomments (length text) text (omega arith);
}
