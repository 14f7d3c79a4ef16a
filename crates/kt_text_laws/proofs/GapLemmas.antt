-- A text is condensed cut by cut, and in no other way.
use Rattle.std.proofs.Common.{rules, ◌≡◌, ◌≢◌, ◌⊎◌, ◌≤◌, ◌-◌, ◌+◌, ◌==◌, ◌||◌, ℕ, zero, suc, Bool, true, false, List, [], ◌∷◌, ◌++◌, length, refl, sym, ap, ap₂, subst, ◌∙◌, arith, append_assoc, append-nil, length-append, ⊎_elim, slice_index}
use Rattle.kt_text.proofs.Common.{eq-eqb, eqb-true, false≢true, get_or-append-add, flat_map, list_any, Text, is_blank, trimmed_end, trimmed_start, condensed_of, is_continued_text, space_before}
use Rattle.kt_text_laws.specs.Condensing.{Condenses, IsGap, IsNewline, FirstStands, Spacing, StandsAfter, is_continuation, spelled, space, tab, continuation, returned}
use Rattle.kt_text.proofs.lemmas.CondensedLemmas.{condensed_alone}
use Rattle.kt_text_laws.proofs.CuttingLemmas.{FirstNewline, condensed_from, condensed_from-start, first_newline, from_continued, from_ended, from_free, kept_part, part, no_newline, first_continued, first_ended}
use Rattle.kt_text_laws.proofs.NewlineLemmas.{IsFree, free_append}
use Rattle.kt_text_laws.proofs.TrimLemmas.{AllBlank, EndsPlain, end_blanks, end_first, even_blank, even_blanks, even_past, free_blanks, start_blank, start_plain, started}

abbrev pub spelling : List Spacing → Text
spelling run = flat_map spelled run

-- ---- what stands after a run

-- no blank and no continuation stands at the begin
abbrev pub BeginsPlain : Text → Type 0
BeginsPlain text = (one : Spacing) (rest : Text) → text ≢ spelled one ++ rest

pub not_either : (a b : Bool) → (a ≡ true → ⊥) → (b ≡ true → ⊥) → (a || b) ≡ false
not_either a b first second = grind arith

plain_first : (byte : ℕ) (text : Text) → BeginsPlain (byte ∷ text) → is_blank byte ≡ false
unfolding is_blank
plain_first byte text plain = not_either (byte == 32) (byte == 9)
    (λ h. plain space text (ap (λ b. b ∷ text) (eqb-true byte 32 h))) (λ h. plain tab text (ap (λ b. b ∷ text) (eqb-true byte 9 h)))

plain_start : (text rest : Text) → BeginsPlain (text ++ rest) → trimmed_start text ≡ text
plain_start [] rest plain = refl
plain_start (byte ∷ text) rest plain = start_plain byte text (plain_first byte (text ++ rest) plain)

-- what is made of it is the same but for the space
plain_continued : (front : Text) (one : Spacing) (after : Text) → IsFree front → is_continuation one ≡ true → is_continued_text front ≡ false
    → BeginsPlain (front ++ (spelled one ++ after)) → condensed_from true (front ++ (spelled one ++ after)) ≡ 32 ∷ condensed_from false (front ++ (spelled one ++ after))
plain_continued [] one after free is even plain = absurd (plain one after refl)
plain_continued (byte ∷ front) one after free is even plain = search (rules, plain_first, start_plain, end_first, from_continued, condensed_from)

after_plain_by : (text : Text) → BeginsPlain text → FirstNewline text → condensed_from true text ≡ 32 ∷ condensed_from false text
after_plain_by text plain (no_newline free) =
    from_free true text free ∙ ap (λ t. 32 ∷ t) (plain_start text [] (subst BeginsPlain (sym (append-nil text)) plain) ∙ sym (from_free false text free))
after_plain_by text plain (first_continued front after one whole free is even) = grind (arith, condensed_from, plain_continued)
after_plain_by text plain (first_ended front mark after whole free is) =
    subst (λ t. condensed_from true t ≡ 32 ∷ condensed_from false t) (sym whole)
    (from_ended true front mark after free is
    ∙ ap (λ (t : Text). 32 ∷ (t ++ (10 ∷ condensed_from false after))) (plain_start front (mark ++ after) (subst BeginsPlain whole plain))
    ∙ ap (λ t. 32 ∷ t) (sym (from_ended false front mark after free is)))

-- a blank after a continuation has no part in it
last_more : (byte next : ℕ) (text : Text) → slice_index (byte ∷ next ∷ text) (length (byte ∷ next ∷ text) - 1) ≡ slice_index (next ∷ text) (length (next ∷ text) - 1)
last_more byte next text = grind (arith, length)

pub newline_blank : (byte : ℕ) (front mark : Text) → is_blank byte ≡ true → IsNewline front mark → IsNewline (byte ∷ front) mark
unfolding is_blank
newline_blank byte front mark h is = grind (arith, ⊎_elim, false≢true, even_blank, last_more)

pub blank_free : (byte : ℕ) (text : Text) → is_blank byte ≡ true → IsFree text → IsFree (byte ∷ text)
unfolding AllBlank
blank_free byte text h free = free_append (byte ∷ []) text (free_blanks (byte ∷ []) (h, tt)) free

after_blank_by : (byte : ℕ) (text : Text) → is_blank byte ≡ true → FirstNewline text → condensed_from true (byte ∷ text) ≡ condensed_from true text
after_blank_by byte text h (no_newline free) =
    from_free true (byte ∷ text) (blank_free byte text h free) ∙ ap (λ (t : Text). 32 ∷ t) (start_blank byte text h) ∙ sym (from_free true text free)
after_blank_by byte text h (first_continued front after one whole free is even) =
    subst (λ t. condensed_from true (byte ∷ t) ≡ condensed_from true t) (sym whole)
    (from_continued true (byte ∷ front) one after (blank_free byte front h free) is (even_blank byte front h ∙ even)
    ∙ ap (λ (t : Text). (space_before true true (trimmed_end t) ++ trimmed_end t) ++ condensed_from true after) (start_blank byte front h)
    ∙ sym (from_continued true front one after free is even))
after_blank_by byte text h (first_ended front mark after whole free is) =
    subst (λ t. condensed_from true (byte ∷ t) ≡ condensed_from true t) (sym whole)
    (from_ended true (byte ∷ front) mark after (blank_free byte front h free) (newline_blank byte front mark h is)
    ∙ ap (λ (t : Text). (32 ∷ t) ++ (10 ∷ condensed_from false after)) (start_blank byte front h)
    ∙ sym (from_ended true front mark after free is))

after_blank : (byte : ℕ) (text : Text) → is_blank byte ≡ true → condensed_from true (byte ∷ text) ≡ condensed_from true text
after_blank byte text h = after_blank_by byte text h (first_newline text)

after_one : (one : Spacing) (text : Text) → condensed_from true (spelled one ++ text) ≡ condensed_from true text
unfolding is_blank IsFree
after_one space text = after_blank 32 text refl
after_one tab text = after_blank 9 text refl
after_one continuation text = from_continued true [] continuation text tt refl refl
after_one returned text = from_continued true [] returned text tt refl refl

after_run : (run : List Spacing) (back : Text) → BeginsPlain back → condensed_from true (spelling run ++ back) ≡ 32 ∷ condensed_from false back
after_run [] back plain = after_plain_by back plain (first_newline back)
after_run (one ∷ run) back plain = grind (arith, condensed_from, append_assoc, after_one, after_run run back plain)

-- ---- a run with a continuation

-- the blanks before its first continuation
record Split (run : List Spacing) : Type 0 where
  blanks : Text
  one : Spacing
  others : List Spacing
  whole : (back : Text) → spelling run ++ back ≡ blanks ++ (spelled one ++ (spelling others ++ back))
  blank : AllBlank blanks
  is : is_continuation one ≡ true
  even : (front : Text) → FirstStands front run → is_continued_text (front ++ blanks) ≡ false

-- one blank more
split_blank : (one : Spacing) (byte : ℕ) (run : List Spacing) → spelled one ≡ byte ∷ [] → is_blank byte ≡ true → (byte == 92) ≡ false → Split run → Split (one ∷ run)
unfolding AllBlank
split_blank one byte run is blank other rest = record {
  blanks = byte ∷ rest.blanks;
  one = rest.one;
  others = rest.others;
  whole = λ back. ap (λ t. (t ++ spelling run) ++ back) is ∙ ap (λ t. byte ∷ t) (rest.whole back);
  blank = (blank, rest.blank);
  is = rest.is;
  even = λ front s. even_past front byte rest.blanks other ∙ even_blanks rest.blanks rest.blank;
}

-- a continuation
split_here : (one : Spacing) (run : List Spacing) → is_continuation one ≡ true → Split (one ∷ run)
unfolding AllBlank
split_here one run is = record {
  blanks = [];
  one = one;
  others = run;
  whole = λ back. append_assoc (spelled one) (spelling run) back;
  blank = tt;
  is = is;
  even = λ front s. ap (λ t. is_continued_text t) (append-nil front) ∙ s is;
}

split : (run : List Spacing) → list_any is_continuation run ≡ true → Split run
unfolding is_blank
split [] h = absurd (false≢true h)
split (space ∷ run) h = split_blank space 32 run refl refl refl (split run h)
split (tab ∷ run) h = split_blank tab 9 run refl refl refl (split run h)
split (continuation ∷ run) h = split_here continuation run refl
split (returned ∷ run) h = split_here returned run refl

pub ends_plain : (front : Text) → ((text : Text) → front ≢ text ++ 32 ∷ []) → ((text : Text) → front ≢ text ++ 9 ∷ []) → EndsPlain front
unfolding EndsPlain is_blank
ends_plain [] first second = tt
ends_plain (byte ∷ []) first second =
    not_either (byte == 32) (byte == 9) (λ h. first [] (ap (λ b. b ∷ []) (eqb-true byte 32 h))) (λ h. second [] (ap (λ b. b ∷ []) (eqb-true byte 9 h)))
ends_plain (byte ∷ next ∷ text) first second =
    ends_plain (next ∷ text) (λ t e. first (byte ∷ t) (ap (λ l. byte ∷ l) e)) (λ t e. second (byte ∷ t) (ap (λ l. byte ∷ l) e))

before_run : (continued : Bool) (front blanks : Text) → EndsPlain front → AllBlank blanks → (continued ≡ true → front ≡ [] → ⊥)
    → part continued true (front ++ blanks) ≡ part continued false front
before_run false front blanks plain blank some = end_blanks front blanks plain blank
before_run true [] blanks plain blank some = absurd (some refl refl)
before_run true (byte ∷ front) blanks plain blank some =
    let s = started byte front plain in
    let kept : kept_part true true ((byte ∷ front) ++ blanks) ≡ s.first ∷ s.others =
    ap (λ (t : Text). trimmed_end t) (s.start blanks) ∙ end_blanks (s.first ∷ s.others) blanks s.plain blank in
    let same : trimmed_start (byte ∷ front) ≡ s.first ∷ s.others =
    ap (λ (t : Text). trimmed_start (byte ∷ t)) (sym (append-nil front)) ∙ s.start [] ∙ ap (λ t. s.first ∷ t) (append-nil s.others) in
    ap (λ (t : Text). space_before true true t ++ t) kept ∙ ap (λ t. 32 ∷ t) (sym same)

-- the front and the run on one line
gap_free : (continued : Bool) (front : Text) (run : List Spacing) (back : Text) → IsFree front → IsGap front run back → (continued ≡ true → front ≡ [] → ⊥)
    → condensed_from continued (front ++ (spelling run ++ back)) ≡ condensed_from continued front ++ (32 ∷ condensed_from false back)
gap_free continued front run back free gap some =
    let s = split run gap.holds in
    let plain = ends_plain front (λ t. gap.before t space (λ e. absurd (false≢true e))) (λ t. gap.before t tab (λ e. absurd (false≢true e))) in
    ap (λ t. condensed_from continued (front ++ t)) (s.whole back)
    ∙ ap (condensed_from continued) (sym (append_assoc front s.blanks (spelled s.one ++ (spelling s.others ++ back))))
    ∙ from_continued continued (front ++ s.blanks) s.one (spelling s.others ++ back) (free_append front s.blanks free (free_blanks s.blanks s.blank)) s.is (s.even front gap.stands)
    ∙ ap (λ t. part continued true (front ++ s.blanks) ++ t) (after_run s.others back gap.after)
    ∙ ap (λ t. t ++ (32 ∷ condensed_from false back)) (before_run continued front s.blanks plain s.blank some ∙ sym (from_free continued front free))

-- ---- a cut behind the first newline

spacing_end : (one : Spacing) → is_continuation one ≡ true → (before : Text) × (spelled one ≡ before ++ 10 ∷ [])
spacing_end space h = absurd (false≢true h)
spacing_end tab h = absurd (false≢true h)
spacing_end continuation h = (92 ∷ [], refl)
spacing_end returned h = (92 ∷ 13 ∷ [], refl)

pub newline_end : (front mark : Text) → IsNewline front mark → (before : Text) × (mark ≡ before ++ 10 ∷ [])
newline_end front mark is = ⊎_elim (λ e. (13 ∷ [], e)) (λ e. ([], e.0)) is.form

-- a text of which all but what follows its first newline is made for itself
record Step (text : Text) : Type 0 where
  lead : Text
  after : Text
  more : Bool
  made : Bool → Text
  whole : text ≡ lead ++ (10 ∷ after)
  step : (continued : Bool) (rest : Text) → condensed_from continued (text ++ rest) ≡ made continued ++ condensed_from more (after ++ rest)
  open_end : more ≡ true → after ≡ [] → (before : Text) × (one : Spacing) × StandsAfter before one × (text ≡ before ++ spelled one)

pub past : (front mark before after : Text) → mark ≡ before ++ 10 ∷ [] → front ++ (mark ++ after) ≡ (front ++ before) ++ (10 ∷ after)
past front mark before after e = grind (arith, append_assoc)

three : (front mark after rest : Text) → (front ++ (mark ++ after)) ++ rest ≡ front ++ (mark ++ (after ++ rest))
three front mark after rest = append_assoc front (mark ++ after) rest ∙ ap (λ t. front ++ t) (append_assoc mark after rest)

step_continued : (front : Text) (one : Spacing) (after : Text) → IsFree front → is_continuation one ≡ true → is_continued_text front ≡ false → Step (front ++ (spelled one ++ after))
step_continued front one after free is even =
    let end = spacing_end one is in
    record {
      lead = front ++ end.0;
      after = after;
      more = true;
      made = λ continued. part continued true front;
      whole = past front (spelled one) end.0 after end.1;
      step = λ continued rest. ap (condensed_from continued) (three front (spelled one) after rest) ∙ from_continued continued front one (after ++ rest) free is even;
      open_end = λ yes none. (front, one, (λ h. even), ap (λ t. front ++ (spelled one ++ t)) none ∙ ap (λ t. front ++ t) (append-nil (spelled one)));
    }

step_ended : (front mark after : Text) → IsFree front → IsNewline front mark → Step (front ++ (mark ++ after))
step_ended front mark after free is =
    let end = newline_end front mark is in
    record {
      lead = front ++ end.0;
      after = after;
      more = false;
      made = λ continued. part continued false front ++ 10 ∷ [];
      whole = past front mark end.0 after end.1;
      step = grind (arith, condensed_from, three, from_ended, append_assoc, part);
      open_end = λ yes. absurd (false≢true yes);
    }

step_by : (text : Text) → FirstNewline text → IsFree text ⊎ Step text
step_by text h = grind (arith, step_continued, step_ended)

pub shorter : (text lead after : Text) (fuel : ℕ) → text ≡ lead ++ (10 ∷ after) → length text ≤ suc fuel → length after ≤ fuel
shorter text lead after fuel whole small = grind (arith, length, length-append)

not_empty : (text lead after : Text) → text ≡ lead ++ (10 ∷ after) → length text ≤ 0 → ⊥
not_empty text lead after whole small = grind (arith, length, length-append)

-- the texts before and after a cut are made for themselves, where this is so for what follows the first newline
joins : (text : Text) (s : Step text) (continued : Bool) (cut back : Text) → condensed_from s.more (s.after ++ cut) ≡ condensed_from s.more s.after ++ back
    → condensed_from continued (text ++ cut) ≡ condensed_from continued text ++ back
joins text s continued cut back later =
    let alone : condensed_from continued text ≡ s.made continued ++ condensed_from s.more s.after =
    ap (condensed_from continued) (sym (append-nil text)) ∙ s.step continued [] ∙ ap (λ t. s.made continued ++ condensed_from s.more t) (append-nil s.after) in
    s.step continued cut ∙ ap (λ t. s.made continued ++ t) later
    ∙ sym (append_assoc (s.made continued) (condensed_from s.more s.after) back) ∙ ap (λ t. t ++ back) (sym alone)

-- ---- a newline that isn't continued

last_past : (lead : Text) (byte next : ℕ) (text : Text) → slice_index (lead ++ (byte ∷ next ∷ text)) (length (lead ++ (byte ∷ next ∷ text)) - 1) ≡ slice_index (next ∷ text) (length (next ∷ text) - 1)
last_past lead byte next text =
    let size = length-append lead (byte ∷ next ∷ text) in
    let n : length (lead ++ (byte ∷ next ∷ text)) - 1 ≡ length lead + suc (length (next ∷ text) - 1) = omega (arith, size) in
    ap (slice_index (lead ++ (byte ∷ next ∷ text))) n ∙ get_or-append-add lead (byte ∷ next ∷ text) (suc (length (next ∷ text) - 1)) 0

newline_past : (lead after mark : Text) → IsNewline (lead ++ (10 ∷ after)) mark → IsNewline after mark
newline_past lead [] mark is = grind (arith, ⊎_elim, false≢true, eq-eqb)
newline_past lead (byte ∷ after) mark is = grind (arith, ⊎_elim, last_past, even_past)

newline_free : (continued : Bool) (front mark back : Text) → IsFree front → IsNewline front mark
    → condensed_from continued (front ++ (mark ++ back)) ≡ condensed_from continued front ++ (10 ∷ condensed_from false back)
newline_free continued front mark back free is = grind (arith, from_ended, condensed_from, from_free)

newline_at : (fuel : ℕ) (continued : Bool) (front mark back : Text) → length front ≤ fuel → IsNewline front mark
    → condensed_from continued (front ++ (mark ++ back)) ≡ condensed_from continued front ++ (10 ∷ condensed_from false back)
newline_at zero continued front mark back small is =
    ⊎_elim (λ free. newline_free continued front mark back free is) (λ s. absurd (not_empty front s.lead s.after s.whole small)) (step_by front (first_newline front))
newline_at (suc fuel) continued front mark back small is =
    ⊎_elim (λ free. newline_free continued front mark back free is)
    (λ s. joins front s continued (mark ++ back) (10 ∷ condensed_from false back)
    (newline_at fuel s.more s.after mark back (shorter front s.lead s.after fuel s.whole small) (newline_past s.lead s.after mark (subst (λ t. IsNewline t mark) s.whole is))))
    (step_by front (first_newline front))

-- ---- a run

gap_past : (lead after : Text) (run : List Spacing) (back : Text) → IsGap (lead ++ (10 ∷ after)) run back → IsGap after run back
gap_past lead after run back gap = record {
  holds = gap.holds;
  stands = first_past run gap.stands;
  before = λ text one st e. gap.before (lead ++ (10 ∷ text)) one (λ is. even_past lead 10 text refl ∙ st is)
      (ap (λ t. lead ++ (10 ∷ t)) e ∙ sym (append_assoc lead (10 ∷ text) (spelled one)));
  after = gap.after;
}
  where
    first_past : (found : List Spacing) → FirstStands (lead ++ (10 ∷ after)) found → FirstStands after found
    first_past [] st = tt
    first_past (one ∷ others) st = λ is. sym (even_past lead 10 after refl) ∙ st is

gap_at : (fuel : ℕ) (continued : Bool) (front : Text) (run : List Spacing) (back : Text) → length front ≤ fuel → IsGap front run back → (continued ≡ true → front ≡ [] → ⊥)
    → condensed_from continued (front ++ (spelling run ++ back)) ≡ condensed_from continued front ++ (32 ∷ condensed_from false back)
gap_at zero continued front run back small gap some =
    ⊎_elim (λ free. gap_free continued front run back free gap some) (λ s. absurd (not_empty front s.lead s.after s.whole small)) (step_by front (first_newline front))
gap_at (suc fuel) continued front run back small gap some =
    ⊎_elim (λ free. gap_free continued front run back free gap some)
    (λ s. joins front s continued (spelling run ++ back) (32 ∷ condensed_from false back)
    (gap_at fuel s.more s.after run back (shorter front s.lead s.after fuel s.whole small) (gap_past s.lead s.after run back (subst (λ t. IsGap t run back) s.whole gap))
    (λ yes none. let end = s.open_end yes none in gap.before end.0 end.1 end.2 end.3)))
    (step_by front (first_newline front))

pub condenses : Condenses condensed_of
condenses = record {
  stays = condensed_alone;
  newline = λ front mark back is. sym (condensed_from-start (front ++ (mark ++ back))) ∙ newline_at (length front) false front mark back (omega arith) is
      ∙ ap₂ (λ (a b : Text). a ++ (10 ∷ b)) (condensed_from-start front) (condensed_from-start back);
  gap = λ front run back gap. sym (condensed_from-start (front ++ (spelling run ++ back)))
      ∙ gap_at (length front) false front run back (omega arith) gap (λ e. absurd (false≢true e))
      ∙ ap₂ (λ (a b : Text). a ++ (32 ∷ b)) (condensed_from-start front) (condensed_from-start back);
}
