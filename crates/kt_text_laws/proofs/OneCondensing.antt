-- A text is condensed in one way alone: what is done at each cut of it leaves no choice.
use Rattle.std.proofs.Common.{◌≡◌, ◌⊎◌, ◌<◌, ◌≤◌, ◌==◌, ◌||◌, ℕ, zero, suc, Bool, true, false, List, [], ◌∷◌, ◌++◌, length, refl, sym, ap, subst, ◌∙◌, arith, append_assoc, append-nil, length-append, inl, inr, ⊎_elim, nat_eq}
use Rattle.kt_text.proofs.Common.{cases_Bool, eqb-true, false≢true, Decides-eqb, starts_is, list_any, starts_with, Text, is_blank, condensed_of, is_continued_text}
use Rattle.std.proofs.lemmas.Grind.{flat_map-append}
use Rattle.std.proofs.Math.Bool.{or-true}
use Rattle.kt_text_laws.specs.Condensing.{Condenses, CondensingLaw, FirstStands, HasNoNewline, IsGap, IsNewline, Spacing, is_continuation, spelled, space, tab, continuation, returned}
use Rattle.kt_text_laws.proofs.CondensingLemmas.{condensed_once, line_is_free}
use Rattle.kt_text_laws.proofs.CuttingLemmas.{FirstNewline, first_newline, no_newline, first_continued, first_ended}
use Rattle.kt_text_laws.proofs.GapLemmas.{BeginsPlain, past, condenses, newline_end, shorter, spelling}
use Rattle.kt_text_laws.proofs.LineTextLemmas.{lines_are}
use Rattle.kt_text_laws.proofs.NewlineLemmas.{IsFree, free_at, free_front}
use Rattle.kt_text_laws.proofs.TrimLemmas.{EndsPlain}

-- ---- the run that a text begins with

pub record Begins (text : Text) : Type 0 where
  pub one : Spacing
  pub rest : Text
  pub whole : text ≡ spelled one ++ rest

pub begins_so : (one : Spacing) (text : Text) → starts_with nat_eq text (spelled one) ≡ true → Begins text
begins_so one text h = grind (arith, length, starts_is, Decides-eqb)

pub begins_not : (one : Spacing) (text rest : Text) → starts_with nat_eq text (spelled one) ≡ false → text ≡ spelled one ++ rest → ⊥
begins_not one text rest h e = false≢true ((starts_is Decides-eqb text (spelled one) false (sym h)).1 rest e)

begins_plain : (text : Text) → starts_with nat_eq text (spelled space) ≡ false → starts_with nat_eq text (spelled tab) ≡ false
    → starts_with nat_eq text (spelled continuation) ≡ false → starts_with nat_eq text (spelled returned) ≡ false → BeginsPlain text
begins_plain text a b c d space rest = begins_not space text rest a
begins_plain text a b c d tab rest = begins_not tab text rest b
begins_plain text a b c d continuation rest = begins_not continuation text rest c
begins_plain text a b c d returned rest = begins_not returned text rest d

begins : (text : Text) → Begins text ⊎ BeginsPlain text
begins text =
    ⊎_elim (λ h. inl (begins_so space text h))
    (λ a. ⊎_elim (λ h. inl (begins_so tab text h))
    (λ b. ⊎_elim (λ h. inl (begins_so continuation text h))
    (λ c. ⊎_elim (λ h. inl (begins_so returned text h))
    (λ d. inr (begins_plain text a b c d))
    (cases_Bool (starts_with nat_eq text (spelled returned))))
    (cases_Bool (starts_with nat_eq text (spelled continuation))))
    (cases_Bool (starts_with nat_eq text (spelled tab))))
    (cases_Bool (starts_with nat_eq text (spelled space)))

-- the whole run, and what comes after it
record Begun (text : Text) : Type 0 where
  run : List Spacing
  back : Text
  whole : text ≡ spelling run ++ back
  plain : BeginsPlain back

pub spelled_long : (one : Spacing) → 0 < length (spelled one)
spelled_long space = omega arith
spelled_long tab = omega arith
spelled_long continuation = omega arith
spelled_long returned = omega arith

one_before : (one : Spacing) (rest : Text) → Begun rest → Begun (spelled one ++ rest)
one_before one rest b = record {
  run = one ∷ b.run;
  back = b.back;
  whole = ap (λ t. spelled one ++ t) b.whole ∙ sym (append_assoc (spelled one) (spelling b.run) b.back);
  plain = b.plain;
}

pub less_left : (text rest : Text) (one : Spacing) (fuel : ℕ) → text ≡ spelled one ++ rest → length text ≤ suc fuel → length rest ≤ fuel
less_left text rest one fuel whole small = grind (arith, length, length-append, spelled_long)

pub some_left : (text rest : Text) (one : Spacing) → text ≡ spelled one ++ rest → length text ≤ 0 → ⊥
some_left text rest one whole small = grind (arith, length, length-append, spelled_long)

begun : (fuel : ℕ) (text : Text) → length text ≤ fuel → Begun text
begun zero text small =
    ⊎_elim (λ b. absurd (some_left text b.rest b.one b.whole small)) (λ p. record { run = []; back = text; whole = refl; plain = p }) (begins text)
begun (suc fuel) text small =
    ⊎_elim (λ b. subst Begun (sym b.whole) (one_before b.one b.rest (begun fuel b.rest (less_left text b.rest b.one fuel b.whole small))))
    (λ p. record { run = []; back = text; whole = refl; plain = p }) (begins text)

-- ---- the blanks that a text ends with

pub record Trailing (text : Text) : Type 0 where
  pub kept : Text
  pub blanks : List Spacing
  pub whole : text ≡ kept ++ spelling blanks
  pub none : list_any is_continuation blanks ≡ false
  pub plain : EndsPlain kept

blank_before : (byte : ℕ) (text : Text) (blanks : List Spacing) → text ≡ spelling blanks → list_any is_continuation blanks ≡ false → (b : Bool) → (byte == 32) ≡ b
    → is_blank byte ≡ true → Trailing (byte ∷ text)
unfolding EndsPlain is_blank
blank_before byte text blanks e n true h blank = record {
  kept = [];
  blanks = space ∷ blanks;
  whole = ap (λ b. b ∷ text) (eqb-true byte 32 h) ∙ ap (λ t. 32 ∷ t) e;
  none = n;
  plain = tt;
}
blank_before byte text blanks e n false h blank = record {
  kept = [];
  blanks = tab ∷ blanks;
  whole = ap (λ b. b ∷ text) (eqb-true byte 9 (sym (ap (λ b. b || (byte == 9)) h) ∙ blank)) ∙ ap (λ t. 9 ∷ t) e;
  none = n;
  plain = tt;
}

byte_before : (byte : ℕ) (text kept : Text) (blanks : List Spacing) → text ≡ kept ++ spelling blanks → list_any is_continuation blanks ≡ false → EndsPlain kept → Trailing (byte ∷ text)
unfolding EndsPlain
byte_before byte text [] blanks e n p =
    ⊎_elim (λ h. blank_before byte text blanks e n (byte == 32) refl h)
    (λ h. record { kept = byte ∷ []; blanks = blanks; whole = ap (λ t. byte ∷ t) e; none = n; plain = h })
    (cases_Bool (is_blank byte))
byte_before byte text (first ∷ kept) blanks e n p = record { kept = byte ∷ first ∷ kept; blanks = blanks; whole = ap (λ t. byte ∷ t) e; none = n; plain = p }

pub trailing : (text : Text) → Trailing text
unfolding EndsPlain
trailing [] = record { kept = []; blanks = []; whole = refl; none = refl; plain = tt }
trailing (byte ∷ text) = let t = trailing text in byte_before byte text t.kept t.blanks t.whole t.none t.plain

-- no blank and no continuation stands at the end of what is left
last_plain : (text : Text) (byte : ℕ) → EndsPlain (text ++ byte ∷ []) → is_blank byte ≡ false
unfolding EndsPlain
last_plain [] byte p = p
last_plain (first ∷ []) byte p = p
last_plain (first ∷ next ∷ text) byte p = last_plain (next ∷ text) byte p

blank_space : is_blank 32 ≡ true
unfolding is_blank
blank_space = refl

blank_tab : is_blank 9 ≡ true
unfolding is_blank
blank_tab = refl

newline_free : (text : Text) → IsFree (text ++ 10 ∷ []) → ⊥
unfolding IsFree
newline_free [] a = false≢true (sym a.0)
newline_free (byte ∷ text) a = newline_free text a.1

pub nothing_ends : (kept text : Text) (one : Spacing) → IsFree kept → EndsPlain kept → kept ≡ text ++ spelled one → ⊥
nothing_ends kept text space free plain e = false≢true (sym (last_plain text 32 (subst EndsPlain e plain)) ∙ blank_space)
nothing_ends kept text tab free plain e = false≢true (sym (last_plain text 9 (subst EndsPlain e plain)) ∙ blank_tab)
nothing_ends kept text continuation free plain e = newline_free (text ++ 92 ∷ []) (subst IsFree (e ∙ sym (append_assoc text (92 ∷ []) (10 ∷ []))) free)
nothing_ends kept text returned free plain e = newline_free (text ++ (92 ∷ 13 ∷ [])) (subst IsFree (e ∙ sym (append_assoc text (92 ∷ 13 ∷ []) (10 ∷ []))) free)

-- ---- the run round the first newline

pub any_last : (blanks : List Spacing) (one : Spacing) (others : List Spacing) → is_continuation one ≡ true → list_any is_continuation (blanks ++ one ∷ others) ≡ true
any_last [] one others h = ap (λ b. b || list_any is_continuation others) h
any_last (blank ∷ blanks) one others h = ap (λ b. is_continuation blank || b) (any_last blanks one others h) ∙ or-true (is_continuation blank)

no_first : (a b : Bool) → (a || b) ≡ false → a ≡ true → ⊥
no_first a b h e = grind (arith, false≢true)

pub first_of_run : (kept : Text) (blanks : List Spacing) (one : Spacing) (others : List Spacing) → list_any is_continuation blanks ≡ false → is_continued_text (kept ++ spelling blanks) ≡ false
    → FirstStands kept (blanks ++ one ∷ others)
first_of_run kept [] one others n even = λ is. ap (λ t. is_continued_text t) (sym (append-nil kept)) ∙ even
first_of_run kept (blank ∷ blanks) one others n even = λ is. absurd (no_first (is_continuation blank) (list_any is_continuation blanks) n is)

pub record Around (text : Text) : Type 0 where
  pub kept : Text
  pub run : List Spacing
  pub back : Text
  pub whole : text ≡ kept ++ (spelling run ++ back)
  pub free : IsFree kept
  pub gap : IsGap kept run back

pub around : (front : Text) (one : Spacing) (after : Text) → IsFree front → is_continuation one ≡ true → is_continued_text front ≡ false → Around (front ++ (spelled one ++ after))
around front one after free is even =
    let t = trailing front in
    let b = begun (length after) after (omega arith) in
    let kept : IsFree t.kept = free_front t.kept (spelling t.blanks) (subst IsFree t.whole free) in
    record {
      kept = t.kept;
      run = t.blanks ++ one ∷ b.run;
      back = b.back;
      whole = grind (arith, append_assoc, spelling, flat_map-append);
      free = kept;
      gap = grind (arith, any_last, first_of_run, nothing_ends);
    }

-- ---- one answer

pub left_of_gap : (text kept : Text) (run : List Spacing) (back : Text) (fuel : ℕ) → text ≡ kept ++ (spelling run ++ back) → list_any is_continuation run ≡ true → length text ≤ suc fuel → length back ≤ fuel
left_of_gap text kept [] back fuel whole some small = absurd (false≢true some)
left_of_gap text kept (one ∷ run) back fuel whole some small = grind (arith, length, length-append, spelling, spelled_long)

module _ (one other : Text → Text) (a : Condenses one) (b : Condenses other) where
  at_gap : (text : Text) (r : Around text) → one r.back ≡ other r.back → one text ≡ other text
  at_gap text r later = grind (arith, free_at)

  at_end : (text front mark after : Text) → text ≡ front ++ (mark ++ after) → IsFree front → IsNewline front mark → one after ≡ other after → one text ≡ other text
  at_end text front mark after whole free is later =
      let none : HasNoNewline front = free_at front free in
      ap one whole ∙ a.newline front mark after is ∙ ap (λ t. t ++ (10 ∷ one after)) (a.stays front none)
      ∙ ap (λ t. front ++ (10 ∷ t)) later
      ∙ sym (ap other whole ∙ b.newline front mark after is ∙ ap (λ t. t ++ (10 ∷ other after)) (b.stays front none))

  same_by : (fuel : ℕ) (text : Text) → length text ≤ suc fuel → ((back : Text) → length back ≤ fuel → one back ≡ other back) → FirstNewline text → one text ≡ other text
  same_by fuel text small later (no_newline free) = a.stays text (free_at text free) ∙ sym (b.stays text (free_at text free))
  same_by fuel text small later (first_continued front after mark whole free is even) =
      let r = subst Around (sym whole) (around front mark after free is even) in
      at_gap text r (later r.back (left_of_gap text r.kept r.run r.back fuel r.whole r.gap.holds small))
  same_by fuel text small later (first_ended front mark after whole free is) =
      let end = newline_end front mark is in
      at_end text front mark after whole free is (later after (shorter text (front ++ end.0) after fuel (whole ∙ past front mark end.0 after end.1) small))

  same_within : (fuel : ℕ) (text : Text) → length text ≤ fuel → one text ≡ other text
  same_within zero [] small = a.stays [] (λ k l. absurd (omega arith)) ∙ sym (b.stays [] (λ k l. absurd (omega arith)))
  same_within zero (byte ∷ text) small = absurd (omega arith)
  same_within (suc fuel) text small = same_by fuel text small (same_within fuel) (first_newline text)

pub condensing_law : CondensingLaw
condensing_law = record {
  is = condenses;
  only = λ condense is text. same_within condense condensed_of is condenses (length text) text (omega arith);
  no_newline = λ line h. free_at (condensed_of line) (line_is_free line h);
  once = condensed_once;
  lines = lines_are;
}
