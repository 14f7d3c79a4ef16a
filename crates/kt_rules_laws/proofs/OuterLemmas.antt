-- A text without its outer separators.
use Rattle.std.proofs.Common.{◌≡◌, ℕ, ◌+◌, ◌-◌, Bool, true, false, not, [], ◌∷◌, ◌++◌, length, take, get_or, if◌then◌else◌, refl, sym, ap, subst, ◌∙◌, true≢false, arith, append_assoc, append-nil, length-append, ◌==◌, ◌&&◌}
use Rattle.kt_rules.proofs.Common.{suffix_len, eqb-true, get_or-append_right, get_or-append_seam, take-append_seam, head_is, and_first, and_nothing, and_second, drop-prefix_len, Text, is_separator, stripped_start, end_place, without_outer_separators}
use Rattle.kt_text_laws.proofs.Places.{none_in, tail_is}
use Rattle.std.proofs.lemmas.List.Sums.{suffix_len_is, AllPass-from_list_all}
use Rattle.kt_text_laws.proofs.CuttingLemmas.{last_of}
use Rattle.kt_rules.specs.views.Cuts.{ends_in_backslash}
use Rattle.kt_rules_laws.specs.HeadWords.{separates, begins_with_space, BeginsWithNone, EndsWithNone, IsMiddle, OuterLaw}
use Rattle.kt_rules_laws.proofs.PartLemmas.{AreSeparators, QuotesNone, first_is, others_are, one_more_is, is_one, not_quoted}

take_none : (n : ℕ) → take {A = ℕ} n [] ≡ []
take_none n = grind arith

-- separators at the start are removed
gap_stripped : (gap rest : Text) → AreSeparators gap → stripped_start (gap ++ rest) ≡ stripped_start rest
gap_stripped [] rest h = refl
gap_stripped (byte ∷ gap) rest h = grind (arith, drop-prefix_len, first_is, others_are, gap_stripped gap rest (others_are byte gap h))

begun_stripped : (byte : ℕ) (text : Text) → is_separator byte ≡ false → stripped_start (byte ∷ text) ≡ byte ∷ text
begun_stripped byte text h = rw h refl

-- a text with one more byte at its end
abbrev ending : Text → ℕ → Text
ending front byte = front ++ byte ∷ []

ends_last : (before : Bool) (front : Text) (byte : ℕ) → ends_in_backslash before (ending front byte) ≡ (byte == 92)
ends_last before [] byte = refl
ends_last before (first ∷ front) byte = ends_last (first == 92) front byte

-- it is a backslash where the text ends in one
last_slash : (before : Bool) (text front : Text) (byte : ℕ) → text ≡ ending front byte
    → ends_in_backslash before text ≡ (byte == 92)
last_slash before text front byte e = ap (ends_in_backslash before) e ∙ ends_last before front byte

-- how long a text with one more byte is, and one with a text after it
one_longer : (front : Text) (byte : ℕ) → length (ending front byte) ≡ length front + 1
one_longer front byte = length-append front (byte ∷ [])

all_longer : (front back : Text) (byte : ℕ) → length (ending front byte ++ back) ≡ length front + 1 + length back
all_longer front back byte = length-append (ending front byte) back ∙ ap (λ n. n + length back) (one_longer front byte)

less_last : (front : Text) (byte : ℕ) → length (ending front byte) - 1 ≡ length front
less_last front byte = grind (arith, one_longer)

-- the byte at the end, and the one after that
at_last : (front back : Text) (byte : ℕ) → get_or (ending front byte ++ back) (length front) 0 ≡ byte
at_last front back byte = grind (arith, get_or, length, append_assoc, get_or-append_seam)

past_last : (front back : Text) → (get_or (front ++ back) (length front) 0 == 32) ≡ begins_with_space back
past_last front back = grind (arith, get_or-append_right, length, get_or)

-- separators after a byte that is none are all at the end
suffix_after : (front back : Text) (byte : ℕ) → is_separator byte ≡ false → AreSeparators back
    → suffix_len is_separator (ending front byte ++ back) ≡ length (ending front byte ++ back) - (length front + 1)
suffix_after front back byte h all =
    let one = one_longer front byte in
    let len = all_longer front back byte in
    let at_end : length front + 1 - 1 ≡ length front = omega arith in
    suffix_len_is is_separator (ending front byte ++ back) (length front + 1) 0 (omega (arith, len))
    (λ k l m. ap is_separator (get_or-append_right (ending front byte) back (length front + 1) k 0 one l)
    ∙ AllPass-from_list_all is_separator back all (k - (length front + 1)) 0 (omega (arith, len, l, m)))
    (λ l. ap (λ i. is_separator (get_or (ending front byte ++ back) i 0)) at_end
    ∙ ap is_separator (at_last front back byte) ∙ h)

end_suffix : (front back : Text) (byte : ℕ) → is_separator byte ≡ false → AreSeparators back
    → length (ending front byte ++ back) - suffix_len is_separator (ending front byte ++ back)
    ≡ length (ending front byte)
end_suffix front back byte h all = grind (arith, one_longer, all_longer, suffix_after)

-- whether the bytes round a place are a backslash and a space
abbrev is_quoted_at : Text → ℕ → Bool
is_quoted_at text end = get_or text (end - 1) 0 == 92 && get_or text end 0 == 32

-- where the text before separators ends, by the bytes round that place
end_by : (text : Text) (end : ℕ) (b : Bool) → length text - suffix_len is_separator text ≡ end
    → is_quoted_at text end ≡ b
    → end_place text ≡ (if b then end + 1 else end)
end_by text end b h e = rw h (rw e refl)

-- these are its last and the first separator
test_is : (front back : Text) (byte : ℕ)
    → is_quoted_at (ending front byte ++ back) (length (ending front byte)) ≡ (byte == 92 && begins_with_space back)
test_is front back byte = grind (arith, get_or, length, less_last, at_last, past_last)

-- the place is the end of a text, where separators after it aren't quoted
abbrev EndsThere : Text → Text → Type 0
EndsThere text past = end_place (text ++ past) ≡ length text

-- of a text that ends with no separator, or with one that is quoted
end_plain : (front back : Text) (byte : ℕ) → is_separator byte ≡ false → AreSeparators back
    → (byte == 92 && begins_with_space back) ≡ false → EndsThere (ending front byte) back
end_plain front back byte h all q = grind (arith, end_by, length, end_suffix, test_is)

end_quoted : (front back : Text) → AreSeparators back → EndsThere (ending (ending front 92) 32) back
unfolding is_separator
end_quoted front back all = grind (arith, append_assoc, end_by, length, end_suffix, test_is, one_longer)

end_space : (front back : Text) → ends_in_backslash false front ≡ true → AreSeparators back
    → EndsThere (ending front 32) back
end_space [] back q all = absurd (true≢false (sym q))
end_space (first ∷ front) back q all =
    let last = last_of first front in
    let slash = eqb-true last.last 92 (sym (last_slash false (first ∷ front) last.front last.last last.whole) ∙ q) in
    subst (λ (xs : Text). EndsThere (ending xs 32) back) (sym (last.whole ∙ ap (ending last.front) slash))
    (end_quoted last.front back all)

quoted_if : (a b : Bool) → a ≡ true → (a && not b) ≡ false → b ≡ true
quoted_if a b e h = grind (arith, true≢false)

end_separator : (front back : Text) (byte : ℕ) → (ends_in_backslash false front && byte == 32) ≡ true
    → AreSeparators back
    → EndsThere (ending front byte) back
end_separator front back byte both all = grind (arith, eqb-true, and_second, end_space, and_first)

end_of : (front back : Text) (byte : ℕ) → separates (ends_in_backslash false front) byte ≡ false → AreSeparators back
    → (byte == 92 && begins_with_space back) ≡ false → EndsThere (ending front byte) back
end_of front back byte s all q = grind (arith, end_separator, quoted_if, end_plain)

-- the part of a text before the separators at its end
abbrev front_of : Text → Text
front_of text = take (end_place text) text

-- the middle remains
middle_ends : (first : ℕ) (middle trailing : Text) → EndsWithNone false (first ∷ middle) → AreSeparators trailing
    → QuotesNone false (first ∷ middle) trailing → EndsThere (first ∷ middle) trailing
middle_ends first middle trailing end all q =
    let last = last_of first middle in
    let slash = last_slash false (first ∷ middle) last.front last.last last.whole in
    subst (λ (xs : Text). EndsThere xs trailing) (sym last.whole)
    (end_of last.front trailing last.last (end last.front last.last last.whole) all
    (ap (λ b. b && begins_with_space trailing) (sym slash) ∙ q))

middle_left : (middle trailing : Text) → BeginsWithNone middle → EndsWithNone false middle → AreSeparators trailing
    → QuotesNone false middle trailing → front_of (stripped_start (middle ++ trailing)) ≡ middle
middle_left [] trailing begin end all q =
    ap front_of (ap stripped_start (sym (append-nil trailing)) ∙ gap_stripped trailing [] all)
    ∙ take_none (end_place [])
middle_left (first ∷ middle) trailing begin end all q =
    ap front_of (begun_stripped first (middle ++ trailing) (begin middle first refl))
    ∙ ap (λ n. take n ((first ∷ middle) ++ trailing)) (middle_ends first middle trailing end all q)
    ∙ take-append_seam (first ∷ middle) trailing

middle_is : (text leading middle trailing : Text) → text ≡ leading ++ (middle ++ trailing) → AreSeparators leading
    → BeginsWithNone middle → EndsWithNone false middle → AreSeparators trailing → QuotesNone false middle trailing
    → without_outer_separators text ≡ middle
unfolding without_outer_separators
middle_is text leading middle trailing e gap begin end all q = grind (arith, gap_stripped, middle_left)

-- a text without the separators at its start
record Begun (text : Text) : Type 0 where
  leading : Text
  rest : Text
  together : text ≡ leading ++ rest
  separators : AreSeparators leading
  begin : BeginsWithNone rest

begun_more : (byte : ℕ) (text : Text) → Begun text → (b : Bool) → is_separator byte ≡ b → Begun (byte ∷ text)
begun_more byte text begun true h = record {
  leading = byte ∷ begun.leading;
  rest = begun.rest;
  together = ap (λ (xs : Text). byte ∷ xs) begun.together;
  separators = one_more_is byte begun.leading h begun.separators;
  begin = begun.begin;
}
begun_more byte text begun false h = record {
  leading = [];
  rest = byte ∷ text;
  together = refl;
  separators = refl;
  begin = λ back other e. ap is_separator (sym (head_is byte other text back e)) ∙ h;
}

begun_of : (text : Text) → Begun text
begun_of [] = record {
  leading = [];
  rest = [];
  together = refl;
  separators = refl;
  begin = λ back byte e. absurd (none_in byte [] back e);
}
begun_of (byte ∷ text) = begun_more byte text (begun_of text) (is_separator byte) refl

-- a text without those at its end
record Ended (before : Bool) (text : Text) : Type 0 where
  middle : Text
  trailing : Text
  together : text ≡ middle ++ trailing
  separators : AreSeparators trailing
  unquoted : QuotesNone before middle trailing
  end : EndsWithNone before middle

ends_one : (before : Bool) (byte : ℕ) → separates before byte ≡ false → EndsWithNone before (byte ∷ [])
ends_one before byte s [] other e = ap (separates before) (sym (head_is byte other [] [] e)) ∙ s
ends_one before byte s (first ∷ front) other e = grind (arith, none_in, tail_is)

ends_more : (before : Bool) (byte next : ℕ) (middle : Text)
    → EndsWithNone (byte == 92) (next ∷ middle)
    → EndsWithNone before (byte ∷ next ∷ middle)
ends_more before byte next middle h [] other e = grind (arith, none_in, tail_is)
ends_more before byte next middle h (first ∷ front) other e = grind (arith, tail_is)

ended_more : (before : Bool) (byte : ℕ) (text middle trailing : Text) → text ≡ middle ++ trailing
    → AreSeparators trailing
    → QuotesNone (byte == 92) middle trailing
    → EndsWithNone (byte == 92) middle
    → (b : Bool) → separates before byte ≡ b → Ended before (byte ∷ text)
ended_more before byte text [] trailing e all q end true s = record {
  middle = [];
  trailing = byte ∷ trailing;
  together = ap (λ (xs : Text). byte ∷ xs) e;
  separators = one_more_is byte trailing (is_one before byte s) all;
  unquoted = not_quoted before byte s;
  end = λ front other same. absurd (none_in other front [] same);
}
ended_more before byte text [] trailing e all q end false s = record {
  middle = byte ∷ [];
  trailing = trailing;
  together = ap (λ (xs : Text). byte ∷ xs) e;
  separators = all;
  unquoted = q;
  end = ends_one before byte s;
}
ended_more before byte text (next ∷ middle) trailing e all q end b s = record {
  middle = byte ∷ next ∷ middle;
  trailing = trailing;
  together = ap (λ (xs : Text). byte ∷ xs) e;
  separators = all;
  unquoted = q;
  end = ends_more before byte next middle end;
}

ended_of : (before : Bool) (text : Text) → Ended before text
ended_of before [] = record {
  middle = [];
  trailing = [];
  together = refl;
  separators = refl;
  unquoted = and_nothing before;
  end = λ front byte e. absurd (none_in byte front [] e);
}
ended_of before (byte ∷ text) =
    let rest = ended_of (byte == 92) text in
    ended_more before byte text rest.middle rest.trailing rest.together rest.separators rest.unquoted rest.end
    (separates before byte) refl

-- a text begins as its first part does
begins_too : (text middle trailing : Text) → text ≡ middle ++ trailing → BeginsWithNone text → BeginsWithNone middle
begins_too text middle trailing e begin = grind arith

middle_of : (text leading middle trailing : Text) → text ≡ leading ++ (middle ++ trailing) → AreSeparators leading
    → BeginsWithNone middle → EndsWithNone false middle → AreSeparators trailing → QuotesNone false middle trailing
    → IsMiddle text (without_outer_separators text)
middle_of text leading middle trailing e gap begin end all q = grind (arith, middle_is)

some_middle : (text : Text) → IsMiddle text (without_outer_separators text)
some_middle text =
    let begun = begun_of text in
    let ended = ended_of false begun.rest in
    middle_of text begun.leading ended.middle ended.trailing
    (begun.together ∙ ap (λ (xs : Text). begun.leading ++ xs) ended.together) begun.separators
    (begins_too begun.rest ended.middle ended.trailing ended.together begun.begin)
    ended.end ended.separators ended.unquoted

only_middle : (text middle : Text) → IsMiddle text middle → middle ≡ without_outer_separators text
only_middle text middle is = grind (arith, middle_is)

pub outer_law : OuterLaw
outer_law = record { some = some_middle; only = only_middle }
