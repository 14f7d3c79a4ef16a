-- What a pattern with a percent sign matches.
use Rattle.std.proofs.Common.{◌≡◌, ℕ, ◌+◌, ◌-◌, ◌<◌, ◌≤◌, Bool, true, false, List, [], ◌∷◌, ◌++◌, length, get_or, drop, take, refl, sym, ◌∙◌, ap, eqb, leb, ltb, arith, ⊎_elim, All, Option, Some, None, append_assoc, length-append, MatchOption, IfNone}
use Rattle.kt_text.proofs.Common.{position_or_len, list_any, starts_with, ends_with, slice_range, false≢true, cases_Bool, ltb-true, lt-ltb, le-ltb, nat_tests, Decides-eqb, take_at, drop_at, drop-drop, take-append-drop, get_or_at, get_or_append_left, drop_more, length-take, get_or-take, position_or_len_is, passes_at_first, fails_before_first, starts_is, ends_is, IsFirstByte, is_byte, Text}
use Rattle.std.proofs.lemmas.List.Prefix.{end_rest}
use Rattle.kt_text.specs.views.Match.{Match}
use Rattle.kt_text.specs.Match.{is_percent, has_percent, pattern_front, pattern_back, is_between, stem_span}
use Rattle.kt_text.proofs.lemmas.PlaceLemmas.{first_byte_place}

-- a test that some byte passes, by the place of the first that does
pub list_any-place : (test : ℕ → Bool) (text : List ℕ) → list_any test text ≡ ltb (position_or_len test text) (length text)
list_any-place test [] = refl
list_any-place test (byte ∷ text) = grind (arith, ⊎_elim, lt-ltb, length, nat_tests, cases_Bool, list_any-place test text)

-- the byte of a percent sign
pub percent_byte : (byte : ℕ) → is_percent byte ≡ true → byte ≡ 37
unfolding is_percent
percent_byte byte h = grind (arith, nat_tests)

-- a front without percent sign, the sign and a back are the pattern's parts
pub pattern_parts : (pattern front back : Text) → All (λ byte. is_percent byte ≡ false) front → pattern ≡ front ++ 37 ∷ back
    → (has_percent pattern ≡ true) × (pattern_front pattern ≡ front) × (pattern_back pattern ≡ back)
unfolding has_percent pattern_front pattern_back is_percent
pattern_parts pattern front back none cut =
    let long : length pattern ≡ length front + (length back + 1) = ap length cut ∙ length-append front (37 ∷ back) ∙ omega arith in
    let place : position_or_len is_percent pattern ≡ length front =
    position_or_len_is is_percent pattern (length front) 0 (omega arith)
    (λ k l. ap (λ t. is_percent (get_or t k 0)) cut ∙ ap is_percent (get_or_append_left front (37 ∷ back) 0 k l) ∙ none k 0 l)
    (λ l. ap (λ t. is_percent (get_or t (length front) 0)) cut ∙ ap is_percent (get_or_at front 37 back 0 (length front) refl)) in
    let past : front ++ 37 ∷ back ≡ (front ++ 37 ∷ []) ++ back = sym (append_assoc front (37 ∷ []) back) in (
      list_any-place is_percent pattern ∙ lt-ltb _ _ (omega arith),
      ap (λ n. take n pattern) place ∙ ap (take (length front)) cut ∙ take_at front (37 ∷ back) (length front) refl,
      ap (λ n. drop (n + 1) pattern) place ∙ ap (drop (length front + 1)) (cut ∙ past)
          ∙ drop_at (front ++ 37 ∷ []) back (length front + 1) (length-append front (37 ∷ [])),
    )

-- and the pattern is made of its parts
pub pattern_cut : (pattern : Text) → has_percent pattern ≡ true
    → (pattern ≡ pattern_front pattern ++ 37 ∷ pattern_back pattern) × All (λ byte. is_percent byte ≡ false) (pattern_front pattern)
unfolding has_percent pattern_front pattern_back
pattern_cut pattern has =
    let place = position_or_len is_percent pattern in
    let inside : place < length pattern = ltb-true _ _ (sym (list_any-place is_percent pattern) ∙ has) in
    let sign : get_or pattern place 0 ≡ 37 = percent_byte _ (passes_at_first is_percent pattern 0 inside) in (
      sym (take-append-drop place pattern) ∙ ap (λ rest. take place pattern ++ rest) (drop_more pattern place 0 inside ∙ ap (λ b. b ∷ drop (place + 1) pattern) sign),
      λ k d l. let below : k < place = omega (arith, length-take place pattern) in
          ap is_percent (get_or-take place pattern k d below) ∙ fails_before_first is_percent pattern k d below,
    )

-- a word that begins with the front and ends with the back, apart from each other, is the front, what stands between, and the back
between_cut : (front back word : Text) → is_between front back word ≡ true
    → word ≡ front ++ (slice_range word (length front) (length word - length back) ++ back)
unfolding is_between
between_cut front back word h =
    let fits : length front + length back ≤ length word = grind (arith, nat_tests) in
    let starts : starts_with eqb word front ≡ true = grind (arith, nat_tests) in
    let ends : ends_with eqb word back ≡ true = grind (arith, nat_tests) in
    let begun = (starts_is Decides-eqb word front (starts_with eqb word front) refl).0 starts in
    let ended = (ends_is Decides-eqb word back (ends_with eqb word back) refl).0 ends in
    let low = length front in
    let high = length word - length back in
    let rest : drop (high - low) (drop low word) ≡ back =
    drop-drop (high - low) low word ∙ ap (λ n. drop n word) (omega arith) ∙ end_rest word back (take high word) ended in
    begun ∙ ap (λ t. front ++ t) (sym (take-append-drop (high - low) (drop low word)) ∙ ap (λ t. take (high - low) (drop low word) ++ t) rest)

between_from : (front stem back word : Text) → word ≡ front ++ (stem ++ back) → is_between front back word ≡ true
unfolding is_between
between_from front stem back word cut =
    let long : length word ≡ length front + (length stem + length back) = ap length cut ∙ length-append front (stem ++ back) ∙ ap (λ n. length front + n) (length-append stem back) in
    let starts = (starts_is Decides-eqb word front (starts_with eqb word front) refl).1 (stem ++ back) cut in
    let ends = (ends_is Decides-eqb word back (ends_with eqb word back) refl).1 (front ++ stem) (cut ∙ sym (append_assoc front stem back)) in
    let fits : leb (length front + length back) (length word) ≡ true = grind (arith, nat_tests) in
    rw (fits, starts, ends) refl

pub Match-from_between : (pattern word : Text) → has_percent pattern ≡ true → is_between (pattern_front pattern) (pattern_back pattern) word ≡ true
    → Match pattern word (slice_range word (length (pattern_front pattern)) (length word - length (pattern_back pattern)))
Match-from_between pattern word has between = record {
  front = pattern_front pattern;
  back = pattern_back pattern;
  first = (pattern_cut pattern has).1;
  cut = (pattern_cut pattern has).0;
  covers = between_cut (pattern_front pattern) (pattern_back pattern) word between;
}

pub Match-has : (pattern word stem : Text) → Match pattern word stem → (has_percent pattern ≡ true) × (is_between (pattern_front pattern) (pattern_back pattern) word ≡ true)
Match-has pattern word stem m =
    let parts = pattern_parts pattern m.front m.back m.first m.cut in
    (parts.0, rw (parts.1, parts.2) (between_from m.front stem m.back word m.covers))

-- the place of the stem, where there is one and where there is none
pub stem_span-Some : (pattern word : Text) → has_percent pattern ≡ true → is_between (pattern_front pattern) (pattern_back pattern) word ≡ true
    → stem_span pattern word ≡ Some (length (pattern_front pattern), length word - length (pattern_back pattern))
unfolding stem_span
stem_span-Some pattern word has between = rw (has, between) refl

pub stem_span-plain : (pattern word : Text) → has_percent pattern ≡ false → stem_span pattern word ≡ None
unfolding stem_span
stem_span-plain pattern word plain = rw plain refl

pub stem_span-apart : (pattern word : Text) → has_percent pattern ≡ true → is_between (pattern_front pattern) (pattern_back pattern) word ≡ false
    → stem_span pattern word ≡ None
unfolding stem_span
stem_span-apart pattern word has apart = rw (has, apart) refl

pub no_Match-plain : (pattern word : Text) → has_percent pattern ≡ false → (stem : Text) → Match pattern word stem → ⊥
no_Match-plain pattern word plain stem m = false≢true (sym plain ∙ (Match-has pattern word stem m).0)

pub no_Match-apart : (pattern word : Text) → is_between (pattern_front pattern) (pattern_back pattern) word ≡ false → (stem : Text) → Match pattern word stem → ⊥
no_Match-apart pattern word apart stem m = false≢true (sym apart ∙ (Match-has pattern word stem m).1)

-- the first percent sign, as a search of `memchr` finds it
pub percent_found : (pattern : Text) (place : ℕ) → IsFirstByte (is_byte 37) pattern (Some place)
    → (has_percent pattern ≡ true) × (take place pattern ≡ pattern_front pattern) × (drop (place + 1) pattern ≡ pattern_back pattern)
unfolding has_percent pattern_front pattern_back is_percent
percent_found pattern place found =
    let same : place ≡ position_or_len is_percent pattern = first_byte_place is_percent pattern (Some place) found in
    (list_any-place is_percent pattern ∙ lt-ltb _ _ (omega (arith, found.0.high)), ap (λ n. take n pattern) same, ap (λ n. drop (n + 1) pattern) same)

pub no_percent_found : (pattern : Text) → IsFirstByte (is_byte 37) pattern None → has_percent pattern ≡ false
unfolding has_percent is_percent
no_percent_found pattern found =
    let same : length pattern ≡ position_or_len is_percent pattern = first_byte_place is_percent pattern None found in
    list_any-place is_percent pattern ∙ le-ltb _ _ (omega arith)

pub ruleset match_facts = (percent_found, no_percent_found, Match-from_between, stem_span-Some, stem_span-plain, stem_span-apart, no_Match-plain, no_Match-apart)

pub IfNone-apart : {R : Type 0} (pattern word front back : Text) (found : Option R) (Q : R → Type 0) → front ≡ pattern_front pattern → back ≡ pattern_back pattern
    → MatchOption found (is_between front back word ≡ false) Q → IfNone found ((stem : Text) → Match pattern word stem → ⊥)
IfNone-apart pattern word front back None Q f b apart = no_Match-apart pattern word (ap (λ t. is_between t (pattern_back pattern) word) (sym f) ∙ ap (λ t. is_between front t word) (sym b) ∙ apart)
IfNone-apart pattern word front back (Some r) Q f b apart = tt
