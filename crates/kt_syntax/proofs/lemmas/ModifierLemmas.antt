-- The words that may stand before a target-specific macro, one symbol at a time.
use Rattle.std.proofs.Common.{◌≡◌, ◌≤◌, ◌<◌, ◌-◌, ◌+◌, ℕ, Bool, true, false, not, List, [], ◌∷◌, length, drop, refl, sym, ap, ◌∙◌, arith, Some, None, ltb, ⊎_elim}
use Rattle.std.proofs.Math.Bool.{and-false}
use Rattle.kt_syntax.proofs.Common.{cases_order, lt-ltb, le-ltb, drop-drop, prefix_len, slice_range, Text, is_blank, past_blanks, past_word, is_modifier, after_modifier, after_modifiers}
use Rattle.kt_syntax.proofs.lemmas.HeadLemmas.{modifiers_next, modifiers_end}

pub next_rest : (mask rest : List ℕ) (place symbol : ℕ) → drop place mask ≡ symbol ∷ rest → rest ≡ drop (place + 1) mask
next_rest mask rest place symbol e = sym (ap (drop 1) e) ∙ drop-drop 1 place mask

-- a run of symbols that pass a test, seen from its first symbol and from one that fails it
run_here : (p : ℕ → Bool) (mask rest : List ℕ) (place symbol : ℕ) → drop place mask ≡ symbol ∷ rest → p symbol ≡ true
    → place + prefix_len p (drop place mask) ≡ (place + 1) + prefix_len p (drop (place + 1) mask)
run_here p mask rest place symbol e h = grind (arith, next_rest)

no_run_here : (p : ℕ → Bool) (mask rest : List ℕ) (place symbol : ℕ) → drop place mask ≡ symbol ∷ rest → p symbol ≡ false
    → place + prefix_len p (drop place mask) ≡ place
no_run_here p mask rest place symbol e h = let first : prefix_len p (drop place mask) ≡ 0 = ap (prefix_len p) e ∙ rw h refl in omega arith

-- the first place without blanks, seen from a blank and from another symbol
blanks_here : (mask rest : List ℕ) (place symbol : ℕ) → drop place mask ≡ symbol ∷ rest → is_blank symbol ≡ true → past_blanks place mask ≡ past_blanks (place + 1) mask
blanks_here = run_here is_blank

no_blanks_here : (mask rest : List ℕ) (place symbol : ℕ) → drop place mask ≡ symbol ∷ rest → is_blank symbol ≡ false → past_blanks place mask ≡ place
no_blanks_here = no_run_here is_blank

-- the end of a word, seen from a symbol of it and from a blank
abbrev is_inner : ℕ → Bool
is_inner symbol = not (is_blank symbol)

word_here : (mask rest : List ℕ) (place symbol : ℕ) → drop place mask ≡ symbol ∷ rest → is_blank symbol ≡ false → past_word place mask ≡ past_word (place + 1) mask
word_here mask rest place symbol e h = run_here is_inner mask rest place symbol e (ap not h)

word_ends : (mask rest : List ℕ) (place symbol : ℕ) → drop place mask ≡ symbol ∷ rest → is_blank symbol ≡ true → past_word place mask ≡ place
word_ends mask rest place symbol e h = no_run_here is_inner mask rest place symbol e (ap not h)

-- where the scan stands: only blanks from the place found to the begin of the word, and none in the word so far
pub record Scan (mask : List ℕ) (found begin place : ℕ) : Type 0 where
  pub order : found ≤ begin
  pub within : begin ≤ place
  pub lead : past_blanks found mask ≡ past_blanks begin mask
  pub first : begin < place → past_blanks begin mask ≡ begin
  pub word : past_word begin mask ≡ past_word place mask

-- a blank after others, and one after a word
pub scan_blank : (mask rest : List ℕ) (found begin place symbol : ℕ) → Scan mask found begin place → drop place mask ≡ symbol ∷ rest → is_blank symbol ≡ true → place ≤ begin
    → Scan mask found (place + 1) (place + 1)
scan_blank mask rest found begin place symbol s e h none =
    let order = s.order in
    let within = s.within in
    let same : begin ≡ place = omega arith in
    record {
      order = omega arith;
      within = omega arith;
      lead = s.lead ∙ ap (λ n. past_blanks n mask) same ∙ blanks_here mask rest place symbol e h;
      first = λ l. absurd (omega arith);
      word = refl;
    }

pub scan_next : (mask rest : List ℕ) (place symbol : ℕ) → drop place mask ≡ symbol ∷ rest → is_blank symbol ≡ true → Scan mask place (place + 1) (place + 1)
scan_next mask rest place symbol e h =
    record { order = omega arith; within = omega arith; lead = blanks_here mask rest place symbol e h; first = λ l. absurd (omega arith); word = refl }

-- one more symbol of a word
pub scan_more : (mask rest : List ℕ) (found begin place symbol : ℕ) → Scan mask found begin place → drop place mask ≡ symbol ∷ rest → is_blank symbol ≡ false
    → Scan mask found begin (place + 1)
scan_more mask rest found begin place symbol s e h =
    let within = s.within in
    record {
      order = s.order;
      within = omega arith;
      lead = s.lead;
      first = λ l.
          ⊎_elim (λ same. ap (λ n. past_blanks n mask) same ∙ no_blanks_here mask rest place symbol e h ∙ sym same)
          (λ other. ⊎_elim (λ below. s.first below) (λ above. absurd (omega arith)) other)
          (cases_order begin place);
      word = s.word ∙ word_here mask rest place symbol e h;
    }

-- what comes next at the blank after a word, by whether it is such a word
pub word_found : (text : Text) (mask rest : List ℕ) (found begin place symbol : ℕ) → Scan mask found begin place → drop place mask ≡ symbol ∷ rest → is_blank symbol ≡ true → begin < place
    → place < length mask → is_modifier (slice_range text begin place) ≡ true → Some place ≡ after_modifier text mask found
unfolding after_modifier
word_found text mask rest found begin place symbol s e h some room word = grind (arith, word_ends, lt-ltb, length)

pub word_other : (text : Text) (mask rest : List ℕ) (found begin place symbol : ℕ) → Scan mask found begin place → drop place mask ≡ symbol ∷ rest → is_blank symbol ≡ true → begin < place
    → is_modifier (slice_range text begin place) ≡ false → None ≡ after_modifier text mask found
unfolding after_modifier
word_other text mask rest found begin place symbol s e h some word = grind (arith, word_ends)

-- what comes next at the end
pub word_last : (text : Text) (mask : List ℕ) (found begin place : ℕ) → Scan mask found begin place → drop place mask ≡ [] → place ≡ length mask → None ≡ after_modifier text mask found
unfolding after_modifier
word_last text mask found begin place s e all = grind (arith, ⊎_elim, cases_order, ltb, length, le-ltb, and-false, slice_range)

-- a place from which as many words are still looked for as can come
pub record Ahead (text : Text) (mask : List ℕ) (end found whole : ℕ) : Type 0 where
  pub most : ℕ
  pub room : end ≤ most + found
  pub value : after_modifiers most text mask found ≡ whole

pub ahead_next : (text : Text) (mask : List ℕ) (end found place whole : ℕ) → Ahead text mask end found whole → Some place ≡ after_modifier text mask found → found < place → place < end
    → Ahead text mask end place whole
ahead_next text mask end found place whole a next further within =
    let room = a.room in
    let some : 0 < a.most = omega arith in
    record { most = a.most - 1; room = omega arith; value = modifiers_next a.most place found text mask some next ∙ a.value }

pub ahead_end : (text : Text) (mask : List ℕ) (end found whole : ℕ) → Ahead text mask end found whole → None ≡ after_modifier text mask found → found ≡ whole
ahead_end text mask end found whole a none = sym (modifiers_end a.most found text mask none) ∙ a.value
