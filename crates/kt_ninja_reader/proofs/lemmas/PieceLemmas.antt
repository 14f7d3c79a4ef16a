-- Pieces, cut off one after another.
use Rattle.std.proofs.Common.{◌≡◌, ◌≢◌, ℕ, suc, ◌+◌, ◌≤◌, Bool, true, false, ◌==◌, List, [], ◌∷◌, ◌++◌, refl, sym, ◌∙◌, ap, append_assoc, append-nil, length, take, drop, arith, MatchOption, Option, Some, None, option_map, if◌then◌else◌, ⊎_elim}
use Rattle.kt_ninja_reader.proofs.Common.{cases_Bool, false≢true, eqb-true, length-drop, option_and_then, prefix_len, DollarCut, PartFault, Bytes, is_empty, Piece, Plain, Escaped, Variable, Where, after_dollar, in_braces, in_name, is_escapable, is_long_name_byte, is_short_name_byte, outer_step, outside, pieces_from}
use Rattle.kt_ninja_reader.specs.inner.Cutting.{CutsOff, CutsShort, dollar_piece}
use Rattle.kt_ninja_reader.specs.views.Spellings.{name_goes_on}
use Rattle.kt_ninja_reader.specs.inner.Refusals.{LacksReading}

-- a refusal of one reading is one of another that has no value either
pub refuses_too : {X Y : Type 0} (old : Option X) (new : Option Y) → (old ≡ None → new ≡ None) → (fault : PartFault) → LacksReading old fault → LacksReading new fault
refuses_too old new h fault r = grind arith

-- no piece in front changes nothing
pub none_before : (found : Option (List Piece)) → option_map (λ later. [] ++ later) found ≡ found
none_before found = grind arith

pub map_twice : (front back : List Piece) (found : Option (List Piece))
    → option_map (λ later. front ++ later) (option_map (λ later. back ++ later) found) ≡ option_map (λ later. (front ++ back) ++ later) found
map_twice front back found = grind (arith, append_assoc)

-- after a dollar
pub escape-escapable : (b : ℕ) (bs : Bytes) → is_escapable b ≡ true → pieces_from after_dollar (b ∷ bs) ≡ option_map (λ later. Escaped b ∷ later) (pieces_from outside bs)
unfolding pieces_from
escape-escapable b bs h = rw h refl

pub escape-brace : (b : ℕ) (bs : Bytes) → is_escapable b ≡ false → (b == 123) ≡ true → pieces_from after_dollar (b ∷ bs) ≡ pieces_from (in_braces []) bs
unfolding pieces_from
escape-brace b bs h i = rw (h, i) (none_before (pieces_from (in_braces []) bs))

pub escape-short : (b : ℕ) (bs : Bytes) → is_escapable b ≡ false → (b == 123) ≡ false → is_short_name_byte b ≡ true
    → pieces_from after_dollar (b ∷ bs) ≡ pieces_from (in_name []) (b ∷ bs)
unfolding pieces_from
escape-short b bs h i j = rw (h, i, j) refl

pub escape-none : (b : ℕ) (bs : Bytes) → is_escapable b ≡ false → (b == 123) ≡ false → is_short_name_byte b ≡ false → pieces_from after_dollar (b ∷ bs) ≡ None
unfolding pieces_from
escape-none b bs h i j = rw (h, i, j) refl

pub escape-nil : pieces_from after_dollar [] ≡ None
unfolding pieces_from
escape-nil = refl

-- outside of escapes
pub outside-dollar : (b : ℕ) (bs : Bytes) → (b == 36) ≡ true → pieces_from outside (b ∷ bs) ≡ pieces_from after_dollar bs
unfolding pieces_from
outside-dollar b bs h = rw h (none_before (pieces_from after_dollar bs))

pub outside-plain : (b : ℕ) (bs : Bytes) → (b == 36) ≡ false → pieces_from outside (b ∷ bs) ≡ option_map (λ later. Plain b ∷ later) (pieces_from outside bs)
unfolding pieces_from
outside-plain b bs h = rw h refl

-- after a name without braces, which a byte ends that isn't one of a name
pub name_ended : (name : Bytes) (b : ℕ) (bs : Bytes) (dollar : Bool) → (b == 36) ≡ dollar
    → option_and_then (λ s. option_map (λ later. s.done ++ later) (pieces_from s.next bs)) (Some (outer_step (Variable name ∷ []) b))
    ≡ option_map (λ later. Variable name ∷ later) (option_and_then (λ s. option_map (λ later. s.done ++ later) (pieces_from s.next bs)) (Some (outer_step [] b)))
name_ended name b bs dollar h = grind (arith, none_before, map_twice)

take_one : (n b : ℕ) (bs : Bytes) → take (1 + n) (b ∷ bs) ≡ b ∷ take n bs
take_one n b bs = let e : 1 + n ≡ suc n = omega arith in rw e refl

drop_one : (n b : ℕ) (bs : Bytes) → drop (1 + n) (b ∷ bs) ≡ drop n bs
drop_one n b bs = let e : 1 + n ≡ suc n = omega arith in rw e refl

-- what begins with the variable of a name that goes on in the text
abbrev pub short_from : Bytes → Bytes → ℕ → Option (List Piece)
short_from name text n = option_map (λ later. Variable (name ++ take n text) ∷ later) (pieces_from outside (drop n text))

short_more : (name : Bytes) (b : ℕ) (bs : Bytes) (n : ℕ) → short_from (name ++ b ∷ []) bs n ≡ short_from name (b ∷ bs) (1 + n)
short_more name b bs n = grind (arith, take_one, drop_one, append_assoc, take)

short_none : (name : Bytes) (b : ℕ) (bs : Bytes) → option_map (λ later. Variable name ∷ later) (pieces_from outside (b ∷ bs)) ≡ short_from name (b ∷ bs) 0
short_none name b bs = ap (λ front. option_map (λ later. Variable front ∷ later) (pieces_from outside (b ∷ bs))) (sym (append-nil name))

-- a name without braces is as long as can be
pub in_name-prefix : (name text : Bytes) → pieces_from (in_name name) text ≡ short_from name text (prefix_len is_short_name_byte text)
unfolding pieces_from
in_name-prefix name [] = ap (λ n. Some (Variable n ∷ [])) (sym (append-nil name))
in_name-prefix name (b ∷ bs) = grind (arith, ⊎_elim, none_before, short_more, name_ended, cases_Bool, short_none, in_name-prefix (name ++ b ∷ []) bs)

-- what a name in braces is by what stands after it
abbrev pub closed : Bytes → Bytes → Option (List Piece)
closed name [] = None
closed name (b ∷ bs) = if b == 125 then (if is_empty name then None else option_map (λ later. Variable name ∷ later) (pieces_from outside bs)) else None

long_before_brace : (b : ℕ) → (b == 125) ≡ true → is_long_name_byte b ≡ false
long_before_brace b h = let e : b ≡ 125 = eqb-true _ _ h in rw e refl

-- a byte that goes on no name in braces
brace_end_by : (name : Bytes) (b : ℕ) (bs : Bytes) → is_long_name_byte b ≡ false → (brace : Bool) → (b == 125) ≡ brace → pieces_from (in_braces name) (b ∷ bs) ≡ closed name (b ∷ bs)
unfolding pieces_from
brace_end_by name b bs h brace d = grind arith

pub not_brace : (b : ℕ) → is_long_name_byte b ≡ true → (b == 125) ≡ false
not_brace b h = ⊎_elim (λ d. absurd (false≢true (sym (long_before_brace b d) ∙ h))) (λ d. d) (cases_Bool (b == 125))

brace_more : (name : Bytes) (b : ℕ) (bs : Bytes) → is_long_name_byte b ≡ true → pieces_from (in_braces name) (b ∷ bs) ≡ pieces_from (in_braces (name ++ b ∷ [])) bs
unfolding pieces_from
brace_more name b bs h = rw (not_brace b h, h) (none_before (pieces_from (in_braces (name ++ b ∷ [])) bs))

pub in_braces-prefix : (name text : Bytes)
    → pieces_from (in_braces name) text ≡ closed (name ++ take (prefix_len is_long_name_byte text) text) (drop (prefix_len is_long_name_byte text) text)
unfolding pieces_from
in_braces-prefix name [] = refl
in_braces-prefix name (b ∷ bs) = grind (arith, ⊎_elim, brace_more, take_one, drop_one, append_assoc, take, brace_end_by, append-nil, cases_Bool, in_braces-prefix (name ++ b ∷ []) bs)

-- whether a text begins with a name
pub name_goes_on-length : (text : Bytes) (n : ℕ) → n ≡ prefix_len is_short_name_byte text → n ≢ 0 → name_goes_on text ≡ true
name_goes_on-length text n h some = grind (arith, ⊎_elim, cases_Bool)

-- a name without braces that is cut off
pub short_cut : (text name after : Bytes) (n : ℕ) (cut : DollarCut) → n ≡ prefix_len is_short_name_byte text → n ≢ 0 → name ≡ take n text → after ≡ drop n text
    → dollar_piece cut.dollar ≡ Variable name → cut.after.now ≡ after → (name_goes_on text ≡ true) × CutsOff (in_name []) text cut
short_cut text name after n cut length_is some front back piece rest = grind (arith, name_goes_on-length, in_name-prefix, length, length-drop)

some_take : (n : ℕ) (text : Bytes) → n ≢ 0 → n ≤ length text → is_empty (take n text) ≡ false
some_take n text some low = grind arith

closed_by : (name : Bytes) (b : ℕ) (bs : Bytes) → is_empty name ≡ false → b ≡ 125 → closed name (b ∷ bs) ≡ option_map (λ later. Variable name ∷ later) (pieces_from outside bs)
closed_by name b bs some is = rw (is, some) refl

-- a name in braces that is cut off
pub brace_cut : (text name after rest : Bytes) (n b : ℕ) (cut : DollarCut) → n ≡ prefix_len is_long_name_byte text → n ≤ length text → n ≢ 0 → name ≡ take n text → after ≡ drop n text
    → after ≡ b ∷ rest → b ≡ 125 → dollar_piece cut.dollar ≡ Variable name → cut.after.now ≡ rest → CutsOff (in_braces []) text cut
brace_cut text name after rest n b cut length_is low some front back is brace piece left =
    let named : is_empty name ≡ false = rw front (some_take n text some low) in
    record {
      first = in_braces-prefix [] text ∙ rw (sym length_is, sym front, sym back, is) (closed_by name b rest named brace ∙ rw (piece, left) refl);
      less = let long : length after ≤ length text = rw back (omega (arith, length-drop n text)) in
          let shorter : length after ≡ suc (length rest) = ap length is in rw left (omega (arith, long, shorter));
    }

-- what isn't one has no pieces
pub brace_end : (text after : Bytes) (n : ℕ) → n ≡ prefix_len is_long_name_byte text → after ≡ drop n text → after ≡ [] → pieces_from (in_braces []) text ≡ None
brace_end text after n length_is back is = in_braces-prefix [] text ∙ rw (sym length_is, sym back, is) refl

pub brace_other : (text after rest : Bytes) (n b : ℕ) → n ≡ prefix_len is_long_name_byte text → after ≡ drop n text → after ≡ b ∷ rest → (b == 125) ≡ false → pieces_from (in_braces []) text ≡ None
brace_other text after rest n b length_is back is other = in_braces-prefix [] text ∙ rw (sym length_is, sym back, is, other) refl

closed_none : (after : Bytes) → closed [] after ≡ None
closed_none after = grind (arith, ⊎_elim, cases_Bool)

pub brace_empty : (text : Bytes) (n : ℕ) → n ≡ prefix_len is_long_name_byte text → n ≡ 0 → pieces_from (in_braces []) text ≡ None
brace_empty text n length_is none = grind (arith, in_braces-prefix, closed_none)

-- one place's pieces for another's
pub cuts_too : (old new : Where) (text longer : Bytes) (cut : DollarCut) → pieces_from new longer ≡ pieces_from old text → length text ≤ length longer
    → CutsOff old text cut → CutsOff new longer cut
cuts_too old new text longer cut same more h = grind arith

-- a name without braces, after its dollar
pub short_of : (text : Bytes) (b : ℕ) (bs : Bytes) (cut : DollarCut) → text ≡ b ∷ bs → is_escapable b ≡ false → (b == 123) ≡ false → CutsShort text cut → CutsOff after_dollar text cut
short_of text b bs cut is escapable brace h = grind (arith, cuts_too, escape-short)

pub no_short_of : (text : Bytes) (b : ℕ) (bs : Bytes) → text ≡ b ∷ bs → is_escapable b ≡ false → (b == 123) ≡ false → name_goes_on text ≡ false → pieces_from after_dollar text ≡ None
no_short_of text b bs is escapable brace h = grind (arith, escape-none)

-- what is cut off, where it is cut off elsewhere
pub cuts_option : {P Q : Type 0} {C D : DollarCut → Type 0} (found : Option DollarCut) → MatchOption found P C → (P → Q) → ((cut : DollarCut) → C cut → D cut) → MatchOption found Q D
cuts_option found h f g = grind arith
