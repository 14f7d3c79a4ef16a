-- Spellings by their first piece: names, spaces, variables, and what they stand for.
use Rattle.std.proofs.Common.{◌≡◌, ◌≢◌, ℕ, suc, ◌+◌, Bool, true, false, ◌==◌, ◌||◌, List, [], ◌∷◌, ◌++◌, refl, sym, ◌∙◌, ap, append-nil, map, length, take, drop, arith, Option, Some, None, option_map, is_some, IfSome, ⊎_elim}
use Rattle.kt_ninja_reader.proofs.Common.{cases_Bool, false≢true, eqb-true, eq-eqb, ne_eqb, Bor, list_any, prefix_len, slice_split, onto_first, Bytes, Piece, Plain, Escaped, Variable, after_dollar, is_long_name_byte, pieces, pieces_from, begins_with_at, is_plain_byte, name_bytes, without_lead, bound_text, refers_to, is_empty}
use Rattle.std.proofs.lemmas.List.Splits.{slice_split-cons_no}
use Rattle.kt_ninja_reader.specs.inner.Spelled.{is_spelled, pieces_in}
use Rattle.kt_ninja_reader.specs.inner.Cutting.{variable_names}
use Rattle.kt_ninja_reader.proofs.lemmas.PieceLemmas.{closed, escape-brace, escape-escapable, escape-nil, escape-none, escape-short, in_braces-prefix, in_name-prefix, outside-dollar, outside-plain}
use Rattle.kt_ninja_reader.proofs.lemmas.SpelledLemmas.{outside_some, spelled_some}

-- what a spelling begins with: after a dollar no plain byte
abbrev begins_escaped : List Piece → Bool
begins_escaped [] = false
begins_escaped (Plain b ∷ ps) = false
begins_escaped (Escaped b ∷ ps) = true
begins_escaped (Variable name ∷ ps) = true

named_first : (name : Bytes) (found : Option (List Piece)) → IfSome (option_map (λ later. Variable name ∷ later) found) (λ ps. begins_escaped ps ≡ true)
named_first name found = grind arith

closed_first : (name after : Bytes) → IfSome (closed name after) (λ ps. begins_escaped ps ≡ true)
closed_first name after = grind (arith, ⊎_elim, named_first, cases_Bool)

escaped_first : (b : ℕ) (found : Option (List Piece)) → IfSome (option_map (λ later. Escaped b ∷ later) found) (λ ps. begins_escaped ps ≡ true)
escaped_first b found = grind arith

after_first : (text : Bytes) → IfSome (pieces_from after_dollar text) (λ ps. begins_escaped ps ≡ true)
after_first [] = rw escape-nil tt
after_first (b ∷ bs) = grind (arith, ⊎_elim, escape-escapable, escaped_first, escape-brace, in_braces-prefix, closed_first, take, escape-short, in_name-prefix, named_first, escape-none, cases_Bool)

-- a spelling by its first byte: a dollar begins no plain piece, and each other byte is one
pub dollar_first : (b : ℕ) (bs : Bytes) → is_spelled (b ∷ bs) ≡ true → (b == 36) ≡ true → begins_escaped (pieces_in (b ∷ bs)) ≡ true
dollar_first b bs spelled d = rw (outside_some (b ∷ bs) spelled) at (rw (sym (outside-dollar b bs d)) at (after_first bs))

some_tail : (p : Piece) (found : Option (List Piece)) → is_some (option_map (λ later. p ∷ later) found) ≡ is_some found
some_tail p found = grind arith

pub plain_first : (b : ℕ) (bs : Bytes) → is_spelled (b ∷ bs) ≡ true → (b == 36) ≡ false → (is_spelled bs ≡ true) × (pieces_in (b ∷ bs) ≡ Plain b ∷ pieces_in bs)
unfolding pieces
plain_first b bs spelled d = grind (arith, outside-plain, some_tail, spelled_some)

pub spelled_nil : is_spelled [] ≡ true
unfolding pieces pieces_from
spelled_nil = refl

pub nothing_in : pieces_in [] ≡ []
unfolding pieces pieces_from
nothing_in = refl

-- whether there is a piece
escaped_some : (ps : List Piece) → begins_escaped ps ≡ true → is_empty ps ≡ false
escaped_some ps h = grind (arith, false≢true)

pub empty_text : (text : Bytes) → is_spelled text ≡ true → is_empty (pieces_in text) ≡ is_empty text
empty_text text spelled = grind (arith, nothing_in, ⊎_elim, escaped_some, dollar_first, plain_first, cases_Bool)

pub empty_length : (text : Bytes) (ps : List Piece) → is_spelled text ≡ true → pieces_in text ≡ ps → (length text == 0) ≡ is_empty ps
empty_length text ps spelled view = grind (arith, empty_text, length, ne_eqb)

-- whether the first piece is `@`
escaped_at : (ps : List Piece) → begins_escaped ps ≡ true → begins_with_at ps ≡ false
escaped_at ps h = grind (arith, false≢true)

pub at_first : (text : Bytes) (b : ℕ) (bs : Bytes) → text ≡ b ∷ bs → is_spelled text ≡ true → begins_with_at (pieces_in text) ≡ (b == 64)
at_first text b bs is spelled = grind (arith, ⊎_elim, eqb-true, escaped_at, dollar_first, plain_first, cases_Bool)

pub at_none : (text : Bytes) → text ≡ [] → begins_with_at (pieces_in text) ≡ false
at_none text is = ap (λ l. begins_with_at (pieces_in l)) is ∙ ap begins_with_at nothing_in

-- without the spaces at its begin
escaped_lead : (ps : List Piece) → begins_escaped ps ≡ true → prefix_len (is_plain_byte 32) ps ≡ 0
escaped_lead ps h = grind (arith, false≢true)

abbrev indent : Bytes → ℕ
indent text = prefix_len (λ b. b == 32) text

drop_more : (n : ℕ) (c : ℕ) (cs : Bytes) → drop (1 + n) (c ∷ cs) ≡ drop n cs
drop_more n c cs = let e : 1 + n ≡ suc n = omega arith in rw e refl

drop_piece : (n : ℕ) (p : Piece) (ps : List Piece) → drop (1 + n) (p ∷ ps) ≡ drop n ps
drop_piece n p ps = let e : 1 + n ≡ suc n = omega arith in rw e refl

spaced : (c : ℕ) (cs : Bytes) → (is_spelled (drop (indent cs) cs) ≡ true) × (pieces_in (drop (indent cs) cs) ≡ without_lead (pieces_in cs)) → pieces_in (c ∷ cs) ≡ Plain c ∷ pieces_in cs → (c == 32) ≡ true
    → (is_spelled (drop (indent (c ∷ cs)) (c ∷ cs)) ≡ true) × (pieces_in (drop (indent (c ∷ cs)) (c ∷ cs)) ≡ without_lead (pieces_in (c ∷ cs)))
spaced c cs later first s = grind (arith, drop_more, drop_piece)

unspaced : (c : ℕ) (cs : Bytes) → is_spelled (c ∷ cs) ≡ true → pieces_in (c ∷ cs) ≡ Plain c ∷ pieces_in cs → (c == 32) ≡ false
    → (is_spelled (drop (indent (c ∷ cs)) (c ∷ cs)) ≡ true) × (pieces_in (drop (indent (c ∷ cs)) (c ∷ cs)) ≡ without_lead (pieces_in (c ∷ cs)))
unspaced c cs whole first s = grind arith

pub lead_cut : (text : Bytes) → is_spelled text ≡ true → (is_spelled (drop (indent text) text) ≡ true) × (pieces_in (drop (indent text) text) ≡ without_lead (pieces_in text))
lead_cut [] spelled = (spelled_nil, rw nothing_in refl)
lead_cut (b ∷ bs) spelled =
    ⊎_elim
    (λ d. let e : b ≡ 36 = eqb-true _ _ d in
    let none : indent (b ∷ bs) ≡ 0 = rw e refl in
    let whole : drop (indent (b ∷ bs)) (b ∷ bs) ≡ b ∷ bs = rw none refl in
    let kept : pieces_in (b ∷ bs) ≡ without_lead (pieces_in (b ∷ bs)) = rw (escaped_lead (pieces_in (b ∷ bs)) (dollar_first b bs spelled d)) refl in
    (rw whole spelled, ap pieces_in whole ∙ kept))
    (λ d. let first = plain_first b bs spelled d in ⊎_elim (λ s. spaced b bs (lead_cut bs first.0) first.1 s) (λ s. unspaced b bs spelled first.1 s) (cases_Bool (b == 32)))
    (cases_Bool (b == 36))

-- a name is all bytes of its text
escaped_name : (ps : List Piece) → begins_escaped ps ≡ true → name_bytes ps ≡ None
unfolding name_bytes
escaped_name ps h = grind (arith, false≢true)

plain_name : (b : ℕ) (ps : List Piece) → is_long_name_byte b ≡ true → name_bytes (Plain b ∷ ps) ≡ option_map (λ bs. b ∷ bs) (name_bytes ps)
unfolding name_bytes
plain_name b ps h = rw h refl

other_name : (b : ℕ) (ps : List Piece) → is_long_name_byte b ≡ false → name_bytes (Plain b ∷ ps) ≡ None
unfolding name_bytes
other_name b ps h = rw h refl

no_name : name_bytes [] ≡ Some []
unfolding name_bytes
no_name = refl

long_plain : (b : ℕ) → is_long_name_byte b ≡ true → (b == 36) ≡ false
long_plain b h = ⊎_elim (λ d. absurd (let e : b ≡ 36 = eqb-true _ _ d in let no : is_long_name_byte b ≡ false = rw e refl in false≢true (sym no ∙ h))) (λ d. d) (cases_Bool (b == 36))

pub name_all : (text : Bytes) (n : ℕ) → n ≡ prefix_len is_long_name_byte text → n ≡ length text → is_spelled text ≡ true → name_bytes (pieces_in text) ≡ Some text
name_all [] n is all spelled = ap name_bytes nothing_in ∙ no_name
name_all (b ∷ bs) n is all spelled =
    ⊎_elim
    (λ h. let first = plain_first b bs spelled (long_plain b h) in
    let more : n ≡ 1 + prefix_len is_long_name_byte bs = is ∙ rw h refl in
    let later : prefix_len is_long_name_byte bs ≡ length bs = omega (arith, more, all) in
    ap name_bytes first.1 ∙ plain_name b (pieces_in bs) h ∙ ap (option_map (λ cs. b ∷ cs)) (name_all bs (prefix_len is_long_name_byte bs) refl later first.0))
    (λ h. absurd (let none : n ≡ 0 = is ∙ rw h refl in omega (arith, none, all)))
    (cases_Bool (is_long_name_byte b))

pub name_not : (text : Bytes) (n : ℕ) → n ≡ prefix_len is_long_name_byte text → n ≢ length text → is_spelled text ≡ true → name_bytes (pieces_in text) ≡ None
name_not [] n is other spelled = absurd (other is)
name_not (b ∷ bs) n is other spelled =
    ⊎_elim
    (λ h. let first = plain_first b bs spelled (long_plain b h) in
    let more : n ≡ 1 + prefix_len is_long_name_byte bs = is ∙ rw h refl in
    let later : prefix_len is_long_name_byte bs ≢ length bs = λ e. other (omega (arith, more, e)) in
    ap name_bytes first.1 ∙ plain_name b (pieces_in bs) h ∙ ap (option_map (λ cs. b ∷ cs)) (name_not bs (prefix_len is_long_name_byte bs) refl later first.0))
    (λ h. ⊎_elim
    (λ d. escaped_name (pieces_in (b ∷ bs)) (dollar_first b bs spelled d))
    (λ d. ap name_bytes (plain_first b bs spelled d).1 ∙ other_name b (pieces_in bs) h)
    (cases_Bool (b == 36)))
    (cases_Bool (is_long_name_byte b))

-- plain bytes name no variable, and stand for themselves
pub names_after : (plain : Bytes) (ps : List Piece) → variable_names (map Plain plain ++ ps) ≡ variable_names ps
unfolding variable_names
names_after [] ps = refl
names_after (b ∷ bs) ps = names_after bs ps

pub expanded_after : (value_of : Bytes → Bytes) (plain : Bytes) (ps : List Piece) → bound_text value_of (map Plain plain ++ ps) ≡ plain ++ bound_text value_of ps
unfolding bound_text
expanded_after value_of [] ps = refl
expanded_after value_of (b ∷ bs) ps = ap (λ l. b ∷ l) (expanded_after value_of bs ps)

-- whether a variable is referred to, by the names
pub refers_by_names : (test : Bytes → Bool) (ps : List Piece) → refers_to test ps ≡ list_any test (variable_names ps)
unfolding variable_names
refers_by_names test [] = refl
refers_by_names test (Plain b ∷ ps) = refers_by_names test ps
refers_by_names test (Escaped b ∷ ps) = refers_by_names test ps
refers_by_names test (Variable name ∷ ps) = ap (λ r. test name || r) (refers_by_names test ps)

pub variable_name : (names : List (Bor Bytes)) (name : Bor Bytes) → map (λ n. n.now) (names ++ name ∷ []) ≡ map (λ n. n.now) names ++ variable_names (Variable name.now ∷ [])
unfolding variable_names
variable_name [] name = refl
variable_name (n ∷ ns) name = ap (λ l. n.now ∷ l) (variable_name ns name)

pub byte_names : (names : List (Bor Bytes)) (b : ℕ) → map (λ n. n.now) names ≡ map (λ n. n.now) names ++ variable_names (Escaped b ∷ [])
unfolding variable_names
byte_names names b = sym (append-nil (map (λ n. n.now) names))

-- the names of what a run begins with
pub names_from : (plain : Bytes) (p : Piece) (ps whole : List Piece) → whole ≡ map Plain plain ++ p ∷ ps → variable_names whole ≡ variable_names (p ∷ []) ++ variable_names ps
unfolding variable_names
names_from plain p ps whole is = grind (arith, names_after)

pub names_end : (plain : Bytes) (whole : List Piece) → whole ≡ map Plain plain ++ [] → variable_names whole ≡ []
unfolding variable_names
names_end plain whole is = ap variable_names is ∙ names_after plain []

-- what a mark cuts
pub split_free : (mark : ℕ) (ps : List Piece) → list_any (is_plain_byte mark) ps ≡ false → slice_split (is_plain_byte mark) ps ≡ ps ∷ []
split_free mark [] h = refl
split_free mark (p ∷ ps) h =
    ⊎_elim
    (λ d. absurd (let yes : list_any (is_plain_byte mark) (p ∷ ps) ≡ true = rw d refl in false≢true (sym h ∙ yes)))
    (λ d. slice_split-cons_no (is_plain_byte mark) p ps d ∙ ap (onto_first p) (split_free mark ps (rw d at h)))
    (cases_Bool (is_plain_byte mark p))

pub split_cut : (mark : ℕ) (front back : List Piece) → list_any (is_plain_byte mark) front ≡ false → slice_split (is_plain_byte mark) (front ++ Plain mark ∷ back) ≡ front ∷ slice_split (is_plain_byte mark) back
split_cut mark [] back h = let same : (mark == mark) ≡ true = eq-eqb mark mark refl in rw same refl
split_cut mark (p ∷ ps) back h =
    ⊎_elim
    (λ d. absurd (let yes : list_any (is_plain_byte mark) (p ∷ ps) ≡ true = rw d refl in false≢true (sym h ∙ yes)))
    (λ d. slice_split-cons_no (is_plain_byte mark) p (ps ++ Plain mark ∷ back) d ∙ ap (onto_first p) (split_cut mark ps back (rw d at h)))
    (cases_Bool (is_plain_byte mark p))
