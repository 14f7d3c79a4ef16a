-- The forms of a line, by their parts.
use Rattle.std.proofs.Common.{◌≡◌, suc, ◌+◌, true, false, List, [], ◌∷◌, ◌++◌, refl, sym, ◌∙◌, ap, length, take, drop, arith, Option, Some, None, option_map, ⊎_elim}
use Rattle.kt_ninja_reader.proofs.Common.{cases_Bool, false≢true, take-append_seam, option_and_then, list_any, position_or_len, slice_split, before_first, after_first, Plain, Bytes, BuildInputs, Spelling, binding_of, bound_to, build_after, build_cut, build_of, defaults_of, build_inputs, is_keyword, is_plain_byte, single_name, paths_of, rule_name_in, without_lead, spelled_words, bars_cut, key_of, not_keyword, two_of}

-- names, by the words
pub rule_by : (ps : Spelling) (words : List Spelling) → words ≡ spelled_words ps → rule_name_in ps ≡ single_name words
unfolding rule_name_in
rule_by ps words h = ap single_name (sym h)

pub key_by : (ps : Spelling) (words : List Spelling) (found : Option Bytes) → words ≡ spelled_words ps → single_name words ≡ found → key_of ps ≡ option_and_then not_keyword found
unfolding key_of
key_by ps words found h is = ap (λ w. option_and_then not_keyword (single_name w)) (sym h) ∙ ap (option_and_then not_keyword) is

pub key_taken : (ps : Spelling) (words : List Spelling) (name text : Bytes) → words ≡ spelled_words ps → single_name words ≡ Some name → text ≡ name → is_keyword text ≡ true → key_of ps ≡ None
key_taken ps words name text h is same taken = key_by ps words (Some name) h is ∙ rw (sym same) (rw taken refl)

pub key_free : (ps : Spelling) (words : List Spelling) (name text : Bytes) → words ≡ spelled_words ps → single_name words ≡ Some name → text ≡ name → is_keyword text ≡ false → key_of ps ≡ Some name
key_free ps words name text h is same free = key_by ps words (Some name) h is ∙ rw (sym same) (rw free refl)

-- bindings
pub binding_none : (ps : Spelling) → list_any (is_plain_byte 61) ps ≡ false → binding_of ps ≡ None
unfolding binding_of
binding_none ps h = rw h refl

bound : (value : Spelling) (found : Option Bytes) → option_and_then (bound_to value) found ≡ option_map (λ key. record { key = key; value = value }) (option_and_then not_keyword found)
bound value found = grind (arith, ⊎_elim, cases_Bool)

pub binding_by : (ps : Spelling) → list_any (is_plain_byte 61) ps ≡ true
    → binding_of ps ≡ option_map (λ key. record { key = key; value = without_lead (after_first (is_plain_byte 61) ps) }) (key_of (before_first (is_plain_byte 61) ps))
unfolding binding_of key_of
binding_by ps h = rw h (bound (without_lead (after_first (is_plain_byte 61) ps)) (single_name (spelled_words (before_first (is_plain_byte 61) ps))))

-- a line by what stands on both sides of its first `=`
place_is : (front back : Spelling) → list_any (is_plain_byte 61) front ≡ false → position_or_len (is_plain_byte 61) (front ++ Plain 61 ∷ back) ≡ length front
place_is [] back h = refl
place_is (p ∷ ps) back h =
    ⊎_elim
    (λ d. absurd (let yes : list_any (is_plain_byte 61) (p ∷ ps) ≡ true = rw d refl in false≢true (sym h ∙ yes)))
    (λ d. let later = place_is ps back (rw d at h) in
    let more : position_or_len (is_plain_byte 61) (p ∷ (ps ++ Plain 61 ∷ back)) ≡ 1 + position_or_len (is_plain_byte 61) (ps ++ Plain 61 ∷ back) = rw d refl in
    omega (arith, more, later))
    (cases_Bool (is_plain_byte 61 p))

drop_past : (front back : Spelling) → drop (length front + 1) (front ++ Plain 61 ∷ back) ≡ back
drop_past [] back = refl
drop_past (p ∷ ps) back = let e : length (p ∷ ps) + 1 ≡ suc (length ps + 1) = omega arith in rw e (drop_past ps back)

any_mark : (front back : Spelling) → list_any (is_plain_byte 61) (front ++ Plain 61 ∷ back) ≡ true
any_mark [] back = refl
any_mark (p ∷ ps) back = ⊎_elim (λ d. rw d refl) (λ d. rw d (any_mark ps back)) (cases_Bool (is_plain_byte 61 p))

binding_sides : (ps front back : Spelling) → ps ≡ front ++ Plain 61 ∷ back → list_any (is_plain_byte 61) front ≡ false
    → binding_of ps ≡ option_map (λ key. record { key = key; value = without_lead back }) (key_of front)
binding_sides ps front back is free = grind (arith, binding_by, any_mark, take, place_is, take-append_seam, drop_past)

pub binding_refused : (ps front back : Spelling) → ps ≡ front ++ Plain 61 ∷ back → list_any (is_plain_byte 61) front ≡ false → key_of front ≡ None → binding_of ps ≡ None
binding_refused ps front back is free h = binding_sides ps front back is free ∙ ap (option_map (λ key. record { key = key; value = without_lead back })) h

pub binding_read : (ps front back value : Spelling) (key : Bytes) → ps ≡ front ++ Plain 61 ∷ back → list_any (is_plain_byte 61) front ≡ false → key_of front ≡ Some key
    → value ≡ without_lead back → binding_of ps ≡ Some (record { key = key; value = value })
binding_read ps front back value key is free h cut =
    binding_sides ps front back is free ∙ ap (option_map (λ k. record { key = k; value = without_lead back })) h ∙ ap (λ v. Some (record { key = key; value = v })) (sym cut)

-- default targets
pub defaults_none : (ps : Spelling) → list_any (is_plain_byte 58) ps ≡ true → defaults_of ps ≡ None
unfolding defaults_of
defaults_none ps h = rw h refl

pub defaults_by : (ps : Spelling) → list_any (is_plain_byte 58) ps ≡ false → defaults_of ps ≡ paths_of ps
unfolding defaults_of
defaults_by ps h = rw h refl

-- inputs, by what stands after the bars
abbrev pub inputs_with : List Spelling → Spelling × Spelling → BuildInputs
inputs_with explicit cut = record { explicit = explicit; implicit = spelled_words cut.0; order_only = spelled_words cut.1 }

pub inputs_by : (explicit bars : List Spelling) → build_inputs explicit bars ≡ option_map (inputs_with explicit) (bars_cut bars)
unfolding spelled_words
inputs_by explicit bars = grind (arith, ⊎_elim, cases_Bool)

pub inputs_read : (explicit bars : List Spelling) (implicit order : Spelling) (told_explicit told_implicit told_order : List Spelling) → bars_cut bars ≡ Some (implicit, order)
    → told_explicit ≡ explicit → told_implicit ≡ spelled_words implicit → told_order ≡ spelled_words order
    → build_inputs explicit bars ≡ Some (record { explicit = told_explicit; implicit = told_implicit; order_only = told_order })
inputs_read explicit bars implicit order told_explicit told_implicit told_order cut e i o = grind (arith, inputs_by)

-- a build line, by what stands on both sides of its colon
pub sides_none : (sides : List Spelling) → two_of sides ≡ None → build_cut sides ≡ None
sides_none sides h = grind arith

pub build_none : (ps : Spelling) (sides : List Spelling) → sides ≡ slice_split (is_plain_byte 58) ps → two_of sides ≡ None → build_of ps ≡ None
unfolding build_of
build_none ps sides cut h = ap build_cut (sym cut) ∙ sides_none sides h

pub build_sides : (ps outs rest : Spelling) (sides : List Spelling) → sides ≡ slice_split (is_plain_byte 58) ps → sides ≡ outs ∷ rest ∷ []
    → build_of ps ≡ option_and_then (λ paths. build_after paths (slice_split (is_plain_byte 124) rest)) (paths_of outs)
unfolding build_of
build_sides ps outs rest sides cut is = ap build_cut (sym cut ∙ is)

pub sides_refused : (ps outs rest : Spelling) (sides : List Spelling) → sides ≡ slice_split (is_plain_byte 58) ps → sides ≡ outs ∷ rest ∷ [] → paths_of outs ≡ None → build_of ps ≡ None
sides_refused ps outs rest sides cut is none = build_sides ps outs rest sides cut is ∙ ap (option_and_then (λ paths. build_after paths (slice_split (is_plain_byte 124) rest))) none

pub sides_read : (ps outs rest : Spelling) (sides paths : List Spelling) → sides ≡ slice_split (is_plain_byte 58) ps → sides ≡ outs ∷ rest ∷ [] → paths_of outs ≡ Some paths
    → build_of ps ≡ build_after paths (slice_split (is_plain_byte 124) rest)
sides_read ps outs rest sides paths cut is some = build_sides ps outs rest sides cut is ∙ ap (option_and_then (λ paths. build_after paths (slice_split (is_plain_byte 124) rest))) some
