-- What the cuts of a rule line find.
use Rattle.std.proofs.Common.{rules, ◌≡◌, ℕ, suc, ◌+◌, Bool, true, false, if◌then◌else◌, List, [], ◌∷◌, ◌++◌, length, take, drop, Option, Some, None, refl, sym, ap, subst, ◌∙◌, true≢false, arith, ⊎_elim, ◌⊎◌, ◌==◌, ◌&&◌, ◌||◌, flat_map, option_map}
use Rattle.kt_rules.proofs.Common.{list_all, eqb-true, eq-eqb, append_assoc, head_is, and_nothing, Text, cuts, cut_place, after_dots, colon_cut}
use Rattle.kt_text_laws.proofs.Places.{none_in, tail_is}
use Rattle.kt_rules.specs.declared.line.cutting.Cut.TheVariants.{Colon}
use Rattle.kt_rules_laws.specs.Cuts.{HasQuotedColons, FindsColon, is_slash, dot_slash, begins_with_slash, begins_with_dot_slash, is_some_text, IsLeft}

abbrev two : Text → Text → Text × Text
two front back = (front, back)

abbrev put : ℕ → Text × Text → Text × Text
put byte cut = (byte ∷ cut.0, cut.1)

-- the cut at the colon, byte by byte
open_cut : Bool → Text → Option (Text × Text)
open_cut before [] = None
open_cut before (byte ∷ text) =
    if cuts Colon before byte then Some ([], text) else option_map (put byte) (open_cut (byte == 92) text)

abbrev cut_at : ℕ → Text → Text × Text
cut_at place text = (take place text, drop (place + 1) text)

placed_cut : Bool → Text → Option (Text × Text)
placed_cut before text =
    if cut_place Colon before text == length text then None else Some (cut_at (cut_place Colon before text) text)

no_zero : (n : ℕ) → (0 == suc n) ≡ false
no_zero n = grind (arith, eqb-true)

one_less : (n m : ℕ) → suc n ≡ suc m → n ≡ m
one_less n m e = omega arith

suc_eq : (n m : ℕ) → (suc n == suc m) ≡ (n == m)
suc_eq n m = grind (arith, eq-eqb, one_less, eqb-true)

one_further : (byte : ℕ) (text : Text) (n : ℕ) (b : Bool)
    → (if b then None else Some (cut_at (suc n) (byte ∷ text))) ≡ option_map (put byte) (if b then None else Some (cut_at n text))
one_further byte text n b = grind (arith, take)

placed_more : (before : Bool) (byte : ℕ) (text : Text) (b : Bool) → cuts Colon before byte ≡ b → placed_cut (byte == 92) text ≡ open_cut (byte == 92) text
    → (if ((if b then 0 else suc (cut_place Colon (byte == 92) text)) == suc (length text)) then None else Some (cut_at (if b then 0 else suc (cut_place Colon (byte == 92) text)) (byte ∷ text)))
    ≡ (if b then Some ([], text) else option_map (put byte) (open_cut (byte == 92) text))
unfolding placed_cut
placed_more before byte text b e rest = grind (arith, no_zero, length, suc_eq, one_further)

placed_open : (before : Bool) (text : Text) → placed_cut before text ≡ open_cut before text
unfolding placed_cut open_cut cut_place
placed_open before [] = refl
placed_open before (byte ∷ text) = placed_more before byte text (cuts Colon before byte) refl (placed_open (byte == 92) text)

no_colon : (before : Bool) (byte : ℕ) (b : Bool) → byte == 58 ≡ b → cuts Colon before byte ≡ true → (byte ≡ 58) × (before ≡ false)
no_colon before byte b e h = grind (arith, true≢false, eqb-true)

-- a colon that cuts has no backslash before it
colon_is : (before : Bool) (byte : ℕ) → cuts Colon before byte ≡ true → (byte ≡ 58) × (before ≡ false)
colon_is before byte h = no_colon before byte (byte == 58) refl h

-- a colon that doesn't cut has one
colon_quoted : (before : Bool) (byte : ℕ) → cuts Colon before byte ≡ false → byte ≡ 58 → before ≡ true
colon_quoted before byte h e = grind (arith, true≢false)

-- a byte that doesn't cut, before a text of quoted colons
quoted_more : (before : Bool) (byte : ℕ) (text : Text) → cuts Colon before byte ≡ false → HasQuotedColons (byte == 92) text → HasQuotedColons before (byte ∷ text)
quoted_more before byte text h rest [] back e = colon_quoted before byte h (head_is byte 58 text back e)
quoted_more before byte text h rest (first ∷ front) back e = grind (arith, tail_is)

found_more : (before : Bool) (byte : ℕ) (text : Text) (found : Option (Text × Text)) → cuts Colon before byte ≡ false
    → FindsColon (byte == 92) text found → FindsColon before (byte ∷ text) (option_map (put byte) found)
found_more before byte text found h rest = grind (arith, quoted_more)

found_open : (before : Bool) (byte : ℕ) (text : Text) (rest : Option (Text × Text)) (b : Bool) → cuts Colon before byte ≡ b
    → FindsColon before (byte ∷ text) (option_map (put byte) rest) ⊎ (b ≡ true)
    → FindsColon before (byte ∷ text) (if b then Some ([], text) else option_map (put byte) rest)
found_open before byte text rest b e f = grind (arith, colon_is, none_in, ⊎_elim, true≢false)

one_case : (before : Bool) (byte : ℕ) (text : Text) (rest : Option (Text × Text)) (b : Bool) → cuts Colon before byte ≡ b → FindsColon (byte == 92) text rest
    → FindsColon before (byte ∷ text) (option_map (put byte) rest) ⊎ (b ≡ true)
one_case before byte text rest b e f = grind (arith, found_more)

open_finds : (before : Bool) (text : Text) → FindsColon before text (open_cut before text)
unfolding open_cut
open_finds before [] = λ front back h. absurd (none_in 58 front back h)
open_finds before (byte ∷ text) = search (rules, found_open, open_cut, one_case, open_finds (byte == 92) text)

-- the cut is at the first colon without a backslash directly before it
pub cuts_at_first : (text : Text) → FindsColon false text (colon_cut text)
unfolding colon_cut placed_cut
cuts_at_first text = subst (FindsColon false text) (sym (placed_open false text)) (open_finds false text)

-- ---- leading `./`

-- the rest of a name: after slashes, if a `./` is before them, and then after each `./` with its slashes
record LeftBehind (past : Bool) (name left : Text) : Type 0 where
  front : Text
  slashes : List Text
  parts : name ≡ front ++ (flat_map dot_slash slashes ++ left)
  front_slashes : list_all is_slash front ≡ true
  front_after : past ≡ false → front ≡ []
  are_slashes : list_all (list_all is_slash) slashes ≡ true
  no_dot_slash : begins_with_dot_slash left ≡ false
  no_slash : ((past || is_some_text slashes) && begins_with_slash left) ≡ false

or_false : (a b : Bool) → ((a || false) && b) ≡ (a && b)
or_false a b = grind arith

-- a slash after a `./`
slash_more : (past : Bool) (byte : ℕ) (text left : Text) → (past && byte == 47) ≡ true → LeftBehind true text left → LeftBehind past (byte ∷ text) left
slash_more true byte text left h rest = record {
  front = byte ∷ rest.front;
  slashes = rest.slashes;
  parts = ap (λ (xs : Text). byte ∷ xs) rest.parts;
  front_slashes = rw h rest.front_slashes;
  front_after = λ e. absurd (true≢false e);
  are_slashes = rest.are_slashes;
  no_dot_slash = rest.no_dot_slash;
  no_slash = rest.no_slash;
}
slash_more false byte text left h rest = absurd (true≢false (sym h))

-- a `./`
dots_more : (past : Bool) (byte next : ℕ) (text left : Text) → (byte == 46 && next == 47) ≡ true → LeftBehind true text left → LeftBehind past (byte ∷ next ∷ text) left
dots_more past byte next text left h rest = record {
  front = [];
  slashes = rest.front ∷ rest.slashes;
  parts = two_is byte next text h ∙ ap (λ (xs : Text). 46 ∷ 47 ∷ xs) (rest.parts ∙ sym (append_assoc rest.front (flat_map dot_slash rest.slashes) left));
  front_slashes = refl;
  front_after = λ e. refl;
  are_slashes = rw rest.front_slashes rest.are_slashes;
  no_dot_slash = rest.no_dot_slash;
  no_slash = some_left past (begins_with_slash left) rest.no_slash;
}
  where
    two_is : (a b : ℕ) (xs : Text) → (a == 46 && b == 47) ≡ true → a ∷ b ∷ xs ≡ 46 ∷ 47 ∷ xs
    two_is a b xs e = by (a == 46) (b == 47) refl refl e
      where
        by : (x y : Bool) → a == 46 ≡ x → b == 47 ≡ y → (x && y) ≡ true → a ∷ b ∷ xs ≡ 46 ∷ 47 ∷ xs
        by true true f g k = ap (λ (n : ℕ). n ∷ b ∷ xs) (eqb-true a 46 f) ∙ ap (λ (n : ℕ). 46 ∷ n ∷ xs) (eqb-true b 47 g)
        by true false f g k = absurd (true≢false (sym k))
        by false y f g k = absurd (true≢false (sym k))

    some_left : (a b : Bool) → b ≡ false → ((a || true) && b) ≡ false
    some_left true b e = e
    some_left false b e = e

-- a name that begins with neither
bare_left : (past : Bool) (name : Text) → begins_with_dot_slash name ≡ false → (past && begins_with_slash name) ≡ false → LeftBehind past name name
bare_left past name d s = record {
  front = [];
  slashes = [];
  parts = refl;
  front_slashes = refl;
  front_after = λ e. refl;
  are_slashes = refl;
  no_dot_slash = d;
  no_slash = or_false past (begins_with_slash name) ∙ s;
}

left_one : (past : Bool) (byte : ℕ) (b : Bool) → (past && byte == 47) ≡ b → LeftBehind past (byte ∷ []) (if b then [] else byte ∷ [])
left_one past byte b h = grind (arith, slash_more, bare_left, and_nothing)

left_more : (past : Bool) (byte next : ℕ) (text : Text) (b c : Bool) → (past && byte == 47) ≡ b → (byte == 46 && next == 47) ≡ c
    → LeftBehind true (next ∷ text) (after_dots true (next ∷ text)) → LeftBehind true text (after_dots true text)
    → LeftBehind past (byte ∷ next ∷ text) (if b then after_dots true (next ∷ text) else (if c then after_dots true text else byte ∷ next ∷ text))
left_more past byte next text b c h g one two = grind (arith, slash_more, dots_more, bare_left)

left_after : (past : Bool) (name : Text) → LeftBehind past name (after_dots past name)
unfolding after_dots
left_after past [] = bare_left past [] refl (and_nothing past)
left_after past (byte ∷ []) = left_one past byte (past && byte == 47) refl
left_after past (byte ∷ next ∷ text) = grind (arith, left_more, left_after true (next ∷ text), left_after true text)

-- each leading `./` is removed with all slashes after it, and nothing else is
pub drops_dots : (name : Text) → IsLeft name (after_dots false name)
drops_dots name =
    let all = left_after false name in
    record {
      slashes = all.slashes;
      parts = all.parts ∙ ap (λ (front : Text). front ++ (flat_map dot_slash all.slashes ++ after_dots false name)) (all.front_after refl);
      are_slashes = all.are_slashes;
      no_dot_slash = all.no_dot_slash;
      no_slash = all.no_slash;
    }
