-- Marks for the ends of names.
use Rattle.std.proofs.Common.{◌≡◌, ℕ, zero, suc, ◌+◌, ◌<◌, ◌≤◌, Bool, true, false, not, ◌&&◌, if◌then◌else◌, List, [], ◌∷◌, ◌++◌, length, get_or, fold, slice_get, slice_set, Option, Some, None, option_map, unwrap_or, refl, sym, ap, ◌∙◌, arith, ⊎_elim, true≢false, length-append, ◌==◌}
use Rattle.kt_graph.proofs.Common.{cases_eq, cases_lt, eqb-true, ltb-false, append_assoc, drop_all, get_or_past, bytes_eq-Decides, and_nothing, or_first, or_second, place_of, number_found, Text, has_percent, pattern_back, pattern_front, list_any-place, after_dots, is_among, with_name, without_dots, IsFixedEnd, needed_name}
use Rattle.kt_rules.proofs.lemmas.book.BookLemmas.{among_fold}
use Rattle.kt_graph.specs.inner.EndMarks.{AreMarked, AreMarkedTo, KeepsEnds, end_mark_place, has_marked_end, with_end}
use Rattle.kt_graph.specs.inner.EndMarks.{with_end_of}

-- ---- one more mark

set_itself : (marks : List Bool) (place : ℕ) → get_or (slice_set marks place true) place true ≡ true
set_itself [] place = refl
set_itself (mark ∷ marks) zero = refl
set_itself (mark ∷ marks) (suc place) = set_itself marks place

set_kept : (marks : List Bool) (place other : ℕ) → get_or marks other true ≡ true → get_or (slice_set marks place true) other true ≡ true
set_kept [] place other h = h
set_kept (mark ∷ marks) zero zero h = refl
set_kept (mark ∷ marks) zero (suc other) h = h
set_kept (mark ∷ marks) (suc place) zero h = h
set_kept (mark ∷ marks) (suc place) (suc other) h = set_kept marks place other h

pub end_kept : (ends : List Bool) (name : Text) → KeepsEnds ends (with_end ends name)
end_kept ends name text h = set_kept ends (end_mark_place name) (end_mark_place text) h

pub end_itself : (ends : List Bool) (name : Text) → has_marked_end (with_end ends name) name ≡ true
end_itself ends name = set_itself ends (end_mark_place name)

-- ---- the ends of several names

pub ends_kept : (ends : List Bool) (names : List Text) → KeepsEnds ends (fold with_end ends names)
ends_kept ends [] text h = h
ends_kept ends (name ∷ names) text h = ends_kept (with_end ends name) names text (end_kept ends name text h)

pub ends_marked : (ends : List Bool) (names : List Text) → AreMarked (fold with_end ends names) names
ends_marked ends [] name h = absurd (true≢false (sym h))
ends_marked ends (first ∷ names) name h = grind (arith, ends_kept, bytes_eq-Decides, end_itself, ends_marked (with_end ends first) names name)

-- ---- names that are chosen by their numbers

pub chosen_kept : (old now new : List Bool) (found : Option Text) (b : Bool) → KeepsEnds old now
    → new ≡ (if b then with_end_of now found else now) → KeepsEnds old new
chosen_kept old now new found b before is text h = grind (arith, end_kept)

one_kept : (now new : List Bool) (found : Option Text) (b : Bool) → new ≡ (if b then with_end_of now found else now) → KeepsEnds now new
one_kept now new found b is = chosen_kept now now new found b (λ text h. h) is

pub chosen_marked : (now new : List Bool) (names : List Text) (chosen : List Bool) (i : ℕ) (b : Bool) → b ≡ get_or chosen i false
    → new ≡ (if b then with_end_of now (slice_get names i) else now) → AreMarkedTo i now names chosen → AreMarkedTo (i + 1) new names chosen
chosen_marked now new names chosen i b at is before number name below found picked = grind (arith, ⊎_elim, get_or, end_itself, one_kept, cases_lt, cases_eq)

-- the names of a book, as their marks and the others tell them
pub book_marked : (now new : List Bool) (known names others : List Text) (chosen : List Bool)
    → ((name : Text) → is_among known name ≡ unwrap_or (option_map (λ number. get_or chosen number false) (place_of names name)) (is_among others name))
    → AreMarkedTo (length chosen) now names chosen → new ≡ fold with_end now others → AreMarked new known
book_marked now new known names others chosen told marked is name h = by (place_of names name) refl
  where
    within : (number : ℕ) → get_or chosen number false ≡ true → number < length chosen
    within number picked = ⊎_elim (λ (less : number < length chosen). less)
        (λ (past : length chosen ≤ number). absurd (true≢false (sym picked ∙ get_or_past chosen number false past)))
        (cases_lt number (length chosen))

    by : (place : Option ℕ) → place_of names name ≡ place → has_marked_end new name ≡ true
    by (Some number) at =
        let picked : get_or chosen number false ≡ true
        = sym (ap (λ found. unwrap_or (option_map (λ n. get_or chosen n false) found) (is_among others name)) at) ∙ sym (told name) ∙ h in
        rw is (ends_kept now others name (marked number name (within number picked) (number_found names name number at) picked))
    by None at =
        rw is (ends_marked now others name
        (sym (ap (λ found. unwrap_or (option_map (λ n. get_or chosen n false) found) (is_among others name)) at) ∙ sym (told name) ∙ h))

-- the names of a list and a book
pub both_marked : (ends now new : List Bool) (listed list book : List Text) → list ≡ fold with_name [] listed → now ≡ fold with_end ends listed
    → KeepsEnds now new → AreMarked new book → AreMarked new (fold with_name list book)
both_marked ends now new listed list book are is kept marked name h = grind (arith, among_fold, ends_marked)

-- ---- what ends alike

-- ---- ends without a slash

-- a text has this end
abbrev HasEnd : ℕ → ℕ → Text → Type 0
HasEnd first last text = (front : Text) × (text ≡ front ++ first ∷ last ∷ [])

either_end : (first last : ℕ) (c : Bool) (x y : Text) → HasEnd first last x → HasEnd first last y → HasEnd first last (if c then x else y)
either_end first last true x y h k = h
either_end first last false x y h k = k

second_end : (first last : ℕ) (c : Bool) (x y : Text) → c ≡ false → HasEnd first last y → HasEnd first last (if c then x else y)
second_end first last c x y e h = grind (arith, true≢false)

no_slash : (c : Bool) (byte : ℕ) → (byte == 47) ≡ false → (c && byte == 47) ≡ false
no_slash c byte plain = ap (λ d. c && d) plain ∙ and_nothing c

dots_end : (first last : ℕ) → (first == 47) ≡ false → (last == 47) ≡ false → (past : Bool) (front : Text)
    → HasEnd first last (after_dots past (front ++ first ∷ last ∷ []))
unfolding after_dots
dots_end first last f l past [] = grind (arith, second_end, no_slash)
dots_end first last f l past (x ∷ []) =
    either_end first last (past && x == 47) _ _ (dots_end first last f l true [])
    (second_end first last (x == 46 && first == 47) _ _ (no_slash (x == 46) first f) (x ∷ [], refl))
dots_end first last f l past (x ∷ y ∷ front) =
    either_end first last (past && x == 47) _ _ (dots_end first last f l true (y ∷ front))
    (either_end first last (x == 46 && y == 47) _ _ (dots_end first last f l true front) (x ∷ y ∷ front, refl))

not_zero : (n : ℕ) → 0 < n → (n == 0) ≡ false
not_zero n h = grind (arith, eqb-true)

dotless_end : (first last : ℕ) → (first == 47) ≡ false → (last == 47) ≡ false → (front : Text)
    → HasEnd first last (without_dots (front ++ first ∷ last ∷ []))
unfolding without_dots
dotless_end first last f l front =
    let text : Text = front ++ first ∷ last ∷ [] in
    let left = dots_end first last f l false front in
    let long : length (after_dots false text) ≡ length left.0 + 2 = ap length left.1 ∙ length-append left.0 (first ∷ last ∷ []) in
    let some : (length (after_dots false text) == 0) ≡ false = not_zero (length (after_dots false text)) (omega (arith, long)) in
    second_end first last (length (after_dots false text) == 0 && not (length text == 0)) (46 ∷ 47 ∷ []) (after_dots false text)
    (ap (λ b. b && not (length text == 0)) some) left

-- a prerequisite is unknown where no known name ends as it does
stemmed_unknown : (known : List Text) (name end directory stem : Text) → has_percent name ≡ true → IsFixedEnd (pattern_back name) end
    → ((front : Text) → is_among known (front ++ end) ≡ false) → is_among known (needed_name directory stem name) ≡ false
stemmed_unknown known name [] directory stem has fixed none = absurd (omega (arith, fixed.two))
stemmed_unknown known name (first ∷ []) directory stem has fixed none = absurd (omega (arith, fixed.two))
stemmed_unknown known name (first ∷ last ∷ other ∷ rest) directory stem has fixed none = absurd (omega (arith, fixed.two))
stemmed_unknown known name (first ∷ last ∷ []) directory stem has fixed none =
    let end : Text = first ∷ last ∷ [] in
    let inside : Text = pattern_front name ++ (stem ++ fixed.front) in
    let whole : directory ++ (pattern_front name ++ (stem ++ pattern_back name)) ≡ (directory ++ inside) ++ end
    = ap (λ (back : Text). directory ++ (pattern_front name ++ (stem ++ back))) fixed.cut
    ∙ ap (λ (text : Text). directory ++ (pattern_front name ++ text)) (sym (append_assoc stem fixed.front end))
    ∙ ap (λ (text : Text). directory ++ text) (sym (append_assoc (pattern_front name) (stem ++ fixed.front) end))
    ∙ sym (append_assoc directory inside end) in
    let found = dotless_end first last (or_first (first == 47) _ fixed.plain) (or_first (last == 47) _ (or_second (first == 47) _ fixed.plain)) (directory ++ inside) in
    rw has (rw whole (rw found.1 (none found.0)))

-- a name without a percent sign has nothing after it
no_back : (pattern : Text) → has_percent pattern ≡ false → length (pattern_back pattern) ≡ 0
unfolding has_percent pattern_back
no_back pattern none = grind (arith, length, ltb-false, list_any-place, drop_all)

pub unknown_need : (known : List Text) (name end directory stem : Text) → IsFixedEnd (pattern_back name) end
    → ((front : Text) → is_among known (front ++ end) ≡ false) → is_among known (needed_name directory stem name) ≡ false
unknown_need known name end directory stem fixed none = by (has_percent name) refl
  where
    by : (b : Bool) → has_percent name ≡ b → is_among known (needed_name directory stem name) ≡ false
    by true has = stemmed_unknown known name end directory stem has fixed none
    by false plain =
        let long : length (pattern_back name) ≡ length fixed.front + length end = ap length fixed.cut ∙ length-append fixed.front end in
        absurd (omega (arith, long, fixed.two, no_back name plain))
