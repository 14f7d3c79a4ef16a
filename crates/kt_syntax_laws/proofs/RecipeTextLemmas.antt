-- The text of a recipe line, by its physical lines.
use Rattle.std.proofs.Common.{◌≡◌, ◌<◌, ◌-◌, ◌+◌, ◌==◌, ◌%◌, ◌&&◌, ℕ, ◌≤◌, suc, zero, Bool, true, false, not, List, [], ◌∷◌, ◌++◌, length, length-append, take, drop, filter, refl, sym, ap, subst, ◌∙◌, arith, append-nil, cond, ⊎_elim, count_by, nat_lt, slice_index}
use Rattle.kt_syntax.proofs.Common.{and_parts, cases_Bool, eqb-true, false≢true, reverse-append, take-append-le, filter-append, sum_by-append, sum_by-cons, take-length, concat, onto_first, prefix_len, suffix_len, no_cr, without_terminator, Text, is_blank, trimmed_end, trimmed_start, before_backslash, is_continued, is_continued_text, newline_pieces, one_piece, mask_of}
use Rattle.kt_text_laws.proofs.NewlineLemmas.{IsFree, free_nil, free_space}
use Rattle.kt_text_laws.proofs.CondensingLemmas.{ArePieces, are_pieces, free_backslash, free_end, free_start, front_content}
use Rattle.kt_text_laws.proofs.CuttingLemmas.{HasLast, last_at, last_of, front_at}
use Rattle.kt_text_laws.proofs.LineTextLemmas.{content_ended}
use Rattle.kt_syntax.specs.declared.recipe.Joint.{Joint}
use Rattle.kt_syntax.specs.declared.recipe.Joint.TheVariants.{Edge}
use Rattle.kt_syntax.specs.Recipes.{begun, content, ended, joint_of, newline_at_joint, recipe_lines, recipe_of, space_at_joint, spliced_line, without_tab}
use Rattle.kt_syntax_laws.specs.RecipeTexts.{RecipeLaw, is_shown}
use Rattle.kt_text_laws.proofs.TrimLemmas.{suffix-none}

-- how many newlines a text has
abbrev count : Text → ℕ
count text = count_by (λ byte. byte == 10) text

count-append : (xs ys : Text) → count (xs ++ ys) ≡ count xs + count ys
count-append xs ys = sum_by-append (λ byte. cond (byte == 10) 1 0) xs ys

count-free : (text : Text) → IsFree text → count text ≡ 0
unfolding IsFree
count-free [] free = refl
count-free (x ∷ xs) free = rw free.0 (count-free xs free.1)

-- what is shown of a text
abbrev shown : Text → Text
shown text = filter is_shown text

shown-append : (xs ys : Text) → shown (xs ++ ys) ≡ shown xs ++ shown ys
shown-append xs ys = filter-append is_shown xs ys

hidden : (byte : ℕ) (text : Text) → is_shown byte ≡ false → shown (byte ∷ text) ≡ shown text
hidden byte text h = rw h refl

blank_hidden : (byte : ℕ) → is_blank byte ≡ true → is_shown byte ≡ false
blank_hidden byte h = rw h refl

shown_before : (front : Text) (byte : ℕ) → is_shown byte ≡ false → shown (front ++ byte ∷ []) ≡ shown front
shown_before front byte h = shown-append front (byte ∷ []) ∙ ap (λ l. shown front ++ l) (hidden byte [] h) ∙ append-nil (shown front)

suffix-yes : (p : ℕ → Bool) (front : Text) (byte : ℕ) → p byte ≡ true → suffix_len p (front ++ byte ∷ []) ≡ 1 + suffix_len p front
suffix-yes p front byte h = ap (prefix_len p) (reverse-append front (byte ∷ [])) ∙ rw h refl

long : (front : Text) (byte : ℕ) → length (front ++ byte ∷ []) ≡ length front + 1
long front byte = length-append front (byte ∷ [])

-- without the blanks at its end
shown_end : (n : ℕ) (text : Text) → length text ≤ n → shown (trimmed_end text) ≡ shown text
shown_end n [] low = refl
shown_end zero (byte ∷ text) low = absurd (omega (arith, low))
shown_end (suc n) (byte ∷ text) low =
    let view = last_of byte text in
    let size : length (byte ∷ text) ≡ length view.front + 1 = ap length view.whole ∙ long view.front view.last in
    ⊎_elim
    (λ h. let suffix : suffix_len is_blank (byte ∷ text) ≡ 1 + suffix_len is_blank view.front = ap (suffix_len is_blank) view.whole ∙ suffix-yes is_blank view.front view.last h in
    let kept : length (byte ∷ text) - suffix_len is_blank (byte ∷ text) ≡ length view.front - suffix_len is_blank view.front = omega (arith, size, suffix) in
    let same : trimmed_end (byte ∷ text) ≡ trimmed_end view.front =
    ap (λ k. take k (byte ∷ text)) kept ∙ ap (take (length view.front - suffix_len is_blank view.front)) view.whole
    ∙ take-append-le (length view.front - suffix_len is_blank view.front) view.front (view.last ∷ []) (omega arith) in
    ap shown same ∙ shown_end n view.front (omega (arith, low, size)) ∙ sym (shown_before view.front view.last (blank_hidden view.last h)) ∙ ap shown (sym view.whole))
    (λ h. let suffix : suffix_len is_blank (byte ∷ text) ≡ 0 = ap (suffix_len is_blank) view.whole ∙ suffix-none is_blank view.front view.last h in
    let kept : length (byte ∷ text) - suffix_len is_blank (byte ∷ text) ≡ length (byte ∷ text) = omega (arith, suffix) in
    ap (λ k. shown (take k (byte ∷ text))) kept ∙ ap shown (take-length (byte ∷ text)))
    (cases_Bool (is_blank view.last))

-- without those at its begin
shown_start : (text : Text) → shown (trimmed_start text) ≡ shown text
shown_start [] = refl
shown_start (byte ∷ text) =
    ⊎_elim
    (λ h. let more : prefix_len is_blank (byte ∷ text) ≡ suc (prefix_len is_blank text) = rw h (omega arith) in
    ap (λ k. shown (drop k (byte ∷ text))) more ∙ shown_start text ∙ sym (hidden byte text (blank_hidden byte h)))
    (λ h. let none : prefix_len is_blank (byte ∷ text) ≡ 0 = rw h refl in ap (λ k. shown (drop k (byte ∷ text))) none)
    (cases_Bool (is_blank byte))

shown_tab : (text : Text) → shown (without_tab text) ≡ shown text
unfolding is_blank
shown_tab text = grind (arith, ⊎_elim, eqb-true, hidden, blank_hidden, cases_Bool)

cr_hidden : (byte : ℕ) → byte ≡ 13 → is_shown byte ≡ false
unfolding is_blank
cr_hidden byte h = rw h refl

backslash_hidden : (byte : ℕ) → byte ≡ 92 → is_shown byte ≡ false
unfolding is_blank
backslash_hidden byte h = rw h refl

newline_hidden : is_shown 10 ≡ false
unfolding is_blank
newline_hidden = refl

-- without a last byte that isn't shown
shown_front : (byte : ℕ) (text : Text) (view : HasLast (byte ∷ text)) → is_shown view.last ≡ false → shown (take (length (byte ∷ text) - 1) (byte ∷ text)) ≡ shown (byte ∷ text)
shown_front byte text view h =
    ap (λ l. shown (take (length l - 1) l)) view.whole ∙ ap shown (front_at view.front view.last) ∙ sym (shown_before view.front view.last h) ∙ ap shown (sym view.whole)

shown_cr : (front : Text) → shown (no_cr front) ≡ shown front
shown_cr [] = refl
shown_cr (byte ∷ text) =
    let view = last_of byte text in
    ⊎_elim
    (λ h. rw h (shown_front byte text view (cr_hidden view.last
    (sym (last_at view.front view.last) ∙ sym (ap (λ l. slice_index l (length l - 1)) view.whole) ∙ eqb-true _ _ (and_parts _ _ h).1))))
    (λ h. rw h refl)
    (cases_Bool (nat_lt 0 (length (byte ∷ text)) && slice_index (byte ∷ text) (length (byte ∷ text) - 1) == 13))

-- a continued line ends in a backslash
ends_odd : (text : Text) → is_continued_text text ≡ true → shown (take (length text - 1) text) ≡ shown text
ends_odd [] odd = refl
ends_odd (byte ∷ text) odd =
    let view = last_of byte text in
    ⊎_elim
    (λ h. shown_front byte text view (backslash_hidden view.last (eqb-true _ _ h)))
    (λ h. absurd (let none : suffix_len (λ b. b == 92) (byte ∷ text) ≡ 0 = ap (suffix_len (λ b. b == 92)) view.whole ∙ suffix-none (λ b. b == 92) view.front view.last h in
    let even : is_continued_text (byte ∷ text) ≡ false = ap (λ n. n % 2 == 1) none in false≢true (sym even ∙ odd)))
    (cases_Bool (view.last == 92))

line_shown : (front : Text) → shown (front ++ 10 ∷ []) ≡ shown front
line_shown front = shown_before front 10 newline_hidden

-- what is left of a line that a newline ends
content_shown : (front : Text) → shown (without_terminator (front ++ 10 ∷ [])) ≡ shown (front ++ 10 ∷ [])
content_shown front = ap shown (content_ended front) ∙ shown_cr front ∙ sym (line_shown front)

continued_shown : (front : Text) → is_continued (front ++ 10 ∷ []) ≡ true → shown (before_backslash (front ++ 10 ∷ [])) ≡ shown (front ++ 10 ∷ [])
unfolding is_continued
continued_shown front odd = ends_odd (without_terminator (front ++ 10 ∷ [])) odd ∙ content_shown front

space_shown : (before after : Joint) (text : Text) → shown (space_at_joint before after text) ≡ []
unfolding is_blank
space_shown before after text = grind arith

newline_shown : (after : Joint) → shown (newline_at_joint after) ≡ []
unfolding is_blank
newline_shown after = grind arith

begun_shown : (before : Joint) (text : Text) → shown (begun before text) ≡ shown text
begun_shown before text = grind (arith, shown_tab, shown_start)

ended_shown : (after : Joint) (text : Text) → shown (ended after text) ≡ shown text
ended_shown after text = grind (arith, shown_end, length)

-- a line between two joints shows what its content shows
between : (before after : Joint) (line : Text) → shown (spliced_line before after line) ≡ shown (content after line)
unfolding spliced_line
between before after line = grind (arith, shown-append, space_shown, newline_shown, append-nil, ended_shown, begun_shown)

joined_shown : (symbol : ℕ) (front : Text) → shown (content (joint_of symbol (front ++ 10 ∷ [])) (front ++ 10 ∷ [])) ≡ shown (front ++ 10 ∷ [])
unfolding joint_of
joined_shown symbol front = grind (arith, ⊎_elim, continued_shown, cases_Bool, content_shown)

-- physical lines put together
lines_shown : (before : Joint) (mask : List ℕ) (lines : List Text) → ArePieces lines → shown (recipe_lines before mask lines) ≡ shown (concat lines)
unfolding ArePieces recipe_lines
lines_shown before mask [] are = absurd are
lines_shown before mask (line ∷ []) are = between before Edge line ∙ ap shown (sym (append-nil line))
lines_shown before mask (line ∷ next ∷ lines) are =
    let symbol = slice_index mask (length line - 1) in
    let after = joint_of symbol line in
    let here : shown (content after line) ≡ shown line =
    subst (λ (l : Text). shown (content (joint_of symbol l) l) ≡ shown l) (sym are.1) (joined_shown symbol are.0) in
    shown-append (spliced_line before after line) (recipe_lines after (drop (length line) mask) (next ∷ lines))
    ∙ ap (λ l. l ++ shown (recipe_lines after (drop (length line) mask) (next ∷ lines))) (between before after line ∙ here)
    ∙ ap (λ l. shown line ++ l) (lines_shown after (drop (length line) mask) (next ∷ lines) are.3)
    ∙ sym (shown-append line (concat (next ∷ lines)))

onto_whole : (byte : ℕ) (pieces : List Text) → ArePieces pieces → concat (onto_first byte pieces) ≡ byte ∷ concat pieces
unfolding ArePieces
onto_whole byte pieces are = grind arith

pieces_whole : (text : Text) → concat (newline_pieces text) ≡ text
unfolding newline_pieces
pieces_whole [] = refl
pieces_whole (byte ∷ text) = grind (arith, ⊎_elim, onto_whole, are_pieces, cases_Bool, pieces_whole text)

-- newlines
tab_free : (text : Text) → IsFree text → IsFree (without_tab text)
unfolding IsFree
tab_free text free = grind (arith, ⊎_elim, cases_Bool)

begun_free : (before : Joint) (text : Text) → IsFree text → IsFree (begun before text)
begun_free before text free = grind (arith, tab_free, free_start)

ended_free : (after : Joint) (text : Text) → IsFree text → IsFree (ended after text)
ended_free after text free = grind (arith, free_end)

space_free : (before after : Joint) (text : Text) → IsFree (space_at_joint before after text)
space_free before after text = grind (arith, free_nil, free_space)

line_count : (before after : Joint) (line : Text) → IsFree (content after line) → count (spliced_line before after line) ≡ count (newline_at_joint after)
unfolding spliced_line
line_count before after line free =
    let text = ended after (begun before (content after line)) in
    let none : count (space_at_joint before after text) ≡ 0 = count-free (space_at_joint before after text) (space_free before after text) in
    let still : count text ≡ 0 = count-free text (ended_free after (begun before (content after line)) (begun_free before (content after line) free)) in
    let both = count-append (space_at_joint before after text) (text ++ newline_at_joint after) in
    let more = count-append text (newline_at_joint after) in
    omega (arith, none, still, both, more)

joined_count : (before : Joint) (symbol : ℕ) (front : Text) → IsFree front
    → count (spliced_line before (joint_of symbol (front ++ 10 ∷ [])) (front ++ 10 ∷ [])) ≡ cond (not (is_continued (front ++ 10 ∷ []))) 1 0
unfolding joint_of
joined_count before symbol front free = grind (arith, ⊎_elim, line_count, free_backslash, cases_Bool, front_content)

abbrev ended_lines : List Text → ℕ
ended_lines lines = count_by (λ line. not (is_continued line)) (take (length lines - 1) lines)

ended_more : (line next : Text) (lines : List Text) → ended_lines (line ∷ next ∷ lines) ≡ cond (not (is_continued line)) 1 0 + ended_lines (next ∷ lines)
ended_more line next lines =
    let one : length (line ∷ next ∷ lines) - 1 ≡ suc (length lines) = omega arith in
    let two : length (next ∷ lines) - 1 ≡ length lines = omega arith in
    ap (λ n. count_by (λ l. not (is_continued l)) (take n (line ∷ next ∷ lines))) one
    ∙ sum_by-cons (λ l. cond (not (is_continued l)) 1 0) line (take (length lines) (next ∷ lines))
    ∙ ap (λ n. cond (not (is_continued line)) 1 0 + count_by (λ l. not (is_continued l)) (take n (next ∷ lines))) (sym two)

lines_count : (before : Joint) (mask : List ℕ) (lines : List Text) → ArePieces lines → count (recipe_lines before mask lines) ≡ ended_lines lines
unfolding ArePieces recipe_lines
lines_count before mask [] are = absurd are
lines_count before mask (line ∷ []) are = line_count before Edge line are
lines_count before mask (line ∷ next ∷ lines) are =
    let symbol = slice_index mask (length line - 1) in
    let after = joint_of symbol line in
    let here : count (spliced_line before after line) ≡ cond (not (is_continued line)) 1 0 =
    subst (λ (l : Text). count (spliced_line before (joint_of symbol l) l) ≡ cond (not (is_continued l)) 1 0) (sym are.1) (joined_count before symbol are.0 are.2) in
    let rest = recipe_lines after (drop (length line) mask) (next ∷ lines) in
    let later : count rest ≡ ended_lines (next ∷ lines) = lines_count after (drop (length line) mask) (next ∷ lines) are.3 in
    let both = count-append (spliced_line before after line) rest in
    let more = ended_more line next lines in
    both ∙ ap (λ n. n + count rest) here ∙ ap (λ n. cond (not (is_continued line)) 1 0 + n) later ∙ sym more

stays : (text : Text) → ((k : ℕ) → k < length text → slice_index text k ≡ 10 → ⊥) → recipe_of text ≡ text
unfolding recipe_of recipe_lines spliced_line
stays text none = ap (recipe_lines Edge (mask_of text)) (one_piece text none) ∙ append-nil text

counted : (text : Text) → count (recipe_of text) ≡ ended_lines (newline_pieces text)
unfolding recipe_of
counted text = lines_count Edge (mask_of text) (newline_pieces text) (are_pieces text)

kept : (text : Text) → shown (recipe_of text) ≡ shown text
unfolding recipe_of
kept text = lines_shown Edge (mask_of text) (newline_pieces text) (are_pieces text) ∙ ap shown (pieces_whole text)

pub recipe_law : RecipeLaw
recipe_law = record { stays = stays; newlines = counted; shown = kept }
