-- The first byte of a line whose continuations are condensed: that of the line, unless it is a blank, a backslash or one
-- of a line's end.
use Rattle.std.proofs.Common.{◌≡◌, ◌≤◌, ◌==◌, ◌&&◌, ◌-◌, ℕ, suc, List, [], ◌∷◌, ◌++◌, true, false, true≢false, length, take, reverse, arith, refl, sym, ap, ◌∙◌, subst, cond, ⊎_elim, nat_lt, slice_index}
use Rattle.kt_syntax.proofs.Common.{cases_Bool, length-reverse, reverse-append, flat_map, onto_first, prefix_len, suffix_len, no_cr, without_terminator, and_second, less_one, Text, is_blank, trimmed_end, condensed_group, condensed_line, condensed_of, groups, is_continued, is_continued_text, newline_pieces}

abbrev Begins : ℕ → Text → Type 0
Begins byte text = (rest : Text) × (text ≡ byte ∷ rest)

begins_before : (byte : ℕ) (text more : Text) → Begins byte text → Begins byte (text ++ more)
begins_before byte text more begun = (begun.0 ++ more, ap (λ t. t ++ more) begun.1)

-- ---- a text without its last byte

without_last : (byte next : ℕ) (text : Text) → Begins byte (take (length (byte ∷ next ∷ text) - 1) (byte ∷ next ∷ text))
without_last byte next text = (take (length text) (next ∷ text), ap (λ n. take n (byte ∷ next ∷ text)) (less_one (suc (length text))))

-- where that is another one
without_other : (byte other : ℕ) (text : Text) → (byte == other) ≡ false → (slice_index (byte ∷ text) (length (byte ∷ text) - 1) == other) ≡ true
    → Begins byte (take (length (byte ∷ text) - 1) (byte ∷ text))
without_other byte other [] h last = absurd (true≢false (sym last ∙ h))
without_other byte other (next ∷ text) h last = without_last byte next text

-- perhaps
maybe_without : (byte other : ℕ) (text : Text) → (byte == other) ≡ false
    → Begins byte (cond (nat_lt 0 (length (byte ∷ text)) && slice_index (byte ∷ text) (length (byte ∷ text) - 1) == other) (take (length (byte ∷ text) - 1) (byte ∷ text)) (byte ∷ text))
maybe_without byte other text h =
    let some = nat_lt 0 (length (byte ∷ text)) in
    let last = slice_index (byte ∷ text) (length (byte ∷ text) - 1) == other in
    ⊎_elim (λ (k : (some && last) ≡ true). rw k (without_other byte other text h (and_second some last k)))
    (λ (k : (some && last) ≡ false). rw k (text, refl)) (cases_Bool (some && last))

begins_no_cr : (byte : ℕ) (text : Text) → (byte == 13) ≡ false → Begins byte text → Begins byte (no_cr text)
begins_no_cr byte text h begun = subst (λ t. Begins byte (no_cr t)) (sym begun.1) (maybe_without byte 13 begun.0 h)

begins_content : (byte : ℕ) (text : Text) → (byte == 10) ≡ false → (byte == 13) ≡ false → Begins byte (without_terminator (byte ∷ text))
begins_content byte text h r =
    let some = nat_lt 0 (length (byte ∷ text)) in
    let last = slice_index (byte ∷ text) (length (byte ∷ text) - 1) == 10 in
    ⊎_elim
    (λ (k : (some && last) ≡ true).
    rw k (begins_no_cr byte (take (length (byte ∷ text) - 1) (byte ∷ text)) r (without_other byte 10 text h (and_second some last k))))
    (λ (k : (some && last) ≡ false). rw k (text, refl)) (cases_Bool (some && last))

-- a continued text without its last backslash
without_slash : (byte : ℕ) (text : Text) → (byte == 92) ≡ false → is_continued_text (byte ∷ text) ≡ true → Begins byte (take (length (byte ∷ text) - 1) (byte ∷ text))
without_slash byte [] h continued = grind (arith, true≢false)
without_slash byte (next ∷ text) h continued = without_last byte next text

begins_unslashed : (byte : ℕ) (text : Text) → (byte == 92) ≡ false → Begins byte text → is_continued_text text ≡ true → Begins byte (take (length text - 1) text)
begins_unslashed byte text h begun continued = grind (arith, take, length, without_slash)

-- ---- a text without the blanks at its end

run_bound : (byte : ℕ) (text : Text) → is_blank byte ≡ false → prefix_len is_blank (text ++ byte ∷ []) ≤ length text
run_bound byte [] h = rw h (omega arith)
run_bound byte (first ∷ text) h = grind (arith, ⊎_elim, cases_Bool, run_bound byte text h)

suffix_bound : (byte : ℕ) (text : Text) → is_blank byte ≡ false → suffix_len is_blank (byte ∷ text) ≤ length text
suffix_bound byte text h =
    let size : length (reverse text) ≡ length text = length-reverse text in
    let bound = run_bound byte (reverse text) h in
    rw (reverse-append (byte ∷ []) text) (omega (arith, bound, size))

begins_trimmed : (byte : ℕ) (text : Text) → is_blank byte ≡ false → Begins byte text → Begins byte (trimmed_end text)
begins_trimmed byte text h begun =
    let run = suffix_len is_blank (byte ∷ begun.0) in
    let bound : run ≤ length begun.0 = suffix_bound byte begun.0 h in
    let kept : length (byte ∷ begun.0) - run ≡ suc (length begun.0 - run) = omega (arith, bound) in
    subst (λ t. Begins byte (trimmed_end t)) (sym begun.1) (take (length begun.0 - run) begun.0, ap (λ n. take n (byte ∷ begun.0)) kept)

-- ---- a line

-- a byte that condensing leaves where it begins a line
pub record Stays (byte : ℕ) : Type 0 where
  pub blank : is_blank byte ≡ false
  pub backslash : (byte == 92) ≡ false
  pub newline : (byte == 10) ≡ false
  pub return : (byte == 13) ≡ false

ended_line : (byte : ℕ) (text : Text) → Stays byte → Begins byte (condensed_line false false (byte ∷ text))
unfolding condensed_line
ended_line byte text stays = grind (arith, begins_before, begins_content)

continued_line : (byte : ℕ) (text : Text) → Stays byte → is_continued (byte ∷ text) ≡ true → Begins byte (condensed_line false true (byte ∷ text))
unfolding condensed_line is_continued
continued_line byte text stays continued = grind (arith, begins_content, begins_before, begins_trimmed, begins_unslashed)

more_lines : (byte : ℕ) (text : Text) (later : List (List Text)) → Stays byte → is_continued (byte ∷ text) ≡ true
    → Begins byte (flat_map condensed_group (onto_first (byte ∷ text) later))
unfolding condensed_group
more_lines byte text [] stays continued = begins_before byte _ _ (ended_line byte text stays)
more_lines byte text ([] ∷ later) stays continued = begins_before byte _ _ (ended_line byte text stays)
more_lines byte text ((next ∷ lines) ∷ later) stays continued = grind (arith, begins_before, continued_line)

lines_begin : (byte : ℕ) (text : Text) (lines : List Text) → Stays byte → Begins byte (flat_map condensed_group (groups ((byte ∷ text) ∷ lines)))
unfolding groups condensed_group
lines_begin byte text lines stays =
    ⊎_elim (λ (h : is_continued (byte ∷ text) ≡ true). rw h (more_lines byte text (groups lines) stays h))
    (λ (h : is_continued (byte ∷ text) ≡ false). rw h (begins_before byte _ _ (ended_line byte text stays))) (cases_Bool (is_continued (byte ∷ text)))

pieces_begin : (byte : ℕ) (pieces : List Text) → Stays byte → Begins byte (flat_map condensed_group (groups (onto_first byte pieces)))
pieces_begin byte [] stays = lines_begin byte [] [] stays
pieces_begin byte (piece ∷ pieces) stays = lines_begin byte piece pieces stays

-- a condensed line begins as the line does
pub begins_alike : (byte : ℕ) (text : Text) → Stays byte → (rest : Text) × (condensed_of (byte ∷ text) ≡ byte ∷ rest)
unfolding condensed_of newline_pieces
begins_alike byte text stays = rw stays.newline (pieces_begin byte (newline_pieces text) stays)
