-- Roles of lines by their first words alone.
use Rattle.std.proofs.Common.{arith, rules, ◌≡◌, ◌==◌, ℕ, zero, suc, List, [], ◌∷◌, Bool, true, false, Option, None, length, take, drop, codes, zero-add, refl, sym, ap, ◌∙◌, ⊎_elim}
use Rattle.kt_syntax.proofs.Common.{cases_Bool, eqb-true, bytes_eq-Decides, prefix_len, slice_range, bytes_eq, or_first, or_second, without_newline, drop-prefix_len, Text, is_blank, trimmed_start, take_nil, mask_byte, mask_from, mask_of, more_masked, Parts, before_comment, block_word, comment_place, directive_of, include_word, is_refused_word, kind_by_parts, kind_by_word, form_of, kind_within, assignment_parts, line_form, name_end, operator_of, past_blanks, past_word, worded}
use Rattle.kt_syntax.specs.declared.role.Role.TheVariants.{Else, Endif, Ordinary}
use Rattle.kt_syntax.proofs.lemmas.CondensedBegins.{begins_alike}
use Rattle.kt_syntax.proofs.lemmas.LeadingWords.{none_taken}
use Rattle.kt_syntax.proofs.lemmas.Masking.{mask_from-nil}
use Rattle.kt_syntax.proofs.lemmas.OwnRuns.{blank_unmarked, prefix_no, prefix_yes}
use Rattle.kt_syntax.proofs.lemmas.OwnSymbols.{own_byte}
use Rattle.kt_syntax.specs.Roles.{first_word, role_by_word, role_of, starts_condition}
use Rattle.kt_syntax.specs.inner.Leading.{may_open}

refused_or_rule : (first rest : Text) → role_of (kind_by_word None first rest) ≡ Ordinary
unfolding role_of
refused_or_rule first rest = grind (arith, ⊎_elim, cases_Bool)

-- the words of included files open, continue and end no block
included : (first rest : Text) → role_of (kind_by_word (include_word first) first rest) ≡ Ordinary
unfolding include_word role_of role_by_word
included first rest = grind (arith, codes, ⊎_elim, refused_or_rule, cases_Bool)

parts_role : (tab : Bool) (text mask : Text) (begin : ℕ) (parts : Option Parts) → role_of (worded tab text mask begin) ≡ Ordinary
    → role_of (kind_by_parts tab text mask begin parts) ≡ Ordinary
unfolding role_of
parts_role tab text mask begin parts other = grind arith

within_role : (tab : Bool) (text mask : Text) (begin : ℕ) → role_of (worded tab text mask begin) ≡ Ordinary → role_of (kind_within tab text mask begin) ≡ Ordinary
unfolding kind_within role_of
within_role tab text mask begin other = grind (arith, ⊎_elim, length, parts_role, cases_Bool)

-- a line that begins with a tab opens, continues and ends no block
pub tab_role : (line : Text) → Ordinary ≡ role_of (line_form line true)
unfolding form_of worded directive_of
tab_role line = grind (arith, take, within_role, included, slice_range)

-- the first word of a line, before its comment
unfoldable line_word : Text → Text
line_word text =
    let mask = take (comment_place text) (mask_of text)
    in slice_range text (past_blanks 0 mask) (past_word (past_blanks 0 mask) mask)

-- nor does one whose first word is none of those
word_role : (text : Text) → None ≡ block_word (line_word text) → Ordinary ≡ role_of (form_of text false)
unfolding form_of worded directive_of line_word
word_role text none = grind (arith, take, slice_range, within_role, included)

-- ---- the first byte of a line

-- a byte that none of them is
record IsNone (byte : ℕ) : Type 0 where
  pub blank : is_blank byte ≡ false
  pub backslash : (byte == 92) ≡ false
  pub newline : (byte == 10) ≡ false
  pub return : (byte == 13) ≡ false
  pub d : (byte == 100) ≡ false
  pub e : (byte == 101) ≡ false
  pub i : (byte == 105) ≡ false

none_of : (byte : ℕ) (text : Text) → may_open (byte ∷ text) ≡ false → IsNone byte
unfolding is_blank
none_of byte text h = grind (arith, or_first, or_second)

first_other : (byte : ℕ) (text : Text) → IsNone byte → is_blank (mask_byte byte (more_masked false byte text)) ≡ false
unfolding more_masked is_blank
first_other byte text none = grind (arith, ⊎_elim, cases_Bool)

no_word_taken : (count byte : ℕ) (text : Text) → IsNone byte → block_word (take count (byte ∷ text)) ≡ None
unfolding block_word
no_word_taken count byte text none = grind arith

no_word_in_nothing : (size : ℕ) → block_word (take size []) ≡ None
unfolding block_word
no_word_in_nothing size = ap block_word (take_nil size)

no_blank_word : (size byte : ℕ) (text : Text) → is_blank byte ≡ true → block_word (take size (byte ∷ text)) ≡ None
unfolding block_word is_blank
no_blank_word size byte text h = grind (arith, ⊎_elim, eqb-true, cases_Bool)

opens_here : (byte : ℕ) (text : Text) → is_blank byte ≡ false → may_open (trimmed_start (byte ∷ text)) ≡ may_open (byte ∷ text)
opens_here byte text solid = ap (λ n. may_open (drop n (byte ∷ text))) (prefix_no is_blank byte text solid)

opens_later : (byte : ℕ) (text : Text) → is_blank byte ≡ true → may_open (trimmed_start (byte ∷ text)) ≡ may_open (trimmed_start text)
opens_later byte text blank = ap may_open (drop-prefix_len is_blank byte text blank)

-- nor has a text behind the blanks among its first symbols
no_word : (count symbol size : ℕ) (text : Text) → may_open (trimmed_start text) ≡ false
    → block_word (take size (drop (prefix_len is_blank (take count (mask_from 0 symbol false text))) text)) ≡ None
unfolding mask_from
no_word count symbol size [] h = grind (arith, take, mask_from-nil, take_nil, no_word_in_nothing)
no_word zero symbol size (byte ∷ text) h = grind (arith, ⊎_elim, no_blank_word, no_word_taken, none_of, opens_here, cases_Bool)
no_word (suc count) symbol size (byte ∷ text) h =
    ⊎_elim (λ (blank : is_blank byte ≡ true).
    let rest = mask_from 0 byte false text in
    ap (λ (mask : List ℕ). block_word (take size (drop (prefix_len is_blank (take (suc count) mask)) (byte ∷ text)))) (own_byte symbol byte text (blank_unmarked byte blank))
    ∙ ap (λ n. block_word (take size (drop n (byte ∷ text)))) (prefix_yes is_blank byte (take count rest) blank)
    ∙ no_word count byte size text (sym (opens_later byte text blank) ∙ h))
    (λ (solid : is_blank byte ≡ false).
    let none = none_of byte text (sym (opens_here byte text solid) ∙ h) in
    ap (λ n. block_word (take size (drop n (byte ∷ text)))) (none_taken (suc count) (mask_byte byte (more_masked false byte text)) _ (first_other byte text none))
    ∙ no_word_taken size byte text none)
    (cases_Bool (is_blank byte))

empty_role : Ordinary ≡ role_of (form_of [] false)
unfolding line_word block_word before_comment mask_of mask_from
empty_role = word_role [] refl

-- a text that begins otherwise behind its blanks has no word of blocks
pub text_role : (text : Text) → may_open (trimmed_start text) ≡ false → Ordinary ≡ role_of (form_of text false)
unfolding line_word mask_of
text_role text h = search (rules, take, word_role, slice_range, zero-add, no_word)

-- nor has a line
pub first_role : (line : Text) → may_open line ≡ false → Ordinary ≡ role_of (line_form line false)
first_role [] h = empty_role ∙ ap (λ text. role_of (form_of text false)) (sym (without_newline [] refl))
first_role (byte ∷ line) h =
    let none = none_of byte line h in
    let begun = begins_alike byte line (record { blank = none.blank; backslash = none.backslash; newline = none.newline; return = none.return }) in
    text_role (byte ∷ begun.0) (opens_here byte begun.0 none.blank ∙ h) ∙ ap (λ text. role_of (form_of text false)) (sym begun.1)

-- a line that is one word
endif_alone : Endif ≡ role_of (form_of (codes "endif") false)
unfolding is_blank mask_from mask_of more_masked assignment_parts before_comment block_word directive_of include_word is_refused_word form_of kind_within name_end operator_of worded role_by_word role_of
endif_alone = refl

else_alone : Else false ≡ role_of (form_of (codes "else") false)
unfolding is_blank mask_from mask_of more_masked assignment_parts before_comment block_word directive_of include_word is_refused_word form_of kind_within name_end operator_of worded first_word role_by_word role_of starts_condition
else_alone = refl

pub endif_role : (line : Text) → bytes_eq line (codes "endif") ≡ true → Endif ≡ role_of (line_form line false)
endif_role line h = rw ((bytes_eq-Decides line (codes "endif")).0 h, without_newline (codes "endif") refl) endif_alone

pub else_role : (line : Text) → bytes_eq line (codes "else") ≡ true → Else false ≡ role_of (line_form line false)
else_role line h = rw ((bytes_eq-Decides line (codes "else")).0 h, without_newline (codes "else") refl) else_alone
