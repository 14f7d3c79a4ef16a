-- The text of a plan as lines of pieces, and these as the parts of a file.
use Rattle.std.proofs.Common.{arith, ◌≡◌, ◌∙◌, ℕ, ◌+◌, List, [], ◌∷◌, ◌++◌, refl, sym, ap, ap₂, map, append-nil, append_assoc, Bool, true, not, ◌==◌, ◌&&◌, ◌||◌, Some, None, codes}
use Rattle.kt_ninja_reader.proofs.Common.{concat, list_all, and_from, and_parts, list_all-append, flat_map-append, Plain, Made, Command, Phony, Statement, JoinedLine, Bytes, file_lines, joined_from, Spelling, FilePart, cut_lines, cut_with, names_of, defaults_text, marked_text, names_text, rule_count, rule_name_text, rule_text, statements_text, is_command_byte, is_empty, is_writable_making, is_name}
use Rattle.kt_ninja_reader.specs.NinjaRead.{FileParts}
use Rattle.kt_ninja_reader.proofs.lemmas.PrintedPieces.{all_both, all_implies, command_bytes, is_printed, neither, nothing_open, written, written_append, written_by}
use Rattle.kt_ninja_reader.proofs.lemmas.PrintedNames.{command_pieces, command_printed, command_written, is_name_piece, name_pieces, name_printed, names_are_words, plain_pieces, rule_name_bytes, written_plain}
use Rattle.kt_ninja_reader.proofs.lemmas.PrintedForms.{after_colon, after_pass, ended, spaced, spaced_pass, words_pass}

-- ---- texts

-- names after their spaces, written, are their text
pub names_written : (names : List Bytes) → written (spaced (map name_pieces names)) ≡ names_text names
names_written [] = refl
names_written (n ∷ ns) = grind (arith, written_append, name_pieces, spaced, ap₂, written_by, names_written ns)

-- words with a space after them
ended_then : (ws : List Spelling) (t : Bytes) → written (spaced (ended ws)) ++ t ≡ written (spaced ws) ++ (32 ∷ t)
ended_then ws t = grind (arith, written, flat_map-append, written_append, spaced, append_assoc)

-- the rule's name and the inputs
abbrev front_pieces : Bytes → List Bytes → List Spelling
front_pieces rule ins = map Plain rule ∷ map name_pieces ins

-- the text before the first bar
front_written : (rule : Bytes) (ins : List Bytes) → written (spaced (front_pieces rule ins)) ≡ 32 ∷ (rule ++ names_text ins)
front_written rule ins = grind (arith, written_append, spaced, name_pieces, ap₂, written_plain, names_written)

-- the same where a bar follows
front_then : (rule : Bytes) (ins : List Bytes) (t : Bytes)
    → written (spaced (ended (front_pieces rule ins))) ++ t ≡ 32 ∷ (rule ++ (names_text ins ++ (32 ∷ t)))
front_then rule ins t =
    ended_then (front_pieces rule ins) t ∙ ap (λ x. x ++ (32 ∷ t)) (front_written rule ins)
    ∙ ap (λ x. 32 ∷ x) (append_assoc rule (names_text ins) (32 ∷ t))

-- all that stands after the colon
after_written : (rule : Bytes) (ins is os : List Bytes)
    → written (after_colon (front_pieces rule ins) (map name_pieces is) (map name_pieces os))
    ≡ 32 ∷ (rule ++ (names_text ins ++ (marked_text (codes " |") is ++ marked_text (codes " ||") os)))
after_written rule ins [] [] = front_written rule ins ∙ ap (λ x. 32 ∷ (rule ++ x)) (sym (append-nil (names_text ins)))
after_written rule ins (i ∷ is) [] =
    let front = spaced (ended (front_pieces rule ins)) in
    written_append front (Plain 124 ∷ spaced (map name_pieces (i ∷ is)))
    ∙ ap (λ t. written front ++ (124 ∷ t)) (names_written (i ∷ is))
    ∙ front_then rule ins (124 ∷ names_text (i ∷ is))
    ∙ ap (λ t. 32 ∷ (rule ++ (names_text ins ++ t))) (sym (append-nil (32 ∷ 124 ∷ names_text (i ∷ is))))
after_written rule ins [] (o ∷ os) =
    let front = spaced (ended (front_pieces rule ins)) in
    written_append front (Plain 124 ∷ Plain 124 ∷ spaced (map name_pieces (o ∷ os)))
    ∙ ap (λ t. written front ++ (124 ∷ 124 ∷ t)) (names_written (o ∷ os))
    ∙ front_then rule ins (124 ∷ 124 ∷ names_text (o ∷ os))
after_written rule ins (i ∷ is) (o ∷ os) =
    let front = spaced (ended (front_pieces rule ins)) in
    let middle = spaced (ended (map name_pieces (i ∷ is))) in
    let last = Plain 124 ∷ Plain 124 ∷ spaced (map name_pieces (o ∷ os)) in
    written_append front (Plain 124 ∷ (middle ++ last))
    ∙ ap (λ t. written front ++ (124 ∷ t)) (written_append middle last ∙ ap (λ t. written middle ++ (124 ∷ 124 ∷ t)) (names_written (o ∷ os))
    ∙ ended_then (map name_pieces (i ∷ is)) (124 ∷ 124 ∷ names_text (o ∷ os))
    ∙ ap (λ t. t ++ (32 ∷ 124 ∷ 124 ∷ names_text (o ∷ os))) (names_written (i ∷ is)))
    ∙ front_then rule ins (124 ∷ (names_text (i ∷ is) ++ (32 ∷ 124 ∷ 124 ∷ names_text (o ∷ os))))

-- the line of a rule
abbrev pub rule_line : Bytes → Spelling
rule_line rule = map Plain (codes "rule ") ++ map Plain rule

-- the line of its command
abbrev pub command_line : Bytes → Spelling
command_line c = map Plain (codes " command = ") ++ command_pieces c

-- a build line
abbrev pub build_line : Bytes → Statement → Spelling
build_line rule s =
    map Plain (codes "build") ++ (spaced (map name_pieces s.outs)
    ++ (Plain 58 ∷ after_colon (front_pieces rule s.inputs) (map name_pieces s.implicit) (map name_pieces s.order_only)))

-- the line of the default targets
abbrev pub default_line : List Bytes → Spelling
default_line names = map Plain (codes "default") ++ spaced (map name_pieces names)

-- a build line by its rule's name
abbrev pub build_named : Bytes → Statement → Bytes
build_named rule s =
    concat (codes "build" ∷ names_text s.outs ∷ codes ": " ∷ rule ∷ names_text s.inputs
    ∷ marked_text (codes " |") s.implicit ∷ marked_text (codes " ||") s.order_only ∷ codes "\n" ∷ [])

-- a build line and what follows it
regrouped : (outs rule ins is os rest : Bytes)
    → (outs ++ (58 ∷ 32 ∷ (rule ++ (ins ++ (is ++ (os ++ (10 ∷ []))))))) ++ rest ≡ (outs ++ (58 ∷ 32 ∷ (rule ++ (ins ++ (is ++ os))))) ++ (10 ∷ rest)
regrouped outs rule ins is os rest = simp append_assoc

-- the build line as pieces, and its newline
pub build_written : (rule : Bytes) (s : Statement) (rest : Bytes) → build_named rule s ++ rest ≡ written (build_line rule s) ++ (10 ∷ rest)
build_written rule s rest = grind (arith, codes, regrouped, written_append, spaced, name_pieces, after_colon, ap₂, names_written, after_written)

-- the rule's two lines as pieces, with their newlines
pub rule_written : (number : ℕ) (c : Bytes) (rest : Bytes)
    → rule_text number (Command c) ++ rest ≡ written (rule_line (rule_name_text number (Command c))) ++ (10 ∷ (written (command_line c) ++ (10 ∷ rest)))
rule_written number c rest = grind (arith, codes, append_assoc, ap₂, written_plain, append-nil, command_written)

-- the line of default targets as pieces, and its newline
pub defaults_written : (names : List Bytes) → codes "default" ++ (names_text names ++ (10 ∷ [])) ≡ written (default_line names) ++ (10 ∷ [])
defaults_written names = ap (λ t. codes "default" ++ (t ++ (10 ∷ []))) (sym (names_written names))

-- ---- what the printer writes, it writes by pieces

-- the parts of a list that passes
all_split : {A : Type 0} (p : A → Bool) (xs ys : List A) → list_all p (xs ++ ys) ≡ true → (list_all p xs ≡ true) × (list_all p ys ≡ true)
all_split p xs ys e = and_parts (list_all p xs) (list_all p ys) (sym (list_all-append p xs ys) ∙ e)

-- the names of a statement can be written
pub record Named (s : Statement) : Type 0 where
  pub outs : list_all is_name s.outs ≡ true
  pub inputs : list_all is_name s.inputs ≡ true
  pub implicit : list_all is_name s.implicit ≡ true
  pub order_only : list_all is_name s.order_only ≡ true

-- from all names at once
pub named_from : (s : Statement) → list_all is_name (names_of s) ≡ true → Named s
named_from s e =
    let one = all_split is_name s.outs (s.inputs ++ (s.implicit ++ s.order_only)) e in
    let two = all_split is_name s.inputs (s.implicit ++ s.order_only) one.1 in
    let three = all_split is_name s.implicit s.order_only two.1 in
    record { outs = one.0; inputs = two.0; implicit = three.0; order_only = three.1 }

-- the pieces of names are printed
names_printed : (names : List Bytes) → list_all is_name names ≡ true → list_all (list_all is_printed) (map name_pieces names) ≡ true
names_printed names e = words_pass is_printed name_printed (map name_pieces names) (names_are_words names e)

-- those of a rule's name are
rule_pieces_printed : (number : ℕ) (made : Made) → list_all is_printed (map Plain (rule_name_text number made)) ≡ true
rule_pieces_printed number made = grind (arith, all_implies, is_name_piece, is_printed, name_printed, plain_pieces, rule_name_bytes)

-- so are those of the rule's line
pub rule_line_printed : (number : ℕ) (made : Made) → list_all is_printed (rule_line (rule_name_text number made)) ≡ true
rule_line_printed number made = rule_pieces_printed number made

-- of its command's line
pub command_line_printed : (c : Bytes) → list_all is_command_byte c ≡ true → list_all is_printed (command_line c) ≡ true
command_line_printed c e = command_printed c e

-- of a build line
pub build_line_printed : (number : ℕ) (made : Made) (s : Statement) → Named s → list_all is_printed (build_line (rule_name_text number made) s) ≡ true
build_line_printed number made s named = grind (arith, all_both, is_printed, spaced, name_pieces, spaced_pass, names_printed, after_pass, and_from, rule_pieces_printed)

-- of the line of default targets
pub default_line_printed : (names : List Bytes) → list_all is_name names ≡ true → list_all is_printed (default_line names) ≡ true
default_line_printed names e = spaced_pass is_printed refl (map name_pieces names) (names_printed names e)

-- ---- lines

-- the first line of a file
line_cut : (bytes rest : Bytes) → list_all is_command_byte bytes ≡ true → file_lines (bytes ++ (10 ∷ rest)) ≡ record { bytes = bytes; ended = true } ∷ file_lines rest
unfolding file_lines
line_cut [] rest e = refl
line_cut (b ∷ bs) rest e =
    let both = and_parts (is_command_byte b) (list_all is_command_byte bs) e in
    let other = (neither (b == 10) (b == 0) (ap not (neither (b == 13) (b == 10 || b == 0) both.0).1)).0 in
    rw (other, line_cut bs rest both.1) refl

-- the line of these pieces
abbrev pub line : ℕ → Spelling → JoinedLine
line number ps = record { number = number; text = written ps; ended = true }

-- the joined lines of a text from this line on
abbrev pub lines_at : ℕ → Bytes → List JoinedLine
lines_at number text = joined_from number None (file_lines text)

-- nothing is joined to a printed line
line_first : (number : ℕ) (ps : Spelling) (rest : Bytes) → list_all is_printed ps ≡ true
    → lines_at number (written ps ++ (10 ∷ rest)) ≡ line number ps ∷ lines_at (number + 1) rest
unfolding joined_from
line_first number ps rest e = grind (arith, line_cut, written, command_bytes, nothing_open)

-- a printed line before the others, cut into parts
pub cut_line : (number : ℕ) (ps : Spelling) (rest : Bytes) → list_all is_printed ps ≡ true
    → cut_lines (lines_at number (written ps ++ (10 ∷ rest))) ≡ cut_with (line number ps) (cut_lines (lines_at (number + 1) rest))
unfolding cut_lines
cut_line number ps rest e = ap cut_lines (line_first number ps rest e)

-- ---- parts

-- a part with a line of these pieces at the margin
abbrev pub part : ℕ → Spelling → List JoinedLine → FilePart
part number ps body = record { number = number; head = Some (line number ps); body = body }

-- parts with no line before them
abbrev pub from_parts : List FilePart → FileParts
from_parts parts = record { before = []; parts = parts }

-- the line after a statement that begins at this line
abbrev pub line_after : Made → ℕ → ℕ
line_after (Command c) at = at + 1 + 1 + 1
line_after Phony at = at + 1

-- the parts of a statement, and those after it
abbrev pub statement_parts : ℕ → ℕ → Statement → Made → List FilePart → List FilePart
statement_parts number at s (Command c) later =
    part at (rule_line (rule_name_text number (Command c))) (line (at + 1) (command_line c) ∷ [])
    ∷ part (at + 1 + 1) (build_line (rule_name_text number (Command c)) s) [] ∷ later
statement_parts number at s Phony later = part at (build_line (codes "phony") s) [] ∷ later

-- the part of the default targets, if there are any
abbrev pub default_parts : ℕ → List Bytes → List FilePart
default_parts at [] = []
default_parts at (n ∷ ns) = part at (default_line (n ∷ ns)) [] ∷ []

-- the parts of statements and default targets, the first rule of which has this number, from this line on
abbrev pub plan_parts : ℕ → ℕ → List Statement → List Bytes → List FilePart
plan_parts number at [] defaults = default_parts at defaults
plan_parts number at (s ∷ ss) defaults =
    statement_parts number at s s.made (plan_parts (number + rule_count s.made) (line_after s.made at) ss defaults)

-- a build line before the others
build_cut : (number at : ℕ) (made : Made) (s : Statement) (rest : Bytes) (later : List FilePart) → Named s
    → cut_lines (lines_at (at + 1) rest) ≡ from_parts later
    → cut_lines (lines_at at (build_named (rule_name_text number made) s ++ rest)) ≡ from_parts (part at (build_line (rule_name_text number made) s) [] ∷ later)
build_cut number at made s rest later named more =
    let ps = build_line (rule_name_text number made) s in
    ap (λ t. cut_lines (lines_at at t)) (build_written (rule_name_text number made) s rest)
    ∙ cut_line at ps rest (build_line_printed number made s named)
    ∙ ap (cut_with (line at ps)) more

-- a statement before the others
statement_cut : (number at : ℕ) (s : Statement) (made : Made) (rest : Bytes) (later : List FilePart) → is_writable_making made ≡ true → Named s
    → cut_lines (lines_at (line_after made at) rest) ≡ from_parts later
    → cut_lines (lines_at at ((rule_text number made ++ build_named (rule_name_text number made) s) ++ rest)) ≡ from_parts (statement_parts number at s made later)
statement_cut number at s (Command c) rest later can named more =
    let rule = rule_name_text number (Command c) in
    let bytes = (and_parts (not (is_empty c)) (list_all is_command_byte c) can).1 in
    ap (λ t. cut_lines (lines_at at t)) (append_assoc (rule_text number (Command c)) (build_named rule s) rest ∙ rule_written number c (build_named rule s ++ rest))
    ∙ cut_line at (rule_line rule) _ (rule_line_printed number (Command c))
    ∙ ap (cut_with (line at (rule_line rule))) (
    cut_line (at + 1) (command_line c) _ (command_line_printed c bytes)
    ∙ ap (cut_with (line (at + 1) (command_line c))) (build_cut number (at + 1 + 1) (Command c) s rest later named more))
statement_cut number at s Phony rest later can named more = build_cut number at Phony s rest later named more

-- the default targets at the end
defaults_cut : (at : ℕ) (names : List Bytes) → list_all is_name names ≡ true → cut_lines (lines_at at (defaults_text names)) ≡ from_parts (default_parts at names)
unfolding file_lines joined_from cut_lines
defaults_cut at [] e = refl
defaults_cut at (n ∷ ns) e =
    ap (λ t. cut_lines (lines_at at t)) (defaults_written (n ∷ ns))
    ∙ cut_line at (default_line (n ∷ ns)) [] (default_line_printed (n ∷ ns) e)

-- the statements and default targets as parts of the file
pub plan_cut : (number at : ℕ) (ss : List Statement) (defaults : List Bytes)
    → list_all (λ s. list_all is_name (names_of s) && is_writable_making s.made) ss ≡ true → list_all is_name defaults ≡ true
    → cut_lines (lines_at at (statements_text number ss ++ defaults_text defaults)) ≡ from_parts (plan_parts number at ss defaults)
plan_cut number at [] defaults e d = defaults_cut at defaults d
plan_cut number at (s ∷ ss) defaults e d =
    let both = and_parts (list_all is_name (names_of s) && is_writable_making s.made) (list_all (λ x. list_all is_name (names_of x) && is_writable_making x.made) ss) e in
    let here = and_parts (list_all is_name (names_of s)) (is_writable_making s.made) both.0 in
    let rest = statements_text (number + rule_count s.made) ss ++ defaults_text defaults in
    let later = plan_parts (number + rule_count s.made) (line_after s.made at) ss defaults in
    ap (λ t. cut_lines (lines_at at t)) (append_assoc (rule_text number s.made ++ build_named (rule_name_text number s.made) s) (statements_text (number + rule_count s.made) ss) (defaults_text defaults))
    ∙ statement_cut number at s s.made rest later here.1 (named_from s here.0)
    (plan_cut (number + rule_count s.made) (line_after s.made at) ss defaults both.1 d)
