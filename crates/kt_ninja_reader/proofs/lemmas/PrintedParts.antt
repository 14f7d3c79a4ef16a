-- The lines of a printed plan, each read as what it was printed for.
use Rattle.std.proofs.Common.{arith, rules, ◌≡◌, ◌∙◌, ℕ, ◌+◌, List, [], ◌∷◌, ◌++◌, refl, ap, map, true, false, not, Some, None, option_map, is_none, codes, if◌then◌else◌}
use Rattle.kt_ninja_reader.proofs.Common.{list_all, option_and_then, and_from, and_parts, Made, Command, Statement, JoinedLine, Bytes, is_comment, Plain, pieces, Binding, Build, MarginForm, Spelling, build_form, build_of, default_form, defaults_of, margin_form, rule_form, rule_name_in, ScopeTable, find_in, put_in, value_in, value_within, Making, State, PendingStatement, add_defaults, add_statement, are_new, block_from, block_of, block_scope, is_file_byte, is_sound, making_of, pending_outs, paths_in, read_build, read_default, read_form, read_head, read_part, read_rule, rule_command, pending_with, is_special_in_name, rule_name_text, is_among, is_command, is_command_byte, is_empty, is_name}
use Rattle.kt_ninja_reader.proofs.lemmas.PrintedPieces.{all_implies, command_bytes, expanded_by, is_printed, neither, pieces_from_written, written}
use Rattle.kt_ninja_reader.proofs.lemmas.PrintedNames.{command_alone, command_pieces, is_word, name_bytes_plain, name_pieces, names_are_words, plain_pieces, rule_name_bytes}
use Rattle.kt_ninja_reader.proofs.lemmas.PrintedForms.{after_build, after_colon, binding_printed, build_printed, built, defaults_printed, inputs_are, rule_printed, spaced}
use Rattle.kt_ninja_reader.proofs.lemmas.PrintedLines.{Named, build_line, build_line_printed, command_line, command_line_printed, default_line, default_line_printed, line, part, rule_line, rule_line_printed}

-- ---- lines

-- a byte of a command can stand in a file
file_byte : (b : ℕ) → is_command_byte b ≡ true → is_file_byte b ≡ true
file_byte b e = grind (arith, neither, not)

-- a printed line is sound
sound : (number : ℕ) (ps : Spelling) → list_all is_printed ps ≡ true → is_sound (line number ps) ≡ true
sound number ps e = all_implies is_command_byte is_file_byte file_byte (written ps) (command_bytes ps e)

-- the pieces of what was written
pieces_written : (ps : Spelling) → list_all is_printed ps ≡ true → pieces (written ps) ≡ Some ps
unfolding pieces
pieces_written ps e = pieces_from_written ps e

-- the binding of a command
abbrev bound : Bytes → Binding
bound c = record { key = codes "command"; value = command_pieces c }

-- the rule's block
block_printed : (number : ℕ) (c : Bytes) → list_all is_command_byte c ≡ true → block_of (line number (command_line c) ∷ []) ≡ Some (bound c ∷ [])
unfolding block_from is_comment
block_printed number c e = search (rules, pieces_written, command_line, command_line_printed, binding_printed)

-- a rule's name is one word
rule_is_word : (number : ℕ) (made : Made) → is_word (map Plain (rule_name_text number made)) ≡ true
rule_is_word number made = grind (arith, plain_pieces, rule_name_bytes)

-- the form of a rule's line
rule_line_form : (number : ℕ) (c : Bytes) → margin_form (written (rule_line (rule_name_text number (Command c)))) ≡ Some (rule_form (rule_name_text number (Command c)))
unfolding margin_form
rule_line_form number c =
    let rule = rule_name_text number (Command c) in
    ap (option_and_then (λ ps. option_map rule_form (rule_name_in ps))) (pieces_written (map Plain rule) (rule_line_printed number (Command c)))
    ∙ ap (option_map rule_form) (rule_printed (map Plain rule) rule (rule_is_word number (Command c)) (name_bytes_plain rule (rule_name_bytes number (Command c))))

-- what a build line says
abbrev build_of_names : Bytes → List Bytes → List Bytes → List Bytes → List Bytes → Build
build_of_names rule outs ins is order = built (map name_pieces outs) rule (inputs_are (map name_pieces ins) (map name_pieces is) (map name_pieces order))

-- its pieces after `build`
abbrev pieces_of_names : Bytes → List Bytes → List Bytes → List Bytes → List Bytes → Spelling
pieces_of_names rule outs ins is order =
    spaced (map name_pieces outs) ++ (Plain 58 ∷ after_colon (map Plain rule ∷ map name_pieces ins) (map name_pieces is) (map name_pieces order))

-- the form of a build line
build_form_is : (number : ℕ) (made : Made) (outs ins is order : List Bytes) → not (is_empty outs) ≡ true
    → list_all is_name outs ≡ true → list_all is_name ins ≡ true → list_all is_name is ≡ true → list_all is_name order ≡ true
    → list_all is_printed (pieces_of_names (rule_name_text number made) outs ins is order) ≡ true
    → margin_form (codes "build" ++ written (pieces_of_names (rule_name_text number made) outs ins is order))
    ≡ Some (build_form (build_of_names (rule_name_text number made) outs ins is order))
unfolding margin_form
build_form_is number made [] ins is order some a b c d e = absurd (cc some)
build_form_is number made (o ∷ os) ins is order some a b c d e =
    let rule = rule_name_text number made in
    let front = map Plain rule ∷ map name_pieces ins in
    let ps = after_build (name_pieces o) (map name_pieces os) front (map name_pieces is) (map name_pieces order) in
    ap (option_and_then (λ qs. option_map build_form (build_of qs))) (pieces_written ps e)
    ∙ ap (option_map build_form) (build_printed (name_pieces o) (map name_pieces os) rule (map Plain rule) (map name_pieces ins) (map name_pieces is) (map name_pieces order)
    (name_bytes_plain rule (rule_name_bytes number made)) (names_are_words (o ∷ os) a)
    (and_from (is_word (map Plain rule)) (list_all is_word (map name_pieces ins)) (rule_is_word number made) (names_are_words ins b))
    (names_are_words is c) (names_are_words order d))

-- the same of a statement
build_line_form : (number : ℕ) (made : Made) (s : Statement) → not (is_empty s.outs) ≡ true → Named s
    → margin_form (written (build_line (rule_name_text number made) s))
    ≡ Some (build_form (build_of_names (rule_name_text number made) s.outs s.inputs s.implicit s.order_only))
build_line_form number made s some named = grind (arith, build_form_is, build_line_printed)

-- the form of the line of default targets
default_line_form : (n : Bytes) (ns : List Bytes) → list_all is_name (n ∷ ns) ≡ true
    → margin_form (written (default_line (n ∷ ns))) ≡ Some (default_form (map name_pieces (n ∷ ns)))
unfolding margin_form
default_line_form n ns e =
    ap (option_and_then (λ ps. option_map default_form (defaults_of ps))) (pieces_written (name_pieces n ++ spaced (map name_pieces ns)) (default_line_printed (n ∷ ns) e))
    ∙ ap (option_map default_form) (defaults_printed (name_pieces n) (map name_pieces ns) (names_are_words (n ∷ ns) e))

-- ---- parts

-- a part by the form of its first line and its block
part_read : (state : State) (number : ℕ) (ps : Spelling) (body : List JoinedLine) (form : MarginForm) (bindings : List Binding) → list_all is_printed ps ≡ true
    → margin_form (written ps) ≡ Some form → list_all is_sound body ≡ true → block_of body ≡ Some bindings
    → read_part state (part number ps body) ≡ read_form state form bindings
unfolding read_part
part_read state number ps body form bindings e is whole block =
    ap (λ b. if b then option_and_then (read_head state (Some (line number ps))) (block_of body) else None) whole
    ∙ ap (option_and_then (read_head state (Some (line number ps)))) block
    ∙ ap (λ b. if b then option_and_then (λ f. read_form state f bindings) (margin_form (written ps)) else None) (sound number ps e)
    ∙ ap (option_and_then (λ f. read_form state f bindings)) is

-- what was read of a printed plan before its default targets: rules and statements
abbrev pub state_with : ScopeTable Spelling → List PendingStatement → State
state_with table so_far = record { file = []; rules = table; pending = so_far; defaults = [] }

-- the command of the rule's block
command_is : (c : Bytes) → is_command c ≡ true → rule_command (bound c ∷ []) ≡ Some (command_pieces c)
command_is [] e = absurd (cc e)
command_is (b ∷ bs) e = search (rules, not, command_pieces, command_alone, codes)

-- a rule is read
pub rule_read : (number at : ℕ) (c : Bytes) (table : ScopeTable Spelling) (so_far : List PendingStatement) → is_command c ≡ true
    → find_in table (rule_name_text number (Command c)) ≡ None
    → read_part (state_with table so_far) (part at (rule_line (rule_name_text number (Command c))) (line (at + 1) (command_line c) ∷ []))
    ≡ Some (state_with (put_in table (rule_name_text number (Command c)) (command_pieces c)) so_far)
unfolding read_rule
rule_read number at c table so_far can fresh =
    let rule = rule_name_text number (Command c) in
    let state = state_with table so_far in
    let bytes = (and_parts (not (is_empty c)) (list_all is_command_byte c) can).1 in
    let whole = and_from (is_sound (line (at + 1) (command_line c))) true (sound (at + 1) (command_line c) (command_line_printed c bytes)) refl in
    part_read state at (rule_line rule) (line (at + 1) (command_line c) ∷ []) (rule_form rule) (bound c ∷ []) (rule_line_printed number (Command c))
    (rule_line_form number c) whole (block_printed (at + 1) c bytes)
    ∙ ap (λ o. if is_none o then option_map (λ command. state_with (put_in table rule command) so_far) (rule_command (bound c ∷ [])) else None) fresh
    ∙ ap (option_map (λ command. state_with (put_in table rule command) so_far)) (command_is c can)

-- no name is empty
some_name : (n : Bytes) → is_name n ≡ true → is_empty n ≡ false
some_name n e = grind arith

-- names are read as they were
paths_read : (value_of : Bytes → Bytes) (names : List Bytes) → list_all is_name names ≡ true → paths_in value_of (map name_pieces names) ≡ Some names
unfolding paths_in
paths_read value_of [] e = refl
paths_read value_of (n ∷ ns) e =
    let both = and_parts (is_name n) (list_all is_name ns) e in
    rw (expanded_by value_of is_special_in_name n, some_name n both.0, paths_read value_of ns both.1) refl

-- a statement as it is read, made so
abbrev pub pending_as : Making → Statement → PendingStatement
pending_as making s = record { outs = s.outs; making = making; inputs = s.inputs; implicit = s.implicit; order_only = s.order_only }

-- and so is the statement
pending_is : (value_of : Bytes → Bytes) (making : Making) (rule : Bytes) (s : Statement) → Named s
    → pending_with value_of making (build_of_names rule s.outs s.inputs s.implicit s.order_only) ≡ Some (pending_as making s)
pending_is value_of making rule s named = grind (arith, name_pieces, paths_read)

-- a build line is read
pub build_read : (number at : ℕ) (made : Made) (making : Making) (s : Statement) (table : ScopeTable Spelling) (so_far : List PendingStatement)
    → not (is_empty s.outs) ≡ true → Named s → making_of (state_with table so_far) (rule_name_text number made) [] ≡ Some making
    → are_new (pending_outs so_far) s.outs ≡ true
    → read_part (state_with table so_far) (part at (build_line (rule_name_text number made) s) [])
    ≡ Some (state_with table (so_far ++ pending_as making s ∷ []))
unfolding block_from read_build block_scope
build_read number at made making s table so_far some named is new =
    let rule = rule_name_text number made in
    let state = state_with table so_far in
    let b = build_of_names rule s.outs s.inputs s.implicit s.order_only in
    part_read state at (build_line rule s) [] (build_form b) [] (build_line_printed number made s named) (build_line_form number made s some named) refl refl
    ∙ ap (option_and_then (λ m. option_and_then (add_statement state) (pending_with (value_within [] []) m b))) is
    ∙ ap (option_and_then (add_statement state)) (pending_is (value_within [] []) making rule s named)
    ∙ ap (λ t. if t then Some (state_with table (so_far ++ pending_as making s ∷ [])) else None) new

-- default targets are read
pub defaults_read : (at : ℕ) (n : Bytes) (ns : List Bytes) (table : ScopeTable Spelling) (so_far : List PendingStatement)
    → list_all is_name (n ∷ ns) ≡ true → list_all (is_among (pending_outs so_far)) (n ∷ ns) ≡ true
    → read_part (state_with table so_far) (part at (default_line (n ∷ ns)) [])
    ≡ Some (record { file = []; rules = table; pending = so_far; defaults = n ∷ ns })
unfolding block_from read_default
defaults_read at n ns table so_far named among =
    let state = state_with table so_far in
    part_read state at (default_line (n ∷ ns)) [] (default_form (map name_pieces (n ∷ ns))) [] (default_line_printed (n ∷ ns) named) (default_line_form n ns named) refl refl
    ∙ ap (option_and_then (add_defaults state)) (paths_read (value_in []) (n ∷ ns) named)
    ∙ ap (λ t. if t then Some (record { file = []; rules = table; pending = so_far; defaults = n ∷ ns }) else None) among
