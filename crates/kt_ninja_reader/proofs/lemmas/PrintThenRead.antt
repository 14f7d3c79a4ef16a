-- What is printed is read.
use Rattle.std.proofs.Common.{rules, ◌≡◌, ◌∙◌, ◌<◌, ◌≤◌, ℕ, ◌+◌, List, [], ◌∷◌, ◌++◌, refl, sym, ap, subst, map, append-nil, append_assoc, arith, Bool, true, false, not, ◌&&◌, nat_eq, Option, Some, None, Ok, codes, if◌then◌else◌}
use Rattle.kt_ninja_reader.proofs.Common.{list_all, bytes_eq, pointwise, same_text, and_from, and_parts, flat_map-append, Made, Command, Phony, Statement, Plan, JoinedLine, Bytes, ends_in_dollar, file_lines, is_comment, joined_from, joined_lines, Spelling, ScopeTable, find_in, put_in, Making, FilePart, PendingStatement, all_parts, and_then_parts, are_new, block_from, by_nothing, by_rule, cut_lines, cut_with, made_of, making_of, nothing_read, ninja_read, pending_outs, plan_in, plan_of_state, read_part, read_parts, statement_of_pending, names_of, outputs, defaults_text, plan_text, rule_count, rule_name_text, statements_text, is_among, IsWritable, is_empty, is_writable_making, is_name, repeated_after}
use Rattle.std.proofs.lemmas.Map.Made.{IsDistinct-from_AllPairs}
use Rattle.kt_ninja_reader.proofs.lemmas.PrintedPieces.{all_both, all_implies, either_case}
use Rattle.kt_ninja_reader.proofs.lemmas.PrintedNames.{command_expanded, command_pieces, number_once}
use Rattle.kt_ninja_reader.proofs.lemmas.PrintedLines.{Named, build_line, default_parts, from_parts, line_after, lines_at, named_from, part, plan_cut, plan_parts, statement_parts}
use Rattle.kt_ninja_reader.proofs.lemmas.PrintedParts.{build_read, defaults_read, rule_read, pending_as, state_with}
use Rattle.kt_ninja.proofs.Deciding.{apart_from_none, names_decide, none_from_distinct, pass_from_all}

-- ---- rules

-- the name of a rule
abbrev rule_named : ℕ → Bytes
rule_named number = rule_name_text number (Command [])

-- rules of different numbers have different names
names_case : (m n : ℕ) (b : Bool) → b ≡ bytes_eq (rule_named m) (rule_named n) → n < m → b ≡ false
names_case m n b is below = search (rules, number_once, append-nil)

names_differ : (m n : ℕ) → n < m → bytes_eq (rule_named m) (rule_named n) ≡ false
names_differ m n below = names_case m n (bytes_eq (rule_named m) (rule_named n)) refl below

-- a text is the same as itself
text_is_itself : (b : Bool) (name : Bytes) → b ≡ bytes_eq name name → b ≡ true
text_is_itself b name is = search rules

-- after one entry
found_case : {X : Type 0} (es : ScopeTable X) (key : Bytes) (old value : X) (name : Bytes) (here : Bool) → bytes_eq name key ≡ here
    → find_in (put_in es name value) name ≡ Some value
    → find_in (if here then (key, value) ∷ es else (key, old) ∷ put_in es name value) name ≡ Some value
unfolding find_in
found_case es key old value name here is later = grind arith

-- what was put is found
found : {X : Type 0} (es : ScopeTable X) (name : Bytes) (value : X) → find_in (put_in es name value) name ≡ Some value
unfolding find_in put_in
found {X} [] name value = ap (λ b. if b then Some value else None) (text_is_itself (bytes_eq name name) name refl)
found ((key, old) ∷ es) name value = found_case es key old value name (bytes_eq name key) refl (found es name value)

-- an entry that is not found stands neither here nor later
absent_case : {X : Type 0} (here : Bool) (old : X) (later : Option X) → (if here then Some old else later) ≡ None → (here ≡ false) × (later ≡ None)
absent_case here old later e = grind arith

-- after one entry
other_case : {X : Type 0} (es : ScopeTable X) (key : Bytes) (old value : X) (name other : Bytes) (here : Bool)
    → bytes_eq other key ≡ false → find_in es other ≡ None → find_in (put_in es name value) other ≡ None
    → find_in (if here then (key, value) ∷ es else (key, old) ∷ put_in es name value) other ≡ None
unfolding find_in
other_case es key old value name other here differ none later = grind arith

-- another name is as absent as before
still_absent : {X : Type 0} (es : ScopeTable X) (name other : Bytes) (value : X) → bytes_eq other name ≡ false → find_in es other ≡ None
    → find_in (put_in es name value) other ≡ None
unfolding find_in put_in
still_absent [] name other value differ none = ap (λ b. if b then Some value else None) differ
still_absent ((key, old) ∷ es) name other value differ none =
    let both = absent_case (bytes_eq other key) old (find_in es other) none in
    other_case es key old value name other (bytes_eq name key) both.0 both.1 (still_absent es name other value differ both.1)

-- no rule has a number from this one on
abbrev Fresh : ℕ → ScopeTable Spelling → Type 0
Fresh number table = (m : ℕ) → number ≤ m → find_in table (rule_named m) ≡ None

-- the rules after a statement made so
abbrev table_after : ℕ → Made → ScopeTable Spelling → ScopeTable Spelling
table_after number (Command c) table = put_in table (rule_named number) (command_pieces c)
table_after number Phony table = table

-- after a statement the next number is free again
fresh_past : (number : ℕ) (made : Made) (table : ScopeTable Spelling) → Fresh number table → Fresh (number + rule_count made) (table_after number made table)
fresh_past number made table fresh m h = grind (arith, still_absent, command_pieces, names_differ)

-- how a printed statement is read to be made
abbrev making_as : Made → Making
making_as (Command c) = by_rule (command_pieces c) []
making_as Phony = by_nothing

-- the rule of a command is found
command_making : (number : ℕ) (c : Bytes) (table : ScopeTable Spelling) (so_far : List PendingStatement)
    → making_of (state_with (table_after number (Command c) table) so_far) (rule_named number) [] ≡ Some (making_as (Command c))
unfolding making_of find_in
command_making number c table so_far = grind (arith, found, command_pieces)

-- `phony` is known
phony_making : (table : ScopeTable Spelling) (so_far : List PendingStatement) → making_of (state_with table so_far) (codes "phony") [] ≡ Some by_nothing
unfolding making_of
phony_making table so_far = refl

-- ---- statements

-- the parts of a statement add it to what was read
statement_read : (number at : ℕ) (s : Statement) (made : Made) (later : List FilePart) (table : ScopeTable Spelling) (so_far : List PendingStatement)
    → Fresh number table → not (is_empty s.outs) ≡ true → Named s → is_writable_making made ≡ true → are_new (pending_outs so_far) s.outs ≡ true
    → read_parts (state_with table so_far) (statement_parts number at s made later)
    ≡ read_parts (state_with (table_after number made table) (so_far ++ pending_as (making_as made) s ∷ [])) later
unfolding read_parts
statement_read number at s (Command c) later table so_far fresh some named can new =
    let next = table_after number (Command c) table in
    ap (λ o. and_then_parts at o (λ state. read_parts state (part (at + 1 + 1) (build_line (rule_named number) s) [] ∷ later)))
    (rule_read number at c table so_far can (fresh number (omega arith)))
    ∙ ap (λ o. and_then_parts (at + 1 + 1) o (λ state. read_parts state later))
    (build_read number (at + 1 + 1) (Command c) (making_as (Command c)) s next so_far some named (command_making number c table so_far) new)
statement_read number at s Phony later table so_far fresh some named can new =
    ap (λ o. and_then_parts at o (λ state. read_parts state later))
    (build_read number at Phony by_nothing s table so_far some named (phony_making table so_far) new)

-- it is made as it was
made_again : (s : PendingStatement) (made : Made) → made_of [] s (making_as made) ≡ made
unfolding made_of
made_again s made = grind (arith, command_expanded)

-- it is the statement that was printed
statement_again : (s : Statement) → statement_of_pending [] (pending_as (making_as s.made) s) ≡ s
unfolding statement_of_pending
statement_again s = grind (arith, made_again, pending_as)

-- ---- outputs

-- outputs that are new one by one
new_split : (before a b : List Bytes) → are_new before (a ++ b) ≡ true → (are_new before a ≡ true) × (are_new (before ++ a) b ≡ true)
unfolding are_new
new_split before [] b e = (refl, ap (λ l. are_new l b) (append-nil before) ∙ e)
new_split before (x ∷ xs) b e =
    let both = and_parts (not (is_among before x)) (are_new (before ++ x ∷ []) (xs ++ b)) e in
    let later = new_split (before ++ x ∷ []) xs b both.1 in
    (and_from (not (is_among before x)) (are_new (before ++ x ∷ []) xs) both.0 later.0, ap (λ l. are_new l b) (sym (append_assoc before (x ∷ []) xs)) ∙ later.1)

-- the outputs with those of one more statement
outs_more : (so_far : List PendingStatement) (s : PendingStatement) → pending_outs (so_far ++ s ∷ []) ≡ pending_outs so_far ++ s.outs
outs_more so_far s = flat_map-append (λ (t : PendingStatement). t.outs) so_far (s ∷ []) ∙ ap (λ l. pending_outs so_far ++ l) (append-nil s.outs)

-- one output before others
new_case : (here : Bool) (x : Bytes) (later : Option Bytes) (rest : Bool) → (if here then Some x else later) ≡ None → (later ≡ None → rest ≡ true)
    → (not here && rest) ≡ true
new_case here x later rest none more = grind arith

-- where none is repeated, all are new
new_from_none : (before xs : List Bytes) → repeated_after before xs ≡ None → are_new before xs ≡ true
unfolding are_new
new_from_none before [] e = refl
new_from_none before (x ∷ xs) e = grind (arith, new_case, new_from_none (before ++ x ∷ []) xs)

-- a default target is a name, since outputs are
named_among : (names : List Bytes) (d : Bytes) → list_all is_name names ≡ true → is_among names d ≡ true → is_name d ≡ true
named_among [] d named e = absurd (cc e)
named_among (n ∷ ns) d named e =
    let both = and_parts (is_name n) (list_all is_name ns) named in
    either_case (pointwise nat_eq d n) (is_among ns d) e (λ same. subst (λ x. is_name x ≡ true) (sym (same_text d n (sym same))) both.0)
    (λ later. named_among ns d both.1 later)

-- outputs are names
outputs_named : (ss : List Statement) → list_all (λ s. list_all is_name (names_of s) && is_writable_making s.made) ss ≡ true → list_all is_name (outputs ss) ≡ true
outputs_named [] e = refl
outputs_named (s ∷ ss) e =
    let both = and_parts (list_all is_name (names_of s) && is_writable_making s.made) (list_all (λ x. list_all is_name (names_of x) && is_writable_making x.made) ss) e in
    let here = and_parts (list_all is_name (names_of s)) (is_writable_making s.made) both.0 in
    let named = named_from s here.0 in
    all_both is_name s.outs (outputs ss) named.outs (outputs_named ss both.1)

-- ---- the plan

-- what was read, and these statements and default targets
abbrev plan_with : List PendingStatement → List Statement → List Bytes → Plan
plan_with so_far ss defaults = record { statements = map (statement_of_pending []) so_far ++ ss; defaults = defaults }

-- the default targets end the plan
defaults_end : (at : ℕ) (defaults : List Bytes) (table : ScopeTable Spelling) (so_far : List PendingStatement)
    → list_all is_name defaults ≡ true → list_all (is_among (pending_outs so_far)) defaults ≡ true
    → plan_in (read_parts (state_with table so_far) (default_parts at defaults)) ≡ Ok (plan_with so_far [] defaults)
unfolding read_parts plan_of_state
defaults_end at [] table so_far named among = ap (λ ss. Ok (record { statements = ss; defaults = [] })) (sym (append-nil (map (statement_of_pending []) so_far)))
defaults_end at (n ∷ ns) table so_far named among = search (rules, defaults_read, append-nil)

-- one more element before others
map_more : {A B : Type 0} (f : A → B) (xs : List A) (y : A) (ys : List B) → map f (xs ++ y ∷ []) ++ ys ≡ map f xs ++ (f y ∷ ys)
map_more f [] y ys = refl
map_more f (x ∷ xs) y ys = ap (λ l. f x ∷ l) (map_more f xs y ys)

-- statements and default targets are read in turn
plan_read : (number at : ℕ) (ss : List Statement) (defaults : List Bytes) (table : ScopeTable Spelling) (so_far : List PendingStatement) → Fresh number table
    → list_all (λ s. not (is_empty s.outs)) ss ≡ true → list_all (λ s. list_all is_name (names_of s) && is_writable_making s.made) ss ≡ true
    → are_new (pending_outs so_far) (outputs ss) ≡ true → list_all is_name defaults ≡ true → list_all (is_among (pending_outs so_far ++ outputs ss)) defaults ≡ true
    → plan_in (read_parts (state_with table so_far) (plan_parts number at ss defaults)) ≡ Ok (plan_with so_far ss defaults)
plan_read number at [] defaults table so_far fresh some texts new named among =
    defaults_end at defaults table so_far named (ap (λ outs. list_all (is_among outs) defaults) (sym (append-nil (pending_outs so_far))) ∙ among)
plan_read number at (s ∷ ss) defaults table so_far fresh some texts new named among =
    let outs = and_parts (not (is_empty s.outs)) (list_all (λ x. not (is_empty x.outs)) ss) some in
    let both = and_parts (list_all is_name (names_of s) && is_writable_making s.made) (list_all (λ x. list_all is_name (names_of x) && is_writable_making x.made) ss) texts in
    let here = and_parts (list_all is_name (names_of s)) (is_writable_making s.made) both.0 in
    let apart = new_split (pending_outs so_far) s.outs (outputs ss) new in
    let t = pending_as (making_as s.made) s in
    let more = outs_more so_far t in
    let later = plan_parts (number + rule_count s.made) (line_after s.made at) ss defaults in
    ap plan_in (statement_read number at s s.made later table so_far fresh outs.0 (named_from s here.0) here.1 apart.0)
    ∙ plan_read (number + rule_count s.made) (line_after s.made at) ss defaults (table_after number s.made table) (so_far ++ t ∷ [])
    (fresh_past number s.made table fresh) outs.1 both.1 (ap (λ l. are_new l (outputs ss)) more ∙ apart.1) named
    (ap (λ l. list_all (is_among l) defaults) (ap (λ l. l ++ outputs ss) more ∙ append_assoc (pending_outs so_far) s.outs (outputs ss)) ∙ among)
    ∙ ap (λ l. Ok (record { statements = l; defaults = defaults }))
    (map_more (statement_of_pending []) so_far t ss ∙ ap (λ x. map (statement_of_pending []) so_far ++ (x ∷ ss)) (statement_again s))

-- at first all numbers are free
nothing_fresh : Fresh 0 []
unfolding find_in
nothing_fresh m h = refl

-- the comment that a printed text begins with
abbrev comment : JoinedLine
comment = record { number = 1; text = codes "# kati"; ended = true }

-- the text of a plan is that comment, and then the parts
text_cut : (plan : Plan) → cut_lines (joined_lines (plan_text plan)) ≡ cut_with comment (cut_lines (lines_at 2 (statements_text 0 plan.statements ++ defaults_text plan.defaults)))
unfolding plan_text joined_lines joined_from file_lines ends_in_dollar cut_lines
text_cut plan = ap (λ t. cut_with comment (cut_lines (lines_at 2 (statements_text 0 plan.statements ++ t)))) (append-nil (defaults_text plan.defaults))

-- the comment says nothing
comment_read : (parts : List FilePart) → read_parts nothing_read (all_parts (cut_with comment (from_parts parts))) ≡ read_parts nothing_read parts
unfolding read_parts read_part block_from is_comment
comment_read parts = refl

-- a plan that can be written is what its text says
pub printed_is_read : (plan : Plan) → IsWritable plan → ninja_read (plan_text plan) ≡ Ok plan
unfolding ninja_read
printed_is_read plan w =
    let ss = plan.statements in
    let among = pass_from_all (outputs ss) plan.defaults w.defaults in
    let once = none_from_distinct [] (outputs ss) (apart_from_none (outputs ss)) (IsDistinct-from_AllPairs names_decide (outputs ss) w.different) in
    let named = all_implies (is_among (outputs ss)) is_name (λ d. named_among (outputs ss) d (outputs_named ss w.texts)) plan.defaults among in
    let parts = plan_parts 0 2 ss plan.defaults in
    ap (λ cut. plan_in (read_parts nothing_read (all_parts cut))) (text_cut plan ∙ ap (cut_with comment) (plan_cut 0 2 ss plan.defaults w.texts named))
    ∙ ap plan_in (comment_read parts)
    ∙ plan_read 0 2 ss plan.defaults [] [] nothing_fresh w.made w.texts (new_from_none [] (outputs ss) once) named among
