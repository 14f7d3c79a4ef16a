-- The plan that a Ninja file says, or the line of its first fault (Ninja manual, "Ninja file reference"; what has no
-- reading here though Ninja takes it is kati's own).
use Rattle.std.specs.Prelude.{ℕ, Bool, true, false, not, ◌==◌, ◌&&◌, ◌||◌, List, [], ◌∷◌, ◌++◌, map, Option, Some, None}
use Rattle.std.specs.Prelude.{option_map, is_some, is_none, Result, Ok, Err, codes, if◌then◌else◌}
use Rattle.kt_ninja_reader.specs.Prelude.{option_and_then, list_all, flat_map, bytes_eq, Made, Command, Phony}
use Rattle.kt_ninja_reader.specs.Prelude.{Statement, Plan, pieces, is_among, is_empty}
use Rattle.kt_ninja_reader.specs.JoinedLines.{Bytes, JoinedLine, is_blank_line, is_comment, joined_lines}
use Rattle.kt_ninja_reader.specs.Forms.{Binding, Build, MarginForm, Spelling, binding_of, rule_form, build_form, default_form}
use Rattle.kt_ninja_reader.specs.Forms.{binding_form, margin_form}
use Rattle.kt_ninja_reader.specs.Scopes.{Scope, ScopeTable, bound_text, command_value, find_in, put_in, refers_to, value_in}
use Rattle.kt_ninja_reader.specs.Scopes.{value_within}

-- a part of the file: a line at the margin, if it has one, with the lines up to the next such line
pub record FilePart : Type 0 where
  pub number : ℕ
  pub head : Option JoinedLine
  pub body : List JoinedLine

-- what begins a part: a line that isn't empty and begins with neither a space nor `#`
abbrev pub begins_part : Bytes → Bool
begins_part [] = false
begins_part (b ∷ bs) = not (b == 32 || b == 35)

-- lines before the first part that a line begins, and the parts
pub record FileParts : Type 0 where
  pub before : List JoinedLine
  pub parts : List FilePart

-- lines that are cut, with one more line in front
abbrev pub cut_with : JoinedLine → FileParts → FileParts
cut_with line cut =
    if begins_part line.text
    then record {
      before = [];
      parts = record { number = line.number; head = Some line; body = cut.before }
          ∷ cut.parts;
    }
    else record { before = line ∷ cut.before; parts = cut.parts }

-- lines cut before each that begins a part
unfoldable pub cut_lines : List JoinedLine → FileParts
cut_lines [] = record { before = []; parts = [] }
cut_lines (l ∷ ls) = cut_with l (cut_lines ls)

-- all parts: the first begins with the first line, whatever that is
abbrev pub all_parts : FileParts → List FilePart
all_parts cut = if is_empty cut.before then cut.parts
    else record { number = 1; head = None; body = cut.before } ∷ cut.parts

-- no CR, no NUL
abbrev pub is_file_byte : ℕ → Bool
is_file_byte b = not (b == 13 || b == 0)

-- a line that a file can have: it ends with a newline, and has no byte that is refused
abbrev pub is_sound : JoinedLine → Bool
is_sound line = line.ended && list_all is_file_byte line.text

-- the lines of a block: comments are skipped, and after a blank line no binding stands
unfoldable pub block_from : Bool → List JoinedLine → Option (List Binding)
block_from closed [] = Some []
block_from closed (l ∷ ls) =
    if is_comment l.text then block_from closed ls
    else (if is_blank_line l.text then block_from true ls
    else (if closed then None
    else option_and_then (λ b. option_map
    (λ bs. b ∷ bs) (block_from false ls)) (option_and_then binding_of (pieces l.text))))

-- the bindings of a block
abbrev pub block_of : List JoinedLine → Option (List Binding)
block_of lines = block_from false lines

-- how the outputs of a statement are made: by no command, by a command of its own, or by its rule's command with the
-- scope of its block
pub data Making : Type 0 where
  by_nothing : Making
  by_own : Bytes → Making
  by_rule : Spelling → Scope → Making

-- a statement whose command may not be known yet: it looks up variables as the file leaves them
pub record PendingStatement : Type 0 where
  pub outs : List Bytes
  pub making : Making
  pub inputs : List Bytes
  pub implicit : List Bytes
  pub order_only : List Bytes

-- what was read so far: the variables of the file, the commands of its rules, the statements and the default targets
pub record State : Type 0 where
  pub file : Scope
  pub rules : ScopeTable Spelling
  pub pending : List PendingStatement
  pub defaults : List Bytes

-- the outputs of statements
abbrev pub pending_outs : List PendingStatement → List Bytes
pending_outs pending = flat_map (λ s. s.outs) pending

-- a variable at the margin: its value is expanded at once, and replaces an earlier one
unfoldable pub bind_variable : State → Binding → State
bind_variable state b = record state { file = put_in state.file b.key (bound_text (value_in state.file) b.value) }

-- the command of a rule's block: its one binding, not empty, which doesn't refer to itself
abbrev pub rule_command : List Binding → Option Spelling
rule_command (b ∷ []) =
    if bytes_eq b.key (codes "command")
    && (not (is_empty b.value) && not (refers_to (bytes_eq (codes "command")) b.value))
    then Some b.value else None
rule_command _ = None

-- a name that no rule has yet
abbrev pub is_new_rule : State → Bytes → Bool
is_new_rule state name = not (bytes_eq name (codes "phony")) && is_none (find_in state.rules name)

-- what was read so far, and a rule; none if the name isn't new, or its block isn't one command
unfoldable pub read_rule : State → Bytes → List Binding → Option State
read_rule state name bindings =
    if is_new_rule state name
    then option_map (λ command. record state { rules = put_in state.rules name command }) (rule_command bindings)
    else None

-- the scope of a statement's block: each key stands once, and no value refers to a key above it. Values are expanded
-- at once by the variables of the file.
unfoldable pub block_scope : Scope → Scope → List Binding → Option Scope
block_scope file block [] = Some block
block_scope file block (b ∷ bs) =
    if is_some (find_in block b.key) || refers_to (λ name. is_some (find_in block name)) b.value then None
    else block_scope file (put_in block b.key (bound_text (value_in file) b.value)) bs

-- how a statement of this rule is made: a command in its block goes before the rule's
abbrev pub making_by : Spelling → Scope → Option Bytes → Making
making_by command block None = by_rule command block
making_by command block (Some own) = by_own own

-- how a statement is made, by the name of its rule: the rule is `phony`, or stands above
unfoldable pub making_of : State → Bytes → Scope → Option Making
making_of state name block =
    if bytes_eq name (codes "phony") then Some by_nothing
    else option_map (λ command. making_by command block (find_in block (codes "command"))) (find_in state.rules name)

-- paths, none of which is empty
unfoldable pub paths_in : (Bytes → Bytes) → List Spelling → Option (List Bytes)
paths_in value_of [] = Some []
paths_in value_of (p ∷ ps) =
    if is_empty (bound_text value_of p) then None
    else option_map (λ paths. bound_text value_of p ∷ paths) (paths_in value_of ps)

-- whether no output stands twice, or among these
unfoldable pub are_new : List Bytes → List Bytes → Bool
are_new before [] = true
are_new before (out ∷ outs) = not (is_among before out) && are_new (before ++ out ∷ []) outs

-- a statement by the values of its paths' variables
abbrev pub pending_with : (Bytes → Bytes) → Making → Build → Option PendingStatement
pending_with value_of making b =
    option_and_then (λ outs.
    option_and_then (λ inputs.
    option_and_then (λ implicit.
    option_map (λ order_only. record {
      outs = outs;
      making = making;
      inputs = inputs;
      implicit = implicit;
      order_only = order_only;
    })
    (paths_in value_of b.inputs.order_only))
    (paths_in value_of b.inputs.implicit))
    (paths_in value_of b.inputs.explicit))
    (paths_in value_of b.outs)

-- what was read so far, and one more statement, if its outputs are new
abbrev pub add_statement : State → PendingStatement → Option State
add_statement state s =
    if are_new (pending_outs state.pending) s.outs then Some (record state { pending = state.pending ++ s ∷ [] })
    else None

-- what was read so far, and a build line with its block; none where the line has no reading
unfoldable pub read_build : State → Build → List Binding → Option State
read_build state b bindings =
    option_and_then (λ block.
    option_and_then (λ making.
    option_and_then (add_statement state) (pending_with (value_within block state.file) making b))
    (making_of state b.rule_name block))
    (block_scope state.file [] bindings)

-- what was read so far, and more default targets, each of them an output of a statement above
abbrev pub add_defaults : State → List Bytes → Option State
add_defaults state names =
    if list_all (is_among (pending_outs state.pending)) names
    then Some (record state { defaults = state.defaults ++ names }) else None

-- what was read so far, and a line of default targets; none where the line has no reading
unfoldable pub read_default : State → List Spelling → Option State
read_default state paths = option_and_then (add_defaults state) (paths_in (value_in state.file) paths)

-- a line with its block; only rules and build lines have one
abbrev pub read_form : State → MarginForm → List Binding → Option State
read_form state (rule_form name) bindings = read_rule state name bindings
read_form state (build_form b) bindings = read_build state b bindings
read_form state (default_form paths) bindings = if is_empty bindings then read_default state paths else None
read_form state (binding_form b) bindings = if is_empty bindings then Some (bind_variable state b) else None

-- a part's first line with the bindings below it
abbrev pub read_head : State → Option JoinedLine → List Binding → Option State
read_head state None bindings = if is_empty bindings then Some state else None
read_head state (Some line) bindings =
    if is_sound line then option_and_then (λ form. read_form state form bindings) (margin_form line.text) else None

-- what a part adds to what was read before it, if it has a reading there
unfoldable pub read_part : State → FilePart → Option State
read_part state part =
    if list_all is_sound part.body then option_and_then (read_head state part.head) (block_of part.body) else None

-- the reading of the parts after a part, or the number of that part if it has no reading
abbrev pub and_then_parts : ℕ → Option State → (State → Result State ℕ) → Result State ℕ
and_then_parts number None rest = Err number
and_then_parts number (Some state) rest = rest state

-- what parts say, one after another, or the number of the first part without a reading
unfoldable pub read_parts : State → List FilePart → Result State ℕ
read_parts state [] = Ok state
read_parts state (p ∷ ps) = and_then_parts p.number (read_part state p) (λ s. read_parts s ps)

-- nothing read
abbrev pub nothing_read : State
nothing_read = record { file = []; rules = []; pending = []; defaults = [] }

-- the command of a statement, by the variables that the file leaves
unfoldable pub made_of : Scope → PendingStatement → Making → Made
made_of file s by_nothing = Phony
made_of file s (by_own command) = Command command
made_of file s (by_rule command block) = Command (bound_text (command_value s.inputs s.outs block file) command)

-- a statement with the command that it has by the variables that the file leaves
unfoldable pub statement_of_pending : Scope → PendingStatement → Statement
statement_of_pending file s =
    record {
      outs = s.outs;
      made = made_of file s s.making;
      inputs = s.inputs;
      implicit = s.implicit;
      order_only = s.order_only;
    }

-- what was read as a plan
unfoldable pub plan_of_state : State → Plan
plan_of_state state =
    record { statements = map (statement_of_pending state.file) state.pending; defaults = state.defaults }

-- the plan if all parts have a reading, or the number of the first without one
abbrev pub plan_in : Result State ℕ → Result Plan ℕ
plan_in (Ok state) = Ok (plan_of_state state)
plan_in (Err number) = Err number

-- the plan that lines say, or the number of the line that begins the first part through which they say none
abbrev pub plan_said : List JoinedLine → Result Plan ℕ
plan_said lines = plan_in (read_parts nothing_read (all_parts (cut_lines lines)))

-- the plan that a text says
unfoldable pub ninja_read : Bytes → Result Plan ℕ
ninja_read text = plan_said (joined_lines text)
