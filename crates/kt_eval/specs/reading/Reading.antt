-- What the lines of a makefile do, one after another (POSIX.1-2024 make, "Makefile Syntax"; GNU make manual, "Writing
-- Makefiles" and "Conditional Parts of Makefiles").
use Rattle.std.specs.Prelude.{ℕ, ◌+◌, Bool, true, false, nat_lt, List, [], ◌∷◌, length, map, Option, Some, None}
use Rattle.std.specs.Prelude.{unwrap_or, if◌then◌else◌}
use Rattle.kt_eval.specs.Prelude.{slice_get, slice_range, Text, logical_lines_of, nul_line, plain_of, Entry, Store, look}
use Rattle.kt_eval.specs.Prelude.{World, move_to, ask, set_rule, Step, stop, change}
use Rattle.kt_text.specs.declared.line.Line.{Line}
use Rattle.kt_syntax.specs.declared.form.Directive.TheVariants as word
use Rattle.kt_syntax.specs.Kinds.{Form, blank, assignment, directive, refused, rule, form_of, line_form}
use Rattle.kt_syntax.specs.Blocks.{Items, Branches, Blocks, none, line, fault, definition, conditional, no_branch, branch}
use Rattle.kt_syntax.specs.Blocks.{late, blocks_of, tree_of}
use Rattle.kt_syntax.specs.Roles.{line_text, heads_of}
use Rattle.kt_syntax.specs.declared.part.Missing.{Missing}
use Rattle.kt_syntax.specs.declared.part.Missing.TheVariants as missing
use Rattle.kt_syntax.specs.declared.part.Stray.{Stray}
use Rattle.kt_syntax.specs.declared.part.Stray.TheVariants as stray
use Rattle.kt_rules.specs.declared.fault_kind.FaultKind.TheVariants as kinds
use Rattle.kt_eval.specs.declared.reading.page.Source.{Source}
use Rattle.kt_eval.specs.declared.reading.page.Source.TheVariants.{File, Held}
use Rattle.kt_eval.specs.Outcome.{Gave, ◌>>=◌, ◌>>◌, done}
use Rattle.kt_eval.specs.expanding.Expansion.{Evaluator}
use Rattle.kt_eval.specs.macros.Assignments.{assign_line, define, body_text, refused_form}
use Rattle.kt_eval.specs.reading.Conditionals.{line_holds}
use Rattle.kt_eval.specs.files.Including.{include_line}
use Rattle.kt_eval.specs.reading.Rules.{close_rule, rule_line, recipe_line}

-- a logical line as written
pub record RawLine : Type 0 where
  pub number : ℕ
  pub tab : Bool
  pub text : Text

-- a logical line of a text as written, from the places where it begins and ends
abbrev pub raw_line : Text → Line → RawLine
raw_line text l = record { number = l.number; tab = l.tab; text = line_text text l }

-- the line at a place
unfoldable pub line_at : List RawLine → ℕ → RawLine
line_at lines place = unwrap_or (slice_get lines place) (record { number = 0; tab = false; text = [] })

-- a text that is read: its source, its lines, and their blocks
pub record Page : Type 0 where
  pub source : Source
  pub lines : List RawLine
  pub blocks : Blocks

-- a text that is read: it is cut into logical lines, and these into blocks
abbrev pub sheet_of : Source → Text → Page
sheet_of source text = record {
  source = source;
  lines = map (raw_line text) (logical_lines_of text);
  blocks = blocks_of (heads_of text (logical_lines_of text));
}

-- the world at a line of a file; all lines of an `eval` are at the place of the `eval` (kati's own)
unfoldable pub at_number : Source → ℕ → World → World
at_number Held number w = w
at_number (File name) number w = move_to (Some (record { file = name; line = number })) w

-- the world at the line with this place in a text
abbrev pub at_line : Page → ℕ → World → World
at_line sheet place w = at_number sheet.source (line_at sheet.lines place).number w

-- an include: it closes the open rule, then reads its files
unfoldable pub read_include : Evaluator → Bool → Text → Step (Unit {0})
read_include e optional rest = do
  close_rule
  include_line e optional (plain_of rest)

-- a line outside blocks, by its kind; an assignment, an include and a rule line close the open rule
unfoldable pub read_kind : Evaluator → Text → Form → Step (Unit {0})
read_kind e text blank = done tt
read_kind e text (assignment name operator value) = do
  close_rule
  assign_line e (plain_of name) operator (plain_of value)
read_kind e text (directive word.Include rest) = read_include e false rest
read_kind e text (directive word.OptionalInclude rest) = read_include e true rest
read_kind e text (directive other rest) = done tt
read_kind e text (refused word) = refused_form word
read_kind e text rule = do
  close_rule
  rule_line e text

-- a line that begins with a tab while no rule is open
unfoldable pub read_bare_tab : Evaluator → Form → Step (Unit {0})
read_bare_tab e blank = done tt
read_bare_tab e (assignment name operator value) = assign_line e (plain_of name) operator (plain_of value)
read_bare_tab e other = stop kinds.RecipeBeforeTarget []

-- a line that begins with a tab belongs to the recipe of the open rule, if there is one
abbrev pub read_tab_in : Evaluator → Text → Option Entry → Step (Unit {0})
read_tab_in e text None = read_bare_tab e (line_form text true)
read_tab_in e text (Some started) = recipe_line started text

-- a line that begins with a tab, by whether the world has an open rule
unfoldable pub read_tab : Evaluator → Text → Step (Unit {0})
read_tab e text w = read_tab_in e text w.rule (set_rule None w)

-- one line outside blocks: by its tab if it begins with one, otherwise by its kind
unfoldable pub read_line : Evaluator → RawLine → Step (Unit {0})
read_line e raw w = if raw.tab then read_tab e raw.text w else read_kind e raw.text (line_form raw.text false) w

-- the lines from one place up to another, as the value of a define
abbrev pub body_at : Page → ℕ → ℕ → Text
body_at sheet start end = body_text (map (λ raw. raw.text) (slice_range sheet.lines start end))

-- a define with its body; it closes the open rule
unfoldable pub read_define : Evaluator → Form → Text → Step (Unit {0})
read_define e (directive word.Define rest) body = do
  close_rule
  define e rest (form_of rest true) body
read_define e other body = done tt

-- a line that continues or ends no block
unfoldable pub read_stray : Stray → Step (Unit {0})
read_stray stray.Else = stop kinds.StrayElse []
read_stray stray.LateElse = stop kinds.StrayElse []
read_stray stray.Endif = stop kinds.StrayEndif []
read_stray stray.Endef = stop kinds.StrayEndef []

-- the first late `else` of branches, which is met after the branch that was read
unfoldable pub late_else : Page → Branches → Step (Unit {0})
late_else sheet no_branch = done tt
late_else sheet (branch place condition items others) = late_else sheet others
late_else sheet (late place items others) = do
  change (at_line sheet place)
  read_stray stray.LateElse

-- whether the branch of the line at a place is taken
unfoldable pub branch_holds : Evaluator → Page → ℕ → Bool → Step Bool
branch_holds e sheet place condition = do
  change (at_line sheet place)
  line_holds e condition (line_form (line_at sheet.lines place).text false)

-- items one after another; of a conditional, the first branch that is taken is read
unfoldable mutual
  pub read_items : Evaluator → Page → Items → Step (Unit {0})
  read_items e sheet none = done tt
  read_items e sheet (line place next) = do
    change (at_line sheet place)
    read_line e (line_at sheet.lines place)
    read_items e sheet next
  read_items e sheet (fault kind place next) = do
    change (at_line sheet place)
    read_stray kind
    read_items e sheet next
  read_items e sheet (definition place body_end next) = do
    change (at_line sheet place)
    read_define e (line_form (line_at sheet.lines place).text false) (body_at sheet (place + 1) body_end)
    read_items e sheet next
  read_items e sheet (conditional place first others next) = do
    chosen ← branch_holds e sheet place true
    if chosen then read_items e sheet first else read_branches e sheet others
    late_else sheet others
    read_items e sheet next

  -- the first of a conditional's further branches that is taken; if none is, nothing is read
  pub read_branches : Evaluator → Page → Branches → Step (Unit {0})
  read_branches e sheet no_branch = done tt
  read_branches e sheet (branch place condition items others) = do
    chosen ← branch_holds e sheet place condition
    if chosen then read_items e sheet items else read_branches e sheet others
  read_branches e sheet (late place items others) = done tt

-- the missing end of a block, at the line that opens the block
unfoldable pub read_end : Source → Option Missing → Step (Unit {0})
read_end source None = done tt
read_end source (Some (missing.Endif number)) = do
  change (at_number source number)
  stop kinds.MissingEndif []
read_end source (Some (missing.Endef number)) = do
  change (at_number source number)
  stop kinds.MissingEndef []

-- the tree of a text's lines; at its end the open rule is closed, and then a missing end is reported
unfoldable pub read_sheet : Evaluator → Page → Step (Unit {0})
read_sheet e sheet = do
  read_items e sheet (tree_of sheet.blocks.steps)
  close_rule
  read_end sheet.source sheet.blocks.missing

-- a text with a NUL is refused whole, at the line of the NUL (kati's own)
abbrev pub read_without_nul : Evaluator → Source → Text → Option ℕ → Step (Unit {0})
read_without_nul e source text None = read_sheet e (sheet_of source text)
read_without_nul e source text (Some number) = do
  change (at_number source number)
  stop kinds.NulByte []

-- the text of a file or of an `eval`, unless it has a NUL
unfoldable pub read_text : Evaluator → Source → Text → Step (Unit {0})
read_text e source text = read_without_nul e source text (nul_line text)

-- the text of an `eval` has an open rule of its own; the outer one stays open
unfoldable pub read_held : Evaluator → Text → Step (Unit {0})
read_held e text w =
    (do
      change (set_rule None)
      read_text e Held text
      change (set_rule w.rule)) w

-- the maximum size of a makefile in bytes (kati's own)
abbrev pub largest_file : ℕ
largest_file = 16777216

-- a file that exists, unless it is too large
unfoldable pub read_file : Evaluator → Text → Text → Step (Unit {0})
read_file e name text =
    if nat_lt largest_file (length text) then stop kinds.FileTooLarge name else read_text e (File name) text

-- an included file; afterwards the place is that of the include again
abbrev pub read_included : Evaluator → Bool → Text → Option Text → Step (Unit {0})
read_included e true name None w = Gave w tt
read_included e false name None w = stop kinds.NoFile name w
read_included e optional name (Some text) w =
    (do
      read_file e name text
      change (move_to w.place)) w

-- the bytes of a file, if it exists; each read asks for the name
unfoldable pub read_bytes : Store → Text → Step (Option Text)
read_bytes store name w = Gave (ask name w) (look store name)

-- an included file: the name is asked for, and the bytes are read if there are any
unfoldable pub included : Store → Evaluator → Bool → Text → Step (Unit {0})
included store e optional name = do
  found ← read_bytes store name
  read_included e optional name found

-- a file that exists is read, or else the next step is done
abbrev pub read_or : Evaluator → Text → Option Text → Step (Unit {0}) → Step (Unit {0})
read_or e name None others = others
read_or e name (Some text) others = read_file e name text

-- the first of these files that exists is read; if none does, that is a fault
unfoldable pub read_first : Store → Evaluator → List Text → Step (Unit {0})
read_first store e [] = stop kinds.NoMakefile []
read_first store e (name ∷ names) = do
  found ← read_bytes store name
  read_or e name found (read_first store e names)
