-- What the command of a node is made of: calls of its pieces, taken as a whole (GNU make manual, "Recipe Execution",
-- "Errors in Recipes", "Defining Canned Recipes"; how they are joined to one command is kati's own).
use Rattle.std.specs.Prelude.{◌≡◌, ◌↔◌, ℕ, Bool, ◌||◌, List, [], ◌∷◌, length, map, filter, flat_map, Option, Some, None, codes, slice_get, unwrap_or}
use Rattle.std.specs.List.{All, join_by, range_with_len}
use Rattle.kt_recipe.specs.Prelude.{Text, Store, Macros, Node, part_lines, automatic_in}
use Rattle.kt_text.specs.Words.{is_nonempty}
use Rattle.kt_eval.specs.Outcome.{Gave}
use Rattle.kt_rules.specs.declared.line.entry.RecipeLine.{RecipeLine}
use Rattle.kt_recipe.specs.Lines.{after_run, ignores_failure, pieces_of_line}
use Rattle.kt_recipe.specs.Shell.{Setting, expansion, setting_of, shell_of, shell_text, wrapped}

-- ---- the lines of a node

-- a line of a recipe, and what it is expanded with
pub record NodeLine : Type 0 where
  pub at : Setting
  pub text : Text

abbrev pub line_with : Macros → Store → ℕ → RecipeLine → NodeLine
line_with table automatic limit line = record { at = setting_of table automatic limit line.place; text = line.text }

-- the lines of a part's recipe, with its automatic macros; without a recipe there is none
abbrev pub lines_in : Macros → ℕ → Node → ℕ → List NodeLine
lines_in table limit node part =
    map (line_with table (automatic_in node part) limit) (unwrap_or (part_lines (slice_get node.parts part)) [])

-- those of all parts, in order
abbrev pub lines_of : Macros → ℕ → Node → List NodeLine
lines_of table limit node = flat_map (lines_in table limit node) (range_with_len 0 (length node.parts))

-- ---- calls

-- a piece without its run, and whether its failure is ignored
pub record CommandPiece : Type 0 where
  pub ignored : Bool
  pub text : Text

-- a `-` in the run of the line, or in that of the piece itself, ignores its failure
abbrev pub piece_with : Bool → Text → CommandPiece
piece_with marked text = record { ignored = marked || ignores_failure text; text = after_run text }

-- the pieces of an expanded line; an empty one is none
abbrev pub pieces_with : Bool → Text → List CommandPiece
pieces_with marked text = filter (λ piece. is_nonempty piece.text) (map (piece_with marked) (pieces_of_line text))

-- a piece, and the shell that it is an argument of
pub record Call : Type 0 where
  pub shell : Text
  pub piece : CommandPiece

abbrev pub call_text : Call → Text
call_text call = wrapped call.piece.ignored call.shell call.piece.text

-- the command of calls, each of which is run if all before it succeeded; without a call there is none (POSIX.1-2024
-- Shell Command Language, "AND Lists")
abbrev pub command_of : List Call → Option Text
command_of [] = None
command_of (call ∷ calls) = Some (join_by call_text (codes " && ") (call ∷ calls))

-- ---- what is expanded

-- a text, and what it is expanded to
pub record ExpandedText : Type 0 where
  pub at : Setting
  pub text : Text
  pub value : Text

-- texts expanded in turn, with these messages before the first and those behind the last
abbrev pub AreExpanded : List ExpandedText → List Text → List Text → Type 0
AreExpanded [] said heard = heard ≡ said
AreExpanded (text ∷ texts) said heard =
    (left : List Text) × (expansion text.at text.text said ≡ Gave left text.value) × AreExpanded texts left heard

-- ---- what a command is made of

-- a line, what it is expanded to, and its calls
pub record MadeLine : Type 0 where
  pub line : NodeLine
  pub text : Text
  pub calls : List Call

-- each of its pieces has a call, in order
abbrev pub CallsItsPieces : MadeLine → Type 0
CallsItsPieces made = map (λ call. call.piece) made.calls ≡ pieces_with (ignores_failure made.line.text) made.text

-- the shell of a call is expanded where the line is
abbrev pub shell_at : Setting → Call → ExpandedText
shell_at at call = record { at = at; text = shell_text; value = call.shell }

-- the line is expanded as a whole, without its run, and then the shell of each call
abbrev pub expanded_for : MadeLine → List ExpandedText
expanded_for made =
    record { at = made.line.at; text = after_run made.line.text; value = made.text }
    ∷ map (shell_at made.line.at) made.calls

-- the command of lines, with the messages before and after it is made
pub record IsCommandOf (lines : List NodeLine) (said heard : List Text) (command : Option Text) : Type 0 where
  pub made : List MadeLine
  pub whole : map (λ line. line.line) made ≡ lines
  pub pieces : All CallsItsPieces made
  pub expanded : AreExpanded (flat_map expanded_for made) said heard
  pub joined : command ≡ command_of (flat_map (λ line. line.calls) made)

-- a node has exactly the command of its lines
abbrev pub CommandLaw : Type 0
CommandLaw =
    (table : Macros) (limit : ℕ) (node : Node) (said heard : List Text) (command : Option Text)
    → (shell_of table limit node said ≡ Gave heard command)
    ↔ IsCommandOf (lines_of table limit node) said heard command
