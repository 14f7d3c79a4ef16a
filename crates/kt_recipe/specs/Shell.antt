-- The command of a node: the pieces of its recipes, each for a shell of its own (GNU make manual, "Recipe Execution",
-- "Choosing the Shell", "Errors in Recipes", "Defining Canned Recipes"; how they are joined to one command is kati's
-- own).
use Rattle.std.specs.Prelude.{ℕ, Bool, true, false, ◌||◌, List, [], ◌∷◌, ◌++◌, length, Option, Some, None, unwrap_or}
use Rattle.std.specs.Prelude.{slice_get, codes, if◌then◌else◌}
use Rattle.kt_recipe.specs.Prelude.{range_with_len, RecipeLine, Place, Store, Macros, Node, part_lines, automatic_in}
use Rattle.kt_text.specs.Words.{Text, is_nonempty}
use Rattle.kt_eval.specs.Outcome.{StepOver, ◌>>=◌, done}
use Rattle.kt_eval.specs.expanding.Pure.{expanded_pure}
use Rattle.kt_recipe.specs.Lines.{after_run, ignores_failure, pieces_of_line}
use Rattle.kt_recipe.specs.Quoting.{quoted}

-- ---- a command and its pieces

-- a piece as an argument of the shell ["Choosing the Shell"]
abbrev pub shell_call : Text → Text → Text
shell_call shell piece = shell ++ (32 ∷ quoted piece)

-- the call of the shell for a piece. If its failure is ignored, the list that does so is in braces, so that it is one
-- command for its surroundings (POSIX.1-2024 Shell Command Language, "Grouping Commands", "OR Lists")
unfoldable pub wrapped : Bool → Text → Text → Text
wrapped true shell piece = codes "{ " ++ (shell_call shell piece ++ codes " || :; }")
wrapped false shell piece = shell_call shell piece

-- one more call after the command so far, run if all before it succeeded (POSIX.1-2024 Shell Command Language, "AND
-- Lists")
abbrev pub joined : Option Text → Text → Text
joined None call = call
joined (Some command) call = command ++ (codes " && " ++ call)

-- ---- how a command is made: each step takes the command so far, if it has a piece, and returns it with more

-- what a line of a recipe is expanded with: the macros, the automatic ones, its place, and a limit of levels
pub record Setting : Type 0 where
  pub table : Macros
  pub automatic : Store
  pub place : Option Place
  pub limit : ℕ

-- a text is expanded at level 0
unfoldable pub expansion : Setting → Text → StepOver (List Text) Text
expansion at text = expanded_pure at.table at.automatic at.place at.limit text

-- the text that expands to the shell and its options ["Choosing the Shell"]
abbrev pub shell_text : Text
shell_text = codes "$(SHELL) $(.SHELLFLAGS)"

-- a piece, after its run is removed; the shell is expanded for each piece. An empty piece is none, and expands no shell
unfoldable pub put_piece : Setting → Bool → Text → Option Text → StepOver (List Text) (Option Text)
put_piece at marked piece command =
    if is_nonempty (after_run piece)
    then (do
      shell ← expansion at shell_text
      done (Some (joined command (wrapped (marked || ignores_failure piece) shell (after_run piece)))))
    else done command

-- the pieces of a line, one after another
unfoldable pub put_pieces : Setting → Bool → List Text → Option Text → StepOver (List Text) (Option Text)
put_pieces at marked [] command = done command
put_pieces at marked (piece ∷ pieces) command = do
  longer ← put_piece at marked piece command
  put_pieces at marked pieces longer

-- a line: its run is removed before it is expanded as a whole, and a `-` in the run marks all its pieces
unfoldable pub put_line : Setting → Text → Option Text → StepOver (List Text) (Option Text)
put_line at line command = do
  text ← expansion at (after_run line)
  put_pieces at (ignores_failure line) (pieces_of_line text) command

-- what the line of a recipe at this place is expanded with
abbrev pub setting_of : Macros → Store → ℕ → Place → Setting
setting_of table automatic limit place =
    record { table = table; automatic = automatic; place = Some place; limit = limit }

-- the lines of a recipe, one after another
unfoldable pub put_lines : Macros → Store → ℕ → List RecipeLine → Option Text → StepOver (List Text) (Option Text)
put_lines table automatic limit [] command = done command
put_lines table automatic limit (line ∷ lines) command = do
  longer ← put_line (setting_of table automatic limit line.place) line.text command
  put_lines table automatic limit lines longer

-- a part of a node, with the automatic macros of that part
unfoldable pub put_part : Macros → ℕ → Node → ℕ → Option Text → StepOver (List Text) (Option Text)
put_part table limit node part command =
    put_lines table (automatic_in node part) limit (unwrap_or (part_lines (slice_get node.parts part)) []) command

-- the parts of a node with these numbers, one after another
unfoldable pub put_parts : Macros → ℕ → Node → List ℕ → Option Text → StepOver (List Text) (Option Text)
put_parts table limit node [] command = done command
put_parts table limit node (part ∷ parts) command = do
  longer ← put_part table limit node part command
  put_parts table limit node parts longer

-- the command of a node, if it has a piece: its parts in order
unfoldable pub shell_of : Macros → ℕ → Node → StepOver (List Text) (Option Text)
shell_of table limit node = put_parts table limit node (range_with_len 0 (length node.parts)) None
