-- The lines of a recipe and their pieces (GNU make manual, "Recipe Execution", "Defining Canned Recipes", "Errors in
-- Recipes").
use Rattle.std.specs.Prelude.{ℕ, Bool, ◌==◌, ◌||◌, List, take, drop}
use Rattle.kt_recipe.specs.Prelude.{list_any, prefix_len, slice_split, Text, is_blank}

-- a byte of the run that may come before a command: a blank, `@`, `-` or `+` ["Recipe Echoing"; "Errors in Recipes";
-- "How the MAKE Variable Works"]
unfoldable pub is_prefix : ℕ → Bool
is_prefix byte = is_blank byte || (byte == 64 || (byte == 45 || byte == 43))

-- the run of blanks, `@`, `-` and `+` before a command
abbrev pub run_of : Text → Text
run_of text = take (prefix_len is_prefix text) text

-- a text without the run before its command
abbrev pub after_run : Text → Text
after_run text = drop (prefix_len is_prefix text) text

-- whether a failure of the command is ignored: there is a `-` in its run ["Errors in Recipes"]
unfoldable pub ignores_failure : Text → Bool
ignores_failure text = list_any (λ byte. byte == 45) (run_of text)

-- the pieces of an expanded line, cut at its newlines ["Defining Canned Recipes"]
unfoldable pub pieces_of_line : Text → List Text
pieces_of_line text = slice_split (λ byte. byte == 10) text
