-- Which plans can be written (Ninja manual, "Lexical syntax", and for defaults "Default target statements"; which bytes
-- are refused, and that no output stands twice, is kati's own).
use Rattle.std.specs.Prelude.{◌≡◌, ◌≢◌, ℕ, ◌+◌, Bool, true, false, not, ◌==◌, ◌&&◌, ◌||◌, List, [], ◌∷◌, All, AllPairs}
use Rattle.std.specs.Prelude.{Contains, Option, Some, None, option_map, find, if◌then◌else◌}
use Rattle.kt_ninja.specs.Prelude.{list_all, option_or, Made, Command, Phony, Statement, Plan}
use Rattle.kt_ninja.specs.Plan.{names_of, outputs}

-- whether a list is empty
abbrev pub is_empty : {A : Type 0} → List A → Bool
is_empty [] = true
is_empty (x ∷ xs) = false

-- a byte that a name can hold: no bar, CR, LF or NUL
abbrev pub is_path_byte : ℕ → Bool
is_path_byte b = not (b == 124 || (b == 13 || (b == 10 || b == 0)))

-- whether a name can be written: it has a byte, and no byte that is refused
abbrev pub is_name : List ℕ → Bool
is_name name = not (is_empty name) && list_all is_path_byte name

-- a byte that a command can hold: no CR, LF or NUL
abbrev pub is_command_byte : ℕ → Bool
is_command_byte b = not (b == 13 || (b == 10 || b == 0))

-- whether a command can be written: it has a byte, and no byte that is refused
abbrev pub is_command : List ℕ → Bool
is_command command = not (is_empty command) && list_all is_command_byte command

-- whether the command of a statement, if there is one, can be written
abbrev pub is_writable_making : Made → Bool
is_writable_making (Command c) = is_command c
is_writable_making Phony = true

-- each name can be written, and each command
abbrev pub HasWritableTexts : Plan → Type 0
HasWritableTexts plan =
    list_all (λ s. list_all is_name (names_of s) && is_writable_making s.made) plan.statements ≡ true

-- every statement makes something, its names and its command can be written, no output stands twice in the plan, and
-- each default target is an output
pub record IsWritable (plan : Plan) : Type 0 where
  pub made : list_all (λ s. not (is_empty s.outs)) plan.statements ≡ true
  pub texts : HasWritableTexts plan
  pub different : AllPairs (λ a b. a ≢ b) (outputs plan.statements)
  pub defaults : All (λ d. Contains (outputs plan.statements) d) plan.defaults

-- what keeps a plan from being written; numbers are those of statements, from 0
pub data Obstacle : Type 0 where
  no_output : ℕ → Obstacle
  bad_name : List ℕ → Obstacle
  bad_command : ℕ → Obstacle
  repeated : List ℕ → Obstacle
  not_an_output : List ℕ → Obstacle

-- what keeps a statement from being written: its first name that can't be written, or else its command
abbrev pub obstacle_of_statement : ℕ → Statement → Option Obstacle
obstacle_of_statement number s =
    option_or (option_map bad_name (find (λ n. not (is_name n)) (names_of s))) (if is_writable_making s.made then None
    else Some (bad_command number))

-- what first keeps statements, in order, from being written; the first statement has this number
abbrev pub obstacle_of_statements : ℕ → List Statement → Option Obstacle
obstacle_of_statements number [] = None
obstacle_of_statements number (s ∷ ss) = option_or (obstacle_of_statement number s)
    (obstacle_of_statements (number + 1) ss)
