-- The text of a plan as a Ninja file (Ninja manual, "Ninja file reference" and "Lexical syntax"). Names of rules,
-- and the order of lines, are kati's own.
use Rattle.std.specs.Prelude.{ℕ, ◌+◌, ◌==◌, ◌||◌, Bool, List, [], ◌∷◌, ◌++◌, map, codes, if◌then◌else◌}
use Rattle.kt_ninja.specs.Prelude.{concat, flat_map, Made, Command, Phony, Statement, Plan}
use Rattle.std.specs.Int.Digits.{digits_of}

-- a text with a dollar before each byte of this kind
abbrev pub escaped : (ℕ → Bool) → List ℕ → List ℕ
escaped test bytes = flat_map (λ b. if test b then codes "$" ++ b ∷ [] else b ∷ []) bytes

-- what begins an escape or ends a name: dollar, space, colon. (A bar or a newline would end it too, and has no escape.)
abbrev pub is_special_in_name : ℕ → Bool
is_special_in_name b = b == 36 || b == 32 || b == 58

-- what begins an escape or a variable in a value: the dollar
abbrev pub is_special_in_command : ℕ → Bool
is_special_in_command b = b == 36

-- a path with its special bytes escaped
abbrev pub name_text : List ℕ → List ℕ
name_text name = escaped is_special_in_name name

-- Ninja drops spaces before a value, so that a first one stands after a dollar too
abbrev pub lead_text : List ℕ → List ℕ
lead_text [] = []
lead_text (b ∷ bs) = if b == 32 then codes "$" else []

-- a command with its dollars escaped, and its first byte, too, if that is a space
abbrev pub command_text : List ℕ → List ℕ
command_text command = lead_text command ++ escaped is_special_in_command command

-- names, each after one space
abbrev pub names_text : List (List ℕ) → List ℕ
names_text names = flat_map (λ n. codes " " ++ name_text n) names

-- the names after their mark, if there are any
abbrev pub marked_text : List ℕ → List (List ℕ) → List ℕ
marked_text mark [] = []
marked_text mark (n ∷ ns) = mark ++ names_text (n ∷ ns)

-- a number in decimal digits, as many as it takes
unfoldable pub number_text : ℕ → List ℕ
number_text n = if n == 0 then codes "0" else map (λ d. 48 + d) (digits_of 10 n)

-- the two lines of the rule that runs the command
abbrev pub rule_text : ℕ → Made → List ℕ
rule_text number (Command c) = concat (codes "rule r" ∷ number_text number ∷ codes "\n command = " ∷ command_text c
    ∷ codes "\n" ∷ [])
rule_text number Phony = []

-- the name of the rule of a statement, by the rule's number
abbrev pub rule_name_text : ℕ → Made → List ℕ
rule_name_text number (Command c) = concat (codes "r" ∷ number_text number ∷ [])
rule_name_text number Phony = codes "phony"

-- how many rules a statement takes
abbrev pub rule_count : Made → ℕ
rule_count (Command c) = 1
rule_count Phony = 0

-- the build line of a statement whose rule has this number
abbrev pub build_text : ℕ → Statement → List ℕ
build_text number s =
    concat (codes "build" ∷ names_text s.outs ∷ codes ": " ∷ rule_name_text number s.made ∷ names_text s.inputs
    ∷ marked_text (codes " |") s.implicit ∷ marked_text (codes " ||") s.order_only ∷ codes "\n" ∷ [])

-- a statement whose rule, if it has one, has this number
abbrev pub statement_text : ℕ → Statement → List ℕ
statement_text number s = rule_text number s.made ++ build_text number s

-- statements in order, their rules numbered from this number on
abbrev pub statements_text : ℕ → List Statement → List ℕ
statements_text number [] = []
statements_text number (s ∷ ss) = statement_text number s ++ statements_text (number + rule_count s.made) ss

-- the line of the default targets, if there are any
abbrev pub defaults_text : List (List ℕ) → List ℕ
defaults_text [] = []
defaults_text (n ∷ ns) = concat (codes "default" ∷ names_text (n ∷ ns) ∷ codes "\n" ∷ [])

-- the text of a plan: a comment, then the statements with their rules, then the default targets
unfoldable pub plan_text : Plan → List ℕ
plan_text p = concat (codes "# kati\n" ∷ statements_text 0 p.statements ∷ defaults_text p.defaults ∷ [])
