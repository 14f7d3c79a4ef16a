-- Messages are only added while a command is made, and a step that is stopped stops all that begins with it.
use Rattle.std.proofs.Common.{arith, ◌≡◌, ℕ, Bool, true, false, List, [], ◌∷◌, Option, Some, Ok, Err, ◌||◌, if◌then◌else◌, unwrap_or, slice_get}
use Rattle.kt_recipe.proofs.Common.{Text, is_nonempty, RecipeLine, Stop, Store, IsPrefix, World, frozen_world, expanded, evaluator, StepEnd, Gave, StepOver, Fails, IfCutBy, leaving, left_of, then_do, done, Says, Macros, front_same, front_next, expanding_grows, Node, part_lines, automatic_in, after_run, ignores_failure, pieces_of_line, joined, wrapped, Setting, setting_of, shell_text, expansion, put_piece, put_pieces, put_line, put_lines, put_part, put_parts}
use Rattle.kt_eval.specs.declared.stop.Stop.TheVariants as stops

-- the messages before a step are a prefix of those that it leaves
abbrev pub Keeps : {A : Type 0} → StepOver (List Text) A → Type 0
Keeps step = (said : List Text) → IsPrefix said (left_of (step said))

pub then_front : {A B : Type 0} (said : List Text) (o : StepEnd (List Text) A) (next : A → StepOver (List Text) B) → ((x : A) → Keeps (next x))
    → IsPrefix said (left_of o) → IsPrefix said (left_of (then_do o next))
then_front said o next more h = grind (arith, front_next)

-- ---- a step that is stopped

fails_then : {A B : Type 0} (stop : Stop) (heard : List Text) (o : StepEnd (List Text) A) (next : A → StepOver (List Text) B)
    → Fails stop heard o → Fails stop heard (then_do o next)
fails_then stop heard o next h = grind arith

cut_then : {A B : Type 0} (stop : Stop) (heard : List Text) (o : StepEnd (List Text) A) (next : A → StepOver (List Text) B) → ((x : A) → Keeps (next x))
    → IfCutBy stop (IsPrefix heard (left_of o)) → IfCutBy stop (IsPrefix heard (left_of (then_do o next)))
cut_then stop heard o next more h = grind (arith, then_front)

-- a step that is stopped stops the whole, after this much was done before it
pub stops_all : {A B C D : Type 0} (see : A → C) (other : B → D) (stop : Stop) (start now new : List Text) (first : StepOver (List Text) C)
    (next : C → StepOver (List Text) D) (whole : StepOver (List Text) D)
    → ((x : C) → Keeps (next x)) → IsPrefix start now → then_do (first now) next ≡ whole start
    → Says see first (Err stop) now new → Says other whole (Err stop) start new
stops_all {D} see other stop start now new first next whole more before is h = grind (arith, fails_then, front_next, cut_then)

-- no message was added before memory ran out
pub out_of_memory : {A B : Type 0} (see : A → B) (step : StepOver (List Text) B) (said : List Text) → Keeps step → Says see step (Err stops.Memory) said said
out_of_memory see step said keeps = record { gives = tt; appends = front_same said; cut = keeps said; asks_nothing = tt }

-- a step without a message
pub says_nothing : {A B : Type 0} (see : A → B) (step : StepOver (List Text) B) (x : A) (said : List Text) → step said ≡ Gave said (see x)
    → Says see step (Ok x) said said
says_nothing see step x said is = record { gives = is; appends = front_same said; cut = tt; asks_nothing = tt }

-- ---- messages are only added

leaving_front : (said : List Text) (o : StepEnd World Text) → IsPrefix said (left_of o).said → IsPrefix said (left_of (leaving (λ w. w.said) o))
leaving_front said o h = grind arith

pub expansion_front : (at : Setting) (text : Text) → Keeps (expansion at text)
unfolding expansion
expansion_front at text said =
    leaving_front said (expanded (evaluator false [] at.limit) text (frozen_world at.table at.automatic at.place said))
    (expanding_grows false [] at.limit text (frozen_world at.table at.automatic at.place said)).0

front_if : {A : Type 0} (b : Bool) (one other : StepOver (List Text) A) → Keeps one → Keeps other → Keeps (if b then one else other)
front_if true one other h k = h
front_if false one other h k = k

pub put_piece_front : (at : Setting) (marked : Bool) (piece : Text) (command : Option Text) → Keeps (put_piece at marked piece command)
unfolding put_piece
put_piece_front at marked piece command = front_if (is_nonempty (after_run piece)) _ _
    (λ said. then_front said (expansion at shell_text said)
    (λ shell. done (Some (joined command (wrapped (marked || ignores_failure piece) shell (after_run piece)))))
    (λ shell heard. front_same heard) (expansion_front at shell_text said))
    (λ said. front_same said)

pub put_pieces_front : (at : Setting) (marked : Bool) (pieces : List Text) (command : Option Text) → Keeps (put_pieces at marked pieces command)
unfolding put_pieces
put_pieces_front at marked [] command said = front_same said
put_pieces_front at marked (piece ∷ pieces) command said =
    then_front said (put_piece at marked piece command said) (put_pieces at marked pieces)
    (put_pieces_front at marked pieces) (put_piece_front at marked piece command said)

pub put_line_front : (at : Setting) (line : Text) (command : Option Text) → Keeps (put_line at line command)
unfolding put_line
put_line_front at line command said =
    then_front said (expansion at (after_run line) said) (λ text. put_pieces at (ignores_failure line) (pieces_of_line text) command)
    (λ text. put_pieces_front at (ignores_failure line) (pieces_of_line text) command) (expansion_front at (after_run line) said)

pub put_lines_front : (table : Macros) (automatic : Store) (limit : ℕ) (lines : List RecipeLine) (command : Option Text)
    → Keeps (put_lines table automatic limit lines command)
unfolding put_lines
put_lines_front table automatic limit [] command said = front_same said
put_lines_front table automatic limit (line ∷ lines) command said =
    then_front said (put_line (setting_of table automatic limit line.place) line.text command said) (put_lines table automatic limit lines)
    (put_lines_front table automatic limit lines) (put_line_front (setting_of table automatic limit line.place) line.text command said)

pub put_part_front : (table : Macros) (limit : ℕ) (node : Node) (part : ℕ) (command : Option Text) → Keeps (put_part table limit node part command)
unfolding put_part
put_part_front table limit node part command =
    put_lines_front table (automatic_in node part) limit (unwrap_or (part_lines (slice_get node.parts part)) []) command

pub put_parts_front : (table : Macros) (limit : ℕ) (node : Node) (parts : List ℕ) (command : Option Text) → Keeps (put_parts table limit node parts command)
unfolding put_parts
put_parts_front table limit node [] command said = front_same said
put_parts_front table limit node (part ∷ parts) command said =
    then_front said (put_part table limit node part command said) (put_parts table limit node parts)
    (put_parts_front table limit node parts) (put_part_front table limit node part command said)
