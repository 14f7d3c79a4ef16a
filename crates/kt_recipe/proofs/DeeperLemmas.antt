-- What isn't too deep is the same with one more level, step by step.
use Rattle.std.proofs.Common.{arith, ◌≡◌, ℕ, suc, Bool, List, [], ◌∷◌, length, Option, None, if◌then◌else◌, refl}
use Rattle.kt_recipe.proofs.Common.{range_with_len, Text, RecipeLine, Store, StepEnd, StepOver, leaving, then_do, Macros, expanding_stays, Node, Setting, setting_of, expansion, put_piece, put_pieces, put_line, put_lines, put_part, put_parts, shell_of}
use Rattle.kt_eval.specs.views.Growing.{IsTooDeep, StaysOneDeeper}

-- the second is the first, unless that is too deep
abbrev pub Stays : {L A : Type 0} → StepEnd L A → StepEnd L A → Type 0
Stays before after = (IsTooDeep before → ⊥) → after ≡ before

pub then_stays : {L A B : Type 0} (before after : StepEnd L A) (next more : A → StepOver L B) → Stays before after
    → ((x : A) (left : L) → Stays (next x left) (more x left)) → Stays (then_do before next) (then_do after more)
then_stays before after next more is later deep = grind arith

pub leaving_stays : {L M A : Type 0} (see : L → M) (before after : StepEnd L A) → Stays before after → Stays (leaving see before) (leaving see after)
leaving_stays see before after is deep = grind arith

-- ---- the steps

-- the same setting, with another limit
abbrev limited : Setting → ℕ → Setting
limited at limit = record { table = at.table; automatic = at.automatic; place = at.place; limit = limit }

expansion_stays : (at : Setting) (limit : ℕ) (text : Text) (said : List Text)
    → Stays (expansion (limited at limit) text said) (expansion (limited at (suc limit)) text said)
unfolding expansion
expansion_stays at limit text said = grind (arith, leaving_stays, expanding_stays)

piece_stays : {A : Type 0} (b : Bool) (before after other : StepOver (List Text) A) (said : List Text) → Stays (before said) (after said)
    → Stays ((if b then before else other) said) ((if b then after else other) said)
piece_stays b before after other said is deep = grind arith

put_piece_stays : (at : Setting) (limit : ℕ) (marked : Bool) (piece : Text) (command : Option Text) (said : List Text)
    → Stays (put_piece (limited at limit) marked piece command said) (put_piece (limited at (suc limit)) marked piece command said)
unfolding put_piece
put_piece_stays at limit marked piece command said = grind (arith, piece_stays, then_stays, expansion_stays)

put_pieces_stay : (at : Setting) (limit : ℕ) (marked : Bool) (pieces : List Text) (command : Option Text) (said : List Text)
    → Stays (put_pieces (limited at limit) marked pieces command said) (put_pieces (limited at (suc limit)) marked pieces command said)
unfolding put_pieces
put_pieces_stay at limit marked [] command said = λ deep. refl
put_pieces_stay at limit marked (piece ∷ pieces) command said =
    then_stays (put_piece (limited at limit) marked piece command said) (put_piece (limited at (suc limit)) marked piece command said)
    (put_pieces (limited at limit) marked pieces) (put_pieces (limited at (suc limit)) marked pieces)
    (put_piece_stays at limit marked piece command said) (put_pieces_stay at limit marked pieces)

put_line_stays : (at : Setting) (limit : ℕ) (line : Text) (command : Option Text) (said : List Text)
    → Stays (put_line (limited at limit) line command said) (put_line (limited at (suc limit)) line command said)
unfolding put_line
put_line_stays at limit line command said = grind (arith, then_stays, expansion_stays, put_pieces_stay)

put_lines_stay : (table : Macros) (automatic : Store) (limit : ℕ) (lines : List RecipeLine) (command : Option Text) (said : List Text)
    → Stays (put_lines table automatic limit lines command said) (put_lines table automatic (suc limit) lines command said)
unfolding put_lines
put_lines_stay table automatic limit [] command said = λ deep. refl
put_lines_stay table automatic limit (line ∷ lines) command said =
    then_stays (put_line (setting_of table automatic limit line.place) line.text command said)
    (put_line (setting_of table automatic (suc limit) line.place) line.text command said)
    (put_lines table automatic limit lines) (put_lines table automatic (suc limit) lines)
    (put_line_stays (setting_of table automatic limit line.place) limit line.text command said) (put_lines_stay table automatic limit lines)

put_parts_stay : (table : Macros) (limit : ℕ) (node : Node) (parts : List ℕ) (command : Option Text) (said : List Text)
    → Stays (put_parts table limit node parts command said) (put_parts table (suc limit) node parts command said)
unfolding put_parts put_part
put_parts_stay table limit node [] command said = λ deep. refl
put_parts_stay table limit node (part ∷ parts) command said = grind (arith, then_stays, put_lines_stay, put_parts_stay table limit node parts)

pub command_stays : (table : Macros) (node : Node) → StaysOneDeeper (λ limit. shell_of table limit node)
unfolding shell_of
command_stays table node limit said = put_parts_stay table limit node (range_with_len 0 (length node.parts)) None said
