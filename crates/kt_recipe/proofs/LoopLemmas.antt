-- The rest of the pieces, lines and parts of a command begins with the next.
use Rattle.std.proofs.Common.{◌≡◌, ℕ, suc, ◌+◌, ◌-◌, ◌<◌, Bool, List, length, get_or, drop, map, Option, Bor, arith}
use Rattle.kt_recipe.proofs.Common.{range_with_len, drop_more, Text, RecipeLine, Store, then_do, Macros, Node, Setting, setting_of, put_piece, put_pieces, put_line, put_lines, put_part, put_parts}

pub pieces_from : (at : Setting) (marked : Bool) (pieces : List (Bor Text)) (i : ℕ) (past : Bor Text) (command : Option Text) (said : List Text)
    → i < length pieces
    → then_do (put_piece at marked (get_or pieces i past).now command said) (put_pieces at marked (map (λ p. p.now) (drop (i + 1) pieces)))
    ≡ put_pieces at marked (map (λ p. p.now) (drop i pieces)) command said
unfolding put_pieces
pieces_from at marked pieces i past command said within = grind (arith, drop_more)

pub lines_from : (table : Macros) (automatic : Store) (limit : ℕ) (lines : List RecipeLine) (i : ℕ) (line : RecipeLine) (command : Option Text)
    (said : List Text) → i < length lines → line ≡ get_or lines i line
    → then_do (put_line (setting_of table automatic limit line.place) line.text command said) (put_lines table automatic limit (drop (i + 1) lines))
    ≡ put_lines table automatic limit (drop i lines) command said
unfolding put_lines
lines_from table automatic limit lines i line command said within is = grind (arith, drop_more)

one_less : (part end : ℕ) → part < end → end - part ≡ suc (end - (part + 1))
one_less part end within = omega arith

pub parts_from : (table : Macros) (limit : ℕ) (node : Node) (part end : ℕ) (command : Option Text) (said : List Text) → part < end
    → then_do (put_part table limit node part command said) (put_parts table limit node (range_with_len (part + 1) (end - (part + 1))))
    ≡ put_parts table limit node (range_with_len part (end - part)) command said
unfolding put_parts
parts_from table limit node part end command said within = grind (arith, one_less)
