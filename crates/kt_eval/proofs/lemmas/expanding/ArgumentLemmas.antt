-- The arguments of a call, byte by byte.
use Rattle.std.proofs.Common.{◌≡◌, ℕ, ◌+◌, ◌-◌, ◌<◌, ◌≤◌, true, false, List, [], ◌∷◌, ◌++◌, Option, length, get_or, take, drop, sym, ap, ◌∙◌, append_assoc, arith}
use Rattle.kt_eval.proofs.Common.{take_more, drop_more, drop-append-le, drop_all, drop-take, length-take-le, Mark, arguments_from, cuts_arguments, one_less, nested}

-- the argument so far, with one more byte
pub longer : (text : List ℕ) (start place : ℕ) → start ≤ place → place < length text → drop start (take (place + 1) text) ≡ drop start (take place text) ++ get_or text place 0 ∷ []
longer text start place le lt =
    ap (drop start) (take_more text place 0 lt)
    ∙ drop-append-le start (take place text) (get_or text place 0 ∷ []) (rw (length-take-le place text (omega arith)) le)

-- a byte that cuts nothing
pub uncut : (mark : Mark) (left : Option ℕ) (depth : ℕ) (text : List ℕ) (start place : ℕ) → start ≤ place → place < length text
    → cuts_arguments (get_or text place 0) depth left ≡ false
    → arguments_from mark left (nested mark depth (get_or text place 0)) (drop start (take (place + 1) text)) (drop (place + 1) text)
    ≡ arguments_from mark left depth (drop start (take place text)) (drop place text)
unfolding arguments_from
uncut mark left depth text start place le lt h = grind (arith, drop_more, longer)

-- the part from one place up to another
part : (text : List ℕ) (start place : ℕ) → start ≤ place → take (place - start) (drop start text) ≡ drop start (take place text)
part text start place le =
    let e : start + (place - start) ≡ place = omega arith in
    sym (drop-take start (place - start) text) ∙ ap (λ n. drop start (take n text)) e

-- a comma that cuts
pub cut_here : (mark : Mark) (left : Option ℕ) (depth : ℕ) (text : List ℕ) (start place : ℕ) → start ≤ place → place < length text
    → cuts_arguments (get_or text place 0) depth left ≡ true
    → take (place - start) (drop start text) ∷ arguments_from mark (one_less left) depth (drop (place + 1) (take (place + 1) text)) (drop (place + 1) text)
    ≡ arguments_from mark left depth (drop start (take place text)) (drop place text)
unfolding arguments_from
cut_here mark left depth text start place le lt h = grind (arith, length, take, length-take-le, part, drop_more, drop_all)

-- one more argument, and then the others
pub one_more : (before : List (List ℕ)) (argument : List ℕ) (others all rest : List (List ℕ)) → argument ∷ others ≡ rest → before ++ rest ≡ all → (before ++ argument ∷ []) ++ others ≡ all
one_more before argument others all rest first same = append_assoc before (argument ∷ []) others ∙ (ap (λ l. before ++ l) first ∙ same)
