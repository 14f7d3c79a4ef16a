-- A line without a newline is one piece.
use Rattle.std.proofs.Common.{arith, ◌≡◌, Bool, true, false, not, ◌==◌, List, [], ◌∷◌, Option, Result, refl}
use Rattle.kt_recipe.proofs.Common.{not-true, or_parts, list_any, slice_split, Text, Stop, StepEnd, Gave, StepOver, then_do, done, Says, after_run, ignores_failure, pieces_of_line, Setting, expansion, put_line, put_piece, put_pieces}

uncut : (text : Text) → list_any (λ byte. byte == 10) text ≡ false → slice_split (λ byte. byte == 10) text ≡ text ∷ []
uncut [] is = refl
uncut (byte ∷ text) is =
    let parts = or_parts (byte == 10) (list_any (λ byte. byte == 10) text) is in
    rw (parts.0, uncut text parts.1) refl

then_done : {L A : Type 0} (o : StepEnd L A) → then_do o done ≡ o
then_done o = grind arith

put_one : (at : Setting) (marked : Bool) (text : Text) (command : Option Text) (said : List Text) → not (list_any (λ byte. byte == 10) text) ≡ true
    → put_piece at marked text command said ≡ put_pieces at marked (pieces_of_line text) command said
unfolding put_pieces pieces_of_line
put_one at marked text command said whole = grind (arith, uncut, not-true, then_done)

-- what holds for one step holds for another that does the same
says_alike : {A B : Type 0} (see : A → B) (one other : StepOver (List Text) B) (result : Result A Stop) (old new : List Text) → one old ≡ other old
    → Says see one result old new → Says see other result old new
says_alike see one other result old new is h = grind arith

-- a line that is one piece is appended as that piece is
pub says_one : {A : Type 0} (see : A → Option Text) (at : Setting) (marked : Bool) (text : Text) (command : Option Text) (result : Result A Stop)
    (old new : List Text) → not (list_any (λ byte. byte == 10) text) ≡ true → Says see (put_piece at marked text command) result old new
    → Says see (put_pieces at marked (pieces_of_line text) command) result old new
says_one see at marked text command result old new whole h = grind (arith, says_alike, put_one)

-- a line that is expanded without a message is appended as the pieces of its expansion are
pub says_expanded : {A : Type 0} (see : A → Option Text) (at : Setting) (line text : Text) (command : Option Text) (result : Result A Stop)
    (old new : List Text) → expansion at (after_run line) old ≡ Gave old text
    → Says see (put_pieces at (ignores_failure line) (pieces_of_line text) command) result old new → Says see (put_line at line command) result old new
unfolding put_line
says_expanded see at line text command result old new is h = grind (arith, says_alike)
