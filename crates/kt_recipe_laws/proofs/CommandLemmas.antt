-- A command is the calls of its pieces: each step puts its own calls behind those before it.
use Rattle.std.proofs.Common.{arith, ◌≡◌, ℕ, Bool, true, false, List, [], ◌∷◌, ◌++◌, length, map, Option, Some, None, if◌then◌else◌, refl, sym, ap, subst, ◌∙◌, codes, filter, flat_map}
use Rattle.std.proofs.lemmas.Grind.{flat_map-append}
use Rattle.kt_recipe.proofs.Common.{append-nil, append_assoc, All, range_with_len, Text, is_nonempty, Store, Macros, Node, after_run, ignores_failure, pieces_of_line, joined, wrapped, Setting, shell_text, expansion, put_piece, put_pieces, put_line, put_lines, put_part, put_parts, shell_of}
use Rattle.kt_rules.specs.declared.line.entry.RecipeLine.{RecipeLine}
use Rattle.std.proofs.lemmas.List.Elements.{All-nil, All-cons, All-head, All-tail}
use Rattle.kt_eval.specs.Outcome.{StepEnd, Gave, StepOver, ◌>>=◌, then_do, done}
use Rattle.kt_recipe_laws.specs.Commands.{NodeLine, line_with, lines_in, lines_of, CommandPiece, piece_with, Call, call_text, command_of, ExpandedText, AreExpanded, MadeLine, CallsItsPieces, shell_at, expanded_for, IsCommandOf, CommandLaw}
use Rattle.kt_recipe.proofs.GaveLemmas.{gave_both}

-- ---- the steps as one list of lines

unfoldable put_all : List NodeLine → Option Text → StepOver (List Text) (Option Text)
put_all [] command = done command
put_all (line ∷ lines) command = do
  longer ← put_line line.at line.text command
  put_all lines longer

then_same : {A B : Type 0} (o : StepEnd (List Text) A) (next other : A → StepOver (List Text) B)
    → ((x : A) (left : List Text) → next x left ≡ other x left) → then_do o next ≡ then_do o other
then_same o next other same = grind arith

then_joined : {A B C : Type 0} (o : StepEnd (List Text) A) (next : A → StepOver (List Text) B) (last : B → StepOver (List Text) C)
    → then_do o (λ x left. then_do (next x left) last) ≡ then_do (then_do o next) last
then_joined o next last = grind arith

put_all_both : (xs ys : List NodeLine) (command : Option Text) (said : List Text) → put_all (xs ++ ys) command said ≡ then_do (put_all xs command said) (put_all ys)
unfolding put_all
put_all_both [] ys command said = refl
put_all_both (x ∷ xs) ys command said = grind (arith, then_same, then_joined, put_all_both xs ys)

put_lines_are : (table : Macros) (automatic : Store) (limit : ℕ) (lines : List RecipeLine) (command : Option Text) (said : List Text)
    → put_lines table automatic limit lines command said ≡ put_all (map (line_with table automatic limit) lines) command said
unfolding put_lines put_all
put_lines_are table automatic limit [] command said = refl
put_lines_are table automatic limit (line ∷ lines) command said = grind (arith, then_same, put_lines_are table automatic limit lines)

put_parts_are : (table : Macros) (limit : ℕ) (node : Node) (parts : List ℕ) (command : Option Text) (said : List Text)
    → put_parts table limit node parts command said ≡ put_all (flat_map (lines_in table limit node) parts) command said
unfolding put_parts put_part put_all
put_parts_are table limit node [] command said = refl
put_parts_are table limit node (part ∷ parts) command said = grind (arith, then_same, put_lines_are, put_all_both, put_parts_are table limit node parts)

shell_is_all : (table : Macros) (limit : ℕ) (node : Node) (said : List Text) → shell_of table limit node said ≡ put_all (lines_of table limit node) None said
unfolding shell_of
shell_is_all table limit node said = put_parts_are table limit node (range_with_len 0 (length node.parts)) None said

-- ---- one more call

call_joined : (before : List Call) (call : Call) → Some (joined (command_of before) (call_text call)) ≡ command_of (before ++ call ∷ [])
call_joined before call = grind (arith, append-nil, codes, append_assoc, flat_map-append)

after_call : (before : List Call) (call : Call) (start : Option Text) → start ≡ command_of before
    → Some (joined start (wrapped call.piece.ignored call.shell call.piece.text)) ≡ command_of (before ++ call ∷ [])
after_call before call start is = ap (λ start. Some (joined start (call_text call))) is ∙ call_joined before call

value_is : {L A : Type 0} (x value : A) (left end : L) → done x left ≡ Gave end value → value ≡ x
value_is x value left end e = cc e

left_is : {L A : Type 0} (x value : A) (left end : L) → done x left ≡ Gave end value → end ≡ left
left_is x value left end e = cc e

both_expanded : (xs ys : List ExpandedText) (said left heard : List Text) → AreExpanded xs said left → AreExpanded ys left heard → AreExpanded (xs ++ ys) said heard
both_expanded [] ys said left heard is rest = subst (λ said. AreExpanded ys said heard) is rest
both_expanded (x ∷ xs) ys said left heard is rest = (is.0, is.1, both_expanded xs ys is.0 left heard is.2 rest)

-- the calls of pieces, behind those before them
record Called (at : Setting) (pieces : List CommandPiece) (before : List Call) (said heard : List Text) (command : Option Text) : Type 0 where
  calls : List Call
  each : map (λ call. call.piece) calls ≡ pieces
  shells : AreExpanded (map (shell_at at) calls) said heard
  joined : command ≡ command_of (before ++ calls)

called_next : (at : Setting) (before : List Call) (call : Call) (pieces : List CommandPiece) (said left heard : List Text) (command : Option Text)
    → expansion at shell_text said ≡ Gave left call.shell → Called at pieces (before ++ call ∷ []) left heard command → Called at (call.piece ∷ pieces) before said heard command
called_next at before call pieces said left heard command told more = grind (arith, append_assoc)

-- a piece is put, if it isn't empty
abbrev put_if : Bool → Setting → CommandPiece → Option Text → StepOver (List Text) (Option Text)
put_if b at piece start = if b then (λ left. then_do (expansion at shell_text left) (λ shell. done (Some (joined start (wrapped piece.ignored shell piece.text))))) else done start

piece_called : (b : Bool) (at : Setting) (piece : CommandPiece) (pieces : List CommandPiece) (before : List Call) (start longer command : Option Text) (said left heard : List Text)
    → start ≡ command_of before → put_if b at piece start said ≡ Gave left longer
    → ((now : List Call) → longer ≡ command_of now → Called at pieces now left heard command)
    → Called at (if b then piece ∷ pieces else pieces) before said heard command
piece_called true at piece pieces before start longer command said left heard is e rest =
    let both = gave_both (expansion at shell_text said) (λ shell. done (Some (joined start (wrapped piece.ignored shell piece.text)))) left longer e in
    called_next at before (record { shell = both.given; piece = piece }) pieces said left heard command
    (both.is ∙ ap (λ left. Gave left both.given) (sym (left_is _ longer both.middle left both.rest)))
    (rest (before ++ record { shell = both.given; piece = piece } ∷ [])
    (value_is _ longer both.middle left both.rest ∙ after_call before (record { shell = both.given; piece = piece }) start is))
piece_called false at piece pieces before start longer command said left heard is e rest = grind (arith, left_is, value_is)

pieces_called : (at : Setting) (marked : Bool) (pieces : List Text) (before : List Call) (start command : Option Text) (said heard : List Text)
    → start ≡ command_of before → put_pieces at marked pieces start said ≡ Gave heard command
    → Called at (filter (λ piece. is_nonempty piece.text) (map (piece_with marked) pieces)) before said heard command
unfolding put_pieces put_piece
pieces_called at marked [] before start command said heard is e = grind (arith, left_is, value_is, append-nil)
pieces_called at marked (piece ∷ pieces) before start command said heard is e =
    let both = gave_both (put_piece at marked piece start said) (put_pieces at marked pieces) heard command e in
    piece_called (is_nonempty (after_run piece)) at (piece_with marked piece) _ before start both.given command said both.middle heard is both.is
    (λ now is. pieces_called at marked pieces now both.given command both.middle heard is both.rest)

-- the lines, behind the calls before them
record Made (lines : List NodeLine) (before : List Call) (said heard : List Text) (command : Option Text) : Type 0 where
  made : List MadeLine
  whole : map (λ line. line.line) made ≡ lines
  pieces : All CallsItsPieces made
  expanded : AreExpanded (flat_map expanded_for made) said heard
  joined : command ≡ command_of (before ++ flat_map (λ line. line.calls) made)

lines_made : (lines : List NodeLine) (before : List Call) (start command : Option Text) (said heard : List Text)
    → start ≡ command_of before → put_all lines start said ≡ Gave heard command → Made lines before said heard command
unfolding put_all put_line
lines_made [] before start command said heard is e = record {
  made = [];
  whole = refl;
  pieces = All-nil CallsItsPieces;
  expanded = left_is start command said heard e;
  joined = value_is start command said heard e ∙ is ∙ ap command_of (sym (append-nil before));
}
lines_made (line ∷ lines) before start command said heard is e =
    let put = gave_both (put_line line.at line.text start said) (put_all lines) heard command e in
    let both = gave_both (expansion line.at (after_run line.text) said) (λ text. put_pieces line.at (ignores_failure line.text) (pieces_of_line text) start) put.middle put.given put.is in
    let called = pieces_called line.at (ignores_failure line.text) (pieces_of_line both.given) before start put.given both.middle put.middle is both.rest in
    let more = lines_made lines (before ++ called.calls) put.given command put.middle heard called.joined put.rest in
    record {
      made = record { line = line; text = both.given; calls = called.calls } ∷ more.made;
      whole = ap (λ lines. line ∷ lines) more.whole;
      pieces = All-cons CallsItsPieces _ more.made called.each more.pieces;
      expanded = (both.middle, both.is, both_expanded (map (shell_at line.at) called.calls) (flat_map expanded_for more.made) both.middle put.middle heard called.shells more.expanded);
      joined = more.joined ∙ ap command_of (append_assoc before called.calls (flat_map (λ line. line.calls) more.made));
    }

-- ---- what is made of calls is what the steps give

-- texts in a row, and the messages between
record Parted (xs ys : List ExpandedText) (said heard : List Text) : Type 0 where
  middle : List Text
  first : AreExpanded xs said middle
  rest : AreExpanded ys middle heard

parted : (xs ys : List ExpandedText) (said heard : List Text) → AreExpanded (xs ++ ys) said heard → Parted xs ys said heard
parted [] ys said heard h = record { middle = said; first = refl; rest = h }
parted (x ∷ xs) ys said heard h =
    let more = parted xs ys h.0 heard h.2 in
    record { middle = more.middle; first = (h.0, h.1, more.first); rest = more.rest }

piece_put : (b : Bool) (at : Setting) (piece : CommandPiece) (pieces : List CommandPiece) (calls before : List Call) (start : Option Text) (said heard : List Text)
    (next : Option Text → StepOver (List Text) (Option Text))
    → start ≡ command_of before → map (λ call. call.piece) calls ≡ (if b then piece ∷ pieces else pieces) → AreExpanded (map (shell_at at) calls) said heard
    → ((calls before : List Call) (start : Option Text) (said : List Text) → start ≡ command_of before → map (λ call. call.piece) calls ≡ pieces
    → AreExpanded (map (shell_at at) calls) said heard → next start said ≡ Gave heard (command_of (before ++ calls)))
    → then_do (put_if b at piece start said) next ≡ Gave heard (command_of (before ++ calls))
piece_put true at piece pieces [] before start said heard next is each told rest = absurd (cc each)
piece_put true at piece pieces (call ∷ calls) before start said heard next is each told rest =
    let same : piece ≡ call.piece = cc each in
    ap (λ o. then_do (then_do o (λ shell. done (Some (joined start (wrapped piece.ignored shell piece.text))))) next) told.1
    ∙ (rest calls (before ++ call ∷ []) (Some (joined start (wrapped piece.ignored call.shell piece.text))) told.0
    (ap (λ (p : CommandPiece). Some (joined start (wrapped p.ignored call.shell p.text))) same ∙ after_call before call start is) (cc each) told.2
    ∙ ap (λ calls. Gave heard (command_of calls)) (append_assoc before (call ∷ []) calls))
piece_put false at piece pieces calls before start said heard next is each told rest = rest calls before start said is each told

pieces_put : (at : Setting) (marked : Bool) (pieces : List Text) (heard : List Text) (calls before : List Call) (start : Option Text) (said : List Text)
    → start ≡ command_of before → map (λ call. call.piece) calls ≡ filter (λ piece. is_nonempty piece.text) (map (piece_with marked) pieces)
    → AreExpanded (map (shell_at at) calls) said heard → put_pieces at marked pieces start said ≡ Gave heard (command_of (before ++ calls))
unfolding put_pieces put_piece
pieces_put at marked [] heard [] before start said is each told = grind (arith, append-nil)
pieces_put at marked [] heard (call ∷ calls) before start said is each told = absurd (cc each)
pieces_put at marked (piece ∷ pieces) heard calls before start said is each told =
    piece_put (is_nonempty (after_run piece)) at (piece_with marked piece) _ calls before start said heard (put_pieces at marked pieces) is each told
    (pieces_put at marked pieces heard)

lines_put : (made : List MadeLine) (before : List Call) (start : Option Text) (said heard : List Text) → start ≡ command_of before → All CallsItsPieces made
    → AreExpanded (flat_map expanded_for made) said heard
    → put_all (map (λ line. line.line) made) start said ≡ Gave heard (command_of (before ++ flat_map (λ line. line.calls) made))
unfolding put_all put_line
lines_put [] before start said heard is pieces told = grind (arith, append-nil)
lines_put (m ∷ made) before start said heard is pieces told =
    let more = parted (map (shell_at m.line.at) m.calls) (flat_map expanded_for made) told.0 heard told.2 in
    let put_rest = put_all (map (λ (line : MadeLine). line.line) made) in
    ap (λ o. then_do (then_do o (λ text. put_pieces m.line.at (ignores_failure m.line.text) (pieces_of_line text) start)) put_rest) told.1
    ∙ (ap (λ o. then_do o put_rest)
    (pieces_put m.line.at (ignores_failure m.line.text) (pieces_of_line m.text) more.middle m.calls before start told.0 is (All-head CallsItsPieces m made pieces) more.first)
    ∙ (lines_put made (before ++ m.calls) (command_of (before ++ m.calls)) more.middle heard refl (All-tail CallsItsPieces m made pieces) more.rest
    ∙ ap (λ calls. Gave heard (command_of calls)) (append_assoc before m.calls (flat_map (λ line. line.calls) made))))

-- ---- both

pub command_law : CommandLaw
command_law table limit node said heard command = (
  λ gave. made_of (lines_made (lines_of table limit node) [] None command said heard refl (sym (shell_is_all table limit node said) ∙ gave)),
  λ h. shell_is_all table limit node said ∙ (ap (λ lines. put_all lines None said) (sym h.whole)
      ∙ (lines_put h.made [] None said heard refl h.pieces h.expanded ∙ ap (Gave heard) (sym h.joined))),
)
  where
    made_of : Made (lines_of table limit node) [] said heard command → IsCommandOf (lines_of table limit node) said heard command
    made_of m = record { made = m.made; whole = m.whole; pieces = m.pieces; expanded = m.expanded; joined = m.joined }
