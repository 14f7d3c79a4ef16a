-- Logical lines, physical line by physical line.
use Rattle.std.proofs.Common.{rules, ◌≡◌, ℕ, ◌+◌, Bool, true, false, List, [], ◌∷◌, ◌++◌, ◌&&◌, refl, sym, ◌∙◌, ap, append_assoc, append-nil, length, length-append, arith, cond, ◌==◌, slice_index}
use Rattle.kt_text.proofs.Common.{onto_first, concat, lines_of, Line, Text, is_nonempty, is_continued, groups, kept_of_last, kept_length, lines_from, logical_lines_of}
use Rattle.kt_text.specs.declared.logical.Begin.{Begin}
use Rattle.kt_text.proofs.lemmas.GroupLemmas.{groups-ended, groups-continued, groups-begins, lines-some, lines-none, lines-empty}

groups-nil : groups [] ≡ []
unfolding groups
groups-nil = refl

onto_nil : (line : Text) → onto_first line (groups []) ≡ (line ∷ []) ∷ []
unfolding groups
onto_nil line = refl

-- a logical line with its begin and the place of its end
abbrev pub line_to : Begin → ℕ → Line
line_to begin end = record { span = record { start = begin.start; end = end }; number = begin.number; tab = begin.tab }

-- the begin of a line at a place, with that place's physical line number
abbrev pub begin_at : ℕ → ℕ → Text → Begin
begin_at at number line = record { start = at; number = number; tab = slice_index line 0 == 9 }

-- the logical lines of groups from a place on, of which the first has a begin
abbrev pub lines_with : Begin → ℕ → ℕ → List (List Text) → List Line
lines_with begin at number [] = []
lines_with begin at number (group ∷ later) = line_to begin (at + kept_length group) ∷ lines_from (at + length (concat group)) (number + length group) later

-- the same where the first group may not have begun before
abbrev pub lines_left : Bool → Begin → ℕ → ℕ → List (List Text) → List Line
lines_left true begin at number found = lines_with begin at number found
lines_left false begin at number found = lines_from at number found

-- the begin that counts at a physical line
abbrev pub begin_of : Bool → Begin → ℕ → ℕ → Text → Begin
begin_of continued begin at number line = cond continued begin (begin_at at number line)

-- the line that ends with a physical one, if that isn't continued
abbrev pub line_ended : Bool → Begin → ℕ → Text → List Line
line_ended true begin at line = []
line_ended false begin at line = line_to begin (at + kept_of_last line) ∷ []

lines_with-alone : (begin : Begin) (at number : ℕ) (line : Text) (later : List (List Text))
    → lines_with begin at number ((line ∷ []) ∷ later) ≡ line_to begin (at + kept_of_last line) ∷ lines_from (at + length line) (number + 1) later
unfolding kept_length
lines_with-alone begin at number line later = grind (arith, length, append-nil)

lines_with-followed : (begin : Begin) (at number : ℕ) (line next : Text) (others : List Text) (later : List (List Text))
    → lines_with begin at number ((line ∷ next ∷ others) ∷ later) ≡ lines_with begin (at + length line) (number + 1) ((next ∷ others) ∷ later)
unfolding kept_length
lines_with-followed begin at number line next others later = grind (arith, length, length-append)

-- groups from their first line on, begun before or not
lines_left-group : (continued : Bool) (begin : Begin) (at number : ℕ) (line : Text) (others : List Text) (later : List (List Text))
    → lines_left continued begin at number ((line ∷ others) ∷ later) ≡ lines_with (begin_of continued begin at number line) at number ((line ∷ others) ∷ later)
unfolding lines_from
lines_left-group continued begin at number line others later = grind arith

lines_left-nil : (continued : Bool) (begin : Begin) (at number : ℕ) → lines_left continued begin at number [] ≡ []
unfolding lines_from
lines_left-nil continued begin at number = grind arith

alone_left : (continued : Bool) (begin new : Begin) (at number : ℕ) (line : Text) (later : List (List Text)) → new ≡ begin_of continued begin at number line
    → lines_left continued begin at number ((line ∷ []) ∷ later) ≡ line_ended false new at line ++ lines_left false new (at + length line) (number + 1) later
alone_left continued begin new at number line later is =
    lines_left-group continued begin at number line [] later ∙ ap (λ b. lines_with b at number ((line ∷ []) ∷ later)) (sym is) ∙ lines_with-alone new at number line later

by_cases : (more some continued : Bool) (begin new : Begin) (at number : ℕ) (line after : Text) → is_continued line ≡ more → is_nonempty after ≡ some
    → new ≡ begin_of continued begin at number line
    → lines_left continued begin at number (groups (line ∷ lines_of after))
    ≡ line_ended (more && some) new at line ++ lines_left (more && some) new (at + length line) (number + 1) (groups (lines_of after))
by_cases false some continued begin new at number line after h n is = search (rules, groups-ended, alone_left)
by_cases true false continued begin new at number line after h n is = search (rules, lines-none, groups-continued, onto_nil, alone_left, length, groups-nil)
by_cases true true continued begin new at number line after h n is =
    let first = lines-some after n in
    let begins = groups-begins first.line first.lines in
    rw first.are
    (ap (lines_left continued begin at number) (groups-continued line (first.line ∷ first.lines) h ∙ ap (onto_first line) begins.are)
    ∙ lines_left-group continued begin at number line (first.line ∷ begins.others) begins.later
    ∙ ap (λ b. lines_with b at number ((line ∷ first.line ∷ begins.others) ∷ begins.later)) (sym is)
    ∙ lines_with-followed new at number line first.line begins.others begins.later
    ∙ ap (λ found. lines_with new (at + length line) (number + 1) found) (sym begins.are))

-- one physical line more
pub lines_more : (continued continues : Bool) (begin new : Begin) (at number : ℕ) (line after : Text) (left : List Text) (lines whole : List Line)
    → new ≡ begin_of continued begin at number line → continues ≡ is_continued line && is_nonempty after → left ≡ line ∷ lines_of after
    → lines ++ lines_left continued begin at number (groups left) ≡ whole
    → (lines ++ line_ended continues new at line) ++ lines_left continues new (at + length line) (number + 1) (groups (lines_of after)) ≡ whole
lines_more continued continues begin new at number line after left lines whole is on cut before = grind (arith, append_assoc, length, by_cases)

pub lines_end : (continued : Bool) (begin : Begin) (at number : ℕ) (rest : Text) (lines whole : List Line) → length rest ≡ 0
    → lines ++ lines_left continued begin at number (groups (lines_of rest)) ≡ whole → lines ≡ whole
lines_end continued begin at number rest lines whole none before = grind (arith, append-nil, lines-empty, groups-nil, lines_left-nil)

pub lines_start : (begin : Begin) (text : Text) → lines_left false begin 0 1 (groups (lines_of text)) ≡ logical_lines_of text
unfolding logical_lines_of
lines_start begin text = refl
