-- The parts of a file, one after another.
use Rattle.std.proofs.Common.{◌≡◌, ◌≤◌, ◌+◌, ◌-◌, ℕ, suc, Bool, true, false, not, List, [], ◌∷◌, ◌++◌, refl, sym, ◌∙◌, ap, append_assoc, append-nil, subst, length, take, drop, map, arith, Option, Some, option_map, Result, Ok, MatchResult, ⊎_elim}
use Rattle.kt_ninja_reader.proofs.Common.{cases_Bool, drop-drop, length-drop, map_push, prefix_len, Plan, PartFault, NoReading, JoinedLine, Bytes, is_blank_line, is_comment, Binding, FilePart, State, all_parts, and_then_parts, begins_part, block_from, cut_lines, ninja_read, nothing_read, read_part, read_parts, plan_text, IsWritable}
use Rattle.kt_ninja_reader.specs.declared.read_fault.ReadFault.{ReadFault}
use Rattle.kt_ninja_reader.specs.declared.read_fault.ReadFault.TheVariants.{Memory as MemoryRefused}
use Rattle.kt_ninja_reader.specs.inner.Reading.{AddsBindings, StopsBlock, file_part, line_binding, part_before}
use Rattle.kt_ninja_reader.specs.inner.Reading.{part_fault}
use Rattle.kt_ninja_reader.specs.views.Reading.{Misreads}
use Rattle.kt_ninja_reader.specs.inner.Refusals.{LacksReading}
use Rattle.kt_ninja_reader.proofs.lemmas.PrintThenRead.{printed_is_read}

-- ---- blocks, line by line

in_front : (front : List Binding) (b : Binding) (later : Option (List Binding))
    → option_map (λ more. front ++ more) (option_map (λ more. b ∷ more) later) ≡ option_map (λ more. (front ++ b ∷ []) ++ more) later
in_front front b later = grind (arith, append_assoc)

pub comment_adds : (closed : Bool) (old : List Binding) (line : JoinedLine) → is_comment line.text ≡ true → AddsBindings closed old line closed old
unfolding block_from
comment_adds closed old line h rest = rw h refl

pub blank_adds : (closed : Bool) (old : List Binding) (line : JoinedLine) → is_comment line.text ≡ false → is_blank_line line.text ≡ true → AddsBindings closed old line true old
unfolding block_from
blank_adds closed old line h i rest = rw (h, i) refl

pub binding_adds : (closed : Bool) (old new : List Binding) (line : JoinedLine) (b : Binding) → is_comment line.text ≡ false → is_blank_line line.text ≡ false → closed ≡ false
    → line_binding line.text ≡ Some b → new ≡ old ++ b ∷ [] → AddsBindings closed old line false new
unfolding block_from
binding_adds closed old new line b h i shut j longer rest = rw (h, i, shut, j, longer) (in_front old b (block_from false rest))

pub closed_stops : (closed : Bool) (line : JoinedLine) → is_comment line.text ≡ false → is_blank_line line.text ≡ false → closed ≡ true → StopsBlock closed line NoReading
unfolding block_from
closed_stops closed line h i shut rest = rw (h, i, shut) refl

pub binding_stops : (closed : Bool) (line : JoinedLine) → is_comment line.text ≡ false → is_blank_line line.text ≡ false → closed ≡ false
    → (fault : PartFault) → LacksReading (line_binding line.text) fault → StopsBlock closed line fault
unfolding block_from
binding_stops closed line h i shut fault none = grind arith

pub block_over : (closed : Bool) (front : List Binding) → option_map (λ more. front ++ more) (block_from closed []) ≡ Some front
unfolding block_from
block_over closed front = ap Some (append-nil front)

-- ---- lines cut into parts

abbrev pub length_before : List JoinedLine → ℕ
length_before lines = prefix_len (λ line. not (begins_part line.text)) lines

length_begun : (l : JoinedLine) (ls : List JoinedLine) → begins_part l.text ≡ true → length_before (l ∷ ls) ≡ 0
length_begun l ls h = rw h refl

length_more : (l : JoinedLine) (ls : List JoinedLine) → begins_part l.text ≡ false → length_before (l ∷ ls) ≡ suc (length_before ls)
length_more l ls h = rw h (omega arith)

cut_begun : (l : JoinedLine) (ls : List JoinedLine) → begins_part l.text ≡ true
    → cut_lines (l ∷ ls) ≡ record { before = []; parts = file_part l (cut_lines ls).before ∷ (cut_lines ls).parts }
unfolding cut_lines
cut_begun l ls h = rw h refl

cut_more : (l : JoinedLine) (ls : List JoinedLine) → begins_part l.text ≡ false → cut_lines (l ∷ ls) ≡ record { before = l ∷ (cut_lines ls).before; parts = (cut_lines ls).parts }
unfolding cut_lines
cut_more l ls h = rw h refl

-- the lines before the first part
pub before_is : (lines : List JoinedLine) → (cut_lines lines).before ≡ take (length_before lines) lines
unfolding cut_lines
before_is [] = refl
before_is (l ∷ ls) = grind (arith, ⊎_elim, cut_begun, take, length_begun, cut_more, length_more, cases_Bool, before_is ls)

-- the parts are those of the lines after them
pub parts_are : (lines : List JoinedLine) → (cut_lines lines).parts ≡ (cut_lines (drop (length_before lines) lines)).parts
unfolding cut_lines
parts_are [] = refl
parts_are (l ∷ ls) = grind (arith, ⊎_elim, length_begun, cut_more, length_more, cases_Bool, parts_are ls)

-- before which there are none
pub none_before : (lines : List JoinedLine) → (cut_lines (drop (length_before lines) lines)).before ≡ []
unfolding cut_lines
none_before [] = refl
none_before (l ∷ ls) = grind (arith, ⊎_elim, length_begun, cut_begun, length_more, cases_Bool, none_before ls)

first_part : (head : JoinedLine) (after : List JoinedLine) → (cut_lines (head ∷ after)).before ≡ []
    → (cut_lines (head ∷ after)).parts ≡ file_part head (cut_lines after).before ∷ (cut_lines after).parts
first_part head after none = grind (arith, ⊎_elim, cut_begun, cut_more, cases_Bool)

-- the part that the first line begins, and those after it
pub parts_cut : (head : JoinedLine) (after rest body later : List JoinedLine) → rest ≡ head ∷ after → (cut_lines rest).before ≡ []
    → body ≡ take (length_before after) after → later ≡ drop (length_before after) after
    → (cut_lines rest).parts ≡ file_part head body ∷ (cut_lines later).parts
parts_cut head after rest body later is none front back = grind (arith, first_part, before_is, parts_are)

pub left_after : (head : JoinedLine) (after lines : List JoinedLine) (from n : ℕ) → drop from lines ≡ head ∷ after → drop (from + 1 + n) lines ≡ drop n after
left_after head after lines from n is =
    let same : from + 1 + n ≡ from + suc n = omega arith in
    ap (λ k. drop k lines) same ∙ sym (drop-drop (suc n) from lines) ∙ ap (drop (suc n)) is

pub next_bound : (head : JoinedLine) (after lines : List JoinedLine) (from n : ℕ) → drop from lines ≡ head ∷ after → n ≤ length after → from + 1 + n ≤ length lines
next_bound head after lines from n is bound =
    let left : length lines - from ≡ suc (length after) = sym (length-drop from lines) ∙ ap length is in
    omega (arith, left, bound)

pub parts_step : (state : State) (head : JoinedLine) (rest body later : List JoinedLine) → (cut_lines rest).parts ≡ file_part head body ∷ (cut_lines later).parts
    → read_parts state (cut_lines rest).parts ≡ and_then_parts head.number (read_part state (file_part head body)) (λ s. read_parts s (cut_lines later).parts)
unfolding read_parts
parts_step state head rest body later cut = ap (read_parts state) cut

nothing_before : read_part nothing_read (part_before []) ≡ Some nothing_read
unfolding read_part block_from
nothing_before = refl

pub begin_by : (before : List JoinedLine) (parts : List FilePart)
    → read_parts nothing_read (all_parts (record { before = before; parts = parts })) ≡ and_then_parts 1 (read_part nothing_read (part_before before)) (λ s. read_parts s parts)
unfolding read_parts
begin_by before parts = grind (arith, nothing_before)

-- the lines before the first part, and the parts
pub parts_begin : (lines before later : List JoinedLine) → before ≡ take (length_before lines) lines → later ≡ drop (length_before lines) lines
    → read_parts nothing_read (all_parts (cut_lines lines)) ≡ and_then_parts 1 (read_part nothing_read (part_before before)) (λ s. read_parts s (cut_lines later).parts)
parts_begin lines before later front back = grind (arith, begin_by, before_is, parts_are)

pub parts_end : (state : State) → read_parts state (cut_lines []).parts ≡ Ok state
unfolding read_parts cut_lines
parts_end state = refl

-- a part that is read, and one that isn't
pub part_taken : (number : ℕ) (found : Option State) (next : State) (rest : State → Result State ℕ) (whole : Result State ℕ)
    → whole ≡ and_then_parts number found rest → found ≡ Some next → rest next ≡ whole
part_taken number found next rest whole h i = sym (h ∙ ap (λ o. and_then_parts number o rest) i)

pub part_refused : (number : ℕ) (found : Option State) (rest : State → Result State ℕ) (whole : Result State ℕ) → whole ≡ and_then_parts number found rest
    → (fault : PartFault) → LacksReading found fault → Misreads whole (part_fault number fault)
part_refused number found rest whole h fault none = grind arith

pub parts_carried : (old new : Result State ℕ) (r : Result State ReadFault) → old ≡ new → MatchResult r (λ s. old ≡ Ok s) (Misreads old)
    → MatchResult r (λ s. new ≡ Ok s) (Misreads new)
parts_carried old new r same h = let P : Result State ℕ → Type 0 = λ o. MatchResult r (λ s. o ≡ Ok s) (Misreads o) in subst P same h

pub none_left : (state : State) (rest : List JoinedLine) → rest ≡ [] → read_parts state (cut_lines rest).parts ≡ Ok state
none_left state rest none = ap (λ l. read_parts state (cut_lines l).parts) none ∙ parts_end state

-- bindings that were read, and one more
pub told_more : {X Y : Type 0} (f : X → Y) (xs all : List X) (x : X) → all ≡ xs ++ x ∷ [] → map f all ≡ map f xs ++ f x ∷ []
told_more f xs all x h = ap (map f) h ∙ map_push f xs x

-- ---- the whole text

pub copy : (r : Result Plan ReadFault) (text : Bytes) → MatchResult r (λ plan. ninja_read text ≡ Ok plan) (Misreads (ninja_read text))
    → (plan : Plan) → IsWritable plan → text ≡ plan_text plan → MatchResult r (λ read. read ≡ plan) (λ fault. fault ≡ MemoryRefused)
copy r text h plan writable is = grind (arith, printed_is_read)
