-- Comments, and blank lines between statements, change nothing: the parts that a file is cut into are read alike.
use Rattle.std.proofs.Common.{arith, ◌≡◌, ℕ, ◌+◌, Bool, true, false, not, ◌&&◌, ◌||◌, List, [], ◌∷◌, ◌++◌, refl, length, Option, Some, None, option_map, if◌then◌else◌, Result}
use Rattle.kt_ninja_reader.proofs.Common.{and_from, and_parts, false≢true, list_all, Binding, JoinedLine, Bytes, is_blank_line, is_comment, FilePart, State, all_parts, and_then_parts, begins_part, block_from, cut_lines, cut_with, is_sound, ninja_read, nothing_read, plan_in, plan_of_state, read_head, read_part, read_parts}
use Rattle.std.specs.Result.{result_ok}
use Rattle.kt_ninja_reader_laws.specs.Continued.{AreContinued, ContinuedLine, EndsRight, numbered_lines}
use Rattle.kt_ninja_reader_laws.specs.Layout.{LayoutLaw, SaysNothing, continued_text, has_block_ended}
use Rattle.kt_ninja_reader.specs.NinjaRead.{FileParts}
use Rattle.kt_ninja_reader_laws.proofs.ContinuedLemmas.{joined_law}
use Rattle.kt_ninja_reader.proofs.lemmas.ReaderLemmas.{begin_by}

-- ---- lines and parts that are read alike

-- lines below a line at the margin that are read alike
record SameBlock (xs ys : List JoinedLine) : Type 0 where
  sound : list_all is_sound xs ≡ list_all is_sound ys
  block : (closed : Bool) → block_from closed xs ≡ block_from closed ys

abbrev SamePart : FilePart → FilePart → Type 0
SamePart p q = (state : State) → read_part state p ≡ read_part state q

abbrev SameParts : List FilePart → List FilePart → Type 0
SameParts [] [] = Unit {0}
SameParts [] (q ∷ qs) = ⊥
SameParts (p ∷ ps) [] = ⊥
SameParts (p ∷ ps) (q ∷ qs) = SamePart p q × SameParts ps qs

record SameCut (c d : FileParts) : Type 0 where
  before : SameBlock c.before d.before
  parts : SameParts c.parts d.parts

-- the same line under another number
abbrev line_at : ℕ → Bytes → Bool → JoinedLine
line_at number text ended = record { number = number; text = text; ended = ended }

same_part : (p q : FilePart) → ((state : State) → read_head state p.head ≡ read_head state q.head) → SameBlock p.body q.body → SamePart p q
unfolding read_part
same_part p q head same state = rw (head state, same.sound, same.block false) refl

block_with : (n m : ℕ) (text : Bytes) (ended : Bool) (xs ys : List JoinedLine) → SameBlock xs ys → SameBlock (line_at n text ended ∷ xs) (line_at m text ended ∷ ys)
unfolding block_from
block_with n m text ended xs ys same = grind arith

cut_both : (b : Bool) (n m : ℕ) (text : Bytes) (ended : Bool) (c d : FileParts) → begins_part text ≡ b → SameCut c d
    → SameCut (cut_with (line_at n text ended) c) (cut_with (line_at m text ended) d)
cut_both true n m text ended c d is same = grind (arith, same_part)
cut_both false n m text ended c d is same = rw is (record { before = block_with n m text ended c.before d.before same.before; parts = same.parts })

-- the same lines under other numbers
cut_same : (n m : ℕ) (lines : List ContinuedLine) → SameCut (cut_lines (numbered_lines n lines)) (cut_lines (numbered_lines m lines))
unfolding cut_lines
cut_same n m [] = record { before = record { sound = refl; block = λ closed. refl }; parts = tt }
cut_same n m (l ∷ ls) =
    cut_both (begins_part (continued_text l)) n m (continued_text l) l.ended _ _ refl (cut_same (n + length l.fronts + 1) (m + length l.fronts + 1) ls)

-- ---- one more line

-- a sound line that begins no part, in front of lines whose block it leaves as it is
cut_between : (line : JoinedLine) (c d : FileParts) → begins_part line.text ≡ false → is_sound line ≡ true
    → ((closed : Bool) → block_from closed (line ∷ c.before) ≡ block_from closed c.before) → SameCut c d → SameCut (cut_with line c) d
cut_between line c d is sound stays same = grind arith

-- after lines that both have
cut_front : (n : ℕ) (front back : List ContinuedLine) (line : ContinuedLine)
    → ((n m : ℕ) → SameCut (cut_lines (numbered_lines n (line ∷ back))) (cut_lines (numbered_lines m back)))
    → SameCut (cut_lines (numbered_lines n (front ++ line ∷ back))) (cut_lines (numbered_lines n (front ++ back)))
unfolding cut_lines
cut_front n [] back line same = same n n
cut_front n (l ∷ ls) back line same =
    cut_both (begins_part (continued_text l)) n n (continued_text l) l.ended _ _ refl (cut_front (n + length l.fronts + 1) ls back line same)

-- ---- what is read

parts_read : (state : State) (ps qs : List FilePart) → SameParts ps qs → result_ok (read_parts state ps) ≡ result_ok (read_parts state qs)
unfolding read_parts
parts_read state [] [] same = refl
parts_read state [] (q ∷ qs) same = absurd same
parts_read state (p ∷ ps) [] same = absurd same
parts_read state (p ∷ ps) (q ∷ qs) same = rw (same.0 state) (by (read_part state q) (λ s. parts_read s ps qs same.1))
  where
    by : (o : Option State) → ((s : State) → result_ok (read_parts s ps) ≡ result_ok (read_parts s qs))
        → result_ok (and_then_parts p.number o (λ s. read_parts s ps)) ≡ result_ok (and_then_parts q.number o (λ s. read_parts s qs))
    by None rest = refl
    by (Some s) rest = rest s

plan_ok : (r : Result State ℕ) → result_ok (plan_in r) ≡ option_map plan_of_state (result_ok r)
plan_ok r = grind arith

cuts_read : (c d : FileParts) → SameCut c d → result_ok (plan_in (read_parts nothing_read (all_parts c))) ≡ result_ok (plan_in (read_parts nothing_read (all_parts d)))
unfolding read_parts
cuts_read c d same = grind (arith, plan_ok, begin_by, parts_read, same_part)

-- ---- the lines of a file

not_last : (ls back : List ContinuedLine) (line : ContinuedLine) → ls ++ line ∷ back ≡ [] → ⊥
not_last [] back line e = absurd (cc e)
not_last (l ∷ ls) back line e = absurd (cc e)

ends_right : (ended : Bool) (fronts : List Bytes) (last : Bytes) (ls back : List ContinuedLine) (line : ContinuedLine)
    → EndsRight ended fronts last (ls ++ line ∷ back) → EndsRight ended fronts last (ls ++ back)
ends_right ended fronts last ls back line h = grind (arith, not_last)

-- lines of a file without one of them
without : (front back : List ContinuedLine) (line : ContinuedLine) → AreContinued (front ++ line ∷ back) → AreContinued (front ++ back)
without [] back line h = h.4
without (l ∷ ls) back line h = (h.0, h.1, h.2, ends_right l.ended l.fronts l.last ls back line h.3, without ls back line h.4)

says_nothing : (front back : List ContinuedLine) (line : ContinuedLine) → AreContinued (front ++ line ∷ back)
    → ((n m : ℕ) → SameCut (cut_lines (numbered_lines n (line ∷ back))) (cut_lines (numbered_lines m back))) → SaysNothing front line back
unfolding ninja_read
says_nothing front back line are same =
    rw (joined_law.only (front ++ line ∷ back) are, joined_law.only (front ++ back) (without front back line are))
    (cuts_read (cut_lines (numbered_lines 1 (front ++ line ∷ back))) (cut_lines (numbered_lines 1 (front ++ back))) (cut_front 1 front back line same))

-- ---- comments and blank lines

comment_begins : (text : Bytes) → is_comment text ≡ true → begins_part text ≡ false
unfolding is_comment
comment_begins text is = grind (arith, not)

comment_skipped : (closed : Bool) (line : JoinedLine) (lines : List JoinedLine) → is_comment line.text ≡ true → block_from closed (line ∷ lines) ≡ block_from closed lines
unfolding block_from
comment_skipped closed line lines is = rw is refl

blank_begins : (text : Bytes) → is_blank_line text ≡ true → begins_part text ≡ false
blank_begins text is = grind (arith, and_parts)

abbrev has_no_binding : JoinedLine → Bool
has_no_binding line = is_comment line.text || is_blank_line line.text

-- where no binding follows, it doesn't matter whether the block has ended
closed_alike : (lines : List JoinedLine) → list_all has_no_binding lines ≡ true → block_from true lines ≡ block_from false lines
unfolding block_from
closed_alike [] none = refl
closed_alike (l ∷ ls) none =
    by (is_comment l.text) (is_blank_line l.text) _ _ (and_parts (has_no_binding l) (list_all has_no_binding ls) none).0
    (closed_alike ls (and_parts (has_no_binding l) (list_all has_no_binding ls) none).1)
  where
    by : (comment blank : Bool) (x y : Option (List Binding)) → (comment || blank) ≡ true → block_from true ls ≡ block_from false ls
        → (if comment then block_from true ls else (if blank then block_from true ls else x)) ≡ (if comment then block_from false ls else (if blank then block_from true ls else y))
    by true blank x y is same = same
    by false true x y is same = refl
    by false false x y is same = absurd (false≢true is)

blank_skipped : (closed : Bool) (line : JoinedLine) (lines : List JoinedLine) → is_blank_line line.text ≡ true → list_all has_no_binding lines ≡ true
    → block_from closed (line ∷ lines) ≡ block_from closed lines
unfolding block_from
blank_skipped closed line lines is none = grind (arith, closed_alike)

-- up to the next line at the margin no binding stands
before_more : (b : Bool) (n : ℕ) (text : Bytes) (ended : Bool) (c : FileParts) (rest : Bool) → begins_part text ≡ b
    → (b || ((is_comment text || is_blank_line text) && rest)) ≡ true → (rest ≡ true → list_all has_no_binding c.before ≡ true)
    → list_all has_no_binding (cut_with (line_at n text ended) c).before ≡ true
before_more b n text ended c rest is between more = grind (arith, and_parts, and_from)

none_before : (n : ℕ) (back : List ContinuedLine) → has_block_ended back ≡ true → list_all has_no_binding (cut_lines (numbered_lines n back)).before ≡ true
unfolding cut_lines
none_before n [] between = refl
none_before n (l ∷ ls) between =
    before_more (begins_part (continued_text l)) n (continued_text l) l.ended _ (has_block_ended ls) refl between (none_before (n + length l.fronts + 1) ls)

pub layout_law : LayoutLaw
unfolding cut_lines
layout_law = record {
  comment = λ front back line are sound is. says_nothing front back line are (λ n m.
      let after = n + length line.fronts + 1 in
      cut_between (line_at n (continued_text line) line.ended) (cut_lines (numbered_lines after back)) (cut_lines (numbered_lines m back))
      (comment_begins (continued_text line) is) sound
      (λ closed. comment_skipped closed (line_at n (continued_text line) line.ended) (cut_lines (numbered_lines after back)).before is)
      (cut_same after m back));
  blank = λ front back line are sound is between. says_nothing front back line are (λ n m.
      let after = n + length line.fronts + 1 in
      cut_between (line_at n (continued_text line) line.ended) (cut_lines (numbered_lines after back)) (cut_lines (numbered_lines m back))
      (blank_begins (continued_text line) is) sound
      (λ closed. blank_skipped closed (line_at n (continued_text line) line.ended) (cut_lines (numbered_lines after back)).before is (none_before after back between))
      (cut_same after m back));
}
