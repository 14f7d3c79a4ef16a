-- One line more in the passes over the lines of a text.
use Rattle.std.proofs.Common.{◌≡◌, ◌≤◌, ◌<◌, ◌+◌, ℕ, suc, arith, List, [], ◌∷◌, ◌++◌, drop, length, replicate, set, Option, refl, ap, ◌∙◌, append_assoc, append-nil, get_or, add-one}
use Rattle.kt_syntax.proofs.Common.{drop-cons, drop_all, OpenDefine, OpenConditional, BlockPart, NumberedRole, Role, BlockStep, Text}
use Rattle.kt_text.specs.declared.line.Line.{Line}
use Rattle.kt_syntax.specs.Roles.{heads_of, numbered_role}
use Rattle.kt_syntax.specs.Parts.{Scan, after, block_part, open_at_end, parts_from}
use Rattle.kt_syntax.specs.inner.Blocks.{depth_of}
use Rattle.kt_syntax.specs.declared.step.BlockStep.TheVariants as step
use Rattle.kt_syntax.proofs.lemmas.StepListLemmas.{put_before}
use Rattle.kt_syntax.specs.Steps.{Places, ahead_of, places_after, step_of, steps_from}

-- the lines from a place on, the first of them apart
heads-cons : (text : Text) (lines : List Line) (place : ℕ) (other : Line) → place < length lines
    → heads_of text (drop place lines) ≡ numbered_role text (get_or lines place other) ∷ heads_of text (drop (place + 1) lines)
heads-cons text lines place other within = grind (arith, get_or, add-one, drop-cons)

-- a line more is scanned
pub parts_more : (done more : List BlockPart) (scan next : Scan) (text : Text) (lines : List Line) (place : ℕ) (other line : Line) (found : BlockPart) (whole : List BlockPart)
    → place < length lines → line ≡ get_or lines place other → found ≡ block_part scan (numbered_role text line).role → next ≡ after scan (numbered_role text line) → more ≡ done ++ found ∷ []
    → done ++ parts_from scan (heads_of text (drop place lines)) ≡ whole → more ++ parts_from next (heads_of text (drop (place + 1) lines)) ≡ whole
unfolding parts_from
parts_more done more scan next text lines place other line found whole within e p n m h = grind (arith, heads-cons, append_assoc)

pub scanned_more : (scan next whole : Scan) (text : Text) (lines : List Line) (place : ℕ) (other line : Line)
    → place < length lines → line ≡ get_or lines place other → next ≡ after scan (numbered_role text line)
    → open_at_end scan (heads_of text (drop place lines)) ≡ whole → open_at_end next (heads_of text (drop (place + 1) lines)) ≡ whole
unfolding open_at_end
scanned_more scan next whole text lines place other line within e n h = grind (arith, heads-cons)

-- after the last line
pub parts_ended : (done : List BlockPart) (scan : Scan) (text : Text) (lines : List Line) (place : ℕ) (whole : List BlockPart)
    → length lines ≤ place → done ++ parts_from scan (heads_of text (drop place lines)) ≡ whole → done ≡ whole
unfolding parts_from
parts_ended done scan text lines place whole beyond h = grind (arith, drop_all, append-nil)

pub scanned_ended : (scan whole : Scan) (text : Text) (lines : List Line) (place : ℕ)
    → length lines ≤ place → open_at_end scan (heads_of text (drop place lines)) ≡ whole → scan ≡ whole
unfolding open_at_end
scanned_ended scan whole text lines place beyond h = grind (arith, drop_all)

-- a line opens at most one define more
pub depth-after : (define : Option OpenDefine) (conditionals : List OpenConditional) (line : Role) (number : ℕ)
    → depth_of (after (record { define = define; conditionals = conditionals }) (record { role = line; number = number }))
    ≤ depth_of (record { define = define; conditionals = conditionals }) + 1
unfolding after
depth-after define conditionals line number = grind arith

-- a line more is placed, from the end
pub steps_more : (place : ℕ) (found : BlockPart) (lines : List BlockPart) (ahead : Places) (found_step : BlockStep) (before after : List BlockStep)
    → ahead ≡ ahead_of (place + 1) lines → found_step ≡ step_of ahead found → before ≡ replicate (place + 1) step.Line ++ steps_from (place + 1) lines
    → after ≡ set before place found_step → after ≡ replicate place step.Line ++ steps_from place (found ∷ lines)
unfolding steps_from
steps_more place found lines ahead found_step before after a s b e = grind (arith, replicate, put_before)

pub ahead_more : (place : ℕ) (found : BlockPart) (lines : List BlockPart) (ahead next : Places)
    → ahead ≡ ahead_of (place + 1) lines → next ≡ places_after ahead found place → next ≡ ahead_of place (found ∷ lines)
unfolding ahead_of
ahead_more place found lines ahead next a n = n ∙ ap (λ (x : Places). places_after x found place) a

-- a part for each line
pub length-parts : (heads : List NumberedRole) (scan : Scan) → length (parts_from scan heads) ≡ length heads
unfolding parts_from
length-parts [] scan = refl
length-parts (head ∷ heads) scan = ap suc (length-parts heads (after scan head))
