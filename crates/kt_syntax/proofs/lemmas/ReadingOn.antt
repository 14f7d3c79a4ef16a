-- The steps of a text's lines can be read one after another.
use Rattle.std.proofs.Common.{◌≡◌, ◌≤◌, ℕ, zero, suc, ◌+◌, arith, List, [], ◌∷◌, drop, length, Some, refl, sym, ap, subst, ◌∙◌, zero-add}
use Rattle.kt_syntax.proofs.Common.{slice_get, BlockPart, BlockStep}
use Rattle.kt_syntax.specs.declared.step.BranchExits.{BranchExits}
use Rattle.kt_syntax.specs.Steps.{Places, ahead_of, exits_of, places_after, step_of, steps_from}
use Rattle.kt_syntax.specs.Blocks.{Items, Level, none, innermost_level, levels_from, levels_with, outer}
use Rattle.kt_syntax.specs.inner.Blocks.{AreReadable}
use Rattle.kt_syntax.specs.views.Reading.{AreTried, IsAhead, ReadsOn, after_branches, append, items_left, left_at}

-- what is left of the innermost block and of those round it
left-split : (levels : List Level) → items_left levels ≡ append (innermost_level levels).items (after_branches (innermost_level levels).others (items_left (outer levels)))
left-split levels = grind arith

-- exits are those of the branches of a block
abbrev Leads : List BlockStep → BranchExits → List Level → Type 0
Leads steps exits levels =
    (left_at steps exits.after ≡ after_branches (innermost_level levels).others (items_left (outer levels)))
    × AreTried steps (innermost_level levels).others exits.next exits.after

-- and those of all open conditionals
abbrev Lead : List BlockStep → ℕ → List BranchExits → List Level → Type 0
Lead steps end [] levels = Leads steps (record { next = end; after = end }) levels × (outer levels ≡ [])
Lead steps end (exits ∷ others) levels = Leads steps exits levels × Lead steps end others (outer levels)

-- what is known ahead of a place agrees with what is left there
record Agrees (steps : List BlockStep) (ahead : Places) (levels : List Level) : Type 0 where
  lead : Lead steps ahead.end ahead.conditionals levels
  ended : left_at steps ahead.end ≡ none
  body : left_at steps ahead.body_end ≡ items_left levels

first_leads : (steps : List BlockStep) (end body_end : ℕ) (conditionals : List BranchExits) (levels : List Level) → Lead steps end conditionals levels
    → Leads steps (exits_of (record { end = end; body_end = body_end; conditionals = conditionals })) levels
first_leads steps end body_end conditionals levels h = grind arith

others_lead : (steps : List BlockStep) (end : ℕ) (conditionals : List BranchExits) (levels : List Level) → left_at steps end ≡ none → Lead steps end conditionals levels
    → Lead steps end (drop 1 conditionals) (outer levels)
unfolding AreTried
others_lead steps end conditionals levels n h = grind arith

-- more items change no exit
items_lead : (steps : List BlockStep) (end : ℕ) (conditionals : List BranchExits) (levels : List Level) (items : Items) → Lead steps end conditionals levels
    → Lead steps end conditionals (record { items = items; others = (innermost_level levels).others } ∷ outer levels)
items_lead steps end [] levels items h = h
items_lead steps end (exits ∷ others) levels items h = h

-- a line more, before those ahead
record OneMore (steps : List BlockStep) (ahead : Places) (levels : List Level) (place : ℕ) (found : BlockPart) : Type 0 where
  agrees : Agrees steps (places_after ahead found place) (levels_with place (step_of ahead found) levels)
  reads : ReadsOn steps place (step_of ahead found)

one_more : (found : BlockPart) (steps : List BlockStep) (ahead : Places) (levels : List Level) (place : ℕ)
    → left_at steps place ≡ items_left (levels_with place (step_of ahead found) levels) → left_at steps (place + 1) ≡ items_left levels
    → slice_get steps place ≡ Some (step_of ahead found) → Agrees steps ahead levels → OneMore steps ahead levels place found
unfolding places_after step_of AreTried
one_more found steps ahead levels place here next got a = grind (arith, items_lead, left-split, first_leads, others_lead)

-- exits lie between a place and the end
abbrev AreWithin : (place end : ℕ) → List BranchExits → Type 0
AreWithin place end [] = Unit {0}
AreWithin place end (exits ∷ others) = ((place ≤ exits.next) × (exits.next ≤ exits.after) × (exits.after ≤ end)) × AreWithin place end others

record Within (place : ℕ) (ahead : Places) : Type 0 where
  low : place ≤ ahead.end
  body_low : place ≤ ahead.body_end
  body_high : ahead.body_end ≤ ahead.end
  exits : AreWithin place ahead.end ahead.conditionals

widen : (place end : ℕ) (exits : List BranchExits) → AreWithin (place + 1) end exits → AreWithin place end exits
widen place end [] h = tt
widen place end (exits ∷ others) h = ((omega (arith, h.0.0), h.0.1, h.0.2), widen place end others h.1)

others_within : (place end : ℕ) (exits : List BranchExits) → AreWithin place end exits → AreWithin place end (drop 1 exits)
others_within place end exits h = grind arith

first_within : (place end body_end : ℕ) (exits : List BranchExits) → place ≤ end → AreWithin place end exits
    → let first = exits_of (record { end = end; body_end = body_end; conditionals = exits }) in (place ≤ first.next) × (first.next ≤ first.after) × (first.after ≤ end)
first_within place end body_end exits l h = grind arith

record OneWithin (ahead : Places) (place : ℕ) (found : BlockPart) : Type 0 where
  within : Within place (places_after ahead found place)
  ahead_is : IsAhead place ahead.end (step_of ahead found)
  end_is : (places_after ahead found place).end ≡ ahead.end

one_within : (found : BlockPart) (ahead : Places) (place : ℕ) → Within (place + 1) ahead → OneWithin ahead place found
unfolding places_after step_of
one_within found ahead place w = grind (arith, widen, first_within, others_within)

-- a list from a place on
drop-next : {X : Type 0} (xs : List X) (place : ℕ) (x : X) (rest : List X) → drop place xs ≡ x ∷ rest → drop (suc place) xs ≡ rest
drop-next [] zero x rest e = absurd (cc)
drop-next [] (suc place) x rest e = absurd (cc)
drop-next (y ∷ xs) zero x rest e = cc
drop-next (y ∷ xs) (suc place) x rest e = drop-next xs place x rest e

get-at : {X : Type 0} (xs : List X) (place : ℕ) (x : X) (rest : List X) → drop place xs ≡ x ∷ rest → slice_get xs place ≡ Some x
get-at [] zero x rest e = absurd (cc)
get-at [] (suc place) x rest e = absurd (cc)
get-at (y ∷ xs) zero x rest e = cc
get-at (y ∷ xs) (suc place) x rest e = get-at xs place x rest e

-- what holds of the first element and of those after it holds of all
at-each : (P : ℕ → BlockStep → Type 0) (place : ℕ) (first : BlockStep) (others : List BlockStep) → P place first
    → ((more : ℕ) (found : BlockStep) → slice_get others more ≡ Some found → P (place + 1 + more) found)
    → (more : ℕ) (found : BlockStep) → slice_get (first ∷ others) more ≡ Some found → P (place + more) found
at-each P place first others here after zero found h =
    let same : first ≡ found = cc in
    let at : place ≡ place + 0 = omega arith in
    let Q : ℕ → Type 0 = λ k. P k found in
    subst Q at (subst (P place) same here)
at-each P place first others here after (suc more) found h =
    let at : place + 1 + more ≡ place + suc more = omega arith in
    let Q : ℕ → Type 0 = λ k. P k found in
    subst Q at (after more found h)

-- all from a place on
record Readable (steps : List BlockStep) (place : ℕ) (lines : List BlockPart) : Type 0 where
  agrees : Agrees steps (ahead_of place lines) (levels_from place (steps_from place lines))
  within : Within place (ahead_of place lines)
  end_is : (ahead_of place lines).end ≡ place + length lines
  reads : (more : ℕ) (found : BlockStep) → slice_get (steps_from place lines) more ≡ Some found → ReadsOn steps (place + more) found
  ahead : (more : ℕ) (found : BlockStep) → slice_get (steps_from place lines) more ≡ Some found → IsAhead (place + more) (ahead_of place lines).end found

readable : (lines : List BlockPart) (steps : List BlockStep) (place : ℕ) → drop place steps ≡ steps_from place lines → Readable steps place lines
unfolding steps_from ahead_of levels_from left_at AreTried
readable [] steps place e = grind arith
readable (found ∷ lines) steps place e =
    let A : Places = ahead_of (place + 1) lines in
    let others : List BlockStep = steps_from (place + 1) lines in
    let levels : List Level = levels_from (place + 1) others in
    let step : BlockStep = step_of A found in
    let one : place + 1 ≡ suc place = omega arith in
    let e-next : drop (place + 1) steps ≡ others = ap (λ (x : ℕ). drop x steps) one ∙ drop-next steps place step others e in
    let r = readable lines steps (place + 1) e-next in
    let here : left_at steps place ≡ items_left (levels_with place step levels) = ap (λ (x : List BlockStep). items_left (levels_from place x)) e in
    let next : left_at steps (place + 1) ≡ items_left levels = ap (λ (x : List BlockStep). items_left (levels_from (place + 1) x)) e-next in
    let m = one_more found steps A levels place here next (get-at steps place step others e) r.agrees in
    let w = one_within found A place r.within in
    let P : ℕ → BlockStep → Type 0 = λ at s. IsAhead at A.end s in
    let Q : ℕ → Type 0 = λ end. (more : ℕ) (s : BlockStep) → slice_get (step ∷ others) more ≡ Some s → IsAhead (place + more) end s in
    record {
      agrees = m.agrees;
      within = w.within;
      end_is = w.end_is ∙ r.end_is ∙ omega arith;
      reads = at-each (ReadsOn steps) place step others m.reads r.reads;
      ahead = subst Q (sym w.end_is) (at-each P place step others w.ahead_is r.ahead);
    }

-- a step for each line
pub length-steps : (lines : List BlockPart) (place : ℕ) → length (steps_from place lines) ≡ length lines
unfolding steps_from
length-steps [] place = refl
length-steps (found ∷ lines) place = ap suc (length-steps lines (place + 1))

pub steps_are_readable : (lines : List BlockPart) → AreReadable (steps_from 0 lines)
steps_are_readable lines =
    let steps : List BlockStep = steps_from 0 lines in
    let r = readable lines steps 0 refl in
    let end : (ahead_of 0 lines).end ≡ length steps = r.end_is ∙ zero-add (length lines) ∙ sym (length-steps lines 0) in
    record {
      reads = λ place found h. let P : ℕ → Type 0 = λ at. ReadsOn steps at found in subst P (zero-add place) (r.reads place found h);
      ahead = λ place found h. let P : ℕ → Type 0 = λ at. IsAhead at (length steps) found in let Q : ℕ → Type 0 = λ e. IsAhead (0 + place) e found in
          subst P (zero-add place) (subst Q end (r.ahead place found h));
    }
