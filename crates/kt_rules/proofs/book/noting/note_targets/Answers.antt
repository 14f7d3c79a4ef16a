use Rattle.std.proofs.Common.{◌≡◌, ◌∷◌, ◌+◌, ◌<◌, ℕ, zero, suc, List, [], true, is_some, length, drop, get_or, refl, arith, subst}
use Rattle.kt_rules.proofs.Common.{Spot, target_of, GrewIn, name_at, entry_view, line_needs, numbered_target, on_err}
use Rattle.kt_rules.specs.views.Targets.{text_in}
use Rattle.kt_rules.proofs.lemmas.book.NoteLemmas.{grew_both, grew_none, grew_target, noted_end, noted_start, noted_step, target_end, target_left}
use Rattle.kt_rules.proofs.book.noting.note_targets.Goals as goal

get_or_any : (xs : List ℕ) (i d e : ℕ) → i < length xs → get_or xs i d ≡ get_or xs i e
get_or_any [] i d e h = absurd (omega arith)
get_or_any (x ∷ xs) zero d e h = refl
get_or_any (x ∷ xs) (suc i) d e h = get_or_any xs i d e (omega arith)

pub loop-position-init : goal.loop-position-init
loop-position-init c =
    let names = c.args.rule.names.now in
    let rule = entry_view c.args.rule in
    let spots = c.args.spots.now in
    record {
      targets = noted_start true rule c.args.place 0 (drop 0 rule.targets) (names, spots.targets) refl refl;
      recipes = noted_start (is_some rule.recipe) rule c.args.place 0 (drop 0 rule.targets) (names, spots.recipes) refl refl;
      targets_grown = grew_none c.args.place (names, spots.targets) (names, spots.targets) (λ name. refl);
      recipes_grown = grew_none c.args.place (names, spots.recipes) (names, spots.recipes) (λ name. refl);
      targets_within = λ within. within;
      recipes_within = λ within. within;
    }

pub note_target-requires : goal.note_target-requires
note_target-requires c = c.requires c.loop-position.position 0 c.loop-position-test.true

pub returns-in_err-note_target-clause-targets_refused : goal.returns-in_err-note_target-clause-targets_refused
returns-in_err-note_target-clause-targets_refused c =
    let names = c.args.rule.names.now in
    on_err c.from_residual-in_err-note_target.result
    (grew_both c.args.place (names, c.args.spots.now.targets) (names, c.loop-position.spots.targets) (names, c.note_target.new.spots.targets)
    c.loop-position.invariant.targets_grown
    (subst (λ (spot : Spot). GrewIn spot.entry (names, c.loop-position.spots.targets) (names, c.note_target.new.spots.targets)) c.in_ok-spot.ensures.same
    c.in_err-note_target.ensures.targets_refused))

pub returns-in_err-note_target-clause-recipes_refused : goal.returns-in_err-note_target-clause-recipes_refused
returns-in_err-note_target-clause-recipes_refused c =
    let names = c.args.rule.names.now in
    on_err c.from_residual-in_err-note_target.result
    (grew_both c.args.place (names, c.args.spots.now.recipes) (names, c.loop-position.spots.recipes) (names, c.note_target.new.spots.recipes)
    c.loop-position.invariant.recipes_grown
    (subst (λ (spot : Spot). GrewIn spot.entry (names, c.loop-position.spots.recipes) (names, c.note_target.new.spots.recipes)) c.in_ok-spot.ensures.same
    c.in_err-note_target.ensures.recipes_refused))

pub loop-position-preserved : goal.loop-position-preserved
loop-position-preserved c =
    let names = c.args.rule.names.now in
    let rule = entry_view c.args.rule in
    let i = c.loop-position.position in
    let number = get_or c.args.rule.targets.now i 0 in
    let target = numbered_target c.args.rule number in
    let made = c.in_ok-note_target.ensures in
    let targets_noted = rw c.in_ok-spot.ensures.same at made.targets_noted in
    let recipes_noted = rw c.in_ok-spot.ensures.same at made.recipes_noted in
    let kept = c.loop-position.invariant in
    let first : drop i rule.targets ≡ target ∷ drop (i + 1) rule.targets
    = target_left (target_of (text_in c.args.rule.pattern) (line_needs c.args.rule)) (name_at names) c.args.rule.targets.now i number
    c.loop-position-test.true (get_or_any c.args.rule.targets.now i 0 number c.loop-position-test.true) in
    record {
      targets = noted_step true rule c.args.place i (i + 1) target (drop i rule.targets) (drop (i + 1) rule.targets)
          (names, c.args.spots.now.targets) (names, c.loop-position.spots.targets) (names, c.note_target.new.spots.targets)
          first refl targets_noted kept.targets;
      recipes = noted_step (is_some rule.recipe) rule c.args.place i (i + 1) target (drop i rule.targets) (drop (i + 1) rule.targets)
          (names, c.args.spots.now.recipes) (names, c.loop-position.spots.recipes) (names, c.note_target.new.spots.recipes)
          first refl recipes_noted kept.recipes;
      targets_grown = grew_both c.args.place (names, c.args.spots.now.targets) (names, c.loop-position.spots.targets) (names, c.note_target.new.spots.targets)
          kept.targets_grown
          (grew_target true rule c.args.place i target (names, c.loop-position.spots.targets) (names, c.note_target.new.spots.targets) targets_noted);
      recipes_grown = grew_both c.args.place (names, c.args.spots.now.recipes) (names, c.loop-position.spots.recipes) (names, c.note_target.new.spots.recipes)
          kept.recipes_grown
          (grew_target (is_some rule.recipe) rule c.args.place i target (names, c.loop-position.spots.recipes) (names, c.note_target.new.spots.recipes) recipes_noted);
      targets_within = λ within. made.targets_within (kept.targets_within within);
      recipes_within = λ within. made.recipes_within (kept.recipes_within within);
    }

pub returns-clause-targets_noted : goal.returns-clause-targets_noted
returns-clause-targets_noted c =
    let rule = entry_view c.args.rule in
    let names = c.args.rule.names.now in
    noted_end true rule c.args.place c.loop-position.position (drop c.loop-position.position rule.targets) (names, c.args.spots.now.targets) (names, c.loop-position.spots.targets)
    (target_end (target_of (text_in c.args.rule.pattern) (line_needs c.args.rule)) (name_at names) c.args.rule.targets.now c.loop-position.position c.loop-position-test.false)
    c.loop-position.invariant.targets

pub returns-clause-recipes_noted : goal.returns-clause-recipes_noted
returns-clause-recipes_noted c =
    let rule = entry_view c.args.rule in
    let names = c.args.rule.names.now in
    noted_end (is_some rule.recipe) rule c.args.place c.loop-position.position (drop c.loop-position.position rule.targets) (names, c.args.spots.now.recipes) (names, c.loop-position.spots.recipes)
    (target_end (target_of (text_in c.args.rule.pattern) (line_needs c.args.rule)) (name_at names) c.args.rule.targets.now c.loop-position.position c.loop-position-test.false)
    c.loop-position.invariant.recipes
