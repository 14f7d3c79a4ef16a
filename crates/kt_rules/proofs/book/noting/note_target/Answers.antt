use Rattle.std.proofs.Common.{◌≡◌, ◌∙◌, ◌&&◌, ◌++◌, ◌∷◌, if◌then◌else◌, ℕ, nat_eq, List, [], Some, Bool, true, not, is_some, slice_get, sym, ap}
use Rattle.kt_rules.proofs.Common.{Bor, named_at, name_at, on_ok_weaker, is_some-map, Text, Kind, RecipeLine, is_made, is_pattern, is_special, entry_view, numbered_target}
use Rattle.kt_rules.specs.inner.Lists.{list_at}
use Rattle.kt_rules.proofs.lemmas.book.NoteLemmas.{target_noted}
use Rattle.kt_rules.proofs.book.noting.note_target.Goals as goal

pub returns-clause-targets_noted : goal.returns-clause-targets_noted
returns-clause-targets_noted c =
    let names = c.args.rule.names.now in
    let rule = entry_view c.args.rule in
    let target = numbered_target c.args.rule c.args.number in
    let there : slice_get names c.args.number ≡ Some (name_at names c.args.number) = named_at names c.args.number c.requires in
    let made : is_made rule target ≡ true
    = sym (c.is_made.ensures
    ∙ ap (λ (kind : Kind). not (is_pattern kind) && not (is_special c.name_at.result.now)) c.kind.ensures
    ∙ ap (λ (name : Text). not (is_pattern rule.kind) && not (is_special name)) c.name_at.ensures)
    ∙ c.if-not-is_made.false in
    on_ok_weaker c.note.result
    (λ step. target_noted names rule target c.args.number c.args.spot true c.args.spots.now.targets c.note.new.self.targets c.len-count.ensures.differ there made step)
    c.note.ensures.targets_noted

pub returns-clause-recipes_noted : goal.returns-clause-recipes_noted
returns-clause-recipes_noted c =
    let names = c.args.rule.names.now in
    let rule = entry_view c.args.rule in
    let target = numbered_target c.args.rule c.args.number in
    let there : slice_get names c.args.number ≡ Some (name_at names c.args.number) = named_at names c.args.number c.requires in
    let made : is_made rule target ≡ true
    = sym (c.is_made.ensures
    ∙ ap (λ (kind : Kind). not (is_pattern kind) && not (is_special c.name_at.result.now)) c.kind.ensures
    ∙ ap (λ (name : Text). not (is_pattern rule.kind) && not (is_special name)) c.name_at.ensures)
    ∙ c.if-not-is_made.false in
    let has : c.is_some.result ≡ is_some rule.recipe
    = c.is_some.ensures ∙ sym (is_some-map (λ (lines : Bor (List RecipeLine)). lines.now) c.recipe.result) ∙ ap is_some c.recipe.ensures in
    let old = c.args.spots.now.recipes in
    let new = c.note.new.self.recipes in
    on_ok_weaker c.note.result
    (λ (step : (other : ℕ) → list_at new other ≡ list_at old other ++ (if c.is_some.result then (if nat_eq other c.args.number then c.args.spot ∷ [] else []) else [])).
    target_noted names rule target c.args.number c.args.spot (is_some rule.recipe) old new c.len-count.ensures.differ there made
    (λ other. step other ∙ ap (λ (b : Bool). list_at old other ++ (if b then (if nat_eq other c.args.number then c.args.spot ∷ [] else []) else [])) has))
    c.note.ensures.recipes_noted
