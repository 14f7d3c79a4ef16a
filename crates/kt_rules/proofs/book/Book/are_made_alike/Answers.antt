use Rattle.std.proofs.Common.{◌≡◌, ◌∙◌, ◌&&◌, List, ap, is_some, map, refl, sym}
use Rattle.kt_rules.proofs.Common.{list_any, Text, Spot, explicit_rules, rule_needs, explicit_left, spots_at, suffix_patterns, is_bare_at}
use Rattle.kt_rules.specs.inner.Lists.{Notes}
use Rattle.kt_rules.proofs.lemmas.book.GoalLemmas.{explicit_by_spots}
use Rattle.kt_rules.proofs.book.Book.are_made_alike.Goals as goal

pub returns : goal.returns
returns c = record {
  quick = λ alike.
      let rules = c.self.inside.rules in
      let targets : Notes = (rules.0, c.self.inside.spots.targets) in
      let suffixes : List Text = c.self.inside.suffixes in
      let skips = λ (name : Text) (spots : List Spot). list_any (is_bare_at rules.1) spots && is_some (suffix_patterns suffixes name) in
      let told : (name : Text) (spots : List Spot) → spots ≡ spots_at targets name
      → explicit_left (skips name spots) rules.1 spots ≡ explicit_rules c.args.self.now name
      = λ name spots is. explicit_by_spots rules.1 targets (rules.0, c.self.inside.spots.recipes) c.self.inside.phony suffixes c.self.invariant.kept
      c.args.self.now c.self.view_is name (skips name spots) rules.1 spots refl refl is in
      let spots = c.spots_by_number-spots.result.now in
      let others = c.spots_by_number-others.result.now in
      sym (ap (map rule_needs) (told c.args.name.now spots c.spots_by_number-spots.ensures))
      ∙ c.need_same.ensures.quick alike (skips c.args.name.now spots) (skips c.args.other.now others)
      ∙ ap (map rule_needs) (told c.args.other.now others c.spots_by_number-others.ensures);
}
