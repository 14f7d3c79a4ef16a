use Rattle.std.proofs.Common.{◌∙◌, refl}
use Rattle.kt_rules.proofs.lemmas.book.GoalLemmas.{explicit_by_spots}
use Rattle.kt_rules.proofs.book.Book.explicit_at.Goals as goal

pub returns : goal.returns
returns c =
    let rules = c.self.inside.rules in
    c.new.ensures
    ∙ explicit_by_spots rules.1 (rules.0, c.self.inside.spots.targets) (rules.0, c.self.inside.spots.recipes) c.self.inside.phony c.self.inside.suffixes c.self.invariant.kept
    c.args.self.now c.self.view_is c.args.name.now
    c.skips_bare.result rules.1 c.spots_by_number-spots.result.now c.skips_bare.ensures refl c.spots_by_number-spots.ensures
