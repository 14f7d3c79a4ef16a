use Rattle.std.proofs.Common.{◌∙◌, List, ℕ, ap}
use Rattle.kt_list.specs.views.Names.{place_of}
use Rattle.kt_list.specs.inner.Hashes.{list_hash}
use Rattle.kt_list.proofs.ListLemmas.{number_is}
use Rattle.kt_list.proofs.lists.Lists.number_of.Goals as goal

pub returns-clause-place : goal.returns-clause-place
returns-clause-place c =
    number_is list_hash c.self.inside.lists c.self.inside.chains c.args.list.now c.self.invariant c.hash_of.result c.hash_of.ensures
    c.number_among.result c.number_among.ensures.found c.number_among.ensures.lacks
    ∙ ap (λ (all : List (List ℕ)). place_of all c.args.list.now) c.self.view_is
