use Rattle.std.proofs.Common.{◌∙◌, List, ℕ, ap, is_some, sym}
use Rattle.kt_list.specs.Names.{is_among}
use Rattle.kt_list.specs.views.Names.{place_of}
use Rattle.kt_list.specs.inner.Hashes.{name_hash}
use Rattle.kt_list.proofs.ListLemmas.{number_if, number_is}
use Rattle.kt_list.proofs.names.Names.number_of.Goals as goal

pub returns-in_err-number_among-clause-place : goal.returns-in_err-number_among-clause-place
returns-in_err-number_among-clause-place c =
    c.from_residual.ensures ∙ sym c.in_err-number_among.was
    ∙ number_is name_hash c.self.inside.names c.self.inside.chains c.args.name.now c.self.invariant c.hash_of.result c.hash_of.ensures
    c.number_among.result c.number_among.ensures.found c.number_among.ensures.lacks
    ∙ ap (λ (all : List (List ℕ)). place_of all c.args.name.now) c.self.view_is

pub returns-clause-place : goal.returns-clause-place
returns-clause-place c =
    sym c.in_ok-number_among.was
    ∙ number_is name_hash c.self.inside.names c.self.inside.chains c.args.name.now c.self.invariant c.hash_of.result c.hash_of.ensures
    c.number_among.result c.number_among.ensures.found c.number_among.ensures.lacks
    ∙ ap (λ (all : List (List ℕ)). place_of all c.args.name.now) c.self.view_is

pub returns-clause-found : goal.returns-clause-found
returns-clause-found c =
    sym (ap is_some c.in_ok-number_among.was)
    ∙ number_if name_hash c.self.inside.names c.self.inside.chains c.args.name.now c.self.invariant c.hash_of.result c.hash_of.ensures
    c.number_among.result c.number_among.ensures.found c.number_among.ensures.lacks
    ∙ ap (λ (all : List (List ℕ)). is_among all c.args.name.now) c.self.view_is
