use Rattle.std.proofs.Common.{◌≡◌, ◌∙◌, ◌++◌, ◌∷◌, [], List, ℕ, ap, length, slice_get, sym}
use Rattle.kt_list.specs.Names.{is_among, with_name}
use Rattle.kt_list.specs.views.Names.{place_of}
use Rattle.kt_list.specs.inner.Hashes.{list_hash}
use Rattle.kt_list.proofs.general.Results.{on_err}
use Rattle.kt_list.proofs.ListLemmas.{adds, lacking, last_pushed, number_is, one_more, placed}
use Rattle.kt_list.proofs.lists.Lists.add.Goals as goal

pub returns-in_err-number-in-None-clause-lacking : goal.returns-in_err-number-in-None-clause-lacking
returns-in_err-number-in-None-clause-lacking c =
    on_err c.from_residual.result (sym (ap (λ (all : List (List ℕ)). is_among all c.args.list.now) c.self.view_is)
    ∙ lacking list_hash c.self.inside.lists c.self.inside.chains c.args.list.now c.self.invariant c.hash_of-hash.result c.hash_of-hash.ensures
    c.in-None.ensures.lacks)

pub returns-in_err-put-in-None-clause-lacking : goal.returns-in_err-put-in-None-clause-lacking
returns-in_err-put-in-None-clause-lacking c =
    on_err c.from_residual-in_err-put-in-None.result (sym (ap (λ (all : List (List ℕ)). is_among all c.args.list.now) c.self.view_is)
    ∙ lacking list_hash c.self.inside.lists c.self.inside.chains c.args.list.now c.self.invariant c.hash_of-hash.result c.hash_of-hash.ensures
    c.in-None.ensures.lacks)

pub invariant_of-self-in-None : goal.invariant_of-self-in-None
invariant_of-self-in-None c =
    let new = lacking list_hash c.self.inside.lists c.self.inside.chains c.args.list.now c.self.invariant c.hash_of-hash.result c.hash_of-hash.ensures
    c.in-None.ensures.lacks in
    one_more list_hash c.self.inside.lists c.put.new.rows c.self.inside.chains c.put.new.chains c.args.list.now c.hash_of-hash.result
    c.self.invariant new c.hash_of-hash.ensures c.in_ok-put-in-None.ensures.added c.in_ok-put-in-None.ensures.hashed

pub returns-in-Some-clause-numbered : goal.returns-in-Some-clause-numbered
returns-in-Some-clause-numbered c =
    sym c.in-Some.is
    ∙ number_is list_hash c.self.inside.lists c.self.inside.chains c.args.list.now c.self.invariant c.hash_of-hash.result c.hash_of-hash.ensures
    c.number_among.result c.number_among.ensures.found c.number_among.ensures.lacks
    ∙ ap (λ (all : List (List ℕ)). place_of all c.args.list.now) c.self.view_is

pub returns-in_ok-put-in-None-clause-numbered : goal.returns-in_ok-put-in-None-clause-numbered
returns-in_ok-put-in-None-clause-numbered c =
    let new = lacking list_hash c.self.inside.lists c.self.inside.chains c.args.list.now c.self.invariant c.hash_of-hash.result c.hash_of-hash.ensures
    c.in-None.ensures.lacks in
    let once = one_more list_hash c.self.inside.lists c.put.new.rows c.self.inside.chains c.put.new.chains c.args.list.now c.hash_of-hash.result
    c.self.invariant new c.hash_of-hash.ensures c.in_ok-put-in-None.ensures.added c.in_ok-put-in-None.ensures.hashed in
    let next : c.in_ok-number-in-None.number ≡ length c.self.inside.lists = c.in_ok-number-in-None.ensures.same ∙ c.len.ensures.len in
    sym (placed c.put.new.rows c.args.list.now c.in_ok-number-in-None.number once.1
    (ap (λ (rows : List (List ℕ)). slice_get rows c.in_ok-number-in-None.number) c.in_ok-put-in-None.ensures.added
    ∙ ap (λ (n : ℕ). slice_get (c.self.inside.lists ++ c.args.list.now ∷ []) n) next ∙ last_pushed c.self.inside.lists c.args.list.now))

pub returns-in_ok-put-in-None-clause-added : goal.returns-in_ok-put-in-None-clause-added
returns-in_ok-put-in-None-clause-added c =
    let new = lacking list_hash c.self.inside.lists c.self.inside.chains c.args.list.now c.self.invariant c.hash_of-hash.result c.hash_of-hash.ensures
    c.in-None.ensures.lacks in
    c.in_ok-put-in-None.ensures.added ∙ adds c.self.inside.lists c.args.list.now new
    ∙ ap (λ (all : List (List ℕ)). with_name all c.args.list.now) c.self.view_is
