use Rattle.std.proofs.Common.{◌+◌, ◌<◌, ◌∙◌, ◌&&◌, length, drop, sym, ap, arith}
use Rattle.kt_graph.proofs.Common.{list_all, is_among, needed_name, needed_names}
use Rattle.kt_graph.proofs.lemmas.search.UnknownLemmas.{known_past, known_step}
use Rattle.kt_graph.proofs.search.knowing.knows_each.Goals as goal

pub returns-then-not-branch : goal.returns-then-not-branch
returns-then-not-branch c =
    let known = c.args.known.now in
    let directory = c.args.stemming.directory.now in
    let stem = c.args.stemming.stem.now in
    let i = c.loop-name.name-index in
    let h : i < length c.args.names.now = omega arith in
    sym (sym c.loop-name.invariant
    ∙ known_step known directory stem c.args.names.now i c.name-item.result c.in_ok-knows.field-0 h c.name-item.is
    (c.in_ok-knows.ensures ∙ ap (λ text. is_among known (needed_name directory stem text)) c.as_slice.ensures)
    ∙ ap (λ b. b && list_all (is_among known) (needed_names directory stem (drop (i + 1) c.args.names.now))) c.if-not-branch.true)

pub loop-name-preserved : goal.loop-name-preserved
loop-name-preserved c =
    let known = c.args.known.now in
    let directory = c.args.stemming.directory.now in
    let stem = c.args.stemming.stem.now in
    let i = c.loop-name.name-index in
    let h : i < length c.args.names.now = omega arith in
    sym (ap (λ b. b && list_all (is_among known) (needed_names directory stem (drop (i + 1) c.args.names.now))) c.if-not-branch.false)
    ∙ sym (known_step known directory stem c.args.names.now i c.name-item.result c.in_ok-knows.field-0 h c.name-item.is
    (c.in_ok-knows.ensures ∙ ap (λ text. is_among known (needed_name directory stem text)) c.as_slice.ensures))
    ∙ c.loop-name.invariant

pub returns : goal.returns
returns c = grind (arith, known_past)
