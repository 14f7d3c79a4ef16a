use Rattle.std.proofs.Common.{◌++◌, ◌+◌, ap, sym, ◌∙◌, drop, option_map, arith}
use Rattle.kt_ninja_reader.proofs.Common.{drop_all, err_from_is_err_and, paths_in, value_within}
use Rattle.kt_ninja_reader.specs.inner.Holding.{path_in}
use Rattle.kt_ninja_reader.proofs.lemmas.PieceLemmas.{refuses_too}
use Rattle.kt_ninja_reader.proofs.lemmas.StateLemmas.{left_at, path_refused, path_taken, paths_end}
use Rattle.kt_ninja_reader.proofs.paths.paths_within.Goals as goal

pub returns-in_err-path : goal.returns-in_err-path
returns-in_err-path c =
    let p = err_from_is_err_and c.from_residual-in_err-path.result c.from_residual-in_err-path.ensures.1 in
    let i = c.loop-spelling.spelling-index in
    let value_of = value_within c.args.scopes.block.now c.args.scopes.file.now in
    let front = c.loop-spelling.names.items in
    let left = left_at c.args.paths.now i c.spelling-item.result (omega (arith, c.loop-spelling-test.true)) c.spelling-item.is in
    rw (p.1, p.2)
    (refuses_too (path_in value_of c.spelling-item.result) (paths_in value_of c.args.paths.now)
    (λ none. sym c.loop-spelling.invariant ∙ ap (λ d. option_map (λ more. front ++ more) (paths_in value_of d)) left
    ∙ path_refused value_of front c.spelling-item.result (drop (i + 1) c.args.paths.now) none)
    c.in_err-path.field-0.0 c.in_err-path.ensures)

pub loop-spelling-preserved : goal.loop-spelling-preserved
loop-spelling-preserved c =
    let i = c.loop-spelling.spelling-index in
    let value_of = value_within c.args.scopes.block.now c.args.scopes.file.now in
    let front = c.loop-spelling.names.items in
    let left = left_at c.args.paths.now i c.spelling-item.result (omega (arith, c.loop-spelling-test.true)) c.spelling-item.is in
    rw c.in_ok-push.ensures.items
    (sym (path_taken value_of front c.spelling-item.result (drop (i + 1) c.args.paths.now) c.in_ok-path.field-0 c.in_ok-path.ensures)
    ∙ ap (λ d. option_map (λ more. front ++ more) (paths_in value_of d)) (sym left)
    ∙ c.loop-spelling.invariant)

pub returns : goal.returns
returns c =
    let value_of = value_within c.args.scopes.block.now c.args.scopes.file.now in
    let front = c.loop-spelling.names.items in
    rw c.from.ensures
    (sym c.loop-spelling.invariant
    ∙ ap (λ d. option_map (λ more. front ++ more) (paths_in value_of d)) (drop_all c.loop-spelling.spelling-index c.args.paths.now (omega (arith, c.loop-spelling-test.false)))
    ∙ paths_end value_of front)
