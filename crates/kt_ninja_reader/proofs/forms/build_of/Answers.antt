use Rattle.std.proofs.Common.{◌∙◌, sym}
use Rattle.kt_ninja_reader.proofs.Common.{err_from_is_err_and, build_of, paths_of}
use Rattle.kt_ninja_reader.proofs.lemmas.LineLemmas.{sides_refused}
use Rattle.kt_ninja_reader.proofs.lemmas.PieceLemmas.{refuses_too}
use Rattle.kt_ninja_reader.proofs.forms.build_of.Goals as goal

pub returns-in_err-outs : goal.returns-in_err-outs
returns-in_err-outs c =
    let p = err_from_is_err_and c.from_residual-in_err-outs.result c.from_residual-in_err-outs.ensures.1 in
    let both = sym c.as_slice.ensures.value ∙ c.in-Some.ensures in
    rw (p.1, p.2)
    (refuses_too (paths_of c.in-Some.outs) (build_of c.args.line.now)
    (λ none. sides_refused c.args.line.now c.in-Some.outs c.in-Some.rest c.in_ok-sides.sides.items c.in_ok-sides.ensures both none)
    c.in_err-outs.field-0.0 c.in_err-outs.ensures)
