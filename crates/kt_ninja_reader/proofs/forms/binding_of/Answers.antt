use Rattle.std.proofs.Common.{arith}
use Rattle.kt_ninja_reader.proofs.Common.{err_from_is_err_and}
use Rattle.kt_ninja_reader.proofs.lemmas.LineLemmas.{binding_none, binding_read, binding_refused}
use Rattle.kt_ninja_reader.proofs.lemmas.PieceLemmas.{refuses_too}
use Rattle.kt_ninja_reader.proofs.forms.binding_of.Goals as goal

pub returns-in_default : goal.returns-in_default
returns-in_default c = binding_none c.args.line.now c.in_default.ensures.cut

pub returns-in_err-key : goal.returns-in_err-key
returns-in_err-key c = grind (arith, err_from_is_err_and, refuses_too, binding_refused)

pub returns : goal.returns
returns c =
    binding_read c.args.line.now c.in-Some.front c.in-Some.value c.without_lead.result c.in_ok-key.field-0.now c.in-Some.ensures.cut.0 c.in-Some.ensures.cut.1 c.in_ok-key.ensures c.without_lead.ensures
