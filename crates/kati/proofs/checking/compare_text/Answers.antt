use Rattle.std.proofs.Common.{◌∙◌, ap, inl, refl, sym}
use Rattle.kt_ninja_reader.specs.NinjaRead.{ninja_read}
use Rattle.kt_ninja_reader.proofs.lemmas.PrintThenRead.{printed_is_read}
use Rattle.kati.specs.inner.plan.Shown.{plan_view}
use Rattle.kati.proofs.checking.compare_text.Goals as goal

pub returns-then-is_text_of-clause-checks : goal.returns-then-is_text_of-clause-checks
returns-then-is_text_of-clause-checks c =
    inl (refl, ap ninja_read (sym (c.is_text_of.ensures.quick c.if-is_text_of.true)) ∙ printed_is_read (plan_view c.args.plan.now) c.requires)
