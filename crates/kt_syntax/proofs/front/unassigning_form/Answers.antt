use Rattle.std.proofs.Common.{◌∙◌, sym}
use Rattle.kt_syntax.proofs.lemmas.LeadingForms.{form_worded}
use Rattle.kt_syntax.proofs.front.unassigning_form.Goals as goal

pub returns : goal.returns
returns c = record {
  quick =
      c.form_by_word.ensures
      ∙ form_worded c.args.word.now c.args.after.now c.args.rest.now c.args.tab c.requires.quiet c.requires.some c.requires.rest c.requires.none
      (sym c.is_apart.ensures ∙ c.if-not-is_apart.false) (sym c.begins_slash.ensures ∙ c.if-begins_slash.false);
}
