-- Lines and their parts, in the code's own types (kati's own).
use Rattle.std.specs.Prelude.{◌==◌, Bool, true, [], ◌∷◌, Option, Some, None, option_map, Result, Ok, Err}
use Rattle.kt_syntax.specs.Prelude.{Text}
use Rattle.kt_syntax.specs.declared.heads.RuleParts.{RuleParts as HeldRuleParts}
use Rattle.kt_syntax.specs.declared.heads.TargetSpecific.{TargetSpecific}
use Rattle.kt_syntax.specs.Heads.{RuleParts}
use Rattle.kt_syntax.specs.declared.form.Form.{Form as HeldForm}
use Rattle.kt_syntax.specs.declared.form.Form.TheVariants as told
use Rattle.kt_syntax.specs.Kinds.{Form, blank, refused, directive, assignment, rule}

-- whether a text is empty or begins with its comment, before which not even a blank stands
abbrev pub begins_comment : Text → Bool
begins_comment [] = true
begins_comment (byte ∷ text) = byte == 35

-- the parts of a rule line, or none if it is a target-specific macro
abbrev pub texts_view : Result HeldRuleParts TargetSpecific → Option RuleParts
texts_view (Ok parts) = Some (record { head = parts.head.now; recipe = option_map (λ recipe. recipe.now) parts.recipe })
texts_view (Err fault) = None

-- what a line is
abbrev pub line_form_view : HeldForm → Form
line_form_view told.Blank = blank
line_form_view (told.Assignment name operator value) = assignment name.now operator value.now
line_form_view (told.Directive word rest) = directive word rest.now
line_form_view (told.Refused word) = refused word.now
line_form_view told.Rule = rule
