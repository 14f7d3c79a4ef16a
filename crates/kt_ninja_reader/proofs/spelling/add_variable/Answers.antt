use Rattle.kt_ninja_reader.proofs.lemmas.SpelledParts.{byte_names, variable_name}
use Rattle.kt_ninja_reader.proofs.spelling.add_variable.Goals as goal

pub returns-in_ok-push : goal.returns-in_ok-push
returns-in_ok-push c = rw (c.in-Variable.is, c.in_ok-push.ensures.items) (variable_name c.args.names.now.items c.in-Variable.name)

pub returns-in_default : goal.returns-in_default
returns-in_default c = rw c.in_default.is (byte_names c.args.names.now.items c.in_default.field-0)
