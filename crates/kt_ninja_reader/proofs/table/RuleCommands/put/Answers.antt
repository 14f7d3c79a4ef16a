use Rattle.std.proofs.Common.{map, ap, ◌∙◌}
use Rattle.kt_ninja_reader.specs.Scopes.{put_in}
use Rattle.kt_ninja_reader.proofs.lemmas.TableLemmas.{put_in_borrowed}
use Rattle.kt_ninja_reader.proofs.table.RuleCommands.put.Goals as goal

pub returns : goal.returns
returns c =
    ap (λ es. map (λ e. (e.0.0.now, e.1)) es) (c.in_ok-insert.ensures.entries)
    ∙ put_in_borrowed _ _ c.args.command
    ∙ ap (λ es. put_in es c.args.name.now c.args.command) c.self.view_is
