use Rattle.std.proofs.Common.{◌++◌, codes, sym, ap, ◌∙◌}
use Rattle.std.specs.Option.{option_copied_mut}
use Rattle.indexmap.proofs.MapLemmas.{OnOk-map}
use Rattle.kt_eval.proofs.Common.{Macro, put}
use Rattle.kt_eval.proofs.lemmas.macros.TableLemmas.{set_entries}
use Rattle.kt_eval.proofs.macros.Macros.append.Goals as goal

pub returns-in-Some : goal.returns-in-Some
returns-in-Some c =
    let longer : Macro → Macro = λ m. record m { value = (m.value ++ codes " ") ++ c.args.text.now } in
    OnOk-map c.append.result _ _
    (λ e. (c.get_mut.follows.holds c.append.new.self).0
    ∙ set_entries c.args.name.now c.self.inside.entries.entries c.append.new.self c.in-Some.entry.now (sym c.get_mut.ensures.value ∙ ap option_copied_mut c.in-Some.is)
    ∙ (λ i. put c.args.name.now ((e ∙ ap longer c.of_makefile-longer.ensures) i) (c.self.view_is i)))
    c.append.ensures
