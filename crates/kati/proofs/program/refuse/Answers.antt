use Rattle.std.proofs.Common.{◌++◌, codes, refl, subst}
use Rattle.kt_text.specs.Words.{Text}
use Rattle.kati.specs.ErrorOutput.{GivesHelp, WritesOrFails}
use Rattle.kati.proofs.program.refuse.Goals as goal

pub returns-in-Help : goal.returns-in-Help
returns-in-Help g c = rw c.in-Help.is
    (subst (λ (text : Text). GivesHelp (c.args.lead.now ++ text) c.give_help.result (g.O.Sink.seen c.args.out.now) (g.O.Sink.seen c.give_help.new.out)
    (g.E.Sink.seen c.args.err.now) (g.E.Sink.seen c.give_help.new.err)) c.as_str.ensures.value c.give_help.ensures)

pub returns-in-BadMacro : goal.returns-in-BadMacro
returns-in-BadMacro g c = rw c.in-BadMacro.is (
  refl,
  refl,
  subst (λ (word : Text). WritesOrFails (codes "kati: bad macro " ++ (word ++ codes "\n")) (g.E.Sink.seen c.args.err.now) (g.E.Sink.seen c.tell_line.new.err))
      c.as_str-in-BadMacro.ensures.value c.tell_line.ensures.told,
)
