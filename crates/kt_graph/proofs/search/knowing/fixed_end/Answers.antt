use Rattle.std.proofs.Common.{◌-◌, length, take, sym, ◌∙◌, arith, take-append-drop, length-drop}
use Rattle.kt_graph.proofs.Common.{take_rest, Text}
use Rattle.kt_graph.proofs.search.knowing.fixed_end.Goals as goal

pub returns : goal.returns
returns c = record {
  quick =
      let text : Text = c.args.text.now in
      let rest = take_rest text (length text - 2) in
      record {
        front = take (length text - 2) text;
        cut = rw rest (sym (take-append-drop (length text - 2) text));
        two = rw rest (omega (arith, c.if-text-lt2.false, length-drop (length text - 2) text));
        plain = sym c.has_slash.ensures ∙ c.if-has_slash.false;
      };
}
