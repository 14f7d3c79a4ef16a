use Rattle.std.proofs.Common.{◌++◌, ap, sym, ◌∙◌}
use Rattle.kt_ninja_reader.proofs.Common.{list_all, State, add_defaults, is_among}
use Rattle.kt_ninja_reader.proofs.lemmas.StateLemmas.{defaults_added}
use Rattle.kt_ninja_reader.proofs.state.State.with_defaults.Goals as goal

pub returns : goal.returns
returns c =
    let held = c.self.inside in
    let state : State = record { file = held.file; rules = held.rules; pending = held.pending; defaults = held.defaults.items } in
    ap (λ s. add_defaults s c.args.names) (sym c.self.view_is)
    ∙ defaults_added state c.args.names c.append.new.self.items
    (ap (λ outs. list_all (is_among outs) c.args.names) (sym c.self.invariant) ∙ ap (list_all (is_among held.outs)) (sym c.as_slice.ensures) ∙ sym c.all_among.ensures ∙ c.if-not-all_among.false)
    (c.in_ok-append.ensures.items ∙ ap (λ l. held.defaults.items ++ l) c.into_vec-names.ensures)
