use Rattle.std.proofs.Common.{◌≡◌, ◌++◌, ◌∷◌, [], List, ap, subst, sym, true, ◌∙◌, if◌then◌else◌, Some, is_some}
use Rattle.kt_graph.proofs.Common.{bytes_eq, Text, held_for, made_names, several_in, canon_of, on_ok_weaker}
use Rattle.kt_graph.proofs.lemmas.faults.FileLemmas.{files_with, made_one}
use Rattle.kt_graph.proofs.faults.files.FileSpellings.add.Goals as goal

pub returns : goal.returns
returns c =
    let one : made_names (c.args.node.now ∷ []) ≡ c.args.node.now.name ∷ [] = made_one c.args.node.now true (sym c.is_made.ensures ∙ c.if-not-is_made.false) in
    on_ok_weaker c.add_file.result
    (λ (added : (other : Text) → held_for c.add_file.new.self.several.entries other
    ≡ (if bytes_eq other c.from.result then Some (is_some (held_for c.args.self.now.several.entries c.from.result))
    else held_for c.args.self.now.several.entries other)) names held.
    subst (λ (more : List Text). (file : Text) → held_for c.add_file.new.self.several.entries file ≡ several_in (names ++ more) file) (sym one)
    (files_with c.args.self.now.several.entries c.add_file.new.self.several.entries names c.args.node.now.name c.from.result
    (c.from.ensures ∙ c.in_ok-file.ensures ∙ ap canon_of c.name.ensures) added held))
    c.add_file.ensures
