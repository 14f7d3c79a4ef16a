use Rattle.std.proofs.Common.{rules, ◌≡◌, ◌++◌, ◌∷◌, [], List, Vec, Global, ap, ◌∙◌, OnErr, OnOk, if◌then◌else◌}
use Rattle.kt_rules.proofs.Common.{on_err_weaker, on_ok_weaker, bytes_eq, Text}
use Rattle.indexmap.specs.Entry.{entry_value, map_with_value}
use Rattle.kt_rules.specs.views.Indexes.{noted_at, noted_in}
use Rattle.kt_rules.proofs.lemmas.IndexLemmas.{found_or_none, kept, noted_by, items_of}
use Rattle.kt_rules.proofs.index.Index.note.Goals as goal

pub returns-clause-noted : goal.returns-clause-noted
returns-clause-noted g c =
    let before = ap (λ (v : Vec _ Global). v.items) c.or_insert-noted.ensures.value
    ∙ found_or_none (entry_value c.in_ok-self.field-0) c.new.result c.new.ensures.items ∙ ap items_of c.in_ok-self.ensures.value in
    let updates = c.in_ok-self.ensures.update.0 c.add.new.items in
    let all : OnOk c.add.result ((other : Text) → noted_in (map_with_value c.in_ok-self.field-0 c.add.new.items).entries other
    ≡ noted_at c.args.self.now other ++ (if bytes_eq other c.args.name.now then c.args.item ∷ [] else []))
    = on_ok_weaker c.add.result
    (λ added. noted_by _ _ c.in_ok-key.key c.args.name.now c.add.new.items (c.args.item ∷ []) c.in_ok-key.ensures.same updates.3 updates.1
    (added ∙ ap (λ (xs : List _). xs ++ c.args.item ∷ []) before)) c.add.ensures.added in
    search rules

pub returns-clause-refused : goal.returns-clause-refused
returns-clause-refused g c =
    let before = ap (λ (v : Vec _ Global). v.items) c.or_insert-noted.ensures.value
    ∙ found_or_none (entry_value c.in_ok-self.field-0) c.new.result c.new.ensures.items ∙ ap items_of c.in_ok-self.ensures.value in
    let updates = c.in_ok-self.ensures.update.0 c.add.new.items in
    let all : OnErr c.add.result ((other : Text) → noted_in (map_with_value c.in_ok-self.field-0 c.add.new.items).entries other
    ≡ noted_at c.args.self.now other)
    = on_err_weaker c.add.result
    (λ same. kept _ _ c.in_ok-key.key c.add.new.items updates.3 updates.1 (same ∙ before)) c.add.ensures.refused in
    search rules
