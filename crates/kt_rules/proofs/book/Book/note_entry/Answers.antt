use Rattle.std.proofs.Common.{◌∙◌, ◌++◌, ◌&&◌, ◌∷◌, [], List, sym, ap, map, filter, ℕ, if◌then◌else◌}
use Rattle.kt_rules.proofs.Common.{bytes_eq, append_assoc, Target, is_explicit, suffixes_of, entry_view, target_view, targets_view}
use Rattle.kt_rules.specs.views.Indexes.{noted_at}
use Rattle.kt_rules.proofs.lemmas.book.NumberLemmas.{numbers_left}
use Rattle.kt_rules.proofs.book.Book.note_entry.Goals as goal

pub loop-target-preserved : goal.loop-target-preserved
loop-target-preserved c = λ name.
    let target = target_view c.in-Some.target in
    let test = λ (target : Target). bytes_eq name target.name && is_explicit (suffixes_of c.args.self.now) (entry_view c.args.entry, target) in
    let own : List ℕ = if test target then c.args.number ∷ [] else [] in
    let rest : List ℕ = map (λ (target : Target). c.args.number) (filter test (targets_view c.next.new.self)) in
    ap (λ (numbers : List ℕ). numbers ++ rest) (c.in_ok-note_rule.ensures name)
    ∙ append_assoc (noted_at c.loop-target.index name) own rest
    ∙ ap (λ (numbers : List ℕ). noted_at c.loop-target.index name ++ numbers)
    (sym (numbers_left test c.args.number (targets_view c.loop-target.target-iterator) (targets_view c.next.new.self) target c.in-Some.ensures.steps))
    ∙ c.loop-target.invariant name
