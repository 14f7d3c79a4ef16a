use Rattle.std.proofs.Common.{◌∙◌, ap, sym, subst, length}
use Rattle.kt_rules.proofs.Common.{Text, KeepLengths, with_number, needed_view, names_view}
use Rattle.kt_rules.proofs.lemmas.book.SuffixLemmas.{length_kept, lengths_left}
use Rattle.kt_rules.proofs.book.suffixes.note_needed.Goals as goal

pub loop-name-preserved-in_ok-insert : goal.loop-name-preserved-in_ok-insert
loop-name-preserved-in_ok-insert c =
    let before = c.loop-name.lengths.keys in
    let name = needed_view c.in-Some.name in
    let is = c.in_ok-insert.ensures.keys ∙ ap (λ (text : Text). with_number before (length text)) (c.as_slice.ensures.value ∙ c.in_ok-text.ensures) in
    record {
      left = lengths_left before c.insert.new.self.keys (names_view c.loop-name.name-iterator) (names_view c.next.new.self) name is c.in-Some.ensures.steps
          ∙ c.loop-name.invariant.left;
      kept = subst (KeepLengths c.args.lengths.now.keys) (sym is)
          (length_kept c.args.lengths.now.keys before (length name) c.loop-name.invariant.kept);
    }

pub loop-name-preserved : goal.loop-name-preserved
loop-name-preserved c =
    let before = c.loop-name.lengths.keys in
    let name = needed_view c.in-Some.name in
    let is = c.in_ok-insert.ensures.keys ∙ ap (λ (text : Text). with_number before (length text)) (c.as_slice.ensures.value ∙ c.in_ok-text.ensures) in
    record {
      left = lengths_left before c.insert.new.self.keys (names_view c.loop-name.name-iterator) (names_view c.next.new.self) name is c.in-Some.ensures.steps
          ∙ c.loop-name.invariant.left;
      kept = subst (KeepLengths c.args.lengths.now.keys) (sym is)
          (length_kept c.args.lengths.now.keys before (length name) c.loop-name.invariant.kept);
    }
