use Rattle.std.proofs.Common.{◌∙◌, ◌+◌, ◌<◌, ap, sym, subst, drop, length, arith}
use Rattle.kt_list.proofs.NameLemmas.{name_or}
use Rattle.kt_rules.proofs.Common.{KeepLengths, lengths_with}
use Rattle.kt_rules.proofs.lemmas.book.SuffixLemmas.{length_kept, lengths_at}
use Rattle.kt_rules.proofs.book.suffixes.note_lengths.Goals as goal

pub loop-number-preserved : goal.loop-number-preserved
loop-number-preserved c =
    let before = c.loop-number.lengths.keys in
    let name = c.name_at.result.now in
    let within : c.loop-number.number < length c.args.names.now = omega (arith, c.loop-number-test.true, c.len-number-end.ensures.len) in
    record {
      left = ap (λ lengths. lengths_with lengths (drop (c.loop-number.number + 1) c.args.names.now)) c.in_ok-insert.ensures.keys
          ∙ lengths_at before c.args.names.now c.loop-number.number name within (c.name_at.ensures ∙ name_or c.args.names.now c.loop-number.number name within)
          ∙ c.loop-number.invariant.left;
      kept = subst (KeepLengths c.args.lengths.now.keys) (sym c.in_ok-insert.ensures.keys)
          (length_kept c.args.lengths.now.keys before (length name) c.loop-number.invariant.kept);
    }
