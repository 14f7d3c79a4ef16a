use Rattle.std.proofs.Common.{◌≡◌, ◌∷◌, ◌+◌, ◌∙◌, ap, sym, arith, take, drop}
use Rattle.kt_ninja_reader.proofs.Common.{nil_from_length, cut_lines}
use Rattle.kt_ninja_reader.proofs.lemmas.ReaderLemmas.{left_after, length_before, next_bound, none_before, parts_cut}
use Rattle.kt_ninja_reader.proofs.ninja_read.part_at.Goals as goal

pub returns-in-None : goal.returns-in-None
returns-in-None c = sym c.lines_from-left.ensures ∙ nil_from_length c.lines_from-left.result.now c.in-None.ensures.cases

pub returns-in-Some : goal.returns-in-Some
returns-in-Some c =
    let lines = c.args.lines.now in
    let from = c.args.from in
    let head = c.in-Some.head.now in
    let after = c.in-Some.after.now in
    let n = c.body_length-length.result in
    let is : drop from lines ≡ head ∷ after = sym c.lines_from-left.ensures ∙ c.in-Some.ensures.cases.0 in
    let left : drop (from + 1 + n) lines ≡ drop n after = left_after head after lines from n is in
    let back : drop (from + 1 + n) lines ≡ drop (length_before after) after = left ∙ ap (λ k. drop k after) c.body_length-length.ensures.value in
    record {
      parts = parts_cut head after (drop from lines) (take n after) (drop (from + 1 + n) lines) is c.requires.begun (ap (λ k. take k after) c.body_length-length.ensures.value) back;
      begun = ap (λ l. (cut_lines l).before) back ∙ none_before after;
      more = omega arith;
      bound = next_bound head after lines from n is c.body_length-length.ensures.bound;
    }
