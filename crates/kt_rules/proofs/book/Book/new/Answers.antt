use Rattle.std.proofs.Common.{◌≤◌, List, length, ap, subst, sym, arith}
use Rattle.kt_rules.proofs.Common.{Text, Spot, Entry, spots_at}
use Rattle.kt_rules.proofs.lemmas.book.BookLemmas.{kept_made}
use Rattle.kt_rules.proofs.book.Book.new.Goals as goal

pub invariant_of-result : goal.invariant_of-result
invariant_of-result c =
    let rules = c.new-rules.result in
    let spots = c.new-spots.result in
    record {
      kept = kept_made rules.1 (rules.0, spots.targets) (rules.0, spots.recipes) c.new-phony.result c.in_ok-suffixes.suffixes
          (ap (λ (r : List Text × List Entry). r.1) c.new-rules.ensures)
          (λ name. ap (λ (r : List Text × List Entry). spots_at (r.0, spots.targets) name) c.new-rules.ensures)
          (λ name. ap (λ (r : List Text × List Entry). spots_at (r.0, spots.recipes) name) c.new-rules.ensures)
          c.new-phony.ensures c.in_ok-suffixes.ensures;
      targets_within = subst (λ (lists : List (List Spot)). length lists ≤ length rules.0) (sym c.new-spots.ensures.targets) (omega arith);
      recipes_within = subst (λ (lists : List (List Spot)). length lists ≤ length rules.0) (sym c.new-spots.ensures.recipes) (omega arith);
    }
