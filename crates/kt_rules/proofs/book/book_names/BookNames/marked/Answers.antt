use Rattle.std.proofs.Common.{arith, ◌≡◌, ℕ, false, Option, Some, None, get_or, option_map, unwrap_or, refl}
use Rattle.kt_rules.proofs.Common.{Text, is_among, Marks}
use Rattle.kt_rules.specs.inner.Marks.{mark_at}
use Rattle.kt_rules.proofs.book.book_names.BookNames.marked.Goals as goal

told : (marks : Marks) (name : Text) (place : Option ℕ)
    → mark_at marks name place ≡ unwrap_or (option_map (λ number. get_or marks.numbers.items number false) place) (is_among marks.others name)
told marks name (Some number) = refl
told marks name None = refl

pub returns : goal.returns
returns c = grind (arith, told)
