-- The suffixes that are known at the start.
use Rattle.std.proofs.Common.{◌≡◌, [], fold, refl}
use Rattle.kt_rules.proofs.Common.{is_separator, words_of, with_name, start_suffixes}

-- they have no repeats
pub start_distinct : fold with_name [] start_suffixes ≡ start_suffixes
unfolding start_suffixes words_of is_separator
start_distinct = refl
