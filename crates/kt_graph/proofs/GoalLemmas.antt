-- The goals of a command line, word by word.
use Rattle.std.proofs.Common.{arith, ◌≡◌, ℕ, List, ◌+◌, ◌<◌, length, get_or, drop, fold, map}
use Rattle.kt_graph.proofs.Common.{drop_more, Text, with_name, without_dots, without_repeats}
use Rattle.kt_graph.specs.Goals.{named_goals}

-- what the definition of the named goals is made of, opened under one name
unfoldable pub goals_open : Unit {0}
unfolding named_goals without_repeats
goals_open = tt

-- one more of the words of a command line
pub word_more : (goals more : List Text) (words : List Text) (i : ℕ) (word : Text) → i < length words → word ≡ get_or words i word
    → more ≡ with_name goals (without_dots word)
    → fold with_name more (map without_dots (drop (i + 1) words)) ≡ fold with_name goals (map without_dots (drop i words))
word_more goals more words i word within is grown = grind (arith, drop_more)
