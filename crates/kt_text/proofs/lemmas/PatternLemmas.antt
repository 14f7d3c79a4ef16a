-- Patterns as a set of literal ones and a list of others, pattern by pattern.
use Rattle.std.proofs.Common.{arith, ◌≡◌, Bool, true, false, cond, ◌||◌, List, [], ◌∷◌, ◌++◌}
use Rattle.kt_text.proofs.Common.{Bor, list_any, list_any-append, Text, matches_held, matches_some, matches_word}
use Rattle.std.specs.Str.{bytes_eq}
use Rattle.kt_text.specs.Match.{has_percent}

or_wildcard : (a w t r : Bool) → (a || (w || (t || false))) || r ≡ (a || w) || (t || r)
or_wildcard a w t r = grind arith

or_literal : (a b w r : Bool) → (cond b true a || w) || r ≡ (a || w) || (b || r)
or_literal a b w r = grind arith

pub wildcard_more : (literals wildcards : List (Bor Text)) (pattern : Bor Text) (word : Text) (rest : List Text) → has_percent pattern.now ≡ true
    → matches_held literals (wildcards ++ pattern ∷ []) word || matches_some rest word ≡ matches_held literals wildcards word || matches_some (pattern.now ∷ rest) word
unfolding matches_word
wildcard_more literals wildcards pattern word rest has = grind (arith, list_any-append, or_wildcard)

pub literal_more : (old new wildcards : List (Bor Text)) (pattern : Bor Text) (word : Text) (rest : List Text) → has_percent pattern.now ≡ false
    → list_any (λ (k : Bor Text). bytes_eq word k.now) new ≡ cond (bytes_eq pattern.now word) true (list_any (λ (k : Bor Text). bytes_eq word k.now) old)
    → matches_held new wildcards word || matches_some rest word ≡ matches_held old wildcards word || matches_some (pattern.now ∷ rest) word
unfolding matches_word
literal_more old new wildcards pattern word rest plain grown = grind (arith, or_literal)
