-- Words cut at their first equals sign.
use Rattle.std.proofs.Common.{◌≡◌, ◌∙◌, ℕ, ◌<◌, List, [], ◌∷◌, length, refl, arith, ⊎_elim, ltb, true, false, Option, Some, None, MatchOption}
use Rattle.kati_args.proofs.Common.{cases_Bool, le-ltb, lt-ltb, Bor, position_or_len, after_first, is_equals}
use Rattle.std.proofs.lemmas.Bool.Decides.{nat_tests}
use Rattle.std.proofs.lemmas.Str.Pattern.{IsSplitOnceResult, split_once_first}
use Rattle.kati_args.specs.Args.{is_macro, name_before_equals}

has_equals : (word : List ℕ) → is_macro word ≡ ltb (position_or_len is_equals word) (length word)
has_equals [] = refl
has_equals (b ∷ bs) = grind (arith, ⊎_elim, lt-ltb, length, nat_tests, cases_Bool, has_equals bs)

cut_of : (word : List ℕ) (r : Option (Bor (List ℕ) × Bor (List ℕ)))
    → MatchOption r (position_or_len is_equals word ≡ length word)
    (λ cut. (position_or_len is_equals word < length word) × (cut.0.now ≡ name_before_equals word) × (cut.1.now ≡ after_first is_equals word))
    → MatchOption r (is_macro word ≡ false)
    (λ cut. (is_macro word ≡ true) × (cut.0.now ≡ name_before_equals word) × (cut.1.now ≡ after_first is_equals word))
cut_of word None none = has_equals word ∙ le-ltb _ _ (omega (arith, none))
cut_of word (Some cut) some = (has_equals word ∙ lt-ltb _ _ some.0, some.1, some.2)

pub cut_is : (word : List ℕ) (r : Option (Bor (List ℕ) × Bor (List ℕ))) → IsSplitOnceResult 61 word r
    → MatchOption r (is_macro word ≡ false)
    (λ cut. (is_macro word ≡ true) × (cut.0.now ≡ name_before_equals word) × (cut.1.now ≡ after_first is_equals word))
cut_is word r split = cut_of word r (split_once_first 61 word r split (omega arith))
