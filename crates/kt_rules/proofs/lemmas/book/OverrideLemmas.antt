-- Warnings on targets that get a second recipe, told once their rule has its numbers.
use Rattle.std.proofs.Common.{◌≡◌, Bool, true, ◌&&◌, if◌then◌else◌, List, [], ◌∷◌, ◌++◌, filter, map, is_some, refl, ap, ◌∙◌}
use Rattle.kt_rules.proofs.Common.{list_any, HoldsAll, Text, Spot, Target, Entry, first_found, first_of, made_targets, override_message, recipes_of, spots_at}
use Rattle.kt_list.specs.views.Prefixes.{HasMore}
use Rattle.kt_rules.specs.Book.{override_messages}
use Rattle.kt_rules.specs.inner.Slots.{noted_messages}
use Rattle.kt_rules.specs.Suffixes.{is_single}
use Rattle.kt_rules.proofs.lemmas.book.BookLemmas.{holds_grown}
use Rattle.kt_rules.proofs.lemmas.book.SpotLemmas.{found-before}

any_first : {A : Type 0} (xs : List A) → is_some (first_of xs) ≡ list_any (λ x. true) xs
any_first [] = refl
any_first (x ∷ xs) = refl

same_filter : {A : Type 0} (f g : A → Bool) (xs : List A) → ((x : A) → f x ≡ g x) → filter f xs ≡ filter g xs
same_filter f g [] same = refl
same_filter f g (x ∷ xs) same = rw (same x, same_filter f g xs same) refl

-- a rule that a book got, with its names, and the spots before it
module _ (old pushed : List Text × List Entry) (entry : Entry) (targets recipes : List (List Spot)) (phony suffixes : List Text)
    (holds : HoldsAll old targets recipes phony suffixes) (got : HasMore old.0 pushed.0) (is : pushed.1 ≡ old.1 ++ entry ∷ []) where
  named : HoldsAll (pushed.0, old.1) targets recipes phony suffixes
  named = holds_grown old (pushed.0, old.1) targets recipes phony suffixes got refl holds

  recipe_told : (name : Text) → is_some (first_found pushed.1 (spots_at (pushed.0, recipes) name)) ≡ list_any (λ earlier. true) (recipes_of old.1 name)
  recipe_told name =
      ap (λ rules. is_some (first_found rules (spots_at (pushed.0, recipes) name))) is
      ∙ ap (λ xs. is_some (first_of xs)) (found-before old.1 entry (spots_at (pushed.0, recipes) name) (named.kept.recipes_told.before name) ∙ named.kept.recipes_told.all name)
      ∙ any_first (recipes_of old.1 name)

  -- the warnings are those that the rules before it give
  pub warned_by_spots : noted_messages pushed.1 (pushed.0, recipes) entry ≡ override_messages old.1 entry
  warned_by_spots =
      ap (λ (made : List Target). map (override_message entry.place) (if is_single entry.kind && is_some entry.recipe then made else []))
      (same_filter (λ target. is_some (first_found pushed.1 (spots_at (pushed.0, recipes) target.name)))
      (λ target. list_any (λ earlier. true) (recipes_of old.1 target.name)) (made_targets entry) (λ target. recipe_told target.name))
