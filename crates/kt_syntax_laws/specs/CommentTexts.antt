-- What is left of a text without its comment, as cuts of the text (GNU make manual, "What Makefiles Contain"; runs of
-- backslashes before a number sign are kati's own).
use Rattle.std.specs.Prelude.{◌≡◌, ◌≢◌, ℕ, ◌+◌, ◌/◌, ◌%◌, ◌==◌, Bool, true, not, List, [], ◌∷◌, ◌++◌, length}
use Rattle.std.specs.List.{list_all}
use Rattle.kt_syntax.specs.Prelude.{Text, mask_of}
use Rattle.kt_syntax.specs.Kinds.{comment_place}
use Rattle.kt_syntax.specs.Comments.{backslashes, uncommented_of}

-- none of these symbols is a number sign
abbrev pub has_no_sign : List ℕ → Bool
has_no_sign symbols = list_all (λ symbol. not (symbol == 35)) symbols

-- a text with a number sign after a given number of backslashes
abbrev pub signed : Text → ℕ → Text → Text
signed front run back = front ++ (backslashes run ++ (35 ∷ back))

-- that number sign is the first one outside references, and those are all the backslashes directly before it
pub record IsFirstSign (front : Text) (run : ℕ) (back : Text) : Type 0 where
  pub before : List ℕ
  pub after : List ℕ
  pub symbols : mask_of (signed front run back) ≡ before ++ (backslashes run ++ (35 ∷ after))
  pub size : length before ≡ length front
  pub first : has_no_sign before ≡ true
  pub all : (others : List ℕ) → before ≢ others ++ 92 ∷ []

-- of the backslashes before a number sign half stay. An even number of them leaves it the begin of the comment, which
-- goes; after an odd one it stays, and the same is done with what follows. The place is that of the comment, or the end
pub record Uncomments (uncomment : Text → Text) (place : Text → ℕ) : Type 0 where
  pub stays : (text : Text) → has_no_sign (mask_of text) ≡ true → (uncomment text ≡ text) × (place text ≡ length text)
  pub comment : (front : Text) (run : ℕ) (back : Text) → IsFirstSign front run back → run % 2 ≡ 0
      → (uncomment (signed front run back) ≡ front ++ backslashes (run / 2))
      × (place (signed front run back) ≡ length front + run)
  pub literal : (front : Text) (run : ℕ) (back : Text) → IsFirstSign front run back → run % 2 ≡ 1
      → (uncomment (signed front run back) ≡ front ++ (backslashes (run / 2) ++ (35 ∷ uncomment back)))
      × (place (signed front run back) ≡ length front + (run + (1 + place back)))

-- the text and the place that are computed, and no others
pub record CommentLaw : Type 0 where
  pub is : Uncomments uncommented_of comment_place
  pub only : (uncomment : Text → Text) (place : Text → ℕ) → Uncomments uncomment place → (text : Text)
      → (uncomment text ≡ uncommented_of text) × (place text ≡ comment_place text)
