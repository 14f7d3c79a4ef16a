-- What is seen of an evaluation, and what a call of it keeps (kati's own).
use Rattle.std.specs.Prelude.{◌≡◌, ℕ, suc, ◌+◌, ◌≤◌, List, [], ◌∷◌, bytes_eq, if◌then◌else◌}
use Rattle.kt_text.specs.Words.{Text}
use Rattle.kt_eval.specs.files.Files.{Answer, FilesSeen}
use Rattle.kt_eval.specs.views.files.Files.{AnswersGrow}
use Rattle.kt_eval.specs.State.{World}

-- what is seen of an evaluation: its world, what each read of a file answered, how often a read failed, and the
-- reference by which it holds the files
pub record Evaluation : Type 0 where
  pub world : World
  pub answers : List Answer
  pub failed : ℕ
  pub lender : ℕ

-- what is seen of its files
abbrev pub files_of : Evaluation → FilesSeen
files_of e = record { answers = e.answers; names = e.world.asked; failed = e.failed }

-- the lists that reading and expanding only add to: the messages, and the names asked for
pub data Trail : Type 0 where
  told : Trail
  asked_for : Trail

abbrev pub one_of : Trail → List Text → List Text → List Text
one_of told said asked = said
one_of asked_for said asked = asked

abbrev pub trail : Trail → World → List Text
trail of w = one_of of w.said w.asked

-- how many of these texts don't stand at the same place in a list
unfoldable pub astray : List Text → List Text → ℕ
astray [] xs = 0
astray (text ∷ texts) [] = suc (astray texts [])
astray (text ∷ texts) (x ∷ xs) = (if bytes_eq text x then 0 else 1) + astray texts xs

-- What stands in a list of the first world stands at the same place in that of the second, which so begins with it. By
-- a count it follows through calls and loops as an order on numbers does.
abbrev pub GoesOn : World → World → Type 0
GoesOn old new = (of : Trail) (texts : List Text) → astray texts (trail of new) ≤ astray texts (trail of old)

-- the files are the same; answers, failures, messages and names asked for are only added to
abbrev pub Keeps : Evaluation → Evaluation → Type 0
Keeps old new =
    AnswersGrow old.answers new.answers × (new.lender ≡ old.lender) × (old.failed ≤ new.failed)
    × GoesOn old.world new.world
