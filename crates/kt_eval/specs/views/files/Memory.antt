-- Files in memory.
use Rattle.std.specs.Prelude.{ℕ, List, ◌∷◌, [], ◌++◌, ◌==◌, Bool, if◌then◌else◌, map}
use Rattle.kt_list.specs.Counters.{one_more}
use Rattle.kt_eval.specs.files.Files.{Answer, FilesSeen, Store, look}

-- the bytes of the file with each name, the names asked for, those of them that were answered, which read fails, how
-- many reads there were, and how many failed
pub record MemFiles : Type 0 where
  pub store : Store
  pub answered : List (List ℕ)
  pub asked : List (List ℕ)
  pub nth : ℕ
  pub reads : ℕ
  pub failures : ℕ

-- the store's answers to these names
abbrev pub answers_from : Store → List (List ℕ) → List Answer
answers_from store names = map (λ name. (name, look store name)) names

-- what is seen of them, as of any files
abbrev pub seen_of : MemFiles → FilesSeen
seen_of m = record { answers = answers_from m.store m.answered; names = m.asked; failed = m.failures }

-- whether the next read is the one that fails
abbrev pub fails_next : MemFiles → Bool
fails_next m = one_more m.reads == m.nth

-- after a read of this name
abbrev pub after_read : MemFiles → List ℕ → MemFiles
after_read m name = record {
  store = m.store;
  answered = if fails_next m then m.answered else m.answered ++ name ∷ [];
  asked = m.asked ++ name ∷ [];
  nth = m.nth;
  reads = one_more m.reads;
  failures = if fails_next m then one_more m.failures else m.failures;
}
