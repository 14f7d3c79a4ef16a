-- What a sink has taken (kati's own).
use Rattle.std.specs.Prelude.{◌≡◌, ℕ, List, ◌++◌, Option, option_map}

-- what is seen of a sink: the bytes that it has taken, where they are known, and how often it failed; at the greatest
-- `u64` the count stays
pub record SinkSeen : Type 0 where
  pub written : Option (List ℕ)
  pub failed : ℕ

-- the bytes that a sink has taken, with these after them, where they are known
abbrev pub appended : Option (List ℕ) → List ℕ → Option (List ℕ)
appended taken text = option_map (λ bytes. bytes ++ text) taken

-- a sink has taken all of the text
abbrev pub Takes : SinkSeen → SinkSeen → List ℕ → Type 0
Takes old new text = new.written ≡ appended old.written text

-- a sink has taken a prefix of the text, perhaps none of it or all of it
pub record GrowsByFront (old new : SinkSeen) (text : List ℕ) : Type 0 where
  pub front : List ℕ
  pub rest : List ℕ
  pub cut : text ≡ front ++ rest
  pub taken : Takes old new front
