-- Text on its way to a sink, through a block of bytes.
use Rattle.std.specs.Prelude.{◌≡◌, ℕ, ◌+◌, ◌*◌, ◌≤◌, ◌<◌, ◌⊎◌, List, ◌++◌, length, Bool, true, false}
use Rattle.kt_list.specs.Counters.{Rises}
use Rattle.kt_ninja.specs.Written.{GrowsByFront, SinkSeen, Takes}
use Rattle.kt_ninja.specs.declared.block.Block.{Block}

-- where no write failed: what the sink took since, and what waits now, are what waited before and the text
pub record Moves (old : SinkSeen) (waiting : List ℕ) (new : SinkSeen) (waiting' text : List ℕ) : Type 0 where
  pub front : List ℕ
  pub cut : waiting ++ text ≡ front ++ waiting'
  pub grown : Takes old new front

-- by whether a write had failed before, and has failed now: without a fault the text moves on, at the first one a
-- beginning was taken, and after it nothing is written
abbrev pub PutsBy : Bool → Bool → SinkSeen → List ℕ → SinkSeen → List ℕ → List ℕ → Type 0
PutsBy false false old waiting new waiting' text = Moves old waiting new waiting' text
PutsBy false true old waiting new waiting' text = GrowsByFront old new (waiting ++ text)
PutsBy true false old waiting new waiting' text = ⊥
PutsBy true true old waiting new waiting' text = new.written ≡ old.written

-- the sink's count stays, and rises where the first fault comes
abbrev pub Counts : Bool → Bool → SinkSeen → SinkSeen → Type 0
Counts false false old new = new.failed ≡ old.failed
Counts false true old new = (old.failed ≤ new.failed) × Rises old.failed new.failed
Counts true false old new = ⊥
Counts true true old new = new.failed ≡ old.failed

-- the text was put after what waited in the block, on its way to the same sink
pub record Passes {S : Type 0} (seen : S → SinkSeen) (old new : Block S) (text : List ℕ) : Type 0 where
  pub same : new.sink.ghost_name ≡ old.sink.ghost_name
  pub puts : PutsBy old.failed new.failed (seen old.sink.now) old.waiting.items (seen new.sink.now)
      new.waiting.items text
  pub counts : Counts old.failed new.failed (seen old.sink.now) (seen new.sink.now)

-- the block was handed over this often, each time when 4,096 bytes waited in it and more came: what waits now is the
-- rest, and where nothing was handed over the sink was not called
pub record HandsOver {S : Type 0} (old new : Block S) (text : List ℕ) : Type 0 where
  pub times : ℕ
  pub rest : length old.waiting.items + length text ≡ times * 4096 + length new.waiting.items
  pub more : (times ≡ 0) ⊎ (0 < length new.waiting.items)
  pub none : times ≡ 0 → new.sink.now ≡ old.sink.now

-- both
pub record Puts {S : Type 0} (seen : S → SinkSeen) (old new : Block S) (text : List ℕ) : Type 0 where
  pub passes : Passes seen old new text
  pub hands : HandsOver old new text

-- the text was printed to its end: a sink that didn't fail has taken it, and one that failed a prefix of it
abbrev pub PrintsBy : Bool → SinkSeen → SinkSeen → List ℕ → Type 0
PrintsBy false old new text = Takes old new text
PrintsBy true old new text = GrowsByFront old new text

pub record Prints {S : Type 0} (seen : S → SinkSeen) (old new : S) (failed : Bool) (text : List ℕ) : Type 0 where
  pub prints : PrintsBy failed (seen old) (seen new) text
  pub counts : Counts false failed (seen old) (seen new)
