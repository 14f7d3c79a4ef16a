-- The stem of a part, as the code holds it (kati's own).
use Rattle.std.specs.Prelude.{◌≡◌, ◌+◌, ◌++◌, ℕ, drop, length, take}
use Rattle.kt_graph.specs.views.Prelude.{List}
use Rattle.kt_graph.specs.Prelude.{Text}
use Rattle.kt_graph.specs.inner.Prelude.{suffixes_of, suffix_stem}
use Rattle.kt_graph.specs.declared.nodes.stem.StemStorage.{StemStorage}
use Rattle.kt_graph.specs.declared.nodes.stem.StemStorage.TheVariants.{Own, Within, Given}

-- the name of the node without the first of these suffixes that it ends with, a part of it, or a text
pub data Stem : Type 0 where
  own : (suffixes : List Text) → Stem
  within : (place len : ℕ) → Stem
  given : (text : Text) → Stem

-- the stem in the node of a name
abbrev pub stem_in : Text → Stem → Text
stem_in name (own suffixes) = suffix_stem suffixes name
stem_in name (within place len) = take len (drop place name)
stem_in name (given text) = text

abbrev pub stem_held : StemStorage → Stem
stem_held (Own book) = own (suffixes_of book.now)
stem_held (Within place len) = within place len
stem_held (Given text) = given text.value.items

-- two texts together lie in a name at a place
abbrev pub Lies : Text → Text → Text → ℕ → Type 0
Lies name front back place = take (length front + length back) (drop place name) ≡ front ++ back
