use Rattle.kati.proofs.lemmas.meaning.SoundLemmas.{are_sound}
use Rattle.kati_laws.proofs.laws.plans_are_sound.Goals as goal

pub returns : goal.returns
returns c = are_sound
