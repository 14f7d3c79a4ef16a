use Rattle.kati_args.proofs.Cutting.{cut_is}
use Rattle.kati_args.proofs.words.split.Goals as goal

pub returns : goal.returns
returns c = cut_is c.args.word.now c.split_once.result c.split_once.ensures.cases
