use Rattle.kt_text.proofs.Common.{leb, arith, w8, bitmask_splat}
use Rattle.kt_text.proofs.word_ends.low_bytes.Goals as goal

pub returns : goal.returns
returns c = bitmask_splat w8 leb c.args.block 16 32 c.fits-block.0 (omega arith)
