use Rattle.std.proofs.Common.{◌∙◌, arith}
use Rattle.spelling.proofs.Standard.{four-read}
use Rattle.spelling.proofs.U32Spelled.at.Goals as goal

pub returns : goal.returns
returns c = c.from_be_bytes.ensures ∙ four-read c.args.s.now c.args.at c.requires _ _ _ _ (omega arith) (omega arith) (omega arith) (omega arith)
