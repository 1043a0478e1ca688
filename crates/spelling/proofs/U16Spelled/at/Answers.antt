use Rattle.std.proofs.Common.{◌∙◌, arith}
use Rattle.spelling.proofs.Standard.{two-read}
use Rattle.spelling.proofs.U16Spelled.at.Goals as goal

pub returns : goal.returns
returns c = c.from_be_bytes.ensures ∙ two-read c.args.s.now c.args.at c.requires _ _ (omega arith) (omega arith)
