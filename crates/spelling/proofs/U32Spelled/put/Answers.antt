use Rattle.std.proofs.Common.{◌∙◌, arith}
use Rattle.spelling.proofs.Standard.{four-spelled, part-put}
use Rattle.spelling.proofs.U32Spelled.put.Goals as goal

pub returns : goal.returns
returns c =
    part-put c.args.at 4 c.args.out.now _ _ (c.copy_from_slice.ensures.after ∙ c.to_be_bytes.ensures ∙ four-spelled _ c.args.x (omega arith))
