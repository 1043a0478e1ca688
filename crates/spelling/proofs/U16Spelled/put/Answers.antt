use Rattle.std.proofs.Common.{◌∙◌, arith}
use Rattle.spelling.proofs.Standard.{two-spelled, part-put}
use Rattle.spelling.proofs.U16Spelled.put.Goals as goal

pub returns : goal.returns
returns c =
    part-put c.args.at 2 c.args.out.now _ _ (c.copy_from_slice.ensures.after ∙ c.to_be_bytes.ensures ∙ two-spelled _ c.args.x (omega arith))
