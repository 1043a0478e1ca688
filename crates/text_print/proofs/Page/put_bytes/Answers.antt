-- The bytes stand in the middle of the buffer.
-- Assumes nothing.
use Rattle.std.proofs.Common.{◌+◌, length, take, drop, refl, arith, append_assoc}
use Rattle.std.proofs.lemmas.List.Edits.{sets-eq}
use borrow.Rule.Slice.PartMut.{Post-is}
use Rattle.text_print.proofs.Page.put_bytes.Goals as goal

pub returns : goal.returns
returns c =
    let at = c.args.self.now.at in
    let out = c.args.self.now.out.now in
    let bytes = c.args.bytes.now in
    let end = at + length bytes in
    record {
      same = refl;
      put = record {
        bytes = rw
            (sets-eq bytes out at c.requires, append_assoc (take at out) bytes (drop end out), c.copy_from_slice.ensures.after, Post-is at end out (omega arith));
        after = refl;
      };
    }
