-- `float::write` meets its contract. Assumes nothing.
use Rattle.std.proofs.Common.{ap, ◌∙◌}
use Rattle.std.specs.Int.{to_be_bytes, w32}
use Rattle.float.proofs.FourBytes.{four-writes}
use Rattle.float.proofs.write.Goals as goal

pub returns : goal.returns
returns c =
    let e = c.copy_from_slice.ensures.after ∙ c.to_be_bytes-bytes.ensures ∙ ap (to_be_bytes w32) c.to_bits.ensures in
    four-writes c.args.i c.args.s.now _ _ _ _ _ c.requires e
