-- `libm::log::joined` meets its contract: an exponent from -149 to 128 is an integer that a float holds. Assumes nothing.
use lib.Ieee.{of_bits, round}
use mir.Syntax.{w64}
use mir.ValLaws.{to_z-of_z}
use Rattle.libm.specs.Log.{ln_of_parts}
use Rattle.libm.proofs.log.joined.Goals as goal

pub returns : goal.returns
unfolding ln_of_parts of_bits round
returns c =
    let s = c in
    rw (to_z-of_z w64 s.args.n s.ranges.n, c.near.ensures)
