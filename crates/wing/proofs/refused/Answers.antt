-- `wing::refused` meets its contract. Assumes nothing.
use lib.Ieee.{of_bits}
use mathlib.Core.Path.{refl}
use Rattle.wing.specs.Tick.{refused_of}
use Rattle.wing.proofs.refused.Goals as goal

pub returns : goal.returns
unfolding refused_of of_bits
returns c = refl
