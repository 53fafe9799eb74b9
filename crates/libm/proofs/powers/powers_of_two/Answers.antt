-- `libm::powers::powers_of_two` meets its contract: each of the 254 entries has the bits of its index's power. Assumes nothing.
use mathlib.Core.Path.{sym}
use Rattle.float.specs.Lists.{list_from, list_of}
use Rattle.libm.proofs.Entries.{patterns}
use Rattle.libm.proofs.powers.powers_of_two.Goals as goal

pub invariant_of-result : goal.invariant_of-result
unfolding list_of list_from
invariant_of-result c = record { is_powers = cc (sym patterns) }

pub returns : goal.returns
unfolding list_of list_from
returns c = sym patterns
