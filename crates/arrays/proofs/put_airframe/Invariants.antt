-- `arrays::put_airframe` meets its contract. Assumes nothing.
use lib.Ieee.{nan}
use Rattle.mixers.proofs.Filling.{Reached}
use Rattle.arrays.specs.Airframe.{airframe_number, airframe_numbers_count}
use Rattle.arrays.proofs.put_airframe.Given as goal

abbrev pub invariant-loop-k : goal.invariant-loop-k
invariant-loop-k l = Reached airframe_numbers_count nan (airframe_number l.a) l.initial.xs l.xs l.k
