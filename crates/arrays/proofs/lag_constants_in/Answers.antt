-- `arrays::lag_constants_in` meets its contract: the constants are read where the array has them. Assumes nothing.
use Rattle.airframe.specs.Promises.{lag_constants_of}
use Rattle.airframe.specs.FromNumbers.{airframe_of, model_of}
use Rattle.float.specs.Lists.{list_from, list_of}
use Rattle.arrays.specs.Airframe.{airframe_in, airframe_with, group_in, number_at, numbers_in}
use Rattle.arrays.proofs.lag_constants_in.Goals as goal

pub returns : goal.returns
unfolding lag_constants_of airframe_in airframe_with airframe_of group_in model_of numbers_in number_at list_of list_from
returns c = simp c.is_set-lift_present.ensures
