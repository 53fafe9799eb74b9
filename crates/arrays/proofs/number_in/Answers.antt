-- `arrays::number_in` meets its contract. Assumes nothing.
use Rattle.arrays.proofs.number_in.Goals as goal

pub returns : goal.returns
returns c = simp c.numbers-numbers.ensures
