-- `motors::thrust_fraction` meets its contract. Assumes nothing.
use lib.Ieee.{eq, of_bits}
use mathlib.Core.Bool.{false, true}
use mathlib.Core.Path.{◌≡◌}
use Rattle.float.specs.Notation.{two}
use Rattle.motors.specs.Motor.{thrust_fraction}
use Rattle.motors.proofs.thrust_fraction.Goals as goal

pub returns-then-thrust_exponent : goal.returns-then-thrust_exponent
unfolding thrust_fraction of_bits
returns-then-thrust_exponent c = let t : eq c.args.thrust_exponent two ≡ true = c.if-thrust_exponent.true in simp t

pub returns : goal.returns
unfolding thrust_fraction of_bits
returns c =
    let t : eq c.args.thrust_exponent two ≡ false = c.if-thrust_exponent.false in
    simp (t, c.powf_with.ensures)
