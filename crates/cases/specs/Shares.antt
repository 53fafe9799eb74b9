-- Shares of full thrust off the square (02, 4), and the bits they have, as one table. The first is a figure that came with the request; the
-- others were worked out with fractions of whole numbers, rounded once for each operation. Definitions only.
use Rattle.std.specs.Float.Ieee.{neg}
use Rattle.std.specs.Prelude.{List, [], ◌∷◌}
use Rattle.fixed_wing.specs.Falloff.{falloff_share}
use Rattle.fixed_wing.specs.declared.ThrustFalloff.TheVariants.{PitchSpeed}
use Rattle.float.specs.Notation.{half, hex, zero, one, rounded, two}
use Rattle.libm.specs.Log.{ln_of}
use Rattle.motors.specs.Motor.{thrust_fraction}
use Rattle.cases.specs.Table.{Case, is}

unfoldable pub shares : List Case
shares =
    -- 0.001 to the power 1 is the float below 0.001, which is 3A83126F
    is (thrust_fraction (rounded 1 1000) one) 0x3A83126E
    -- to the power 2 it is the product
    ∷ is (thrust_fraction (rounded 1 1000) two) 0x358637BE
    -- 0.5 to the power 1.8
    ∷ is (thrust_fraction half (rounded 18 10)) 0x3E93088C
    -- 1, -0 and a running value beyond 1
    ∷ is (thrust_fraction one (rounded 18 10)) 0x3F800000
    ∷ is (thrust_fraction (neg zero) (rounded 3 1)) 0
    ∷ is (thrust_fraction (rounded 15 10) (rounded 18 10)) 0x7FC00000
    -- 1e-13 cubed is 0, and PitchSpeed 20 then leaves nothing at 5 m/s, as of a stopped motor
    ∷ is (thrust_fraction (rounded 1 10000000000000) (rounded 3 1)) 0
    ∷ is (falloff_share (PitchSpeed (rounded 20 1)) one (thrust_fraction (rounded 1 10000000000000) (rounded 3 1)) (rounded 5 1)) 0
    -- ln of the smallest float, 2 ^ -149, is -149 · 0.6931472
    ∷ is (ln_of (hex 1)) 0xC2CE8ED0
    ∷ []
