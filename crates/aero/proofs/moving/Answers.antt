-- `aero::moving` meets its contract. Assumes nothing.
use lib.Ieee.{of_bits, round}
use Rattle.aero.specs.Wrench.{moving_at, moving_of, surface_free, torque_at}
use Rattle.aero.proofs.moving.Goals as goal

pub returns : goal.returns
unfolding moving_of moving_at torque_at surface_free of_bits round
returns c =
    simp (
      c.with_surfaces.ensures,
      c.add-torque_nm.ensures,
      c.rate_moments.ensures,
      c.add-2.ensures,
      c.stall_wash_nm.ensures,
      c.add.ensures,
      c.wash_pitch_nm.ensures,
      c.static_nm.ensures,
      c.flow_force_n-force_n.ensures,
      c.wash_rate_scale.ensures,
      c.washed_surfaces-surfaces.ensures,
      c.pressure_area_n-area_n.ensures,
    )
