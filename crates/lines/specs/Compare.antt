-- When the tick of a flight and that of its reflection mirror each other (demand 3). Numbers are compared as numbers: 0 and -0
-- are one, all NaNs are one. Definitions only.
use Rattle.std.specs.Prelude.{ℕ, Bool, false, cond, List, ◌==◌, Float}
use Rattle.std.specs.Float.Ieee.{eq, ne, neg}
use Rattle.answers.specs.Answers.{number_of}
use Rattle.body.specs.declared.Body.{Body}
use Rattle.flight.specs.Reflection.{reflect_flight}
use Rattle.flight.specs.State.{body_of}
use Rattle.flight.specs.declared.Flight.{Flight}
use Rattle.ordered.specs.Ordered.{all_pass}
use Rattle.mixers.specs.Slots.{at}
use Rattle.vector.specs.declared.Quaternion.{Quaternion}
use Rattle.vector.specs.declared.Vec3.{Vec3}
use Rattle.wing.specs.declared.Report.{Report}
use Rattle.wing.specs.declared.TickResult.{TickResult}

-- the same number: two NaNs, or equal
unfoldable pub same_number : Float → Float → Bool
same_number x y = cond (ne x x) (ne y y) (eq x y)

abbrev pub both : Bool → Bool → Bool
both a b = cond b a false

unfoldable pub same_vec : Vec3 → Vec3 → Bool
same_vec v w = both (both (same_number v.x w.x) (same_number v.y w.y)) (same_number v.z w.z)

unfoldable pub same_attitude : Quaternion → Quaternion → Bool
same_attitude p q =
    both (both (same_number p.w q.w) (same_number p.i q.i)) (both (same_number p.j q.j) (same_number p.k q.k))

unfoldable pub same_slot : List Float → List Float → ℕ → Bool
same_slot xs ys k = same_number (at xs k) (at ys k)

unfoldable pub same_body : Body → Body → Bool
same_body b c =
    both (both (same_vec b.position_ned_m c.position_ned_m) (same_vec b.velocity_ned_mps c.velocity_ned_mps))
    (both (same_attitude b.attitude c.attitude) (same_vec b.angular_velocity_radps c.angular_velocity_radps))

unfoldable pub same_flight : Flight → Flight → Bool
same_flight f g =
    both (same_body (body_of f) (body_of g))
    (both (both (all_pass (same_slot f.motors g.motors) 8) (all_pass (same_slot f.servos g.servos) 8))
    (both (all_pass (same_slot f.thrust_scale g.thrust_scale) 8) (all_pass (same_slot f.lift_motors g.lift_motors) 8)))

-- the same answer, alpha and thrust, and beta negated
unfoldable pub mirrored_report : Report → Report → Bool
mirrored_report r s =
    both (both (number_of r.answer == number_of s.answer) (same_number r.alpha_rad s.alpha_rad))
    (both (same_number r.thrust_n s.thrust_n) (same_number (neg r.beta_rad) s.beta_rad))

-- and the states are each other's reflection
unfoldable pub mirrored_tick : TickResult → TickResult → Bool
mirrored_tick k l = both (mirrored_report k.report l.report) (same_flight (reflect_flight k.flight) l.flight)
