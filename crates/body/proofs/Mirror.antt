-- A step in a mirror of left and right is the mirrored step. Mass, inertia and the step's length are the same data. Assumes nothing.
use lib.Ieee.{Float}
use lib.IntN.{pos}
use mathlib.Core.Bool.{false, true}
use Rattle.float.proofs.Mirror.{mirror, r-same, r-zero}
use Rattle.float.specs.Notation.{zero}
use Rattle.vector.proofs.Mirror.{add-mirror, component-div-mirror, cross-axis-mirror, from-scaled-axis-mirror, reflect-axis}
use Rattle.vector.proofs.Mirror.{reflect-quat, reflect-vec, renormalized-mirror, scale-mirror, sub-mirror, times-mirror}
use Rattle.vector.proofs.Mirror.{unscale-mirror, vec-mirror}
use Rattle.vector.specs.Reflection.{QuatRel, VecRel}
use Rattle.vector.specs.Vector.{component_mul}
use Rattle.vector.specs.declared.Quaternion.{Quaternion}
use Rattle.vector.specs.declared.Vec3.{Vec3}
use Rattle.body.specs.Motion.{acceleration_of, add_wrench, air_velocity, gravity, net_torque, next_attitude, next_position, next_rates, next_velocity, step_of}
use Rattle.body.specs.Reflection.{BodyRel, LoadsRel, WrenchRel, reflect_body}
use Rattle.body.specs.declared.Body.{Body}
use Rattle.body.specs.declared.Loads.{Loads}
use Rattle.body.specs.declared.MassProperties.{MassProperties}
use Rattle.body.specs.declared.Wrench.{Wrench}

pub add-wrench-mirror : {w w' u u' : Wrench} → WrenchRel w w' → WrenchRel u u' → WrenchRel (add_wrench w u) (add_wrench w' u')
unfolding add_wrench
add-wrench-mirror h k = record { force = add-mirror h.force k.force; torque = add-mirror h.torque k.torque }

acceleration-mirror : {f f' : Vec3} (m : Float) → VecRel false f f' → VecRel false (acceleration_of f m) (acceleration_of f' m)
unfolding acceleration_of
acceleration-mirror m k = add-mirror (unscale-mirror m k) (vec-mirror (r-same zero) (r-zero true false false (pos 0)) (r-same gravity))

velocity-mirror : {v v' f f' : Vec3} (m h : Float) → VecRel false v v' → VecRel false f f' → VecRel false (next_velocity v f m h) (next_velocity v' f' m h)
unfolding next_velocity
velocity-mirror m h g k = add-mirror g (scale-mirror (acceleration-mirror m k) (r-same h))

position-mirror : {p p' v v' : Vec3} (h : Float) → VecRel false p p' → VecRel false v v' → VecRel false (next_position p v h) (next_position p' v' h)
unfolding next_position
position-mirror h g k = add-mirror g (scale-mirror k (r-same h))

-- the inertia stands first: the same data on each axis
momentum-mirror : {w w' : Vec3} (i : Vec3) → VecRel true w w' → VecRel true (component_mul i w) (component_mul i w')
unfolding component_mul
momentum-mirror i k = search mirror

torque-mirror : {w w' : Vec3} {l l' : Loads} (i : Vec3) → VecRel true w w' → LoadsRel l l' → VecRel true (net_torque w i l) (net_torque w' i l')
unfolding net_torque
torque-mirror i g k = sub-mirror (sub-mirror k.torque (cross-axis-mirror g (momentum-mirror i g))) k.damping

rates-mirror : {w w' : Vec3} {l l' : Loads} (i : Vec3) (h : Float) → VecRel true w w' → LoadsRel l l' → VecRel true (next_rates w i l h) (next_rates w' i l' h)
unfolding next_rates
rates-mirror i h g k = add-mirror g (scale-mirror (component-div-mirror i (torque-mirror i g k)) (r-same h))

attitude-mirror : {q q' : Quaternion} {w w' : Vec3} (h : Float) → QuatRel q q' → VecRel true w w' → QuatRel (next_attitude q w h) (next_attitude q' w' h)
unfolding next_attitude
attitude-mirror h g k = renormalized-mirror (times-mirror g (from-scaled-axis-mirror (scale-mirror k (r-same h))))

pub step-mirror : {b b' : Body} {l l' : Loads} (m : MassProperties) (h : Float) → BodyRel b b' → LoadsRel l l' → BodyRel (step_of b m l h) (step_of b' m l' h)
unfolding step_of
step-mirror m h g k =
    let v = velocity-mirror m.mass_kg h g.velocity k.force in
    let w = rates-mirror m.inertia_kgm2 h g.rates k in
    record { position = position-mirror h g.position v; velocity = v; attitude = attitude-mirror h g.attitude w; rates = w }

pub air-velocity-mirror : {b b' : Body} {wind wind' : Vec3} → BodyRel b b' → VecRel false wind wind' → VecRel false (air_velocity b wind) (air_velocity b' wind')
unfolding air_velocity
air-velocity-mirror g k = sub-mirror g.velocity k

-- the reflection by flipping sign bits is one
pub reflect-body : (b : Body) → BodyRel b (reflect_body b)
unfolding reflect_body
reflect-body b = record {
  position = reflect-vec b.position_ned_m;
  velocity = reflect-vec b.velocity_ned_mps;
  attitude = reflect-quat b.attitude;
  rates = reflect-axis b.angular_velocity_radps;
}
