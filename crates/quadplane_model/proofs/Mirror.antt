-- The lift rotors in a reflected flight: the same thrust as data, the reflected force and torque. Assumes nothing.
use lib.Ieee.{Float, neg}
use lib.IntN.{pos}
use mathlib.Core.Bool.{false, true}
use mathlib.Core.List.{List}
use mathlib.Core.Path.{◌≡◌, ap, ap₂, refl}
use Rattle.body.specs.Reflection.{WrenchRel}
use Rattle.float.proofs.Mirror.{r-is, r-zero}
use Rattle.float.specs.Notation.{◌⊗◌}
use Rattle.motors.proofs.Mirror.{MotorsRel, full-pull-mirror, reflect-group}
use Rattle.vector.proofs.Mirror.{scale-mirror, sub-mirror, vec-mirror}
use Rattle.vector.specs.Reflection.{VecRel}
use Rattle.vector.specs.declared.Vec3.{Vec3}
use Rattle.quadplane_model.specs.Lift.{RotorsRel, lift_by, lift_force, lift_wrench, reflect_rotors, rotors_at}
use Rattle.quadplane_model.specs.declared.LiftRotors.{LiftRotors}

-- the reflection by flipping sign bits is one
pub reflect-rotors : (l : LiftRotors) → RotorsRel l (reflect_rotors l)
unfolding reflect_rotors
reflect-rotors l = record { motors = reflect-group l.motors; drag = refl }

pub rotors-mirror : {l l' : LiftRotors} {running running' : List Float} → RotorsRel l l' → running' ≡ running
    → MotorsRel (rotors_at l running) (rotors_at l' running')
unfolding rotors_at
rotors-mirror h e = record { group = h.motors; running = e; scale = refl }

force-mirror : {c c' thrust thrust' : Float} {air air' : Vec3} → c' ≡ c → thrust' ≡ thrust → VecRel false air air'
    → VecRel false (lift_force c thrust air) (lift_force c' thrust' air')
unfolding lift_force
force-mirror e t h =
    sub-mirror (vec-mirror (r-zero false false false (pos 0)) (r-zero true false false (pos 0)) (r-is (ap neg t)))
    (scale-mirror (vec-mirror h.x h.y (r-zero false false false (pos 0))) (r-is (ap₂ ◌⊗◌ e t)))

pub lift-mirror : {l l' : LiftRotors} {running running' : List Float} {air air' : Vec3} → RotorsRel l l' → running' ≡ running → VecRel false air air'
    → WrenchRel (lift_wrench l running air) (lift_wrench l' running' air')
unfolding lift_wrench lift_by
lift-mirror h e air = let pull = full-pull-mirror (rotors-mirror h e) in record { force = force-mirror h.drag pull.thrust air; torque = pull.torque }
