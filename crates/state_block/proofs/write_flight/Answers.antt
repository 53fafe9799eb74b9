-- `state_block::write_flight` meets its contract. Assumes nothing.
use Prim.Native.Nat.{◌+◌, ℕ}
use lib.Ieee.{Float}
use mathlib.Core.List.{List}
use mathlib.Core.Path.{◌∙◌, ap}
use Rattle.block_parts.specs.Parts.{put_floats}
use Rattle.state_block.specs.Layout.{lift_at, motors_at, put_body, put_flight, scales_at, servos_at}
use Rattle.state_block.proofs.write_flight.Goals as goal

pub returns : goal.returns
unfolding put_flight
returns c =
    let lift = c in
    let scales = lift.before.before.before.before in
    let servos = scales.before.before.before.before in
    let motors = servos.before.before.before.before in
    let body = motors.before.before.before.before in
    let a = body.args in
    let slots : ℕ → List Float → List ℕ → List ℕ = λ at xs s. put_floats s (a.at + at) xs 8 in
    lift.write_floats-4.ensures
    ∙ ap (slots lift_at a.f.lift_motors)
    (scales.write_floats-3.ensures ∙ ap (slots scales_at a.f.thrust_scale)
    (servos.write_floats-2.ensures ∙ ap (slots servos_at a.f.servos)
    (motors.write_floats.ensures ∙ ap (slots motors_at a.f.motors)
    (body.write_body.ensures ∙ ap (put_body _ a.at) body.body.ensures))))
