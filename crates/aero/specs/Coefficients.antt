-- The coefficients (01, module 6): the book's equations (crates/book) read in floats where the Rust has the book's shape, else the
-- Rust's (`Formulas`) read in floats. That the two say the same in exact numbers is proved in book/proofs/Exact. Definitions only.
use Rattle.std.specs.Prelude.{Float, cond}
use Rattle.std.specs.Float.Ieee.{le, lt, neg}
use Rattle.book.specs.Equations as book
use Rattle.book.specs.Formulas as formulas
use Rattle.book.specs.Numbers.{floats, held}
use Rattle.fixed_wing.specs.Falloff.{aspect_ratio}
use Rattle.fixed_wing.specs.declared.AeroCoefficients.{AeroCoefficients}
use Rattle.fixed_wing.specs.declared.FixedWingModel.{FixedWingModel}
use Rattle.float.specs.Notation.{◌⊕◌, ◌⊖◌, ◌⊗◌, ◌⊘◌, abs, clamp, half, rounded, zero}
use Rattle.libm.specs.Atan.{pi}
use Rattle.libm.specs.Exp.{exp_of}

-- ---- the stall blend, with each exponent held within ±60
abbrev pub sixty : Float
sixty = rounded 60 1

unfoldable pub hold : Float → Float
hold x = clamp (neg sixty) sixty x

unfoldable pub exponent : Float → Float
exponent x = exp_of (hold x)

unfoldable pub stall_blend : AeroCoefficients → Float → Float
stall_blend c alpha = book.blend (held hold floats) c.stall_sharpness c.alpha_stall_rad alpha

-- ---- lift
unfoldable pub linear_lift : AeroCoefficients → Float → Float
linear_lift c alpha = formulas.linear_lift floats c.c_lift_0 c.c_lift_alpha alpha

unfoldable pub flat_plate_lift : Float → Float → Float → Float
flat_plate_lift alpha s co = formulas.plate_lift floats alpha s co

unfoldable pub lift_coefficient : AeroCoefficients → Float → Float → Float → Float → Float
lift_coefficient c alpha blend s co = formulas.lift floats c.c_lift_0 c.c_lift_alpha blend alpha s co

-- ---- drag, attached and of a flat plate
unfoldable pub drag_coefficient : FixedWingModel → Float → Float
drag_coefficient m alpha =
    let c = m.aero in
    book.drag floats c.c_drag_0 c.c_lift_0 c.c_lift_alpha c.oswald (aspect_ratio m.span_m m.wing_area_m2) alpha

unfoldable pub flat_plate_pressure_drag : Float → Float
flat_plate_pressure_drag s = formulas.plate_pressure_drag floats s

unfoldable pub flat_plate_drag : AeroCoefficients → Float → Float
flat_plate_drag c s = formulas.plate_drag floats c.c_drag_0 s

-- ---- pitch: the book's line on sin α, and beyond the stall a share of a flat plate's moment: the plate's normal force,
-- lift · cos α + drag · sin α, acts 0.25 chords behind the leading edge at α 0, 0.75 at ±180°; the centre of gravity is
-- -Cmα / CLα chords before 0.25. Without the knee
abbrev pub quarter_chord : Float
quarter_chord = rounded 25 100

unfoldable pub static_margin : AeroCoefficients → Float
static_margin c = cond (lt zero c.c_lift_alpha) (neg c.c_pitch_alpha ⊘ c.c_lift_alpha) zero

unfoldable pub plate_normal : Float → Float → Float → Float
plate_normal alpha s co = flat_plate_lift alpha s co ⊗ co ⊕ flat_plate_pressure_drag s ⊗ s

unfoldable pub flat_plate_pitch : AeroCoefficients → Float → Float → Float → Float
flat_plate_pitch c alpha s co = neg (plate_normal alpha s co) ⊗ (quarter_chord ⊕ half ⊗ abs alpha ⊘ pi ⊖ (quarter_chord ⊖ static_margin c))

unfoldable pub attached_pitch : AeroCoefficients → Float → Float
attached_pitch c s = book.pitch floats c.c_pitch_0 c.c_pitch_alpha s

-- from the attached flow's toward the plate's by the share, unless that is 0 or less
unfoldable pub pitch_coefficient : AeroCoefficients → Float → Float → Float → Float → Float
pitch_coefficient c alpha blend s co =
    let share = c.post_stall_pitch_share ⊗ blend in
    formulas.toward_plate floats (le share zero) share (attached_pitch c s) (c.c_pitch_0 ⊕ flat_plate_pitch c alpha s co)
