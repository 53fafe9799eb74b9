-- `float::truncated` meets its contract: below 2 ^ 24 in size the cut is an integer that the machine and the format hold. Assumes nothing.
use Rattle.float.proofs.Integers.{Small, small}
use Rattle.std.proofs.Common.{◌≡◌, T, ℤ, sym, ap, ◌∙◌, subst, arith, w32, w64, SFits, to_z, of_z}
use mir.ValLaws.{to_z-of_z}
use lib.Ieee.{binary32, in_float, to_signed}
use Rattle.float.proofs.truncated.Goals as goal

of : (c : goal.Start) → Small c.args.x
of c = small c.args.x c.requires.lower_bound c.requires.upper_bound

wider : (z : ℤ) → SFits w32 z → SFits w64 z
wider z h = record { sfits = omega (arith, h.sfits) }

-- what the machine reads back of the callee's result
back : (c : goal.After-truncating_f32_to_i64) → to_z w64 (of_z w64 c.truncating_f32_to_i64.result) ≡ to_signed 63 c.args.x
back c =
    ap (λ (z : ℤ). to_z w64 (of_z w64 z)) c.truncating_f32_to_i64.ensures
    ∙ to_z-of_z w64 (to_signed 63 c.args.x) (wider (to_signed 63 c.args.x) (small c.args.x c.requires.lower_bound c.requires.upper_bound).fits)

pub truncating_f32_to_i64-requires-clause-lower_bound : goal.truncating_f32_to_i64-requires-clause-lower_bound
truncating_f32_to_i64-requires-clause-lower_bound c = (of c).low

pub truncating_f32_to_i64-requires-clause-upper_bound : goal.truncating_f32_to_i64-requires-clause-upper_bound
truncating_f32_to_i64-requires-clause-upper_bound c = (of c).high

pub returns-clause-exact : goal.returns-clause-exact
returns-clause-exact c = subst (λ (z : ℤ). T (in_float binary32 z)) (sym (back c)) (small c.args.x c.requires.lower_bound c.requires.upper_bound).whole
