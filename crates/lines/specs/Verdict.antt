-- What is said of a flight and its reflection. Definitions only.
use Rattle.std.specs.Prelude.{ℕ, Bool, cond, ◌==◌}
use Rattle.lines.specs.declared.verdict.Verdict.{Verdict}
use Rattle.lines.specs.declared.verdict.Verdict.TheVariants.{DifferFrom, Mirror, MirrorSoFar, NoneAccepted}

-- by how many ticks the flight accepted, the first tick that does not mirror (0 for none), and whether the last tick is cut
-- short: they mirror only where a tick was accepted, none differs and none is cut
unfoldable pub verdict_of : ℕ → ℕ → Bool → Verdict
verdict_of accepted differs cut =
    cond (differs == 0) (cond (accepted == 0) NoneAccepted (cond cut MirrorSoFar Mirror)) (DifferFrom differs)
