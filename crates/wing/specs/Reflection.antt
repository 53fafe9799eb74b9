-- What it is for two ticks to be each other's reflections: the same answer, alpha and thrust, the opposite beta, and reflected
-- states. Definitions only.
use Rattle.std.specs.Prelude.{◌≡◌}
use Rattle.body.specs.Reflection.{LoadsRel}
use Rattle.flight.specs.Reflection.{FlightRel}
use Rattle.float.specs.Same.{Opposite, Same}
use Rattle.wing.specs.declared.Loaded.{Loaded}
use Rattle.wing.specs.declared.Report.{Report}
use Rattle.wing.specs.declared.TickResult.{TickResult}

pub record LoadedRel (l l' : Loaded) : Type 0 where
  pub loads : LoadsRel l.loads l'.loads
  pub alpha : Same l.alpha_rad l'.alpha_rad
  pub beta : Opposite l.beta_rad l'.beta_rad
  pub thrust : Same l.thrust_n l'.thrust_n

pub record ReportRel (r r' : Report) : Type 0 where
  pub answer : r'.answer ≡ r.answer
  pub alpha : Same r.alpha_rad r'.alpha_rad
  pub beta : Opposite r.beta_rad r'.beta_rad
  pub thrust : Same r.thrust_n r'.thrust_n

pub record TickedRel (r r' : TickResult) : Type 0 where
  pub report : ReportRel r.report r'.report
  pub flight : FlightRel r.flight r'.flight
