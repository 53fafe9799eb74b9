-- `lines::program::fly` meets its contract: what it flies is accepted. Assumes nothing.
use Rattle.lines.proofs.Openings.{opened-ready}
use Rattle.lines.proofs.program.fly.Goals as goal

pub fly_input-requires : goal.fly_input-requires
fly_input-requires g c = opened-ready c.open.result c.in-Ok.opened c.open.ensures c.in-Ok.is
