-- `bench_c::bench_mirrored_pair` meets its contract: where both arrays fit, what is handed back is the pair from the state that was read. Assumes nothing.
use mathlib.Core.Path.{◌∙◌, sym}
use Rattle.bench_c.proofs.After.{of_run}
use Rattle.bench_c.proofs.Pair.{pair-mirrors}
use Rattle.bench_c.proofs.bench_mirrored_pair.Goals as goal

pub returns-then-pair_fits-clause-pair_mirrors : goal.returns-then-pair_fits-clause-pair_mirrors
returns-then-pair_fits-clause-pair_mirrors c =
    let pair = c.pair_by-pair.result in
    let end = c.store_if_accepted.ensures ∙ of_run _ pair.first in
    let end' = c.store_if_accepted-then-pair_fits.ensures ∙ of_run _ pair.second in
    λ z. pair-mirrors _ _ _ _ _ _ _ _ _ c.read_airframe.ensures c.flight_in-f.ensures c.pair_by-pair.ensures end end' (sym c.reply.ensures ∙ z)
