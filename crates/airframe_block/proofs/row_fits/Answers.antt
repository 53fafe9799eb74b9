-- `airframe_block::row_fits` meets its contract. Assumes nothing.
use Rattle.airframe_block.specs.Block.{row_fits}
use Rattle.airframe_block.proofs.row_fits.Goals as goal

pub returns-then-factor_fits-2 : goal.returns-then-factor_fits-2
unfolding row_fits
returns-then-factor_fits-2 c =
    simp (
      c.factor_fits-then-factor_fits-2.ensures,
      simp (c.factor_fits-then-factor_fits.ensures, c.factor_fits.ensures) at
          c.if-factor_fits-2.true,
      c.factor_fits-then-factor_fits.ensures,
      simp c.factor_fits.ensures at c.if-factor_fits.true,
      c.factor_fits.ensures,
    )

pub returns-then-factor_fits : goal.returns-then-factor_fits
unfolding row_fits
returns-then-factor_fits c =
    simp (
      simp (c.factor_fits-then-factor_fits.ensures, c.factor_fits.ensures) at c.if-factor_fits-2.false,
      c.factor_fits-then-factor_fits.ensures,
      simp c.factor_fits.ensures at c.if-factor_fits.true,
      c.factor_fits.ensures,
    )

pub returns : goal.returns
unfolding row_fits
returns c = simp (simp c.factor_fits.ensures at c.if-factor_fits.false, c.factor_fits.ensures)
