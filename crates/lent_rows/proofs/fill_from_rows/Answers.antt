-- `lent_rows::fill_from_rows` meets its contract: the array holds 16 rows by its type, so the lent list fills what the array form fills. Assumes nothing.
use lib.ListN.{length}
use mathlib.Core.Path.{◌∙◌, ◌≡◌, ap}
use borrow.Author.Rules.{rules}
use Rattle.lent_rows.specs.Mixing.{mix_of, surfaces_in}
use Rattle.lent_rows.specs.declared.Mix.{Mix}
use Rattle.lent_rows.proofs.Forms.{lent-lift, lent-motors, lent-surfaces}
use Rattle.lent_rows.proofs.fill_from_rows.Goals as goal

pub returns : goal.returns
unfolding mix_of
returns c =
    let s = c in
    let rows = s.args.rows in
    let long : length rows.rows ≡ 16 = search rules in
    let l = s.args.layout in
    let tau = s.args.time_constant_s in
    let l' = s.args.lift_layout in
    let tau' = s.args.lift_time_constant_s in
    let e : c.fill_from_array.result ≡ mix_of rows l tau l' tau' =
    simp (c.fill_from_array.ensures, c.start-start.ensures, c.live-count.ensures.value) in record {
      value = e;
      motors_value = ap (λ (m : Mix). m.motors) e ∙ lent-motors rows l tau l' tau' long;
      lift_value = ap (λ (m : Mix). m.lift) e ∙ lent-lift rows l tau l' tau' long;
      result_value = ap surfaces_in e ∙ lent-surfaces rows l tau l' tau' long;
    }
