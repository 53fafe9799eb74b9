-- `lines::page::Page::put_verdict` meets its contract. Assumes nothing.
use Rattle.std.proofs.Common.{ℕ, List, ◌++◌, ap, ◌∙◌, append_assoc}
use Rattle.std.specs.Prelude.{codes}
use Rattle.lines.specs.Summary.{verdict_text}
use Rattle.lines.specs.Text.{decimal_text}
use Rattle.lines.proofs.page.Page.put_verdict.Goals as goal

pub returns-in-DifferFrom-clause-page : goal.returns-in-DifferFrom-clause-page
unfolding verdict_text
returns-in-DifferFrom-clause-page c =
    let page : List ℕ = c.args.self.now in
    let words : List ℕ = codes "this flight and its own reflection do not mirror from tick " in
    let tick : List ℕ = decimal_text c.in-DifferFrom.tick in
    rw (c.in-DifferFrom.is, c.put_count.ensures.page, c.put_text-in-DifferFrom.ensures)
    (ap (λ (x : List ℕ). x ++ codes " on") (append_assoc page words tick) ∙ append_assoc page (words ++ tick) (codes " on"))
