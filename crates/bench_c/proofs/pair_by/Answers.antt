-- `bench_c::pair_by` meets its contract. Assumes nothing.
use mathlib.Core.Path.{◌∙◌, sym}
use Rattle.answers.proofs.Numbers.{done-is-ok}
use borrow.Author.Tests.{eqb-false}
use native.Mathlib.Nat.{suc-ne-zero}
use Rattle.bench_c.proofs.Pair.{ended-mirror, ended-number}
use Rattle.bench_c.specs.Library.{run_result_by, reflected_by}
use Rattle.bench_c.proofs.pair_by.Goals as goal

pub returns-then-is_ok : goal.returns-then-is_ok
unfolding run_result_by reflected_by
returns-then-is_ok c =
    let d = done-is-ok _ ∙ sym c.is_ok.ensures.value ∙ c.if-is_ok.true in
    let w = sym c.is_whole.ensures ∙ c.if-is_whole.true in
    let p = c.mirrored_pair.ensures in
    record { first = p.first ∙ simp (d, w); second = p.second ∙ simp (d, w); ends = p.ends; theorem = λ z. p.demand3 }

pub returns-then-is_whole : goal.returns-then-is_whole
unfolding run_result_by reflected_by
returns-then-is_whole c =
    let d = done-is-ok _ ∙ sym c.is_ok.ensures.value ∙ c.if-is_ok.false in
    let w = sym c.is_whole.ensures ∙ c.if-is_whole.true in
    let p = c.ended_pair.ensures in
    record {
      first = p.first_value ∙ simp (d, w);
      second = p.second_value ∙ simp (d, w);
      ends = ended-mirror _ _ _ p.first_value p.second_value;
      theorem = λ z. absurd (eqb-false _ _ d (ended-number _ _ _ p.first_value z));
    }

pub returns : goal.returns
unfolding run_result_by reflected_by
returns c =
    let w = sym c.is_whole.ensures ∙ c.if-is_whole.false in
    let p = c.ended_pair-2.ensures in
    record {
      first = p.first_value ∙ simp w;
      second = p.second_value ∙ simp w;
      ends = ended-mirror _ _ _ p.first_value p.second_value;
      theorem = λ z. absurd (suc-ne-zero 0 (ended-number _ _ _ p.first_value z));
    }
