-- `lines::log::fly_ticks` meets its contract. Assumes nothing.
use Rattle.std.proofs.Common.{◌≡◌, ℕ, zero, suc, ◌+◌, ◌*◌, ◌≤◌, List, [], ◌∷◌, ◌++◌, length, sym, ap, ◌∙◌, subst, add-one, append_assoc, append-nil, arith, rules}
use Rattle.std.proofs.lemmas.Nat.{mul-le}
use Rattle.flight.specs.declared.Tick.{Tick}
use Rattle.trace.specs.Trace.{tick_at, tick_count, ticks_from, ticks_of}
use Rattle.lines.proofs.log.fly_ticks.Goals as goal

-- one tick more
ticks-more : (s : List ℕ) (i n k : ℕ) → k ≡ i + n → ticks_from s i (suc n) ≡ ticks_from s i n ++ (tick_at s k ∷ [])
unfolding ticks_from
ticks-more s i zero k e = ap (λ (j : ℕ). tick_at s j ∷ []) (omega arith)
ticks-more s i (suc n) k e = ap (λ (ts : List Tick). tick_at s i ∷ ts) (ticks-more s (suc i) n k (omega arith))

pub loop-i-init : goal.loop-i-init
unfolding ticks_from
loop-i-init g c =
    let a = c.args in
    let page : List ℕ = a.page.now in
    let laws = g.met.L.Log in
    (search rules, laws.none a.a a.p, sym (ap (λ (x : List ℕ). page ++ x) (laws.no_lines a.a a.p) ∙ append-nil page), search rules)

pub fly-log-requires : goal.fly-log-requires
fly-log-requires g c =
    let l = c.loop-i in
    let room = g.L.Log.room in
    let n = tick_count c.args.trace.now in
    let more : room * (l.i + 1) ≤ room * n = mul-le room (l.i + 1) room n (omega arith) (omega (arith, l.invariant.0, c.loop-i-test.true)) in
    omega (arith, more, l.invariant.3, c.requires)

pub loop-i-preserved : goal.loop-i-preserved
loop-i-preserved g c =
    let l = c.loop-i in
    let a = c.args in
    let f = c.fly-log.ensures in
    let laws = g.met.L.Log in
    let lines = g.L.Log.lines in
    let s : List ℕ = a.trace.now in
    let t : Tick = c.tick_at-t.result in
    let ts : List Tick = ticks_from s 0 l.i in
    let whole : ts ++ (t ∷ []) ≡ ticks_from s 0 (l.i + 1) =
    ap (λ (x : Tick). ts ++ (x ∷ [])) c.tick_at-t.ensures ∙ sym (ticks-more s 0 l.i l.i (omega arith)) ∙ ap (ticks_from s 0) (sym (add-one l.i)) in (
      l.invariant.0,
      subst (λ (xs : List Tick). g.L.Log.leads a.a a.p xs c.fly-log.result) whole
          (laws.more a.a a.p l.log c.fly-log.result ts (t ∷ []) l.invariant.1 f.log),
      f.page
          ∙ ap (λ (x : List ℕ). x ++ lines a.a l.log (t ∷ [])) l.invariant.2
          ∙ append_assoc a.page.now (lines a.a a.p ts) (lines a.a l.log (t ∷ []))
          ∙ ap (λ (x : List ℕ). a.page.now ++ x)
          (sym (laws.more_lines a.a a.p l.log ts (t ∷ []) l.invariant.1) ∙ ap (lines a.a a.p) whole),
      omega (arith, f.within, l.invariant.3),
    )

pub returns : goal.returns
unfolding ticks_of
returns g c =
    let l = c.loop-i in
    let a = c.args in
    let s : List ℕ = a.trace.now in
    let all : l.i ≡ tick_count s = omega (arith, l.invariant.0, l.auto.i-end, c.loop-i-test.false) in
    record {
      log = subst (λ (n : ℕ). g.L.Log.leads a.a a.p (ticks_from s 0 n) l.log) all l.invariant.1;
      page = l.invariant.2 ∙ ap (λ (n : ℕ). a.page.now ++ g.L.Log.lines a.a a.p (ticks_from s 0 n)) all;
      within = subst (λ (n : ℕ). length l.page ≤ length a.page.now + g.L.Log.room * n) all l.invariant.3;
    }
