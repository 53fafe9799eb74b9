-- Calls made one after another are the definition's calls, whatever the form of the call: by one induction, from what a single call
-- promises. And the run called once is its calls. Assumes nothing.
use Prim.Native.Nat.{◌+◌}
use mathlib.Core.List.{List, [], ◌∷◌, map, map-id}
use mathlib.Core.Path.{◌∙◌, ◌≡◌, ap, ap₂, refl, subst, sym}
use native.Mathlib.Nat.{add_assoc, add-zero, zero-add}
use Rattle.airframe.specs.declared.Airframe.{Airframe}
use Rattle.flight.specs.declared.Flight.{Flight}
use Rattle.flight.specs.declared.Tick.{Tick}
use Rattle.wing.specs.Tick.{tick_of}
use Rattle.wing.specs.declared.TickResult.{TickResult}
use Rattle.run.specs.Calls.{Chain, LentCall, ValueCall, chain_more, chain-none}
use Rattle.run.specs.Mirrored.{All, ByDefinition, all_more, all_none}
use Rattle.run.specs.Run.{Progress, Told, accepted_in, calls_of, one_if_done, progressed, run_from, run_of, told_by}

-- ---- the run called once ends where its calls do, and counts those that answer 0
from-state : (a : Airframe) (p q : Progress) (ts : List Tick) → p.flight ≡ q.flight → (run_from a p ts).flight ≡ (run_from a q ts).flight
unfolding run_from progressed
from-state a p q [] e = e
from-state a p q (t ∷ ts) e = from-state a (progressed a p t) (progressed a q t) ts (ap (λ (f : Flight). (tick_of a f t).flight) e)

from-count : (a : Airframe) (p : Progress) (ts : List Tick) → (run_from a p ts).accepted ≡ p.accepted + accepted_in (calls_of a p.flight ts)
unfolding run_from progressed calls_of accepted_in one_if_done
from-count a p [] = sym (add-zero p.accepted)
from-count a p (t ∷ ts) = from-count a (progressed a p t) ts ∙ add_assoc _ _ _

pub by-definition : (a : Airframe) (s : Flight) (ts : List Tick) → ByDefinition a s ts (calls_of a s ts) (run_of a s ts).flight
unfolding run_of
by-definition a s ts = record { calls = refl; end = refl; count = sym (from-count a (record { flight = s; accepted = 0 }) ts ∙ zero-add _) }

-- ---- what one call promises: what it finds holds a state, what it is given a tick; it tells the definition's outcome and leaves its state
pub record OneCall {X U O : Type 0} (a : Airframe) (state : X → Flight) (tick : U → Tick) (tells : O → Told) (x : X) (u : U) (o : O) (y : X) : Type 0 where
  pub told : tells o ≡ told_by (tick_of a (state x) (tick u))
  pub left : state y ≡ (tick_of a (state x) (tick u)).flight

-- ---- a chain of such calls
module _ {X U O : Type 0} (a : Airframe) (state : X → Flight) (tick : U → Tick) (tells : O → Told) (Call : X → U → O → X → Type 0)
    (one : (x : X) (u : U) (o : O) (y : X) → Call x u o y → OneCall a state tick tells x u o y) where
  chain-calls : {x z : X} {us : List U} {os : List O} → Chain Call x us os z → map tells os ≡ calls_of a (state x) (map tick us)
  unfolding calls_of
  chain-calls chain-none = refl
  chain-calls (chain_more {x} {y} {z} {u} {o} {us} {os} k r) =
      let p = one x u o y k in
      ap₂ (λ (v : Told) (vs : List Told). v ∷ vs) p.told (chain-calls r ∙ ap (λ (f : Flight). calls_of a f (map tick us)) p.left)

  chain-end : {x z : X} {us : List U} {os : List O} → Chain Call x us os z → state z ≡ (run_of a (state x) (map tick us)).flight
  unfolding run_of run_from progressed
  chain-end chain-none = refl
  chain-end (chain_more {x} {y} {z} {u} {o} {us} {os} k r) = chain-end r ∙ from-state a _ _ (map tick us) (one x u o y k).left

  pub chain-flown : {x z : X} {us : List U} {os : List O} → Chain Call x us os z → ByDefinition a (state x) (map tick us) (map tells os) (state z)
  chain-flown {x} {z} {us} {os} r = record {
    calls = chain-calls r;
    end = chain-end r;
    count = ap accepted_in (chain-calls r) ∙ (by-definition a (state x) (map tick us)).count;
  }

-- ---- calls by value and over a lent record
value-call : (a : Airframe) (f : Flight) (t : Tick) (k : TickResult) (g : Flight) → ValueCall a f t k g
    → OneCall a (λ (x : Flight). x) (λ (x : Tick). x) told_by f t k g
value-call a f t k g c = record { told = ap told_by c.answered; left = c.left ∙ ap (λ (x : TickResult). x.flight) c.answered }

pub value-flown : (a : Airframe) {f g : Flight} {ts : List Tick} {ks : List TickResult} → Chain (ValueCall a) f ts ks g → ByDefinition a f ts (map told_by ks) g
value-flown a {f} {g} {ts} {ks} r =
    subst (λ (us : List Tick). ByDefinition a f us (map told_by ks) g) (map-id ts)
    (chain-flown a (λ (x : Flight). x) (λ (x : Tick). x) told_by (ValueCall a) (value-call a) r)

by_value : (a : Airframe) {f g : Flight} {t : Tick} {k : TickResult} → LentCall a f t k g → ValueCall a f t k g
by_value a h = record { answered = λ i. record { report = h.reported i; flight = (h.found ∙ h.left) i }; left = sym h.found }

all-by-value : (a : Airframe) {f g : Flight} {ts : List Tick} {ks : List TickResult} → Chain (LentCall a) f ts ks g → Chain (ValueCall a) f ts ks g
all-by-value a chain-none = chain-none
all-by-value a (chain_more k r) = chain_more (by_value a k) (all-by-value a r)

pub lent-flown : (a : Airframe) {f g : Flight} {ts : List Tick} {ks : List TickResult} → Chain (LentCall a) f ts ks g → ByDefinition a f ts (map told_by ks) g
lent-flown a r = value-flown a (all-by-value a r)

-- ---- what holds of every call: what each tick tells from what the states before it keep
pub all-calls : (Kept : Flight → Type 0) (P : Told → Type 0) (a : Airframe)
    → ((f : Flight) (t : Tick) → Kept f → Kept (tick_of a f t).flight × P (told_by (tick_of a f t))) → (f : Flight) (ts : List Tick) → Kept f
    → All P (calls_of a f ts)
unfolding calls_of
all-calls Kept P a one f [] k = all_none
all-calls Kept P a one f (t ∷ ts) k = let n = one f t k in all_more n.1 (all-calls Kept P a one (tick_of a f t).flight ts n.0)
