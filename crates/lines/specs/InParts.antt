-- Ticks flown in two parts: the laws of what a program keeps (`Log`). They stand here since its ghost members name them.
use Rattle.std.proofs.Common.{◌≡◌, ℕ, List, [], ◌∷◌, ◌++◌, refl, ap, ◌∙◌, sym, append_assoc, append-nil}
use mathlib.Core.List.{foldl, foldl-append}
use Rattle.airframe.specs.declared.Airframe.{Airframe}
use Rattle.flight.specs.declared.Flight.{Flight}
use Rattle.flight.specs.declared.Tick.{Tick}
use Rattle.wing.specs.Tick.{tick_of}
use Rattle.lines.specs.TickLog.{LeadsAlone, TickLog, lines_alone, log_from, log_of, log_on, one_more, tick_text}
use Rattle.lines.specs.Tracks.{LeadsBeside, Shown, Tracks, lines_beside, shown_on, shown_over, text_on, tracks_of, tracks_on}
use Rattle.lines.specs.declared.flown.Flown.{Flown}
use Rattle.lines.specs.declared.track.Track.{Track}

-- ---- a flight alone

-- the log l, with a text before its own
behind : List ℕ → TickLog → TickLog
behind s l = record { flight = l.flight; index = l.index; text = s ++ l.text }

-- the text so far stays before that of the ticks to come
onward : (a : Airframe) (s : List ℕ) (l : TickLog) (ts : List Tick) → foldl (log_on a) (behind s l) ts ≡ behind s (foldl (log_on a) l ts)
unfolding behind log_on
onward a s l [] = refl
onward a s l (t ∷ ts) =
    ap (λ (x : List ℕ). foldl (log_on a) (record { flight = (tick_of a l.flight t).flight; index = one_more l.index; text = x }) ts)
    (append_assoc s l.text (tick_text a l.flight (one_more l.index) t))
    ∙ onward a s (log_on a l t) ts

-- in two parts
in-parts :
    (a : Airframe) (p q : Flown) (ts us : List Tick)
    → LeadsAlone a p ts q
    → log_of a (log_from p.flight p.index) (ts ++ us) ≡ behind (lines_alone a p ts) (log_of a (log_from q.flight q.index) us)
unfolding log_of behind
in-parts a p q ts us h =
    let l : TickLog = log_of a (log_from p.flight p.index) ts in
    foldl-append (log_on a) (log_from p.flight p.index) ts us
    ∙ ap (λ (m : TickLog). foldl (log_on a) m us) (
    ap (λ (f : Flight). record { flight = f; index = l.index; text = l.text }) (sym h.flight)
    ∙ ap (λ (i : ℕ). record { flight = q.flight; index = i; text = l.text }) (sym h.index)
    ∙ ap (λ (x : List ℕ). record { flight = q.flight; index = q.index; text = x }) (sym (append-nil l.text))
    )
    ∙ onward a l.text (log_from q.flight q.index) us

pub none-alone : (a : Airframe) (p : Flown) → LeadsAlone a p [] p
unfolding log_of
none-alone a p = record { flight = refl; index = refl }

pub no_lines-alone : (a : Airframe) (p : Flown) → lines_alone a p [] ≡ []
unfolding log_of
no_lines-alone a p = refl

pub more-alone : (a : Airframe) (p q r : Flown) (ts us : List Tick) → LeadsAlone a p ts q → LeadsAlone a q us r → LeadsAlone a p (ts ++ us) r
unfolding behind
more-alone a p q r ts us h k =
    let e = in-parts a p q ts us h in
    record { flight = k.flight ∙ sym (ap (λ (l : TickLog). l.flight) e); index = k.index ∙ sym (ap (λ (l : TickLog). l.index) e) }

pub more_lines-alone :
    (a : Airframe) (p q : Flown) (ts us : List Tick) → LeadsAlone a p ts q → lines_alone a p (ts ++ us) ≡ lines_alone a p ts ++ lines_alone a q us
unfolding behind
more_lines-alone a p q ts us h = ap (λ (l : TickLog). l.text) (in-parts a p q ts us h)

-- ---- a flight and its reflection

pub none-beside : (a : Airframe) (p : Track) → LeadsBeside a p [] p
none-beside a p = refl

pub no_lines-beside : (a : Airframe) (p : Track) → lines_beside a p [] ≡ []
no_lines-beside a p = refl

shown_behind : List ℕ → Shown → Shown
shown_behind s l = record { tracks = l.tracks; text = s ++ l.text }

shown-onward :
    (a : Airframe) (s : List ℕ) (l : Shown) (ts : List Tick)
    → foldl (shown_on a) (shown_behind s l) ts ≡ shown_behind s (foldl (shown_on a) l ts)
unfolding shown_behind shown_on
shown-onward a s l [] = refl
shown-onward a s l (t ∷ ts) =
    ap (λ (x : List ℕ). foldl (shown_on a) (record { tracks = tracks_on a l.tracks t; text = x }) ts)
    (append_assoc s l.text (text_on a l.tracks t))
    ∙ shown-onward a s (shown_on a l t) ts

shown-in-parts :
    (a : Airframe) (p q : Track) (ts us : List Tick)
    → LeadsBeside a p ts q
    → shown_over a (tracks_of p) (ts ++ us) ≡ shown_behind (lines_beside a p ts) (shown_over a (tracks_of q) us)
unfolding shown_behind
shown-in-parts a p q ts us h =
    let l : Shown = shown_over a (tracks_of p) ts in
    foldl-append (shown_on a) (record { tracks = tracks_of p; text = [] }) ts us
    ∙ ap (λ (m : Shown). foldl (shown_on a) m us) (
    ap (λ (r : Tracks). record { tracks = r; text = l.text }) (sym h)
    ∙ ap (λ (x : List ℕ). record { tracks = tracks_of q; text = x }) (sym (append-nil l.text))
    )
    ∙ shown-onward a l.text (record { tracks = tracks_of q; text = [] }) us

pub more-beside : (a : Airframe) (p q r : Track) (ts us : List Tick) → LeadsBeside a p ts q → LeadsBeside a q us r → LeadsBeside a p (ts ++ us) r
unfolding shown_behind
more-beside a p q r ts us h k = k ∙ sym (ap (λ (l : Shown). l.tracks) (shown-in-parts a p q ts us h))

pub more_lines-beside :
    (a : Airframe) (p q : Track) (ts us : List Tick)
    → LeadsBeside a p ts q → lines_beside a p (ts ++ us) ≡ lines_beside a p ts ++ lines_beside a q us
unfolding shown_behind
more_lines-beside a p q ts us h = ap (λ (l : Shown). l.text) (shown-in-parts a p q ts us h)
