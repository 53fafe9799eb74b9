-- What follows the lines of the last ticks read, with the reflection beside the flight, as bytes. Definitions only.
use Rattle.std.specs.Prelude.{ℕ, Bool, not, cond, List, [], ◌++◌, ◌==◌, ◌%◌, ◌*◌, codes}
use Rattle.trace.specs.Tick.{tick_bytes}
use Rattle.lines.specs.Text.{byte_text, decimal_text, end_text, newline}
use Rattle.lines.specs.Tracks.{Tracks, tracks_of}
use Rattle.lines.specs.Verdict.{verdict_of}
use Rattle.lines.specs.declared.track.Track.{Track}
use Rattle.lines.specs.declared.verdict.Verdict.{Verdict}
use Rattle.lines.specs.declared.verdict.Verdict.TheVariants.{DifferFrom, Mirror, MirrorSoFar, NoneAccepted}

-- how many ticks there were, and how many each flight accepted
unfoldable pub counts_text : Tracks → List ℕ
counts_text p =
    decimal_text p.ticks
    ++ codes " ticks, "
    ++ decimal_text p.accepted
    ++ codes " accepted, "
    ++ decimal_text p.mirrored
    ++ codes " accepted in the reflection"
    ++ byte_text newline

-- the verdict in words
unfoldable pub verdict_text : Verdict → List ℕ
verdict_text NoneAccepted = codes "no tick was accepted: nothing to compare"
verdict_text Mirror = codes "this flight and its own reflection mirror"
verdict_text MirrorSoFar = codes "the whole ticks of this flight and its own reflection mirror"
verdict_text (DifferFrom tick) =
    codes "this flight and its own reflection do not mirror from tick " ++ decimal_text tick ++ codes " on"

-- the counts and the verdict, and whether the last tick is cut short
unfoldable pub summary_text : Tracks → Bool → List ℕ
summary_text p cut =
    counts_text p
    ++ verdict_text (verdict_of p.accepted p.differs cut)
    ++ cond cut (codes "; the last tick is cut short") []
    ++ byte_text newline

-- behind the lines of n bytes: the refusal of a cut tick and, where these are not all that is read at a time, the summary
unfoldable pub end_beside : Track → ℕ → List ℕ
end_beside p n =
    end_text n ++ cond (n == 200 * tick_bytes) [] (summary_text (tracks_of p) (not (n % tick_bytes == 0)))
