-- A reader of a stream of bytes in memory gives one rest, with the proofs that its impl of KnownRows cites.
use Rattle.std.proofs.Common.{◌≡◌, ℕ, Bool, true, false, Option, Some, None, List, [], ◌++◌, refl, sym, ap, ◌∙◌}
use borrow.Author.Tests.{clash}
use Rattle.sample_tables.specs.Rows.{ToldRows}
use Rattle.stack_core.specs.Reading.{Rest}
use Rattle.stack_core.specs.declared.endings.SourceEnd.{SourceEnd}
use Rattle.folded_lines.specs.State.{State}
use Rattle.folded_lines.specs.Streams.{Coming, MayCome}
use Rattle.folded_lines.specs.declared.cursor.Cursor.{Cursor}
use Rattle.folded_lines.specs.declared.stream_lines.StreamState.{StreamState}
use Rattle.folded_lines.specs.declared.stream_lines.StreamState.TheVariants.{Open, Ended, Failed}
use Rattle.folded_lines.specs.declared.stream_lines.StreamLines.{StreamLines}
use Rattle.folded_lines.specs.checked.Scanning.{ended}
use Rattle.folded_lines.specs.checked.StreamLines.{StateMayCome, unread_of}
use Rattle.folded_lines.specs.checked.StreamPlaces.{GivesBy, IsStreamPlace}
use Rattle.folded_lines.specs.checked.StreamReading.{rest_of}

-- what comes of bytes that are known, of which these are not read
abbrev pub coming_of : StreamState → List ℕ → List ℕ → Coming
coming_of Open left unread = record { bytes = unread ++ left; fails = false }
coming_of Ended left unread = record { bytes = unread; fails = false }
coming_of Failed left unread = record { bytes = []; fails = true }

-- what they still give
abbrev pub known_rest : {I : Type 0} → List ℕ → StreamLines I → Cursor → Option SourceEnd → Rest
known_rest left lines counts None = rest_of lines.is_strict counts (coming_of lines.state left (unread_of lines))
known_rest left lines counts (Some ending) = ended ending

abbrev pub has_ended : Option SourceEnd → Bool
has_ended None = false
has_ended (Some ending) = true

-- what contracts see of a reader of them
abbrev pub stream_state : {I : Type 0} → List ℕ → StreamLines I → Cursor → Option SourceEnd → ToldRows → State
stream_state left lines counts at_end told = record { rest = known_rest left lines counts at_end; has_ended = has_ended at_end; told = told }

coming_may : (state : StreamState) (left unread : List ℕ) → StateMayCome state (Some left) true unread (coming_of state left unread)
coming_may Open left unread = record { later = left; of_known = refl; whole = λ fails. refl; failing = λ fails. absurd (clash fails) }
coming_may Ended left unread = (refl, refl)
coming_may Failed left unread = (refl, refl)

-- a coming by its parts
pub coming_is : (coming : Coming) (bytes : List ℕ) (fails : Bool) → coming.fails ≡ fails → coming.bytes ≡ bytes → coming ≡ record { bytes = bytes; fails = fails }
coming_is coming bytes fails is same = λ i. record { bytes = same i; fails = is i }

open_is : (coming : Coming) (left unread : List ℕ) → MayCome (Some left) true unread coming → coming ≡ record { bytes = unread ++ left; fails = false }
open_is coming left unread may = by coming.fails refl
  where
    by : (fails : Bool) → coming.fails ≡ fails → coming ≡ record { bytes = unread ++ left; fails = false }
    by true is = absurd (clash (sym (may.failing is).0))
    by false is = coming_is coming (unread ++ left) false is (may.whole is ∙ ap (λ later. unread ++ later) may.of_known)

no_other_coming : (state : StreamState) (left unread : List ℕ) (coming : Coming) → StateMayCome state (Some left) true unread coming → coming ≡ coming_of state left unread
no_other_coming Open left unread coming may = open_is coming left unread may
no_other_coming Ended left unread coming may = coming_is coming unread false may.0 may.1
no_other_coming Failed left unread coming may = coming_is coming [] true may.0 may.1

module _ {I : Type 0} (left : List ℕ) (lines : StreamLines I) (counts : Cursor) where
  pub known_gives : (at_end : Option SourceEnd) → IsStreamPlace (Some left) true lines counts → GivesBy (Some left) true lines counts at_end (known_rest left lines counts at_end)
  known_gives None place =
      let may = coming_may lines.state left (unread_of lines) in
      (coming_of lines.state left (unread_of lines), may, place.countable refl (coming_of lines.state left (unread_of lines)) may, refl)
  known_gives (Some ending) place = refl

  pub known_gives_no_other : (at_end : Option SourceEnd) (rest : Rest) → GivesBy (Some left) true lines counts at_end rest → rest ≡ known_rest left lines counts at_end
  known_gives_no_other None rest given = given.3 ∙ ap (rest_of lines.is_strict counts) (no_other_coming lines.state left (unread_of lines) given.0 given.1)
  known_gives_no_other (Some ending) rest given = given
