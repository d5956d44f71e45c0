-- The row of a spelling that was found.
use Rattle.std.proofs.Common.{◌≡◌, ℕ, List, get_or, slice_range, sym}
use Rattle.std.proofs.lemmas.Option.{slice_get-get_or, get_or_from_slice_get}
use Rattle.call_tree.specs.SpellingCache.{Spelling, IsRowOf}
use Rattle.call_tree.specs.checked.Spellings.{IsSpelledAt}

pub IsRowOf_place : (known : List Spelling) (text : List ℕ) (start end place row : ℕ) → IsSpelledAt known text (slice_range text start end) place
    → ((none : Spelling) → row ≡ (get_or known place none).row) → IsRowOf known text start end row
IsRowOf_place known text start end place row spelled is =
    let none : Spelling = record { start = 0; end = 0; row = 0 } in
    let spelling = get_or known place none in
    record {
      spelling = spelling;
      is_known = (place, spelled.within, get_or_from_slice_get known place spelling spelling (slice_get-get_or known place none spelled.within));
      same_bytes = spelled.same_bytes none;
      row_is = sym (is none);
    }
