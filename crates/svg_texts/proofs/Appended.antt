-- Texts that are appended one after another.
use Rattle.std.proofs.Common.{◌≡◌, ℕ, List, ◌++◌, length, drop, sym, ap, subst, ◌∙◌}
use Rattle.std.proofs.lemmas.List.{take-append-drop}
use Rattle.std.specs.Io.{StartsWith}
use Rattle.byte_io.proofs.PieceTexts.{further}
use Rattle.view_texts.proofs.Fronts.{longer_front}
use Rattle.std.specs.Prelude.{Result, Ok, Err, if◌then◌else◌, is_ok}

-- what begins with a text that begins with another
pub front_trans : (new middle start : List ℕ) → StartsWith new middle → StartsWith middle start → StartsWith new start
front_trans new middle start one other = further new middle start (drop (length start) middle) one (sym (take-append-drop (length start) middle) ∙ ap (λ text. text ++ drop (length start) middle) other)

-- and a piece behind it
pub front_more : (new middle start piece : List ℕ) → new ≡ middle ++ piece → StartsWith middle start → StartsWith new start
front_more new middle start piece is other = front_trans new middle start (longer_front new middle piece is) other

-- or nothing
pub front_either : {T E : Type 0} (result : Result T E) (new middle start piece : List ℕ) → new ≡ (if is_ok result then middle ++ piece else middle) → StartsWith middle start → StartsWith new start
front_either (Ok value) new middle start piece is other = front_more new middle start piece is other
front_either (Err error) new middle start piece is other = subst (λ text. StartsWith text start) (sym is) other
