-- A text that is appended in pieces.
use Rattle.std.proofs.Common.{◌≡◌, ℕ, List, [], ◌++◌, length, take, sym, ap, ◌∙◌, append_assoc, append-nil}
use Rattle.std.proofs.Math.Seq.{take-append_seam}
use Rattle.std.specs.Io.{StartsWith}

-- what was appended, and the rest that is still to come, are the text
pub record Progress (start now rest text : List ℕ) : Type 0 where
  pub written : List ℕ
  pub is : now ≡ start ++ written
  pub whole : written ++ rest ≡ text

-- nothing was appended
pub begun : (start text : List ℕ) → Progress start start text text
begun start text = record { written = []; is = sym (append-nil start); whole = refl' text }
  where
    refl' : (text : List ℕ) → [] ++ text ≡ text
    refl' text = λ i. text

-- a piece more
pub further_on : (start now next piece rest text : List ℕ) → Progress start now (piece ++ rest) text → next ≡ now ++ piece → Progress start next rest text
further_on start now next piece rest text progress is = record {
  written = progress.written ++ piece;
  is = is ∙ ap (λ all. all ++ piece) progress.is ∙ append_assoc start progress.written piece;
  whole = append_assoc progress.written piece rest ∙ progress.whole;
}

-- all was appended
pub done : (start now text : List ℕ) → Progress start now [] text → now ≡ start ++ text
done start now text progress = progress.is ∙ ap (λ all. start ++ all) (sym (append-nil progress.written) ∙ progress.whole)

-- what stood there stands there still
pub still : (start now rest text : List ℕ) → Progress start now rest text → StartsWith now start
still start now rest text progress = ap (take (length start)) progress.is ∙ take-append_seam start progress.written
