-- What an outlet gained, by fronts and by lines.
use Rattle.std.proofs.Common.{◌≡◌, ◌∙◌, ◌-◌, ◌++◌, [], ℕ, Bool, true, false, ◌&&◌, List, append-nil, ap, arith, cond, drop, length, length-append, refl, subst, sym, take, take-append-drop}
use Rattle.std.proofs.Math.Seq.{take-append_seam}
use Rattle.std.proofs.KnownBytes.{Appends-nil, Appends-trans}
use Rattle.std.proofs.lemmas.List.{take_all}
use Rattle.std.specs.Io.KnownBytes.{Appends}
use Rattle.std.specs.Prelude.{Option, None, Some, is_none}
use Rattle.byte_io.specs.Pieces.{AppendsFront}
use Rattle.byte_io.specs.declared.piece_output.PieceFault.{PieceFault}
use Rattle.source_views.proofs.SnapshotLines.{front_after, front_more}
use Rattle.live_lines.specs.Written.{GrewByFront, failures_after}
use Rattle.live_lines.specs.checked.Writes.{AreWritten}

-- ---- fronts

front_form : (text : List ℕ) (old new : Option (List ℕ)) → AppendsFront text old new → GrewByFront text old new
front_form text None new gone = tt
front_form text (Some xs) None gone = absurd gone.1
front_form text (Some xs) (Some ys) gone =
    let part = take gone.0 text in
    let grown : ys ≡ xs ++ take gone.0 text = gone.1 in
    let count : length ys - length xs ≡ length (take gone.0 text) = omega (arith, ap length grown, length-append xs (take gone.0 text)) in
    let same : take (length (take gone.0 text)) text ≡ take gone.0 text = ap (take (length part)) (sym (take-append-drop gone.0 text)) ∙ take-append_seam part (drop gone.0 text) in
    grown ∙ ap (λ t. xs ++ t) (sym (ap (λ k. take k text) count ∙ same))

pub front_known : (text : List ℕ) (old new : Option (List ℕ)) → GrewByFront text old new → AppendsFront text old new
front_known text old new h = (_, h)

pub front_longer : (text more : List ℕ) (old new : Option (List ℕ)) → GrewByFront text old new → GrewByFront (text ++ more) old new
front_longer text more old new h = front_form (text ++ more) old new (front_more text more old new (front_known text old new h))

-- the whole is a front
pub whole_front : (text : List ℕ) (old new : Option (List ℕ)) → Appends old new text → AppendsFront text old new
whole_front text old new sent = (length text, subst (Appends old new) (sym (take_all (length text) text (omega arith))) sent)

-- ---- what was written, while samples come

pub nothing_written : (known : Option (List ℕ)) (failures : ℕ) → AreWritten [] None known known failures failures
nothing_written known failures = record {
  whole = λ none. Appends-nil known;
  front = front_form [] known known (0, Appends-nil known);
  counted = refl;
}

pub written_same : (text same : List ℕ) (failure : Option PieceFault) (old new : Option (List ℕ)) (before after : ℕ) → same ≡ text → AreWritten text failure old new before after → AreWritten same failure old new before after
written_same text same failure old new before after e h = subst (λ (t : List ℕ). AreWritten t failure old new before after) (sym e) h

-- no line is sent
pub written_idle : (text line longer : List ℕ) (due : Bool) (failure : Option PieceFault) (old new : Option (List ℕ)) (before after : ℕ) → (is_none failure && due) ≡ false → longer ≡ text ++ cond due line []
    → AreWritten text failure old new before after → AreWritten longer failure old new before after
written_idle text line longer true None old new before after idle is h = cc
written_idle text line longer false None old new before after idle is h = written_same text longer None old new before after (is ∙ append-nil text) h
written_idle text line longer due (Some fault) old new before after idle is h =
    subst (λ (t : List ℕ). AreWritten t (Some fault) old new before after) (sym is) (record {
      whole = λ none. absurd (cc);
      front = front_longer text (cond due line []) old new h.front;
      counted = h.counted;
    })

-- a line is sent, or a front of it
pub written_line : (text line longer : List ℕ) (due : Bool) (failure later : Option PieceFault) (old mid new : Option (List ℕ)) (before between after : ℕ) → (is_none failure && due) ≡ true → longer ≡ text ++ cond due line []
    → AreWritten text failure old mid before between → (later ≡ None → Appends mid new line) → AppendsFront line mid new → after ≡ failures_after between later → AreWritten longer later old new before after
written_line text line longer true None later old mid new before between after due is h sent gone counted =
    subst (λ (t : List ℕ). AreWritten t later old new before after) (sym is) (record {
      whole = λ none. Appends-trans old mid new text line (h.whole refl) (sent none);
      front = front_form (text ++ line) old new (front_after text line old mid new (h.whole refl) gone);
      counted = counted ∙ ap (λ n. failures_after n later) h.counted;
    })
written_line text line longer false None later old mid new before between after due is h sent gone counted = cc
written_line text line longer due (Some fault) later old mid new before between after is_due is h sent gone counted = cc
