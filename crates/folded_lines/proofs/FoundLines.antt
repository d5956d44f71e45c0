-- Lines that are found at the front of what was read, and what may come behind them.
use Rattle.std.proofs.Common.{◌≡◌, ◌≢◌, ◌<◌, ◌≤◌, ◌+◌, ◌-◌, ℕ, Bool, true, false, Option, Some, None, List, [], ◌∷◌, ◌++◌, length, map, take, drop, take_all, slice_index, IfSome, refl, sym, ap, subst, ◌∙◌, arith, inl, inr, ⊎_elim, append_assoc, append-nil, take-append-drop}
use Rattle.std.proofs.lemmas.Bool.{eqb-true}
use Rattle.std.proofs.lemmas.List.{append_cancel_right, map-append, take-take, take_more}
use Rattle.std.specs.Io.KnownBytes.{Consumes}
use Rattle.memchr.specs.Find.{Nowhere, Passes, NoneBefore, is_byte}
use Rattle.bstr.specs.Text.{line_len, lines_of, no_cr, without_terminator}
use Rattle.bstr.proofs.lemmas.LineLemmas.{EndsLine, line_len-bounds, lines-append, lines-step}
use Rattle.folded_lines.specs.Lines.{text_lines}
use Rattle.folded_lines.specs.Streams.{Coming, MayCome}
use Rattle.folded_lines.specs.TextParts.{IsWholeLines}
use Rattle.folded_lines.specs.checked.StreamLines.{StateMayCome, EndsBy, IsLineAt, Brings}
use Rattle.folded_lines.specs.declared.stream_lines.FoundLine.{FoundLine}
use Rattle.folded_lines.specs.declared.stream_lines.StreamState.{StreamState}
use Rattle.folded_lines.specs.declared.stream_lines.StreamState.TheVariants.{Open, Ended, Failed}
use Rattle.folded_lines.proofs.BackLemmas.{last-append}
use Rattle.folded_lines.proofs.LineLemmas.{line_len-all, line_len-found, without_terminator-all, without_terminator-found}
use Rattle.folded_lines.proofs.ScanLemmas.{text_lines-step}

-- ---- lines that are found

take_whole : (bytes : List ℕ) → take (length bytes) bytes ≡ bytes
take_whole bytes = take_all (length bytes) bytes (omega arith)

-- without LF and at the end, all that was read is a line
pub whole_line : (state : StreamState) (unread : List ℕ) (len : ℕ) → state ≡ Ended → len ≡ length unread → 0 < len → Nowhere (Passes (is_byte 10) unread) 0 (length unread)
    → IsLineAt state unread (record { len = len; next = len })
whole_line state unread len ended long some none = record {
  some = omega arith;
  next = long ∙ line_len-all unread none;
  within = omega arith;
  text = ap (λ n. take n unread) long ∙ take_whole unread ∙ without_terminator-all unread (omega arith) none;
  ends = subst (λ s. EndsBy s unread len) (sym ended) tt;
}

fed_end : (state : StreamState) (unread : List ℕ) (at : ℕ) → state ≢ Failed → slice_index unread at ≡ 10 → EndsBy state unread (at + 1)
fed_end Open unread at unfailed here = let same : at + 1 - 1 ≡ at = omega arith in ap (slice_index unread) same ∙ here
fed_end Ended unread at unfailed here = tt
fed_end Failed unread at unfailed here = absurd (unfailed refl)

-- the line before the first LF
pub fed_line : (state : StreamState) (unread : List ℕ) (at : ℕ) (front line : List ℕ) → state ≢ Failed → NoneBefore (Passes (is_byte 10) unread) 0 (length unread) at × Passes (is_byte 10) unread at
    → front ≡ take at unread → line ≡ no_cr front → line ≡ take (length line) front → length line ≤ length front → length front ≤ at
    → IsLineAt state unread (record { len = length line; next = at + 1 })
fed_line state unread at front line unfailed found is_front is_line is_taken short within =
    let place = found.0 in
    let cut : take (length line) unread ≡ line =
    sym (is_taken ∙ ap (take (length line)) is_front ∙ take-take (length line) at unread (omega arith)) in
    record {
      some = omega (arith, place.high);
      next = line_len-found unread at place.high place.before found.1;
      within = omega (arith, place.high);
      text = cut ∙ is_line ∙ ap no_cr is_front ∙ without_terminator-found unread at place.high place.before found.1;
      ends = fed_end state unread at unfailed (eqb-true (slice_index unread at) 10 found.1);
    }

-- ---- a line that is taken off

-- the first line ends in LF
front_line : (unread : List ℕ) → 0 < length unread → slice_index unread (line_len unread - 1) ≡ 10
    → take (line_len unread) unread ≡ take (line_len unread - 1) unread ++ 10 ∷ []
front_line unread some feed =
    let bounds = line_len-bounds unread some in
    let more : line_len unread ≡ line_len unread - 1 + 1 = omega (arith, bounds.0) in
    ap (λ n. take n unread) more ∙ take_more unread (line_len unread - 1) 0 (omega (arith, bounds.0, bounds.1)) ∙ ap (λ b. take (line_len unread - 1) unread ++ b ∷ []) feed

whole_front : (line more : List ℕ) → (front : List ℕ) × (line ≡ front ++ 10 ∷ []) → IsWholeLines more → IsWholeLines (line ++ more)
whole_front line more ends whole = inr (⊎_elim {C = (front : List ℕ) × (line ++ more ≡ front ++ 10 ∷ [])}
    (λ none. (ends.0, ap (λ b. line ++ b) none ∙ append-nil line ∙ ends.1))
    (λ some. (line ++ some.0, ap (λ b. line ++ b) some.1 ∙ sym (append_assoc line some.0 (10 ∷ []))))
    whole)

-- a line that ends in LF, with its end, and other text behind it
fed_text : (unread more : List ℕ) → 0 < length unread → EndsLine (take (line_len unread) unread)
    → text_lines (take (line_len unread) unread ++ more) ≡ without_terminator (take (line_len unread) unread) ∷ text_lines more
fed_text unread more some ends =
    let line = take (line_len unread) unread in
    let rest = drop (line_len unread) unread in
    let split = lines-append (length line) line rest (omega arith) ends in
    let one : lines_of line ≡ line ∷ [] =
    append_cancel_right (lines_of line) (line ∷ []) (lines_of rest)
    (sym split ∙ ap lines_of (take-append-drop (line_len unread) unread) ∙ lines-step unread some) in
    ap (map without_terminator) (lines-append (length line) line more (omega arith) ends)
    ∙ map-append without_terminator (lines_of line) (lines_of more)
    ∙ ap (λ lines. map without_terminator lines ++ text_lines more) one

-- what came before a line was taken off, by what comes after
abbrev pub Before : StreamState → Option (List ℕ) → Bool → List ℕ → List ℕ → Coming → Type 0
Before state known is_sure unread line after =
    (before : Coming) × StateMayCome state known is_sure unread before × (before.fails ≡ after.fails) × (text_lines before.bytes ≡ line ∷ text_lines after.bytes)

fed_before : (known : Option (List ℕ)) (is_sure : Bool) (unread line : List ℕ) → 0 < length unread → slice_index unread (line_len unread - 1) ≡ 10
    → line ≡ without_terminator (take (line_len unread) unread) → (after : Coming) → MayCome known is_sure (drop (line_len unread) unread) after → Before Open known is_sure unread line after
fed_before known is_sure unread line some feed text after may =
    let first = take (line_len unread) unread in
    let left = drop (line_len unread) unread in
    let ends = front_line unread some feed in
    let whole : first ++ (left ++ may.later) ≡ unread ++ may.later =
    sym (append_assoc first left may.later) ∙ ap (λ b. b ++ may.later) (take-append-drop (line_len unread) unread) in (
      record { bytes = first ++ after.bytes; fails = after.fails },
      record {
        later = may.later;
        of_known = may.of_known;
        whole = λ no. ap (λ b. first ++ b) (may.whole no) ∙ whole;
        failing = λ yes.
            let failing = may.failing yes in
            let prefix = failing.2 in (
              failing.0,
              whole_front first after.bytes (take (line_len unread - 1) unread, ends) failing.1,
              (prefix.0, append_assoc first after.bytes prefix.0 ∙ ap (λ b. first ++ b) prefix.1 ∙ whole),
            );
      },
      refl,
      fed_text unread after.bytes some (inr (subst (λ l. slice_index l (length l - 1) ≡ 10) (sym ends) (last-append (take (line_len unread - 1) unread) 10 [])))
          ∙ ap (λ l. l ∷ text_lines after.bytes) (sym text),
    )

pub taken_off : (state : StreamState) (known : Option (List ℕ)) (is_sure : Bool) (unread : List ℕ) (found : FoundLine) → IsLineAt state unread found
    → (after : Coming) → StateMayCome state known is_sure (drop found.next unread) after → Before state known is_sure unread (take found.len unread) after
taken_off Open known is_sure unread found line after may =
    fed_before known is_sure unread (take found.len unread) line.some (ap (λ n. slice_index unread (n - 1)) (sym line.next) ∙ line.ends) line.text after
    (subst (λ n. MayCome known is_sure (drop n unread) after) line.next may)
taken_off Ended known is_sure unread found line after may = (
  record { bytes = unread; fails = after.fails },
  (may.0, refl),
  refl,
  text_lines-step unread line.some ∙ ap (λ l. l ∷ text_lines (drop (line_len unread) unread)) (sym line.text)
      ∙ ap (λ b. take found.len unread ∷ text_lines b) (ap (λ n. drop n unread) (sym line.next) ∙ sym may.1),
)
taken_off Failed known is_sure unread found line after may = absurd line.ends

-- ---- what a read brings

known_before : (known known' : Option (List ℕ)) (came later : List ℕ) → Consumes known known' came → IfSome known' (λ known. later ≡ known) → IfSome known (λ known. came ++ later ≡ known)
known_before None known' came later takes of_known = tt
known_before (Some all) None came later takes of_known = absurd takes
known_before (Some all) (Some rest) came later takes of_known = ap (λ b. came ++ b) of_known ∙ sym takes

-- bytes that came might have come
pub brought : (known known' : Option (List ℕ)) (is_sure is_sure' : Bool) (unread unread' : List ℕ) (count : ℕ) → Brings known known' is_sure unread (Some count) unread' → is_sure' ≡ is_sure
    → (coming : Coming) → MayCome known' is_sure' unread' coming → MayCome known is_sure unread coming
brought known known' is_sure is_sure' unread unread' count brings same coming may =
    let came = brings.0 in
    let joined : unread' ++ may.later ≡ unread ++ (came ++ may.later) = ap (λ b. b ++ may.later) brings.1 ∙ append_assoc unread came may.later in
    record {
      later = came ++ may.later;
      of_known = known_before known known' came may.later brings.3 may.of_known;
      whole = λ no. may.whole no ∙ joined;
      failing = λ yes.
          let failing = may.failing yes in
          (sym same ∙ failing.0, failing.1, (failing.2.0, failing.2.1 ∙ joined));
    }

some_later : (known : Option (List ℕ)) → (later : List ℕ) × IfSome known (λ known. later ≡ known)
some_later None = ([], tt)
some_later (Some all) = (all, refl)

-- a read that failed might have failed before
pub failed : (known : Option (List ℕ)) (is_sure : Bool) (unread : List ℕ) → is_sure ≡ false → (coming : Coming) → (coming.fails ≡ true) × (coming.bytes ≡ []) → MayCome known is_sure unread coming
failed known is_sure unread unsure coming none =
    let later = some_later known in
    record {
      later = later.0;
      of_known = later.1;
      whole = λ no. cc;
      failing = λ yes. (unsure, inl none.1, (unread ++ later.0, ap (λ b. b ++ (unread ++ later.0)) none.1));
    }
