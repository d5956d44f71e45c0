-- The first line of some bytes.
use Rattle.std.proofs.Common.{◌≡◌, ◌≢◌, ℕ, ◌+◌, ◌-◌, ◌<◌, ◌==◌, nat_lt, List, length, take, take_all, length-take-le, get_or-take, slice_index, sym, ap, ◌∙◌, arith}
use Rattle.std.proofs.lemmas.Bool.{cond-true, cond-false, eq-eqb, eqb-true, ne_eqb, lt-ltb, and_right}
use Rattle.std.proofs.lemmas.List.{take-take}
use Rattle.memchr.specs.Find.{Nowhere, Passes, is_byte}
use Rattle.bstr.specs.Text.{line_len, no_cr, without_terminator}
use Rattle.bstr.proofs.lemmas.LineLemmas.{line_len-at, line_len-none}
use Rattle.folded_lines.proofs.NumberLemmas.{and_true}

absent : (bytes : List ℕ) (end : ℕ) → Nowhere (Passes (is_byte 10) bytes) 0 end → (k : ℕ) → k < end → slice_index bytes k ≢ 10
absent bytes end none k within is = none k (omega arith) within (eq-eqb (slice_index bytes k) 10 is)

-- no LF: the line is all of the bytes
pub line_len-all : (bytes : List ℕ) → Nowhere (Passes (is_byte 10) bytes) 0 (length bytes) → length bytes ≡ line_len bytes
line_len-all bytes none = sym (line_len-none bytes (absent bytes (length bytes) none))

pub without_terminator-all : (bytes : List ℕ) → 0 < length bytes → Nowhere (Passes (is_byte 10) bytes) 0 (length bytes)
    → bytes ≡ without_terminator (take (line_len bytes) bytes)
without_terminator-all bytes some none =
    let whole : take (line_len bytes) bytes ≡ bytes = take_all (line_len bytes) bytes (omega (arith, line_len-all bytes none)) in
    let open_end : slice_index bytes (length bytes - 1) ≢ 10 = absent bytes (length bytes) none (length bytes - 1) (omega arith) in
    sym (ap without_terminator whole ∙ cond-false _ _ _ (and_right (nat_lt 0 (length bytes)) _ (ne_eqb _ 10 open_end)))

-- the line ends at the first LF
pub line_len-found : (bytes : List ℕ) (at : ℕ) → at < length bytes → Nowhere (Passes (is_byte 10) bytes) 0 at → Passes (is_byte 10) bytes at → at + 1 ≡ line_len bytes
line_len-found bytes at within none here =
    sym (line_len-at bytes at within (eqb-true (slice_index bytes at) 10 here) (absent bytes at none))

pub without_terminator-found : (bytes : List ℕ) (at : ℕ) → at < length bytes → Nowhere (Passes (is_byte 10) bytes) 0 at → Passes (is_byte 10) bytes at
    → no_cr (take at bytes) ≡ without_terminator (take (line_len bytes) bytes)
without_terminator-found bytes at within none here =
    let line = take (at + 1) bytes in
    let long : length line ≡ at + 1 = length-take-le (at + 1) bytes (omega arith) in
    let last : length line - 1 ≡ at = omega arith in
    let feed : slice_index line (length line - 1) ≡ 10 =
    ap (slice_index line) last ∙ get_or-take (at + 1) bytes at 0 (omega arith) ∙ eqb-true (slice_index bytes at) 10 here in
    let ends = and_true (nat_lt 0 (length line)) (slice_index line (length line - 1) == 10) (lt-ltb 0 (length line) (omega arith)) (eq-eqb _ 10 feed) in
    let front : take (length line - 1) line ≡ take at bytes = ap (λ k. take k line) last ∙ take-take at (at + 1) bytes (omega arith) in
    sym (ap (λ k. without_terminator (take k bytes)) (sym (line_len-found bytes at within none here)) ∙ cond-true _ _ _ ends ∙ ap no_cr front)
