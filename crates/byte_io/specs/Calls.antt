-- How a reader and a writer count their calls that failed.
use Rattle.std.specs.Prelude.{◌≡◌, ℕ, ◌+◌, ◌-◌, ◌^◌, min, List, length, ◌==◌, ◌&&◌, nat_lt, if◌then◌else◌, Result, MatchResult}

-- one failed call more; the greatest count stays, and stands for any count from there on
abbrev pub one_more : ℕ → ℕ
one_more count = min (count + 1) (2 ^ 64 - 1)

-- a read fails where it errs
abbrev pub CountsRead : {E : Type 0} → ℕ → ℕ → Result ℕ E → Type 0
CountsRead old new r = MatchResult r (λ _. new ≡ old) (λ _. new ≡ one_more old)

-- a write fails where it errs, or takes none of some bytes
abbrev pub CountsWrite : {E : Type 0} → ℕ → ℕ → Result ℕ E → List ℕ → Type 0
CountsWrite old new r bytes =
    MatchResult r (λ n. new ≡ (if n == 0 && nat_lt 0 (length bytes) then one_more old else old)) (λ _. new ≡ one_more old)

-- a flush fails where it errs
abbrev pub CountsFlush : {T E : Type 0} → ℕ → ℕ → Result T E → Type 0
CountsFlush old new r = MatchResult r (λ _. new ≡ old) (λ _. new ≡ one_more old)
