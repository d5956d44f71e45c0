-- Names that a head shares with the one before.
use Rattle.std.specs.Prelude.{◌≡◌, ◌<◌, ◌≤◌, ◌+◌, ℕ, nat_lt, if◌then◌else◌, List, [], ◌++◌, length, take, drop, map, All, Option, None, Some}
use Rattle.std.specs.Borrow.{Bor}
use Rattle.std.specs.List.{slice_split}
use Rattle.stack_core.specs.Records.{names_at}
use Rattle.folded_lines.specs.Lines.{is_semicolon, lossy_text, names_of}

-- what the bytes behind a place, and behind the ';' there, are cut into
abbrev pub parts_behind : List ℕ → ℕ → List (List ℕ)
parts_behind bytes at = if nat_lt at (length bytes) then slice_split is_semicolon (drop (at + 1) bytes) else []

-- a part ends at the place
abbrev pub IsEnd : List ℕ → ℕ → Type 0
IsEnd bytes at = slice_split is_semicolon bytes ≡ slice_split is_semicolon (take at bytes) ++ parts_behind bytes at

-- both are the same up to a place where a part of each ends
pub record IsSharedEnd (last head : List ℕ) (end : ℕ) : Type 0 where
  pub last_within : end ≤ length last
  pub head_within : end ≤ length head
  pub same : take end last ≡ take end head
  pub last_end : IsEnd last end
  pub head_end : IsEnd head end

-- what is left is cut into
abbrev pub parts_left : Option (Bor (List ℕ)) → List (List ℕ)
parts_left None = []
parts_left (Some rest) = slice_split is_semicolon rest.now

-- the names of a head are these
pub record IsNamedBy (names : List (List ℕ)) (head numbers : List ℕ) : Type 0 where
  pub known : All (λ k. k < length names) numbers
  pub named : names_at names numbers ≡ names_of head

-- wherever the last head is named by its numbers, the head begins with the names of these frames, and has behind them those that are left
pub record BeginsIn (names : List (List ℕ)) (head frames : List ℕ) (rest : Option (Bor (List ℕ))) : Type 0 where
  pub known : All (λ k. k < length names) frames
  pub parts : map lossy_text (slice_split is_semicolon head) ≡ names_at names frames ++ map lossy_text (parts_left rest)

abbrev pub BeginsAs : List ℕ → List ℕ → List ℕ → List ℕ → Option (Bor (List ℕ)) → Type 0
BeginsAs last numbers head frames rest = (names : List (List ℕ)) → IsNamedBy names last numbers → BeginsIn names head frames rest
