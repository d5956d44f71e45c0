-- Which spellings are known: each a part of a text that the caller holds, with the row that it stands for.
use Rattle.std.specs.Prelude.{◌≡◌, ℕ, ◌⊎◌, List, [], ◌∷◌, ◌++◌, slice_range, Contains}

-- the bytes of the text from `start` up to `end`, and the row that they spell
pub record Spelling : Type 0 where
  pub start : ℕ
  pub end : ℕ
  pub row : ℕ

-- the row is that of a known spelling, whose bytes are those from `start` up to `end`
pub record IsRowOf (known : List Spelling) (text : List ℕ) (start end row : ℕ) : Type 0 where
  pub spelling : Spelling
  pub is_known : Contains known spelling
  pub same_bytes : slice_range text spelling.start spelling.end ≡ slice_range text start end
  pub row_is : spelling.row ≡ row

-- nothing is new, or the spelling alone
abbrev pub GrowsByAtMost : Spelling → List Spelling → List Spelling → Type 0
GrowsByAtMost spelling known known' = (known' ≡ known) ⊎ (known' ≡ known ++ spelling ∷ [])
