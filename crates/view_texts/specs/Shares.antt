-- What part of a whole a weight is.
use Rattle.std.specs.Prelude.{ℕ, ◌+◌, ◌*◌, ◌/◌, ◌%◌, List, [], ◌∷◌, ◌++◌, codes, decimal, if◌then◌else◌, nat_lt}
use Rattle.std.specs.Int.{abs_diff}
use Rattle.view_texts.specs.Quotients.{nearest}

-- in hundredths of a percent: the nearest number, and of two the greater
abbrev pub hundredths : ℕ → ℕ → ℕ
hundredths whole weight = nearest (10000 * weight) whole

-- so many hundredths of a percent, with two decimals
abbrev pub percent_text : ℕ → List ℕ
percent_text parts = decimal (parts / 100) ++ (46 ∷ (48 + parts / 10 % 10) ∷ (48 + parts % 10) ∷ 37 ∷ [])

abbrev pub share_text : ℕ → ℕ → List ℕ
share_text whole weight = percent_text (hundredths whole weight)

-- by how many hundredths of a percent there is more or less after than before
abbrev pub points_sign : ℕ → ℕ → List ℕ
points_sign before after =
    if nat_lt before after then codes "+" else (if nat_lt after before then codes "-" else [])

abbrev pub points_text : ℕ → ℕ → List ℕ
points_text before after = points_sign before after ++ percent_text (abs_diff before after)
