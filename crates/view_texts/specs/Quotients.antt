-- Whole numbers with commas, and quotients with three digits.
use Rattle.std.specs.Prelude.{ℕ, zero, suc, ◌+◌, ◌*◌, ◌/◌, ◌%◌, ◌^◌, ◌==◌, ◌&&◌, if◌then◌else◌, nat_lt, nat_le, List, [], ◌∷◌, ◌++◌, length, decimal}

-- the whole number nearest to a quotient, and of two the greater
abbrev pub nearest : ℕ → ℕ → ℕ
nearest part whole = (2 * part + whole) / (2 * whole)

-- a comma, where three digits follow, or six, or nine and so on
abbrev pub comma_before : ℕ → List ℕ
comma_before following = if nat_lt 0 following && (following % 3 == 0) then 44 ∷ [] else []

abbrev pub with_commas : List ℕ → List ℕ
with_commas [] = []
with_commas (digit ∷ digits) = digit ∷ (comma_before (length digits) ++ with_commas digits)

abbrev pub grouped : ℕ → List ℕ
grouped number = with_commas (decimal number)

-- how many decimals three digits need: as few, of so many at most, as make a quotient a hundred of the last place
unfoldable pub decimals : ℕ → ℕ → ℕ → ℕ
decimals zero part whole = 0
decimals (suc more) part whole = if nat_le (100 * whole) part then 0 else suc (decimals more (10 * part) whole)

-- the decimals of so many of the last place, up to the last that is not 0
abbrev pub fraction : ℕ → ℕ → List ℕ
fraction zero left = []
fraction (suc places) left = if left == 0 then [] else (48 + left / 10 ^ places) ∷ fraction places (left % 10 ^ places)

abbrev pub after_point : ℕ → ℕ → List ℕ
after_point places left = if left == 0 then [] else 46 ∷ fraction places left

-- so many of the last place, where there are so many decimals
abbrev pub placed : ℕ → ℕ → List ℕ
placed places count = grouped (count / 10 ^ places) ++ after_point places (count % 10 ^ places)

-- A quotient with three digits, and of a hundred and more with all before the point. The smallest change of a weight of
-- 64 bits has 20 decimals.
unfoldable pub quotient_text : ℕ → ℕ → List ℕ
quotient_text part whole =
    let places = decimals 20 part whole in
    placed places (nearest (10 ^ places * part) whole)
