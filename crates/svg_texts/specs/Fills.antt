-- The colours of boxes, which are those of a page: by a hash of the name, or by the change.
use Rattle.std.specs.Prelude.{ℕ, ◌+◌, ◌-◌, ◌*◌, ◌/◌, ◌%◌, ◌^◌, min, max, ◌==◌, nat_lt, List, ◌++◌, codes, decimal, if◌then◌else◌}
use Rattle.std.specs.List.{fold}

-- the root of a picture of one profile
abbrev pub root_fill : List ℕ
root_fill = codes "hsl(220, 8%, 82%)"

-- the hash of a name, byte by byte, in 32 bits
abbrev pub hash_step : ℕ → ℕ → ℕ
hash_step hash byte = (hash * 31 + byte) % 2 ^ 32

abbrev pub hash_of : List ℕ → ℕ
hash_of name = fold hash_step 0 name

-- the number of a name's colour: the product brings the low bits of the hash among the upper ones, of which it is made
abbrev pub colour_of : ℕ → ℕ
colour_of hash = hash * 2654435769 % 2 ^ 32 / 65536 % 108

-- one of 36 hues in one of three lights
abbrev pub fill_of_number : ℕ → List ℕ
fill_of_number number = codes "hsl(" ++ (decimal (10 * (number % 36)) ++ (codes ", 48%, " ++ (decimal (74 + 4 * (number / 36)) ++ codes "%)")))

unfoldable pub name_fill : List ℕ → List ℕ
name_fill name = fill_of_number (colour_of (hash_of name))

-- how much a weight or a share changed, in tenths of the greater one, rounded up
abbrev pub shade : ℕ → ℕ → ℕ
shade before after = (10 * (max before after - min before after) + max before after - 1) / max before after

-- the tenths of a percent that a shade is saturated by: none without a change, and from 30.7% to 74.0%
abbrev pub saturation : ℕ → ℕ
saturation shade = if shade == 0 then 0 else (2595 + 481 * shade) / 10

-- red for more and blue for less, the fuller the greater the change is
abbrev pub fill_of_shade : ℕ → ℕ → List ℕ
fill_of_shade hue shade =
    codes "hsl("
    ++ (decimal hue ++ (codes ", " ++ (decimal (saturation shade / 10) ++ (codes "." ++ (decimal (saturation shade % 10) ++ (codes "%, " ++ (decimal (88 - 2 * shade) ++ codes ".0%)")))))))

unfoldable pub change_fill : ℕ → ℕ → List ℕ
change_fill before after = if before == after then fill_of_shade 6 0 else fill_of_shade (if nat_lt before after then 6 else 213) (shade before after)
