-- How a weight and a change of it are said.
use Rattle.std.specs.Prelude.{ℕ, ◌*◌, ◌^◌, ◌==◌, ◌||◌, if◌then◌else◌, nat_lt, nat_le, List, [], ◌∷◌, ◌++◌, codes, find, unwrap_or, encode_utf8_all}
use Rattle.std.specs.Int.{abs_diff}
use Rattle.std.specs.Str.{bytes_eq}
use Rattle.view_texts.specs.Quotients.{grouped, quotient_text}
use Rattle.view_texts.specs.declared.measures.Measure.{Measure}
use Rattle.view_texts.specs.declared.measures.Measure.TheVariants.{Time, Size, Count}

-- what a unit measures, and how many nanoseconds or bytes it has
abbrev pub measure_of : List ℕ → Measure
measure_of unit =
    if bytes_eq unit (codes "nanoseconds") then Time 1
    else (if bytes_eq unit (codes "microseconds") then Time 1000
    else (if bytes_eq unit (codes "milliseconds") then Time 1000000
    else (if bytes_eq unit (codes "seconds") then Time 1000000000
    else (if bytes_eq unit (codes "bytes") then Size 1
    else (if bytes_eq unit (codes "kilobytes") then Size 1024
    else (if bytes_eq unit (codes "megabytes") then Size (1024 ^ 2)
    else (if bytes_eq unit (codes "gigabytes") then Size (1024 ^ 3)
    else Count)))))))

-- a step in which times or sizes are said: how many nanoseconds or bytes it has, and its sign
pub record Step : Type 0 where
  pub size : ℕ
  pub sign : List ℕ

abbrev pub step : ℕ → List ℕ → Step
step size sign = record { size = size; sign = sign }

abbrev pub time_steps : List Step
time_steps = step 1000000000 (codes "s") ∷ step 1000000 (codes "ms") ∷ step 1000 (encode_utf8_all (codes "µs")) ∷ []

abbrev pub size_steps : List Step
size_steps = step (1024 ^ 4) (codes "TiB") ∷ step (1024 ^ 3) (codes "GiB") ∷ step (1024 ^ 2) (codes "MiB") ∷ step 1024 (codes "KiB") ∷ []

-- the largest step of which so many are 0.9995 at least, and else the smallest
abbrev pub step_of : List Step → List ℕ → ℕ → Step
step_of larger smallest count =
    unwrap_or (find (λ it. nat_le (9995 * it.size) (10000 * count)) larger) (step 1 smallest)

-- so many nanoseconds or bytes in a step
abbrev pub stepped : Step → ℕ → List ℕ
stepped it count = quotient_text count it.size ++ (32 ∷ it.sign)

-- a unit behind a number that counts it
abbrev pub unit_after : List ℕ → List ℕ
unit_after unit = if bytes_eq unit [] || bytes_eq unit (codes "count") then [] else 32 ∷ unit

abbrev pub measured_text : List ℕ → ℕ → Measure → List ℕ
measured_text unit weight (Time size) = stepped (step_of time_steps (codes "ns") (size * weight)) (size * weight)
measured_text unit weight (Size size) = stepped (step_of size_steps (codes "B") (size * weight)) (size * weight)
measured_text unit weight Count = grouped weight ++ unit_after unit

unfoldable pub weight_text : List ℕ → ℕ → List ℕ
weight_text unit weight = measured_text unit weight (measure_of unit)

abbrev pub change_sign : ℕ → ℕ → List ℕ
change_sign before after = if nat_lt before after then codes "+" else encode_utf8_all (codes "−")

-- how much more or less there is, in percent of what there was before
abbrev pub percent_change : ℕ → ℕ → List ℕ
percent_change before after =
    change_sign before after ++ (quotient_text (100 * abs_diff before after) before ++ codes "%")

unfoldable pub change_text : ℕ → ℕ → List ℕ
change_text before after =
    if before == after then encode_utf8_all (codes "±0%")
    else (if before == 0 then codes "new"
    else (if after == 0 then codes "gone"
    else percent_change before after))
