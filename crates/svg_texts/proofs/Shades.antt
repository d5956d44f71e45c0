-- Tenths of a number.
use Rattle.std.proofs.Common.{◌≡◌, ◌∙◌, ℕ, ◌+◌, ◌*◌, ◌/◌, ◌%◌, ap, arith}

spread : (count q r : ℕ) → count * (10 * q + r) ≡ 10 * (count * q) + count * r
spread count q r = omega arith

-- so many tenths of a number, rounded down
pub tenths_of : (count number : ℕ) → count * (number / 10) + count * (number % 10) / 10 ≡ count * number / 10
tenths_of count number = parted (count * (number / 10)) (count * (number % 10)) (count * number) (ap (λ n. count * n) divided ∙ spread count (number / 10) (number % 10))
  where
    divided : number ≡ 10 * (number / 10) + number % 10
    divided = omega arith

    parted : (first second whole : ℕ) → whole ≡ 10 * first + second → first + second / 10 ≡ whole / 10
    parted first second whole is = omega (arith, is)
