-- How shares of two sides are compared in numbers of 128 bits.
use Rattle.std.proofs.Common.{◌≡◌, ◌∙◌, ℕ, ◌+◌, ◌*◌, ◌/◌, ◌%◌, min, ap, arith}

spread : (p q r : ℕ) → p * (100 * q + r) ≡ 100 * (p * q) + p * r
spread p q r = omega arith

parted : (most p both q r : ℕ) → p * both ≡ 100 * (p * q) + p * r → min (min (p * q) most + p * r / 100) most ≡ min most (p * both / 100)
parted most p both q r whole = omega (arith, whole)

-- so many hundredths of a number, rounded down, and no more than the most
pub capped : (most p both : ℕ) → min (min (p * (both / 100)) most + p * (both % 100) / 100) most ≡ min most (p * both / 100)
capped most p both =
    let divided : both ≡ 100 * (both / 100) + both % 100 = omega arith in
    parted most p both (both / 100) (both % 100) (ap (λ n. p * n) divided ∙ spread p (both / 100) (both % 100))
