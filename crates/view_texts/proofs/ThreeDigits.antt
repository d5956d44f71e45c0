-- The decimals of a quotient are as many as three digits need, and no more.
use Rattle.std.proofs.Common.{◌≡◌, ℕ, zero, suc, ◌^◌, ◌*◌, ◌<◌, ◌≤◌, ⊎_elim, arith}
use Rattle.std.proofs.lemmas.Bool.{cases_lt}
use Rattle.std.proofs.Math.Nat.{pow-succ'}
use Rattle.view_texts.specs.Quotients.{decimals}
use Rattle.view_texts.proofs.Places.{decimals-zero, decimals-suc, no_decimal_more}

shifted : (places part : ℕ) → 10 ^ suc places * part ≡ 10 ^ places * (10 * part)
shifted places part = rw (pow-succ' 10 places) (omega arith)

-- enough, where so many at most are
pub enough : (most part whole : ℕ) → 100 * whole ≤ 10 ^ most * part → 100 * whole ≤ 10 ^ decimals most part whole * part
enough zero part whole all = rw (decimals-zero part whole) all
enough (suc most) part whole all = ⊎_elim
    (λ few.
    let rest = enough most (10 * part) whole (omega (arith, all, shifted most part)) in
    rw (decimals-suc most part whole few, shifted (decimals most (10 * part) whole) part) rest)
    (λ none. rw (no_decimal_more (suc most) part whole none) (omega arith))
    (cases_lt part (100 * whole))

pub fewest : (most part whole : ℕ) → 0 < decimals most part whole → 10 ^ decimals most part whole * part < 1000 * whole
fewest zero part whole some = absurd (omega (arith, some, decimals-zero part whole))
fewest (suc most) part whole some = ⊎_elim
    (λ few. ⊎_elim
    (λ more. rw (decimals-suc most part whole few, shifted (decimals most (10 * part) whole) part) (fewest most (10 * part) whole more))
    (λ (last : decimals most (10 * part) whole ≤ 0).
    let one : decimals (suc most) part whole ≡ 1 = omega (arith, last, decimals-suc most part whole few) in
    rw one (omega arith))
    (cases_lt 0 (decimals most (10 * part) whole)))
    (λ none. absurd (omega (arith, some, no_decimal_more (suc most) part whole none)))
    (cases_lt part (100 * whole))
