-- How many decimals a quotient has, and powers of ten.
use Rattle.std.proofs.Common.{◌≡◌, ℕ, zero, suc, ◌+◌, ◌^◌, ◌*◌, ◌/◌, ◌%◌, ◌<◌, ◌≤◌, [], ◌∷◌, refl, ap, ◌∙◌, arith}
use Rattle.std.proofs.lemmas.Grind.{common_steps}
use Rattle.std.proofs.Math.Nat.{one-le-pow, pow-succ'}
use Rattle.view_texts.specs.Quotients.{nearest, decimals, fraction, placed, quotient_text}

pub ten_some : (k : ℕ) → 0 < 10 ^ k
ten_some k = omega (arith, one-le-pow k 10)

pub ten_more : (k : ℕ) → 10 ^ (k + 1) ≡ 10 * 10 ^ k
ten_more k = ap (λ n. 10 ^ n) (suc_is k) ∙ pow-succ' 10 k
  where
    suc_is : (n : ℕ) → n + 1 ≡ suc n
    suc_is n = omega arith

pub decimals-suc : (more part whole : ℕ) → part < 100 * whole → decimals (suc more) part whole ≡ suc (decimals more (10 * part) whole)
unfolding decimals
decimals-suc more part whole few = grind (arith, common_steps)

-- a decimal more
pub decimal_more : (count more part whole : ℕ) → count ≡ suc more → part < 100 * whole → decimals count part whole ≡ suc (decimals more (10 * part) whole)
decimal_more count more part whole is few = ap (λ n. decimals n part whole) is ∙ decimals-suc more part whole few

-- and none more
pub no_decimal_more : (more part whole : ℕ) → 100 * whole ≤ part → decimals more part whole ≡ 0
unfolding decimals
no_decimal_more zero part whole enough = refl
no_decimal_more (suc more) part whole enough = grind (arith, common_steps)

pub decimals-zero : (part whole : ℕ) → decimals 0 part whole ≡ 0
unfolding decimals
decimals-zero part whole = refl

-- what is left of a last place has a place
pub places_some : (places left : ℕ) → 0 < left → left < 10 ^ places → 0 < places
places_some zero left some within = absurd (omega arith)
places_some (suc places) left some within = omega arith

fraction_suc : (places left : ℕ) → 0 < left → fraction (suc places) left ≡ (48 + left / 10 ^ places) ∷ fraction places (left % 10 ^ places)
fraction_suc places left some = grind (arith, common_steps)

-- a decimal more
pub fraction_more : (places next left : ℕ) → places ≡ suc next → 0 < left → fraction places left ≡ (48 + left / 10 ^ next) ∷ fraction next (left % 10 ^ next)
fraction_more places next left is some = ap (λ n. fraction n left) is ∙ fraction_suc next left some

pub fraction-zero : (places : ℕ) → fraction places 0 ≡ []
fraction-zero zero = refl
fraction-zero (suc places) = refl

-- a part counted in tenths of what it was counted in
pub tenfold : (k part scaled : ℕ) → scaled ≡ 10 ^ k * part → 10 * scaled ≡ 10 ^ (k + 1) * part
tenfold k part scaled is = rw (ten_more k) (omega arith)

pub quotient_placed : (part whole places scaled count : ℕ) → places ≡ decimals 20 part whole → scaled ≡ 10 ^ places * part → count ≡ nearest scaled whole → placed places count ≡ quotient_text part whole
unfolding quotient_text
quotient_placed part whole places scaled count is by rounded =
    let counted = rounded ∙ ap (λ n. nearest n whole) (by ∙ ap (λ k. 10 ^ k * part) is) in
    λ i. placed (is i) (counted i)
