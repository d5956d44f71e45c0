-- The bytes of the signs that are not ASCII.
use Rattle.std.proofs.Common.{◌≡◌, [], ◌∷◌, codes, refl}
use Rattle.std.specs.Prelude.{encode_utf8_all}
use lib.Utf8.{encode}

pub micro : encode_utf8_all (codes "µs") ≡ 194 ∷ 181 ∷ 115 ∷ []
unfolding encode
micro = refl

pub minus : encode_utf8_all (codes "−") ≡ 226 ∷ 136 ∷ 146 ∷ []
unfolding encode
minus = refl

pub same : encode_utf8_all (codes "±0%") ≡ 194 ∷ 177 ∷ 48 ∷ 37 ∷ []
unfolding encode
same = refl
