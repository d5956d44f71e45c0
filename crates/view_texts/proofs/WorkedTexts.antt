-- Worked examples, computed on the definitions.
use Rattle.std.proofs.Common.{◌≡◌, codes, refl}
use Rattle.std.specs.Prelude.{encode_utf8_all}
use lib.Utf8.{encode}
use Rattle.std.specs.Fmt.{digits}
use Rattle.view_texts.specs.Quotients.{quotient_text, decimals}
use Rattle.view_texts.specs.Shares.{hundredths, points_text, share_text}
use Rattle.view_texts.specs.WeightTexts.{weight_text, change_text}

-- a step is taken from 0.9995 of it on; half of the last digit goes up, and zeros at the end are dropped
times : (weight_text (codes "nanoseconds") 756000000 ≡ codes "756 ms")
    × (weight_text (codes "nanoseconds") 999499 ≡ encode_utf8_all (codes "999 µs"))
    × (weight_text (codes "nanoseconds") 999500 ≡ codes "1 ms")
    × (weight_text (codes "nanoseconds") 0 ≡ codes "0 ns")
    × (weight_text (codes "nanoseconds") 1 ≡ codes "1 ns")
    × (weight_text (codes "microseconds") 12345 ≡ codes "12.3 ms")
    × (weight_text (codes "milliseconds") 1200 ≡ codes "1.2 s")
    × (weight_text (codes "milliseconds") 1995 ≡ codes "2 s")
    × (weight_text (codes "milliseconds") 9996 ≡ codes "10 s")
    × (weight_text (codes "milliseconds") 99950 ≡ codes "100 s")
    × (weight_text (codes "milliseconds") 99949 ≡ codes "99.9 s")
    × (weight_text (codes "milliseconds") 999500 ≡ codes "1,000 s")
    × (weight_text (codes "milliseconds") 999499 ≡ codes "999 s")
    × (weight_text (codes "seconds") 18446744073709551615 ≡ codes "18,446,744,073,709,551,615 s")
unfolding weight_text quotient_text decimals digits encode
times = (refl, refl, refl, refl, refl, refl, refl, refl, refl, refl, refl, refl, refl, refl)

-- 0.9995 KiB are 1023.488 B
sizes : (weight_text (codes "bytes") 1234567 ≡ codes "1.18 MiB")
    × (weight_text (codes "bytes") 1000 ≡ codes "1,000 B")
    × (weight_text (codes "bytes") 1023 ≡ codes "1,023 B")
    × (weight_text (codes "kilobytes") 1 ≡ codes "1 KiB")
    × (weight_text (codes "kilobytes") 1536 ≡ codes "1.5 MiB")
    × (weight_text (codes "megabytes") 3000 ≡ codes "2.93 GiB")
    × (weight_text (codes "gigabytes") 18446744073709551615 ≡ codes "18,014,398,509,481,984 TiB")
    × (weight_text (codes "bytes") 0 ≡ codes "0 B")
unfolding weight_text quotient_text decimals digits
sizes = (refl, refl, refl, refl, refl, refl, refl, refl)

-- units without steps
counts : (weight_text (codes "") 1500 ≡ codes "1,500")
    × (weight_text (codes "count") 999 ≡ codes "999")
    × (weight_text (codes "objects") 12 ≡ codes "12 objects")
    × (weight_text (codes "samples") 1234567 ≡ codes "1,234,567 samples")
unfolding weight_text quotient_text decimals digits
counts = (refl, refl, refl, refl)

changes : (change_text 8 9 ≡ codes "+12.5%")
    × (change_text 12 11 ≡ encode_utf8_all (codes "−8.33%"))
    × (change_text 0 5 ≡ codes "new")
    × (change_text 5 0 ≡ codes "gone")
    × (change_text 7 7 ≡ encode_utf8_all (codes "±0%"))
    × (change_text 0 0 ≡ encode_utf8_all (codes "±0%"))
    × (change_text 2 25 ≡ codes "+1,150%")
    × (change_text 100000 100123 ≡ codes "+0.123%")
    × (change_text 18446744073709551615 18446744073709551614 ≡ encode_utf8_all (codes "−0.00000000000000000542%"))
    × (change_text 1 18446744073709551615 ≡ codes "+1,844,674,407,370,955,161,400%")
unfolding change_text quotient_text decimals digits encode
changes = (refl, refl, refl, refl, refl, refl, refl, refl, refl, refl)

shares : (share_text 3 2 ≡ codes "66.67%")
    × (share_text 7 7 ≡ codes "100.00%")
    × (share_text 0 7 ≡ codes "0.00%")
unfolding digits
shares = (refl, refl, refl)

-- half of a hundredth of a percent goes up, and less goes down
hundredths_of : (hundredths 20000 1 ≡ 1)
    × (hundredths 20001 1 ≡ 0)
hundredths_of = (refl, refl)

points : (points_text 1250 1500 ≡ codes "+2.50%")
    × (points_text 10000 0 ≡ codes "-100.00%")
    × (points_text 7 7 ≡ codes "0.00%")
unfolding digits
points = (refl, refl, refl)
