-- Ranges of bytes, from a place on.
use Rattle.std.proofs.Common.{◌≡◌, ℕ, zero, suc, ◌+◌, ◌-◌, ◌<◌, ◌≤◌, List, ◌++◌, Option, Some, None, IfSome, length, take, drop, refl, sym, ap, ◌∙◌, arith}
use Rattle.std.proofs.Math.Seq.{take-add}
use Rattle.std.proofs.lemmas.List.{drop-drop, drop_all, take-append-le}
use Rattle.std.specs.Io.KnownBytes.{Consumes, IsAtEnd}
use Rattle.byte_io.specs.Stored.{known_range}

-- the front of a range, and what is behind it
pub range_parts : (all : List ℕ) (at count left : ℕ) → count ≤ left → take left (drop at all) ≡ take count (drop at all) ++ take (left - count) (drop (at + count) all)
range_parts all at count left le =
    let sum : left ≡ count + (left - count) = omega arith in
    ap (λ n. take n (drop at all)) sum ∙ take-add count (left - count) (drop at all)
    ∙ ap (λ rest. take count (drop at all) ++ take (left - count) rest) (drop-drop count at all)

-- who reads the front of a range into the front of a buffer consumes it
pub front_read : (known : Option (List ℕ)) (at count left : ℕ) (front back : List ℕ) → count ≤ left → count ≤ length front → IfSome known (λ all. take count front ≡ take count (drop at all))
    → Consumes (known_range known at left) (known_range known (at + count) (left - count)) (take count (front ++ back))
front_read None at count left front back within room is = tt
front_read (Some all) at count left front back within room is =
    range_parts all at count left within
    ∙ ap (λ came. came ++ take (left - count) (drop (at + count) all)) (sym is ∙ sym (take-append-le count front back room))

-- nothing is in a range that has no room, or begins behind all bytes
pub range_end : (known : Option (List ℕ)) (at count left : ℕ) → (0 < left → IfSome known (λ all. length all ≤ at)) → IsAtEnd (known_range known (at + count) left)
range_end None at count left behind = tt
range_end (Some all) at count zero behind = refl
range_end (Some all) at count (suc left) behind =
    ap (take (suc left)) (drop_all (at + count) all (omega (arith, behind (omega arith))))
