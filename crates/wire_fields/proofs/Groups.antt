-- A varint, read group by group.
use Rattle.std.proofs.Common.{◌≡◌, ℕ, zero, suc, ◌+◌, ◌-◌, ◌*◌, ◌%◌, ◌^◌, ◌<◌, ◌≤◌, List, [], ◌∷◌, length, get_or, take, drop, Result, Ok, Err, refl, sym, ap, subst, ◌∙◌, arith, inl, inr, lit<}
use Rattle.std.specs.Prelude.{bit_and}
use Rattle.std.proofs.lemmas.Bool.{le-ltb, lt-ltb, cases_lt}
use Rattle.std.proofs.lemmas.List.{drop_more, take_all, length-drop}
use Rattle.std.proofs.lemmas.Nat.{pow-add, shl_whole, mul-add-lt, and_mask}
use Rattle.std.proofs.Math.Nat.{pow-le-pow_right}
use Rattle.std.proofs.Math.ListN.{drop_of_length-le}
use Rattle.wire_fields.specs.declared.fault.WireKind.{WireKind}
use Rattle.wire_fields.specs.declared.fault.WireKind.TheVariants.{Truncated, BadVarint}
use Rattle.wire_fields.specs.Steps.{◌>>=◌}
use Rattle.wire_fields.specs.Varint.{varint_within}

abbrev pub Read : Type 0
Read = Result (ℕ × List ℕ) WireKind

-- the number whose low groups are `low`, and whose others are read
abbrev pub with_low : ℕ → ℕ → Read → Read
with_low low scale (Ok high) = Ok (low + scale * high.0, high.1)
with_low low scale (Err kind) = Err kind

with_low_twice : (low scale group : ℕ) (high : Read) → with_low low scale (with_low group 128 high) ≡ with_low (low + group * scale) (scale * 128) high
with_low_twice low scale group (Ok x) = let e : low + scale * (group + 128 * x.0) ≡ low + group * scale + scale * 128 * x.0 = omega arith in let f : ℕ → Read = λ n. Ok (n, x.1) in ap f e
with_low_twice low scale group (Err kind) = refl

-- ---- one byte

pub within_none : (more : ℕ) → varint_within more [] ≡ Err Truncated
unfolding varint_within
within_none zero = refl
within_none (suc more) = refl

pub within_last : (more byte : ℕ) (rest : List ℕ) → byte < 128 → (more ≡ 0 → byte ≤ 1) → varint_within more (byte ∷ rest) ≡ Ok (byte, rest)
unfolding varint_within
within_last zero byte rest low tenth = rw (le-ltb 1 byte (tenth refl)) refl
within_last (suc more) byte rest low tenth = rw (lt-ltb byte 128 low) refl

bind_is_with_low : (group : ℕ) (high : Read) → (high >>= λ x. Ok (group + 128 * x.0, x.1)) ≡ with_low group 128 high
bind_is_with_low group (Ok x) = refl
bind_is_with_low group (Err kind) = refl

pub within_more : (more byte : ℕ) (rest : List ℕ) → 128 ≤ byte → varint_within (suc more) (byte ∷ rest) ≡ with_low (byte % 128) 128 (varint_within more rest)
unfolding varint_within
within_more more byte rest high = rw (le-ltb byte 128 high) (bind_is_with_low (byte % 128) (varint_within more rest))

pub within_bad : (byte : ℕ) (rest : List ℕ) → 1 < byte → varint_within 0 (byte ∷ rest) ≡ Err BadVarint
unfolding varint_within
within_bad byte rest above = rw (lt-ltb 1 byte above) refl

-- ---- what the loop knows of the whole number

pub tells_truncated : (place low scale : ℕ) (bytes : List ℕ) (whole : Read) → length bytes ≤ place → with_low low scale (varint_within (9 - place) (drop place bytes)) ≡ whole → whole ≡ Err Truncated
tells_truncated place low scale bytes whole past told =
    sym told ∙ ap (λ rest. with_low low scale (varint_within (9 - place) rest)) (drop_of_length-le bytes past) ∙ ap (with_low low scale) (within_none (9 - place))

pub tells_bad : (place low scale : ℕ) (bytes : List ℕ) (whole : Read) → place ≡ 9 → place < length bytes → 1 < get_or bytes place 0 → with_low low scale (varint_within (9 - place) (drop place bytes)) ≡ whole → whole ≡ Err BadVarint
tells_bad place low scale bytes whole nine within above told =
    let none_more : 9 - place ≡ 0 = omega arith in
    let read : varint_within (9 - place) (drop place bytes) ≡ Err BadVarint =
    rw (none_more, drop_more bytes place 0 within) (within_bad (get_or bytes place 0) (drop (place + 1) bytes) above) in
    sym told ∙ ap (with_low low scale) read

pub tells_last : (place low scale : ℕ) (bytes : List ℕ) (whole : Read) → place ≤ 9 → place < length bytes → get_or bytes place 0 < 128 → (place ≡ 9 → get_or bytes place 0 ≤ 1) →
    with_low low scale (varint_within (9 - place) (drop place bytes)) ≡ whole → whole ≡ Ok (low + scale * get_or bytes place 0, drop (place + 1) bytes)
tells_last place low scale bytes whole at_most within last tenth told =
    let read : varint_within (9 - place) (drop place bytes) ≡ Ok (get_or bytes place 0, drop (place + 1) bytes) =
    rw (drop_more bytes place 0 within) (within_last (9 - place) (get_or bytes place 0) (drop (place + 1) bytes) last (λ e. tenth (omega arith))) in
    sym told ∙ ap (with_low low scale) read

pub tells_more : (place low scale : ℕ) (bytes : List ℕ) (whole : Read) → place < 9 → place < length bytes → 128 ≤ get_or bytes place 0 →
    with_low low scale (varint_within (9 - place) (drop place bytes)) ≡ whole →
    with_low (low + get_or bytes place 0 % 128 * scale) (scale * 128) (varint_within (9 - (place + 1)) (drop (place + 1) bytes)) ≡ whole
tells_more place low scale bytes whole below within high told =
    let byte = get_or bytes place 0 in
    let later = varint_within (9 - (place + 1)) (drop (place + 1) bytes) in
    let one_more : 9 - place ≡ suc (9 - (place + 1)) = omega arith in
    let read : varint_within (9 - place) (drop place bytes) ≡ with_low (byte % 128) 128 later =
    rw (one_more, drop_more bytes place 0 within) (within_more (9 - (place + 1)) byte (drop (place + 1) bytes) high) in
    sym (with_low_twice low scale (byte % 128) later) ∙ sym (ap (with_low low scale) read) ∙ told

-- ---- the number fits

pub scale_more : (place : ℕ) → 2 ^ (7 * (place + 1)) ≡ 2 ^ (7 * place) * 128
scale_more place = let e : 7 * (place + 1) ≡ 7 * place + 7 = omega arith in ap (λ (k : ℕ). 2 ^ k) e ∙ pow-add 2 (7 * place) 7

-- a group is kept whole when it is shifted to its place
pub group_shifted : (group place : ℕ) → group < 128 → place ≤ 9 → (place ≡ 9 → group ≤ 1) → (group * 2 ^ (7 * place)) % 18446744073709551616 ≡ group * 2 ^ (7 * place)
group_shifted group place small at_most tenth =
    elim (cases_lt place 9) [
      | inl below ↦ shl_whole group 7 (7 * place) 64 small (omega arith)
      | inr nine ↦ shl_whole group 1 (7 * place) 64 (omega (arith, tenth (omega arith))) (omega arith)
    ]

pub group_below : (low group place : ℕ) → low < 2 ^ (7 * place) → group < 128 → low + group * 2 ^ (7 * place) < 2 ^ (7 * (place + 1))
group_below low group place below small = rw (scale_more place) (omega (arith, mul-add-lt group (2 ^ (7 * place)) low 128 small below))

pub group_fits : (low group place : ℕ) → low < 2 ^ (7 * place) → group < 128 → place ≤ 9 → (place ≡ 9 → group ≤ 1) → low + group * 2 ^ (7 * place) < 18446744073709551616
group_fits low group place below small at_most tenth =
    elim (cases_lt place 9) [
      | inl lt ↦
          let at_most_63 : 7 * (place + 1) ≤ 63 = omega arith in
          let most : 2 ^ (7 * (place + 1)) ≤ 2 ^ 63 = pow-le-pow_right (lit< tt) at_most_63 in
          omega (arith, group_below low group place below small, most)
      | inr ge ↦
          let nine : place ≡ 9 = omega arith in
          let P : ℕ → Type 0 = λ p. low < 2 ^ (7 * p) → low + group * 2 ^ (7 * p) < 18446744073709551616 in
          let at_nine : P 9 = λ h. omega (arith, tenth nine) in
          subst P (sym nine) at_nine below
    ]

pub low_group : (byte : ℕ) → bit_and byte 127 ≡ byte % 128
low_group byte = and_mask byte 7

-- what the loop does to the number, at a byte that it takes
pub record Adds (low byte group place new : ℕ) : Type 0 where
  pub below : new < 2 ^ (7 * (place + 1))
  pub fits : new < 18446744073709551616
  pub value : new ≡ low + byte % 128 * 2 ^ (7 * place)

pub added : (low byte group place : ℕ) → low < 2 ^ (7 * place) → place ≤ 9 → (place ≡ 9 → byte ≤ 1) → group ≡ bit_and byte 127 →
    Adds low byte group place (low + group * 2 ^ (7 * place) % 18446744073709551616)
added low byte group place below at_most tenth is_group =
    let e : group ≡ byte % 128 = is_group ∙ low_group byte in
    let small : byte % 128 < 128 = omega arith in
    let last : place ≡ 9 → byte % 128 ≤ 1 = λ nine. omega (arith, tenth nine) in
    let whole = group_shifted (byte % 128) place small at_most last in
    let P : ℕ → Type 0 = λ n. Adds low byte group place (low + n) in
    let Q : ℕ → Type 0 = λ g. P (g * 2 ^ (7 * place) % 18446744073709551616) in
    subst Q (sym e) (subst P (sym whole) (record {
      below = group_below low (byte % 128) place below small;
      fits = group_fits low (byte % 128) place below small at_most last;
      value = refl;
    }))

pub ends_with : (place low byte group new : ℕ) (bytes : List ℕ) (whole : Read) → Adds low byte group place new → byte ≡ get_or bytes place 0 → place ≤ 9 → place < length bytes → byte < 128 → (place ≡ 9 → byte ≤ 1) →
    with_low low (2 ^ (7 * place)) (varint_within (9 - place) (drop place bytes)) ≡ whole → whole ≡ Ok (new, take (length bytes - (place + 1)) (drop (place + 1) bytes))
ends_with place low byte group new bytes whole adds is_byte at_most within last tenth told =
    let P : ℕ → Type 0 = λ b. b < 128 → (place ≡ 9 → b ≤ 1) → whole ≡ Ok (low + 2 ^ (7 * place) * b, drop (place + 1) bytes) in
    let read : P byte = subst P (sym is_byte) (λ h t. tells_last place low (2 ^ (7 * place)) bytes whole at_most within h t told) in
    let same : byte % 128 ≡ byte = omega arith in
    let f : ℕ → ℕ = λ b. low + b * 2 ^ (7 * place) in
    let commuted : low + 2 ^ (7 * place) * byte ≡ low + byte * 2 ^ (7 * place) = omega arith in
    let value : low + 2 ^ (7 * place) * byte ≡ new = commuted ∙ sym (ap f same) ∙ sym adds.value in
    let rest : take (length bytes - (place + 1)) (drop (place + 1) bytes) ≡ drop (place + 1) bytes =
    take_all (length bytes - (place + 1)) (drop (place + 1) bytes) (rw length-drop (omega arith)) in
    rw (← value, rest) (read last tenth)

pub goes_on_with : (place low byte group new : ℕ) (bytes : List ℕ) (whole : Read) → Adds low byte group place new → byte ≡ get_or bytes place 0 → place < 9 → place < length bytes → 128 ≤ byte →
    with_low low (2 ^ (7 * place)) (varint_within (9 - place) (drop place bytes)) ≡ whole →
    with_low new (2 ^ (7 * (place + 1))) (varint_within (9 - (place + 1)) (drop (place + 1) bytes)) ≡ whole
goes_on_with place low byte group new bytes whole adds is_byte below within high told =
    let P : ℕ → Type 0 = λ b. 128 ≤ b → with_low (low + b % 128 * 2 ^ (7 * place)) (2 ^ (7 * place) * 128) (varint_within (9 - (place + 1)) (drop (place + 1) bytes)) ≡ whole in
    let read : P byte = subst P (sym is_byte) (λ h. tells_more place low (2 ^ (7 * place)) bytes whole below within h told) in
    rw (adds.value, scale_more place) (read high)

-- a byte behind which others come is not the tenth
pub not_the_tenth : (place byte : ℕ) → place ≤ 9 → (place ≡ 9 → byte ≤ 1) → 128 ≤ byte → place < 9
not_the_tenth place byte at_most tenth high =
    elim (cases_lt place 9) [
      | inl below ↦ below
      | inr nine ↦ absurd (omega (arith, tenth (omega arith)))
    ]
