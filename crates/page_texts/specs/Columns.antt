-- What the columns of a drawing tell of a box: where it stands by the box before it, and its own weight by whether the next one stands on it.
use Rattle.std.specs.Prelude.{ℕ, Bool, ◌+◌, ◌-◌, ◌%◌, ◌^◌, ◌==◌, [], if◌then◌else◌}
use Rattle.flame_layout.specs.declared.boxes.SpanBox.{SpanBox}

-- sums and differences of 64 bits, which go round at 2^64; in a drawing whose boxes lie on each other and side by side nothing does
abbrev pub plus : ℕ → ℕ → ℕ
plus a b = (a + b) % 2 ^ 64

abbrev pub minus : ℕ → ℕ → ℕ
minus a b = (a + (2 ^ 64 - b)) % 2 ^ 64

-- what stands before the first box: the root is beside it
abbrev pub no_span : SpanBox
no_span = record { depth = 0; name = []; start = 0; weight = 0; own = 0 }

abbrev pub end_of : SpanBox → ℕ
end_of span = plus span.start span.weight

-- how many levels a box is nearer to the root than one that stands on the box before it
abbrev pub up_of : SpanBox → SpanBox → ℕ
up_of before span = minus (before.depth + 1) span.depth

-- whether it stands on the box before it
abbrev pub is_on : SpanBox → SpanBox → Bool
is_on before span = up_of before span == 0

-- from where a box can begin: where the box before it begins if it stands on that, and else where that ends
abbrev pub front_of : Bool → SpanBox → ℕ
front_of on before = if on then before.start else end_of before

-- how far behind that it begins
abbrev pub gap_of : SpanBox → SpanBox → ℕ
gap_of before span = minus span.start (front_of (is_on before span) before)

-- how far before the end of the box on which it stands it ends, and its weight where it does not stand on the box before it
abbrev pub tail_of : SpanBox → SpanBox → ℕ
tail_of before span = if is_on before span then minus (end_of before) (end_of span) else span.weight

-- its own weight where the next box stands on it, and else what of its weight is not its own
abbrev pub rest_of : Bool → SpanBox → ℕ
rest_of is_under span = if is_under then span.own else minus span.weight span.own
