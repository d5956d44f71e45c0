-- Bytes in a buffer, by where they stand.
use Rattle.std.proofs.Common.{◌≡◌, ◌<◌, ◌≤◌, ◌+◌, ◌-◌, ℕ, Bool, Vec, Global, List, ◌++◌, length, take, drop, slice_index, slice_range, sym, ap, subst, ◌∙◌, arith, ⊎_elim, get_or-take, get_or-drop, length-take-le, length-drop, length-append, append-nil}
use Rattle.std.proofs.lemmas.Bool.{cases_lt}
use Rattle.std.proofs.lemmas.List.{take-take, take-append-le}
use Rattle.std.proofs.lemmas.Slice.{between_is}
use Rattle.std.specs.Vec.{with_items}
use Rattle.memchr.specs.Find.{Nowhere, Passes, NoneBefore, is_byte}
use Rattle.stack_core.specs.Parts.{bytes_of}
use Rattle.stack_core.specs.declared.source_bytes.SourceBytes.TheVariants.{Own}
use Rattle.bytes.proofs.Ranges.{slice_range_grown, take-append_past}
use Rattle.folded_lines.specs.checked.LineBuffers.{held_by, IsBuffer}
use Rattle.folded_lines.specs.declared.line_buffer.LineBuffer.TheInside.{Inside}

pub length_range : (xs : List ℕ) (from to : ℕ) → to ≤ length xs → length (slice_range xs from to) ≡ to - from
length_range xs from to within = length-take-le (to - from) (drop from xs) (omega (arith, length-drop from xs))

pub range_at : (xs : List ℕ) (from to k : ℕ) → k < to - from → slice_index (slice_range xs from to) k ≡ slice_index xs (from + k)
range_at xs from to k within = get_or-take (to - from) (drop from xs) k 0 within ∙ get_or-drop from xs k 0

-- what passes in a range passes in what it is a range of, and in a longer range
pub passes_in : (test : ℕ → Bool) (xs : List ℕ) (from to k : ℕ) → k < to - from → Passes test (slice_range xs from to) k → Passes test xs (from + k)
passes_in test xs from to k within passes = ap test (sym (range_at xs from to k within)) ∙ passes

pub passes_of : (test : ℕ → Bool) (xs : List ℕ) (from to k place : ℕ) → k < to - from → place ≡ from + k → Passes test xs place → Passes test (slice_range xs from to) k
passes_of test xs from to k place within is passes = ap test (range_at xs from to k within ∙ ap (slice_index xs) (sym is)) ∙ passes

-- none up to a place, and none behind it
nowhere_on : (test : ℕ → Bool) (xs : List ℕ) (start middle to end : ℕ) → end ≤ to - middle → Nowhere (Passes test xs) start middle → Nowhere (Passes test (slice_range xs middle to)) 0 end
    → Nowhere (Passes test xs) start (middle + end)
nowhere_on test xs start middle to end within front back k low high passes = ⊎_elim
    (λ before. front k low before passes)
    (λ behind. back (k - middle) (omega arith) (omega arith) (passes_of test xs middle to (k - middle) k (omega arith) (omega arith) passes))
    (cases_lt k middle)

-- none in a range
pub nowhere_of : (test : ℕ → Bool) (xs : List ℕ) (start end len : ℕ) → len ≤ end - start → Nowhere (Passes test xs) start (start + len) → Nowhere (Passes test (slice_range xs start end)) 0 len
nowhere_of test xs start end len within none k low high passes = none (start + k) (omega arith) (omega arith) (passes_in test xs start end k (omega arith) passes)

-- ---- an LF that is looked for only behind what was looked through

new_length : (buffer : Inside) → IsBuffer buffer → length (slice_range (bytes_of buffer.bytes) buffer.searched buffer.end) ≡ buffer.end - buffer.searched
new_length buffer ok = length_range (bytes_of buffer.bytes) buffer.searched buffer.end (omega (arith, ok.within))

pub held_length : (buffer : Inside) → IsBuffer buffer → length (held_by buffer) ≡ buffer.end - buffer.start
held_length buffer ok = length_range (bytes_of buffer.bytes) buffer.start buffer.end (omega (arith, ok.within))

new_none : (buffer : Inside) (seen : List ℕ) → IsBuffer buffer → seen ≡ (bytes_of buffer.bytes)
    → Nowhere (Passes (is_byte 10) (slice_range seen buffer.searched buffer.end)) 0 (length (slice_range seen buffer.searched buffer.end))
    → Nowhere (Passes (is_byte 10) (slice_range (bytes_of buffer.bytes) buffer.searched buffer.end)) 0 (buffer.end - buffer.searched)
new_none buffer seen ok same none =
    let new = subst (λ (xs : List ℕ). Nowhere (Passes (is_byte 10) (slice_range xs buffer.searched buffer.end)) 0 (length (slice_range xs buffer.searched buffer.end))) same none in
    subst (Nowhere (Passes (is_byte 10) (slice_range (bytes_of buffer.bytes) buffer.searched buffer.end)) 0) (new_length buffer ok) new

-- where no LF is new, none is in the buffer
pub none_new : (buffer : Inside) (seen : List ℕ) → IsBuffer buffer → seen ≡ (bytes_of buffer.bytes)
    → Nowhere (Passes (is_byte 10) (slice_range seen buffer.searched buffer.end)) 0 (length (slice_range seen buffer.searched buffer.end))
    → Nowhere (Passes (is_byte 10) (bytes_of buffer.bytes)) buffer.start buffer.end
none_new buffer seen ok same none =
    let all : buffer.searched + (buffer.end - buffer.searched) ≡ buffer.end = omega (arith, ok.high) in
    subst (Nowhere (Passes (is_byte 10) (bytes_of buffer.bytes)) buffer.start) all
    (nowhere_on (is_byte 10) (bytes_of buffer.bytes) buffer.start buffer.searched buffer.end (buffer.end - buffer.searched) (omega arith) ok.unfed (new_none buffer seen ok same none))

pub none_held : (buffer : Inside) (held : List ℕ) → IsBuffer buffer → held_by buffer ≡ held → Nowhere (Passes (is_byte 10) (bytes_of buffer.bytes)) buffer.start buffer.end
    → Nowhere (Passes (is_byte 10) held) 0 (length held)
none_held buffer held ok is none =
    let long = held_length buffer ok in
    let all : buffer.start + length (held_by buffer) ≡ buffer.end = omega (arith, ok.low, ok.high, long) in
    subst (λ (bytes : List ℕ). Nowhere (Passes (is_byte 10) bytes) 0 (length bytes)) is
    (nowhere_of (is_byte 10) (bytes_of buffer.bytes) buffer.start buffer.end (length (held_by buffer)) (omega (arith, long))
    (subst (Nowhere (Passes (is_byte 10) (bytes_of buffer.bytes)) buffer.start) (sym all) none))

-- the first LF among the new bytes
abbrev IsNewFeed : Inside → List ℕ → ℕ → Type 0
IsNewFeed buffer seen at =
    NoneBefore (Passes (is_byte 10) (slice_range seen buffer.searched buffer.end)) 0 (length (slice_range seen buffer.searched buffer.end)) at
    × Passes (is_byte 10) (slice_range seen buffer.searched buffer.end) at

new_feed : (buffer : Inside) (seen : List ℕ) (at : ℕ) → seen ≡ (bytes_of buffer.bytes) → IsNewFeed buffer seen at → IsNewFeed buffer (bytes_of buffer.bytes) at
new_feed buffer seen at same found = subst (λ (xs : List ℕ). IsNewFeed buffer xs at) same found

feed_within : (buffer : Inside) (at : ℕ) → IsBuffer buffer → IsNewFeed buffer (bytes_of buffer.bytes) at → at < buffer.end - buffer.searched
feed_within buffer at ok found = omega (arith, found.0.high, new_length buffer ok)

pub found_new : (buffer : Inside) (seen : List ℕ) (at : ℕ) → IsBuffer buffer → seen ≡ (bytes_of buffer.bytes) → IsNewFeed buffer seen at
    → (buffer.searched + at < buffer.end) × Nowhere (Passes (is_byte 10) (bytes_of buffer.bytes)) buffer.start (buffer.searched + at)
found_new buffer seen at ok same found =
    let here = new_feed buffer seen at same found in
    let within = feed_within buffer at ok here in (
      omega (arith, within),
      nowhere_on (is_byte 10) (bytes_of buffer.bytes) buffer.start buffer.searched buffer.end at (omega (arith, within)) ok.unfed here.0.before,
    )

-- it is the first of all
pub found_held : (buffer : Inside) (seen held : List ℕ) (at : ℕ) → IsBuffer buffer → seen ≡ (bytes_of buffer.bytes) → IsNewFeed buffer seen at → held_by buffer ≡ held
    → NoneBefore (Passes (is_byte 10) held) 0 (length held) (buffer.searched + at - buffer.start) × Passes (is_byte 10) held (buffer.searched + at - buffer.start)
found_held buffer seen held at ok same found is =
    let here = new_feed buffer seen at same found in
    let within = feed_within buffer at ok here in
    let place = buffer.searched + at - buffer.start in
    let back : buffer.start + place ≡ buffer.searched + at = omega (arith, ok.low) in
    let inside : place < buffer.end - buffer.start = omega (arith, within, ok.low, ok.high) in
    let none = subst (Nowhere (Passes (is_byte 10) (bytes_of buffer.bytes)) buffer.start) (sym back) (found_new buffer seen at ok same found).1 in
    let feed = passes_in (is_byte 10) (bytes_of buffer.bytes) buffer.searched buffer.end at within here.1 in
    subst (λ (bytes : List ℕ). NoneBefore (Passes (is_byte 10) bytes) 0 (length bytes) place × Passes (is_byte 10) bytes place) is (
      record {
        low = omega arith;
        high = omega (arith, inside, held_length buffer ok);
        before = nowhere_of (is_byte 10) (bytes_of buffer.bytes) buffer.start buffer.end place (omega (arith, inside)) none;
      },
      passes_of (is_byte 10) (bytes_of buffer.bytes) buffer.start buffer.end place (buffer.searched + at) inside (sym back) feed,
    )

-- ---- what is read behind the bytes of a buffer

-- a buffer's bytes stand at the front of longer ones, whose rest was read into
pub record IsRoom (buffer : Inside) (room : Vec ℕ Global) (seen read : List ℕ) : Type 0 where
  pub ok : IsBuffer buffer
  pub front : take buffer.end room.items ≡ take buffer.end (bytes_of buffer.bytes)
  pub same : seen ≡ room.items
  pub long : buffer.end + length read ≡ room.len

pub room_of : (buffer : Inside) (room : Vec ℕ Global) (seen read : List ℕ) → IsBuffer buffer → take buffer.end room.items ≡ take buffer.end (bytes_of buffer.bytes) → buffer.end < room.len
    → seen ≡ room.items → length read ≡ length (take (length seen - buffer.end) (drop buffer.end seen)) → IsRoom buffer room seen read
room_of buffer room seen read ok front some same long = record {
  ok = ok;
  front = front;
  same = same;
  long =
      let all : length seen ≡ room.len = ap length same ∙ sym room.ok.0 in
      omega (arith, long, all, some, length-take-le (length seen - buffer.end) (drop buffer.end seen) (omega (arith, length-drop buffer.end seen)));
}

abbrev written : Inside → Vec ℕ Global → List ℕ → List ℕ → List ℕ → Vec ℕ Global
written buffer room seen read more = with_items room (take buffer.end seen ++ (read ++ more))

-- the buffer with bytes up to a place
abbrev pub read_to : Inside → Vec ℕ Global → List ℕ → List ℕ → List ℕ → ℕ → Inside
read_to buffer room seen read more to =
    record { bytes = Own (with_items room (take buffer.end seen ++ (read ++ more))); start = buffer.start; searched = buffer.searched; end = to }

read_front : (buffer : Inside) (room : Vec ℕ Global) (seen read more : List ℕ) (count to : ℕ) → IsRoom buffer room seen read → count ≤ length read → to ≡ buffer.end + count
    → take to (written buffer room seen read more).items ≡ take buffer.end (bytes_of buffer.bytes) ++ take count read
read_front buffer room seen read more count to at few is =
    let front = take buffer.end seen in
    let text = front ++ (read ++ more) in
    let long : length front ≡ buffer.end = length-take-le buffer.end seen (omega (arith, at.long, ap length at.same, room.ok.0)) in
    let reaches : to ≤ length text = omega (arith, long, is, few, length-append front (read ++ more), length-append read more) in
    take-take to room.len (text ++ drop (length text) room.items) (omega (arith, is, few, at.long))
    ∙ take-append-le to text (drop (length text) room.items) reaches
    ∙ take-append_past front (read ++ more) count to (omega (arith, is, long))
    ∙ ap (λ b. front ++ b) (take-append-le count read more few)
    ∙ ap (λ b. b ++ take count read) (ap (take buffer.end) at.same ∙ at.front)

front_kept : (buffer : Inside) (room : Vec ℕ Global) (seen read more : List ℕ) → IsRoom buffer room seen read
    → take buffer.end (written buffer room seen read more).items ≡ take buffer.end (bytes_of buffer.bytes)
front_kept buffer room seen read more at =
    read_front buffer room seen read more 0 buffer.end at (omega arith) (omega arith) ∙ append-nil (take buffer.end (bytes_of buffer.bytes))

pub held_more : (buffer : Inside) (room : Vec ℕ Global) (seen read more : List ℕ) (count to : ℕ) → IsRoom buffer room seen read → count ≤ length read → to ≡ buffer.end + count
    → held_by (read_to buffer room seen read more to) ≡ held_by buffer ++ take count read
held_more buffer room seen read more count to at few is =
    slice_range_grown (bytes_of buffer.bytes) (written buffer room seen read more).items (take count read) buffer.start buffer.end to (omega (arith, at.ok.low, at.ok.high))
    at.ok.within (read_front buffer room seen read more count to at few is)

pub held_same : (buffer : Inside) (room : Vec ℕ Global) (seen read more : List ℕ) → IsRoom buffer room seen read → held_by (read_to buffer room seen read more buffer.end) ≡ held_by buffer
held_same buffer room seen read more at =
    held_more buffer room seen read more 0 buffer.end at (omega arith) (omega arith) ∙ append-nil (held_by buffer)

nowhere_kept : (test : ℕ → Bool) (xs ys : List ℕ) (start searched end : ℕ) → searched ≤ end → take end ys ≡ take end xs → Nowhere (Passes test xs) start searched → Nowhere (Passes test ys) start searched
nowhere_kept test xs ys start searched end within same none k low high passes =
    let same_at : slice_index ys k ≡ slice_index xs k =
    sym (get_or-take end ys k 0 (omega arith)) ∙ ap (λ (bytes : List ℕ). slice_index bytes k) same ∙ get_or-take end xs k 0 (omega arith) in
    none k low high (ap test (sym same_at) ∙ passes)

pub read_ok : (buffer : Inside) (room : Vec ℕ Global) (seen read more : List ℕ) (to : ℕ) → IsRoom buffer room seen read → buffer.end ≤ to → to ≤ room.len → IsBuffer (read_to buffer room seen read more to)
read_ok buffer room seen read more to at further within = record {
  low = at.ok.low;
  high = omega (arith, at.ok.high);
  within = omega (arith, within, (written buffer room seen read more).ok.0);
  unfed = nowhere_kept (is_byte 10) (bytes_of buffer.bytes) (written buffer room seen read more).items buffer.start buffer.searched buffer.end at.ok.high (front_kept buffer room seen read more at) at.ok.unfed;
}

-- room was made, or there was none to be had
pub held_in_room : (buffer : Inside) (room : Vec ℕ Global) → take buffer.end room.items ≡ take buffer.end (bytes_of buffer.bytes)
    → held_by (record { bytes = Own room; start = buffer.start; searched = buffer.searched; end = buffer.end }) ≡ held_by buffer
held_in_room buffer room front =
    between_is room.items buffer.start buffer.end ∙ ap (drop buffer.start) front ∙ sym (between_is (bytes_of buffer.bytes) buffer.start buffer.end)
