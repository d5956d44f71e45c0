-- Items one after another, for each way to spell and to read one of them.
use Rattle.std.proofs.Common.{◌≡◌, ◌≢◌, ℕ, zero, suc, ◌+◌, ◌-◌, ◌<◌, ◌≤◌, List, [], ◌∷◌, ◌++◌, length, Option, Some, None, Result, Ok, Err, refl, sym, ap, subst, ◌∙◌, arith, append_assoc, add-zero, zero-add, append-nil}
use Rattle.std.specs.Prelude.{true, false, ◌==◌}
use Rattle.std.proofs.lemmas.Bool.{eqb-true}
use Rattle.std.proofs.lemmas.List.{length-append}
use Rattle.wire_fields.specs.declared.fault.WireKind.{WireKind}
use Rattle.wire_fields.specs.declared.fault.WireFault.{WireFault}
use Rattle.wire_fields.specs.Spelling.{Concatenates}
use Rattle.wire_fields.specs.Reading.{Left, EndsAt, IsReading, left_at}

-- `read` takes what spells an item off the front, whatever follows it, and else answers the first fault.
pub record IsReader {A : Type 0} (IsAt : ℕ → A → List ℕ → Type 0) (First : List ℕ → WireKind → Type 0) (read : ℕ → List ℕ → Result (A × List ℕ) WireKind) : Type 0 where
  pub taken : (at : ℕ) (x : A) (spelling rest : List ℕ) → IsAt at x spelling → read at (spelling ++ rest) ≡ Ok (x, rest)
  pub found : (at : ℕ) (bytes : List ℕ) (x : A) (rest : List ℕ) → read at bytes ≡ Ok (x, rest) → (spelling : List ℕ) × (bytes ≡ spelling ++ rest) × IsAt at x spelling
  pub not_empty : (at : ℕ) (x : A) (spelling : List ℕ) → IsAt at x spelling → 0 < length spelling
  pub fault : (at : ℕ) (bytes : List ℕ) (kind : WireKind) → read at bytes ≡ Err kind → First bytes kind
  pub only_fault : (at : ℕ) (bytes : List ℕ) (kind : WireKind) → First bytes kind → read at bytes ≡ Err kind

pub not_both : {A : Type 0} (r : Result A WireKind) (x : A) (kind : WireKind) → r ≡ Ok x → r ≡ Err kind → ⊥
not_both r x kind p q = cc

abbrev done : {A : Type 0} → A → Result A WireKind
done x = Ok x

pub ok_is : {A : Type 0} (x y : A) → done x ≡ done y → x ≡ y
ok_is x y e = cc

pub shorter : (spelling rest bytes : List ℕ) → bytes ≡ spelling ++ rest → length bytes ≡ length spelling + length rest
shorter spelling rest bytes e = ap length e ∙ length-append spelling rest

-- ---- the first of what is left

-- what is left behind the bytes of an item
pub left_past : {A : Type 0} (read : ℕ → List ℕ → Result (A × List ℕ) WireKind) (at : ℕ) (front rest : List ℕ) →
    left_at read at (length front) (front ++ rest) ≡ left_at read (at + length front) 0 rest
unfolding left_at
left_past read at [] rest = ap (λ n. left_at read n 0 rest) (sym (add-zero at))
left_past read at (byte ∷ front) rest =
    let e : at + 1 + length front ≡ at + length (byte ∷ front) = omega arith in
    left_past read (at + 1) front rest ∙ ap (λ n. left_at read n 0 rest) e

abbrev pub with_first : {A : Type 0} → A → Left A → Left A
with_first x later = record { items = x ∷ later.items; fault = later.fault }

-- behind an item that is read
pub left_first : {A : Type 0} (read : ℕ → List ℕ → Result (A × List ℕ) WireKind) (at : ℕ) (spelling rest : List ℕ) (x : A) →
    0 < length spelling → read at (spelling ++ rest) ≡ Ok (x, rest) → left_at read at 0 (spelling ++ rest) ≡ with_first x (left_at read (at + length spelling) 0 rest)
unfolding left_at
left_first read at [] rest x some e = absurd (omega arith)
left_first read at (byte ∷ front) rest x some e =
    let skipped : length (front ++ rest) - length rest ≡ length front = omega (arith, length-append front rest) in
    let place : at + 1 + length front ≡ at + length (byte ∷ front) = omega arith in
    let later : left_at read (at + 1) (length (front ++ rest) - length rest) (front ++ rest) ≡ left_at read (at + length (byte ∷ front)) 0 rest =
    ap (λ n. left_at read (at + 1) n (front ++ rest)) skipped ∙ left_past read (at + 1) front rest ∙ ap (λ n. left_at read n 0 rest) place in
    rw e (ap (with_first x) later)

-- at a fault
pub left_fault : {A : Type 0} (read : ℕ → List ℕ → Result (A × List ℕ) WireKind) (at : ℕ) (bytes : List ℕ) (kind : WireKind) →
    bytes ≢ [] → read at bytes ≡ Err kind → left_at read at 0 bytes ≡ record { items = []; fault = Some (record { kind = kind; at = at }) }
unfolding left_at
left_fault read at [] kind some e = absurd (some refl)
left_fault read at (byte ∷ bytes) kind some e = rw (left_at, e) refl

pub left_none : {A : Type 0} (read : ℕ → List ℕ → Result (A × List ℕ) WireKind) (at : ℕ) → left_at read at 0 [] ≡ record { items = []; fault = None }
unfolding left_at
left_none read at = refl

-- by what `is_empty` answered
pub left_if_empty : {A : Type 0} (read : ℕ → List ℕ → Result (A × List ℕ) WireKind) (at : ℕ) (bytes : List ℕ) →
    true ≡ (length bytes == 0) → left_at read at 0 bytes ≡ record { items = []; fault = None }
left_if_empty read at [] is = left_none read at
left_if_empty read at (byte ∷ bytes) is = absurd (omega (arith, eqb-true (length (byte ∷ bytes)) 0 (sym is)))

pub left_if_fault : {A : Type 0} (read : ℕ → List ℕ → Result (A × List ℕ) WireKind) (at : ℕ) (bytes : List ℕ) (kind : WireKind) →
    false ≡ (length bytes == 0) → read at bytes ≡ Err kind → left_at read at 0 bytes ≡ record { items = []; fault = Some (record { kind = kind; at = at }) }
left_if_fault read at [] kind is e = absurd cc
left_if_fault read at (byte ∷ bytes) kind is e = left_fault read at (byte ∷ bytes) kind (λ none. cc) e

-- ---- what reading means

module _ {A : Type 0} (IsAt : ℕ → A → List ℕ → Type 0) (First : List ℕ → WireKind → Type 0) (read : ℕ → List ℕ → Result (A × List ℕ) WireKind) (reader : IsReader IsAt First read) where
  -- what spells a list is read as this list, and then comes the ending
  pub reads_back : (items : List A) (at : ℕ) (front rest : List ℕ) (fault : Option WireFault) → Concatenates IsAt at items front → EndsAt First (at + length front) rest fault →
      left_at read at 0 (front ++ rest) ≡ record { items = items; fault = fault }
  reads_back [] at front rest None spelled ends =
      rw (spelled, ends) (left_none read at)
  reads_back [] at front rest (Some fault) spelled ends =
      let no_front : front ++ rest ≡ rest = ap (λ (l : List ℕ). l ++ rest) spelled in
      let place : fault.at ≡ at = ends.1 ∙ ap (λ (l : List ℕ). at + length l) spelled ∙ add-zero at in
      let f : ℕ → Left A = λ n. record { items = []; fault = Some (record { kind = fault.kind; at = n }) } in
      ap (left_at read at 0) no_front ∙ left_fault read at rest fault.kind ends.0 (reader.only_fault at rest fault.kind ends.2) ∙ ap f (sym place)
  reads_back (x ∷ items) at front rest fault spelled ends =
      let spelling = spelled.0 in
      let others = spelled.1 in
      let whole : front ++ rest ≡ spelling ++ (others ++ rest) = ap (λ (l : List ℕ). l ++ rest) spelled.2 ∙ append_assoc spelling others rest in
      let place : at + length front ≡ at + length spelling + length others = omega (arith, shorter spelling others front spelled.2) in
      let ends_later : EndsAt First (at + length spelling + length others) rest fault = subst (λ n. EndsAt First n rest fault) place ends in
      ap (left_at read at 0) whole
      ∙ left_first read at spelling (others ++ rest) x (reader.not_empty at x spelling spelled.3) (reader.taken at x spelling (others ++ rest) spelled.3)
      ∙ ap (with_first x) (reads_back items (at + length spelling) others rest fault spelled.4 ends_later)

  -- no bytes spell two lists
  pub one_list : (items others : List A) (bytes : List ℕ) → Concatenates IsAt 0 items bytes → Concatenates IsAt 0 others bytes → items ≡ others
  one_list items others bytes p q =
      let e : record { items = items; fault = None } ≡ record { items = others; fault = None } =
      sym (reads_back items 0 bytes [] None p refl) ∙ reads_back others 0 bytes [] None q refl in
      let f : Left A → List A = λ left. left.items in
      ap f e

  -- what spells an item begins no longer spelling
  pub no_longer : (at : ℕ) (x y : A) (spelling longer more : List ℕ) → IsAt at x spelling → IsAt at y longer → longer ≡ spelling ++ more → more ≡ []
  no_longer at x y spelling longer more p q e =
      let f : A × List ℕ → List ℕ = λ found. found.1 in
      let same : done (x, more) ≡ done (y, []) =
      sym (reader.taken at x spelling more p) ∙ ap (read at) (sym e ∙ sym (append-nil longer)) ∙ reader.taken at y longer [] q in
      ap f (ok_is _ _ same)

  -- ---- the longest front

  longest_at : (items others : List A) (at : ℕ) (front rest longer beyond : List ℕ) (fault : Option WireFault) → Concatenates IsAt at items front → EndsAt First (at + length front) rest fault →
      Concatenates IsAt at others longer → front ++ rest ≡ longer ++ beyond → length longer ≤ length front
  longest_at items [] at front rest longer beyond fault spelled ends spelled_longer e = omega (arith, ap length spelled_longer)
  longest_at [] (y ∷ others) at front rest longer beyond None spelled ends spelled_longer e =
      let spelling = spelled_longer.0 in
      let empty : length (front ++ rest) ≡ 0 = rw (spelled, ends) refl in
      absurd (omega (arith, reader.not_empty at y spelling spelled_longer.3, empty, ap length e, shorter spelling spelled_longer.1 longer spelled_longer.2, length-append longer beyond))
  longest_at [] (y ∷ others) at front rest longer beyond (Some fault) spelled ends spelled_longer e =
      let spelling = spelled_longer.0 in
      let whole : rest ≡ spelling ++ (spelled_longer.1 ++ beyond) =
      sym (ap (λ (l : List ℕ). l ++ rest) spelled) ∙ e ∙ ap (λ (l : List ℕ). l ++ beyond) spelled_longer.2 ∙ append_assoc spelling spelled_longer.1 beyond in
      absurd (not_both (read at rest) (y, spelled_longer.1 ++ beyond) fault.kind
      (ap (read at) whole ∙ reader.taken at y spelling (spelled_longer.1 ++ beyond) spelled_longer.3)
      (reader.only_fault at rest fault.kind ends.2))
  longest_at (x ∷ items) (y ∷ others) at front rest longer beyond fault spelled ends spelled_longer e =
      let a = spelled.0 in
      let b = spelled_longer.0 in
      let one : front ++ rest ≡ a ++ (spelled.1 ++ rest) = ap (λ (l : List ℕ). l ++ rest) spelled.2 ∙ append_assoc a spelled.1 rest in
      let two : longer ++ beyond ≡ b ++ (spelled_longer.1 ++ beyond) = ap (λ (l : List ℕ). l ++ beyond) spelled_longer.2 ∙ append_assoc b spelled_longer.1 beyond in
      let same : done {A = A × List ℕ} (x, spelled.1 ++ rest) ≡ done {A = A × List ℕ} (y, spelled_longer.1 ++ beyond) =
      sym (reader.taken at x a (spelled.1 ++ rest) spelled.3) ∙ ap (read at) (sym one ∙ e ∙ two) ∙ reader.taken at y b (spelled_longer.1 ++ beyond) spelled_longer.3 in
      let f : A × List ℕ → List ℕ = λ found. found.1 in
      let behind : spelled.1 ++ rest ≡ spelled_longer.1 ++ beyond = ap f (ok_is {A = A × List ℕ} (x, spelled.1 ++ rest) (y, spelled_longer.1 ++ beyond) same) in
      let front_length = shorter a spelled.1 front spelled.2 in
      let longer_length = shorter b spelled_longer.1 longer spelled_longer.2 in
      let lengths : length b ≡ length a =
      omega (arith, ap length e, length-append front rest, length-append longer beyond, front_length, longer_length, ap length behind, length-append spelled.1 rest, length-append spelled_longer.1 beyond) in
      let place : at + length front ≡ at + length a + length spelled.1 = omega (arith, front_length) in
      let ends_later : EndsAt First (at + length a + length spelled.1) rest fault = subst (λ n. EndsAt First n rest fault) place ends in
      let others_spelled : Concatenates IsAt (at + length a) others spelled_longer.1 = subst (λ n. Concatenates IsAt (at + n) others spelled_longer.1) lengths spelled_longer.4 in
      omega (arith, longest_at items others (at + length a) spelled.1 rest spelled_longer.1 beyond fault spelled.4 ends_later others_spelled behind, front_length, longer_length, lengths)

  -- ---- what is left stands in the bytes

  -- the fronts that the items take up, and what is behind them
  record Stands (at : ℕ) (bytes : List ℕ) (left : Left A) : Type 0 where
    front : List ℕ
    rest : List ℕ
    parts : bytes ≡ front ++ rest
    spelled : Concatenates IsAt at left.items front
    ending : EndsAt First (at + length front) rest left.fault

  stands_first : (at : ℕ) (bytes rest : List ℕ) (x : A) → read at bytes ≡ Ok (x, rest) →
      ((place : ℕ) → length rest < length bytes → Stands place rest (left_at read place 0 rest)) → Stands at bytes (left_at read at 0 bytes)
  stands_first at bytes rest x e later =
      let found = reader.found at bytes x rest e in
      let spelling = found.0 in
      let some = reader.not_empty at x spelling found.2 in
      let place = at + length spelling in
      let h = later place (omega (arith, shorter spelling rest bytes found.1, some)) in
      let first : left_at read at 0 bytes ≡ with_first x (left_at read place 0 rest) =
      ap (left_at read at 0) found.1 ∙ left_first read at spelling rest x some (sym (ap (read at) found.1) ∙ e) in
      let parts : bytes ≡ (spelling ++ h.front) ++ h.rest = found.1 ∙ ap (λ (l : List ℕ). spelling ++ l) h.parts ∙ sym (append_assoc spelling h.front h.rest) in
      let end : place + length h.front ≡ at + length (spelling ++ h.front) = omega (arith, length-append spelling h.front) in
      let all : Stands at bytes (with_first x (left_at read place 0 rest)) = record {
        front = spelling ++ h.front;
        rest = h.rest;
        parts = parts;
        spelled = (spelling, h.front, refl, found.2, h.spelled);
        ending = subst (λ n. EndsAt First n h.rest (left_at read place 0 rest).fault) end h.ending;
      } in
      subst (Stands at bytes) (sym first) all

  stands_fault : (at : ℕ) (bytes : List ℕ) (kind : WireKind) → bytes ≢ [] → read at bytes ≡ Err kind → Stands at bytes (left_at read at 0 bytes)
  stands_fault at bytes kind some e =
      let all : Stands at bytes (record { items = []; fault = Some (record { kind = kind; at = at }) }) = record {
        front = [];
        rest = bytes;
        parts = refl;
        spelled = refl;
        ending = (some, sym (add-zero at), reader.fault at bytes kind e);
      } in
      subst (Stands at bytes) (sym (left_fault read at bytes kind some e)) all

  stands_none : (at : ℕ) → Stands at [] (left_at read at 0 [])
  stands_none at =
      let all : Stands at [] (record { items = []; fault = None }) = record { front = []; rest = []; parts = refl; spelled = refl; ending = refl } in
      subst (Stands at []) (sym (left_none read at)) all

  stands_after : (at : ℕ) (bytes : List ℕ) → bytes ≢ [] → (r : Result (A × List ℕ) WireKind) → read at bytes ≡ r →
      ((place : ℕ) (rest : List ℕ) → length rest < length bytes → Stands place rest (left_at read place 0 rest)) → Stands at bytes (left_at read at 0 bytes)
  stands_after at bytes some (Ok x) e later = stands_first at bytes x.1 x.0 e (λ place. later place x.1)
  stands_after at bytes some (Err kind) e later = stands_fault at bytes kind some e

  -- by the length
  stands_within : (n at : ℕ) (bytes : List ℕ) → length bytes ≤ n → Stands at bytes (left_at read at 0 bytes)
  stands_within n at [] short = stands_none at
  stands_within zero at (byte ∷ bytes) short = absurd (omega arith)
  stands_within (suc n) at (byte ∷ bytes) short =
      stands_after at (byte ∷ bytes) (λ e. cc) (read at (byte ∷ bytes)) refl (λ place rest less. stands_within n place rest (omega arith))

  pub is_reading : (bytes : List ℕ) → IsReading IsAt First bytes (left_at read 0 0 bytes)
  is_reading bytes =
      let h = stands_within (length bytes) 0 bytes (omega arith) in
      let left = left_at read 0 0 bytes in
      record {
        front = h.front;
        rest = h.rest;
        parts = h.parts;
        spelled = h.spelled;
        longest = λ longer others items e spelled. longest_at left.items items 0 h.front h.rest longer others left.fault h.spelled h.ending spelled (sym h.parts ∙ e);
        ending = subst (λ n. EndsAt First n h.rest left.fault) (zero-add (length h.front)) h.ending;
      }

  pub only_reading : (bytes : List ℕ) (left : Left A) → IsReading IsAt First bytes left → left ≡ left_at read 0 0 bytes
  only_reading bytes left h =
      let ends : EndsAt First (0 + length h.front) h.rest left.fault = subst (λ n. EndsAt First n h.rest left.fault) (sym (zero-add (length h.front))) h.ending in
      sym (ap (left_at read 0 0) h.parts ∙ reads_back left.items 0 h.front h.rest left.fault h.spelled ends)

  -- ---- one call

  -- an item that is read takes bytes off the front
  pub rest_is_shorter : (at : ℕ) (bytes : List ℕ) (x : A) (rest : List ℕ) → read at bytes ≡ Ok (x, rest) → length rest < length bytes
  rest_is_shorter at bytes x rest e =
      let found = reader.found at bytes x rest e in
      omega (arith, shorter found.0 rest bytes found.1, reader.not_empty at x found.0 found.2)

  pub next_first : (at : ℕ) (bytes : List ℕ) (x : A) (rest : List ℕ) → read at bytes ≡ Ok (x, rest) →
      left_at read at 0 bytes ≡ with_first x (left_at read (at + (length bytes - length rest)) 0 rest)
  next_first at bytes x rest e =
      let found = reader.found at bytes x rest e in
      let spelling = found.0 in
      let some = reader.not_empty at x spelling found.2 in
      let place : at + length spelling ≡ at + (length bytes - length rest) = omega (arith, shorter spelling rest bytes found.1) in
      ap (left_at read at 0) found.1 ∙ left_first read at spelling rest x some (sym (ap (read at) found.1) ∙ e)
      ∙ ap (λ n. with_first x (left_at read n 0 rest)) place

  -- each item takes a byte at least
  concatenates_at_most : (items : List A) (at : ℕ) (bytes : List ℕ) → Concatenates IsAt at items bytes → length items ≤ length bytes
  concatenates_at_most [] at bytes spelled = omega arith
  concatenates_at_most (x ∷ items) at bytes spelled =
      omega (arith, concatenates_at_most items (at + length spelled.0) spelled.1 spelled.4, reader.not_empty at x spelled.0 spelled.3, shorter spelled.0 spelled.1 bytes spelled.2)

  pub items_at_most : (bytes : List ℕ) → length (left_at read 0 0 bytes).items ≤ length bytes
  items_at_most bytes =
      let h = is_reading bytes in
      omega (arith, concatenates_at_most (left_at read 0 0 bytes).items 0 h.front h.spelled, shorter h.front h.rest bytes h.parts)
