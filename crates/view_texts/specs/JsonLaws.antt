-- What the laws of the JSON lines speak of.
use Rattle.std.specs.Prelude.{◌≡◌, ◌+◌, ◌^◌, ◌<◌, ◌≤◌, ℕ, List, [], ◌∷◌, ◌++◌, Some, ⊤, All}
use Rattle.std.specs.Ordering.{nat_cmp}
use Rattle.std.specs.Cmp.Lexicographic.{slice_cmp}
use Rattle.std.specs.List.Sorted.{IsStrictlySortedBy}
use Rattle.serde_json.specs.Data.{Data, null, boolean, number, string, array, object, Items, no_items, item, Members, no_members, member}
use Rattle.serde_json.specs.Read.{read}
use Rattle.flame_layout.specs.declared.boxes.SpanBox.{SpanBox}

abbrev pub keys_of : Members → List (List ℕ)
keys_of no_members = []
keys_of (member key value members) = key ∷ keys_of members

-- the keys of each object rise, byte by byte
abbrev mutual
  pub HasRisingKeys : Data → Type 0
  HasRisingKeys null = ⊤
  HasRisingKeys (boolean b) = ⊤
  HasRisingKeys (number n) = ⊤
  HasRisingKeys (string text) = ⊤
  HasRisingKeys (array items) = ItemsHaveRisingKeys items
  HasRisingKeys (object members) = IsStrictlySortedBy (slice_cmp nat_cmp) (keys_of members) × MembersHaveRisingKeys members

  pub ItemsHaveRisingKeys : Items → Type 0
  ItemsHaveRisingKeys no_items = ⊤
  ItemsHaveRisingKeys (item value items) = HasRisingKeys value × ItemsHaveRisingKeys items

  pub MembersHaveRisingKeys : Members → Type 0
  MembersHaveRisingKeys no_members = ⊤
  MembersHaveRisingKeys (member key value members) = HasRisingKeys value × MembersHaveRisingKeys members

-- the line is a text without control characters, and a line feed; the text reads back as the value, whose keys rise
pub record IsJsonLine (line : List ℕ) (value : Data) : Type 0 where
  pub text : List ℕ
  pub ended : line ≡ text ++ 10 ∷ []
  pub uncontrolled : All (λ byte. 32 ≤ byte) text
  pub reads_back : read text ≡ Some value
  pub rising : HasRisingKeys value

-- the box ends within the total, and its numbers have 64 bits
pub record IsWithin (total : ℕ) (span : SpanBox) : Type 0 where
  pub end : span.start + span.weight ≤ total
  pub depth : span.depth < 2 ^ 64
  pub own : span.own < 2 ^ 64
