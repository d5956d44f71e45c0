-- The text of a value reads back as the value, where its keys rise and its numbers are whole and have 64 bits.
use Rattle.std.proofs.Common.{◌≡◌, ℕ, ◌^◌, ◌<◌, ◌≤◌, suc, max, List, [], ◌++◌, Some, Less, Greater, refl, sym, ap, ap₂, ◌∙◌, subst, arith, nat_cmp, append-nil}
use Rattle.std.specs.Prelude.{⊤, option_map, option_and_then}
use Rattle.std.proofs.lemmas.Cmp.{nat_list_cmp_total}
use Rattle.std.specs.Cmp.Lexicographic.{slice_cmp}
use Rattle.std.specs.List.{AllByRecursion}
use Rattle.std.specs.List.Sorted.{IsStrictlySortedBy}
use Rattle.std.specs.Ordering.{ordering_reverse}
use Rattle.json.specs.Json as json
use Rattle.json.specs.Lex.{tokens}
use Rattle.json.specs.Tree as tree
use Rattle.json.proofs.Printed.Decimals.{IsNumber-decimal}
use Rattle.json.proofs.Printed.Tokens.{tokens-print}
use Rattle.json.proofs.Printed.Trees.{ArePrintable-json_tokens, value-json_tokens}
use Rattle.serde_json.specs.Data.{Num, unsigned, negative, float, Data, null, boolean, number, string, array, object, Items, no_items, item, Members, no_members, member, put, depth, items_depth, members_depth}
use Rattle.serde_json.specs.Read.{of_json, of_items, of_members, read, max_depth}
use Rattle.serde_json.specs.Written.{outline, items_outline, members_outline, compact_text}
use Rattle.serde_json.proofs.Numbers.{number_of-decimal}
use Rattle.serde_json.proofs.Texts.{print-outline}
use Rattle.view_texts.specs.JsonLaws.{keys_of, HasRisingKeys, ItemsHaveRisingKeys, MembersHaveRisingKeys}

abbrev IsWhole : Num → Type 0
IsWhole (unsigned n) = n < 2 ^ 64
IsWhole (negative z) = ⊥
IsWhole (float x) = ⊥

-- each number is whole and has 64 bits
abbrev mutual
  pub HasWholeNumbers : Data → Type 0
  HasWholeNumbers null = ⊤
  HasWholeNumbers (boolean b) = ⊤
  HasWholeNumbers (number n) = IsWhole n
  HasWholeNumbers (string text) = ⊤
  HasWholeNumbers (array items) = ItemsHaveWholeNumbers items
  HasWholeNumbers (object members) = MembersHaveWholeNumbers members

  pub ItemsHaveWholeNumbers : Items → Type 0
  ItemsHaveWholeNumbers no_items = ⊤
  ItemsHaveWholeNumbers (item value items) = HasWholeNumbers value × ItemsHaveWholeNumbers items

  pub MembersHaveWholeNumbers : Members → Type 0
  MembersHaveWholeNumbers no_members = ⊤
  MembersHaveWholeNumbers (member key value members) = HasWholeNumbers value × MembersHaveWholeNumbers members

-- ---- its tokens

mutual
  pub HasNumbers-outline : (d : Data) → HasWholeNumbers d → tree.HasNumbers (outline d)
  HasNumbers-outline null h = tt
  HasNumbers-outline (boolean b) h = tt
  HasNumbers-outline (number (unsigned n)) h = IsNumber-decimal n h
  HasNumbers-outline (number (negative z)) h = absurd h
  HasNumbers-outline (number (float x)) h = absurd h
  HasNumbers-outline (string s) h = tt
  HasNumbers-outline (array ds) h = ItemsHaveNumbers-outline ds h
  HasNumbers-outline (object ms) h = MembersHaveNumbers-outline ms h

  ItemsHaveNumbers-outline : (ds : Items) → ItemsHaveWholeNumbers ds → tree.ItemsHaveNumbers (items_outline ds)
  ItemsHaveNumbers-outline no_items h = tt
  ItemsHaveNumbers-outline (item d ds) h = (HasNumbers-outline d h.0, ItemsHaveNumbers-outline ds h.1)

  MembersHaveNumbers-outline : (ms : Members) → MembersHaveWholeNumbers ms → tree.MembersHaveNumbers (members_outline ms)
  MembersHaveNumbers-outline no_members h = tt
  MembersHaveNumbers-outline (member k d ms) h = (HasNumbers-outline d h.0, MembersHaveNumbers-outline ms h.1)

mutual
  depth-outline : (d : Data) → tree.depth (outline d) ≡ depth d
  depth-outline null = refl
  depth-outline (boolean b) = refl
  depth-outline (number n) = refl
  depth-outline (string s) = refl
  depth-outline (array ds) = ap suc (items_depth-outline ds)
  depth-outline (object ms) = ap suc (members_depth-outline ms)

  items_depth-outline : (ds : Items) → tree.items_depth (items_outline ds) ≡ items_depth ds
  items_depth-outline no_items = refl
  items_depth-outline (item d ds) = ap₂ max (depth-outline d) (items_depth-outline ds)

  members_depth-outline : (ms : Members) → tree.members_depth (members_outline ms) ≡ members_depth ms
  members_depth-outline no_members = refl
  members_depth-outline (member k d ms) = ap₂ max (depth-outline d) (members_depth-outline ms)

-- ---- its members, put in one after another

-- the members, and later ones behind them
abbrev followed_by : Members → Members → Members
followed_by no_members later = later
followed_by (member k d ms) later = member k d (followed_by ms later)

followed_by-nothing : (ms : Members) → followed_by ms no_members ≡ ms
followed_by-nothing no_members = refl
followed_by-nothing (member k d ms) = ap (member k d) (followed_by-nothing ms)

followed_by-assoc : (ms more later : Members) → followed_by (followed_by ms more) later ≡ followed_by ms (followed_by more later)
followed_by-assoc no_members more later = refl
followed_by-assoc (member k d ms) more later = ap (member k d) (followed_by-assoc ms more later)

below_later : (first : List ℕ) (ms : Members) (k : List ℕ) (d : Data) (later : Members) → AllByRecursion (λ key. slice_cmp nat_cmp first key ≡ Less) (keys_of (followed_by ms (member k d later)))
    → slice_cmp nat_cmp first k ≡ Less
below_later first no_members k d later h = h.0
below_later first (member l e ms) k d later h = below_later first ms k d later h.1

-- a key that is above those before it goes last
put_last : (ms : Members) (k : List ℕ) (d : Data) (later : Members) → IsStrictlySortedBy (slice_cmp nat_cmp) (keys_of (followed_by ms (member k d later)))
    → put k d ms ≡ followed_by ms (member k d no_members)
unfolding IsStrictlySortedBy
put_last no_members k d later h = refl
put_last (member l e ms) k d later h =
    let above : slice_cmp nat_cmp k l ≡ Greater = nat_list_cmp_total.antisymm k l ∙ ap ordering_reverse (below_later l ms k d later h.0) in
    rw above (ap (member l e) (put_last ms k d later h.1))

mutual
  of_json-outline : (d : Data) → HasWholeNumbers d → HasRisingKeys d → of_json (outline d) ≡ Some d
  of_json-outline null w h = refl
  of_json-outline (boolean b) w h = refl
  of_json-outline (number (unsigned n)) w h = ap (option_map number) (number_of-decimal n w)
  of_json-outline (number (negative z)) w h = absurd w
  of_json-outline (number (float x)) w h = absurd w
  of_json-outline (string s) w h = refl
  of_json-outline (array ds) w h = ap (option_map array) (of_items-outline ds w h)
  of_json-outline (object ms) w h = ap (option_map object) (of_members-outline ms no_members w h.1 h.0)

  of_items-outline : (ds : Items) → ItemsHaveWholeNumbers ds → ItemsHaveRisingKeys ds → of_items (items_outline ds) ≡ Some ds
  of_items-outline no_items w h = refl
  of_items-outline (item d ds) w h =
      ap (option_and_then (λ e. option_map (item e) (of_items (items_outline ds)))) (of_json-outline d w.0 h.0) ∙ ap (option_map (item d)) (of_items-outline ds w.1 h.1)

  of_members-outline : (ms found : Members) → MembersHaveWholeNumbers ms → MembersHaveRisingKeys ms → IsStrictlySortedBy (slice_cmp nat_cmp) (keys_of (followed_by found ms))
      → of_members (members_outline ms) found ≡ Some (followed_by found ms)
  of_members-outline no_members found w h sorted = ap Some (sym (followed_by-nothing found))
  of_members-outline (member k d ms) found w h sorted =
      let one = member k d no_members in
      let same = followed_by-assoc found one ms in
      ap (option_and_then (λ e. of_members (members_outline ms) (put k e found))) (of_json-outline d w.0 h.0)
      ∙ ap (of_members (members_outline ms)) (put_last found k d ms sorted)
      ∙ of_members-outline ms (followed_by found one) w.1 h.1 (subst (λ all. IsStrictlySortedBy (slice_cmp nat_cmp) (keys_of all)) (sym same) sorted)
      ∙ ap Some same

pub text_reads_back : (d : Data) → HasWholeNumbers d → HasRisingKeys d → depth d ≤ max_depth → read (compact_text d) ≡ Some d
text_reads_back d w h shallow =
    let ts = tree.json_tokens (outline d) in
    let printed : tokens (compact_text d) ≡ ts ++ [] =
    ap tokens (sym (print-outline d)) ∙ tokens-print ts (ArePrintable-json_tokens (outline d) (HasNumbers-outline d w)) ∙ sym (append-nil ts) in
    ap (λ found. option_and_then of_json (option_and_then (λ p. json.if_last p.0 p.1) found))
    (ap (json.value max_depth) printed ∙ value-json_tokens (outline d) max_depth [] (omega (arith, depth-outline d, shallow)))
    ∙ of_json-outline d w h
