-- What the getters of matches read of the entries.
use Rattle.std.proofs.Common.{◌≡◌, ◌∙◌, ◌<◌, ◌≤◌, ◌^◌, ◌⊎◌, inl, inr, ℕ, Bool, true, false, not, refl, sym, ap, arith, List, [], ◌++◌, Option, Some, None, Result, option_map, codes, is_some}
use Rattle.std.specs.Prelude.{option_and_then, unwrap_or, IfSome, SomeIff}
use Rattle.std.specs.Option.{option_map_or}
use Rattle.std.specs.Str.{bytes_eq}
use Rattle.std.specs.Str.Parse.{ExplainsUnsignedError, HasUnsignedDigitsIfOk, IsNumeral, ParsesUnsigned, digits_value, without_leading_plus}
use Rattle.std.specs.declared.num.ParseIntError.{ParseIntError}
use Rattle.clap.specs.Matches.{ReadsOne, first_value, found_of, matched_of, one_text, raw_values}
use Rattle.clap.specs.Walk.{first_of, Row, Text, one_of}
use Rattle.clap.specs.declared.parser.matches.ArgMatches.{ArgMatches}
use Rattle.clap.specs.declared.parser.matches.MatchedArg.{MatchedArg}
use Rattle.clap.proofs.WalkLemmas.{first_value-rows, one_text-rows, raw_values-rows}
use Rattle.run_options.specs.declared.choices.Pick.TheVariants.{Preferred, Named}
use Rattle.command_line.specs.checked.Entries.{IsCountAt, IsFlagAt, IsNumberAt, entries_of}
use Rattle.run_options.specs.Formats.{named_format}
use Rattle.run_options.specs.Orders.{named_order}
use Rattle.command_line.specs.Units.{named_unit}
use Rattle.run_options.specs.declared.orders.FunctionOrder.TheVariants.{Own}
use Rattle.command_line.specs.Plans.{asked_format, asked_unit, draws_shares, form_of, function_of, has_conflict, has_its_form, has_its_page, has_picture_conflict, has_two_files, is_drawn, is_root_below, is_set, is_used, knows_format, knows_order, knows_unit, number_at, order_of, page_of, pick_of, picture_of, picture_path, shows_boxes, text_form, values_at}
use Rattle.command_line.specs.declared.plans.Form.TheVariants as form

-- how `u32` reads a text
abbrev pub ReadsU32 : Text → Result ℕ ParseIntError → Type 0
ReadsU32 t r = ParsesUnsigned 32 10 t r × ExplainsUnsignedError 10 t r × HasUnsignedDigitsIfOk t r

-- `get_one` of an option with a number
pub number_given : (m : ArgMatches) (id : Text) (most : ℕ) (r : Option ℕ) → most < 2 ^ 32 → IsNumberAt id most (entries_of m)
    → (one_text (found_of m) id ≡ None → r ≡ None) → ((t : Text) → one_text (found_of m) id ≡ Some t → ReadsOne ReadsU32 t r)
    → (r ≡ number_at id (entries_of m)) × IfSome r (λ n. (1 ≤ n) × (n ≤ most))
number_given m id most r fits number none value = go (one_of id (entries_of m)) refl number
  where
    read : (t : Text) (o : Option ℕ) → IsNumeral 10 (without_leading_plus t) → 1 ≤ digits_value 10 (without_leading_plus t)
        → digits_value 10 (without_leading_plus t) ≤ most → ReadsOne ReadsU32 t o
        → (o ≡ Some (digits_value 10 (without_leading_plus t))) × IfSome o (λ n. (1 ≤ n) × (n ≤ most))
    read t (Some n) numeral low high gives = (ap (λ m. Some m) gives.0.1, (rw gives.0.1 low, rw gives.0.1 high))
    read t None numeral low high gives =
        let small : digits_value 10 (without_leading_plus t) < 2 ^ 32 = omega arith in
        absurd (gives.1.0 (numeral, small))

    go : (o : Option Text) → one_of id (entries_of m) ≡ o
        → IfSome o (λ t. IsNumeral 10 (without_leading_plus t) × (1 ≤ digits_value 10 (without_leading_plus t)) × (digits_value 10 (without_leading_plus t) ≤ most))
        → (r ≡ option_map (λ t. digits_value 10 (without_leading_plus t)) o) × IfSome r (λ n. (1 ≤ n) × (n ≤ most))
    go None is number =
        let absent : r ≡ None = none (one_text-rows (found_of m) id ∙ is) in
        (absent, rw absent tt)
    go (Some t) is number = read t r number.0 number.1 number.2 (value t (one_text-rows (found_of m) id ∙ is))

-- the number, or a default in the range
pub number_or : (m : ArgMatches) (id : Text) (most d : ℕ) (r : Option ℕ) → 1 ≤ d → d ≤ most
    → (r ≡ number_at id (entries_of m)) × IfSome r (λ n. (1 ≤ n) × (n ≤ most))
    → (1 ≤ unwrap_or r d) × (unwrap_or r d ≤ most) × (unwrap_or r d ≡ unwrap_or (number_at id (entries_of m)) d)
number_or m id most d None low high given = (low, high, ap (λ o. unwrap_or o d) given.0)
number_or m id most d (Some n) low high given = (given.1.0, given.1.1, ap (λ o. unwrap_or o d) given.0)

pub given_by_iff : (r : Option ℕ) (P : Type 0) (n : ℕ) → SomeIff r P n → P → r ≡ Some n
given_by_iff None P n iff p = absurd (iff p)
given_by_iff (Some m) P n iff p = ap (λ k. Some k) iff.1

-- how `u64` reads a text
abbrev pub ReadsU64 : Text → Result ℕ ParseIntError → Type 0
ReadsU64 t r = ParsesUnsigned 64 10 t r × ExplainsUnsignedError 10 t r × HasUnsignedDigitsIfOk t r

-- `get_one` of an option with a number of 64 bits
pub count_given : (m : ArgMatches) (id : Text) (most : ℕ) (r : Option ℕ) → most < 2 ^ 64 → IsCountAt id most (entries_of m)
    → (one_text (found_of m) id ≡ None → r ≡ None) → ((t : Text) → one_text (found_of m) id ≡ Some t → ReadsOne ReadsU64 t r)
    → r ≡ number_at id (entries_of m)
count_given m id most r fits number none value = go (one_of id (entries_of m)) refl number
  where
    read : (t : Text) (o : Option ℕ) → IsNumeral 10 (without_leading_plus t) → digits_value 10 (without_leading_plus t) ≤ most
        → ReadsOne ReadsU64 t o → o ≡ Some (digits_value 10 (without_leading_plus t))
    read t (Some n) numeral within gives = ap (λ m. Some m) gives.0.1
    read t None numeral within gives =
        let small : digits_value 10 (without_leading_plus t) < 2 ^ 64 = omega arith in
        absurd (gives.1.0 (numeral, small))

    go : (o : Option Text) → one_of id (entries_of m) ≡ o
        → IfSome o (λ t. IsNumeral 10 (without_leading_plus t) × (digits_value 10 (without_leading_plus t) ≤ most))
        → r ≡ option_map (λ t. digits_value 10 (without_leading_plus t)) o
    go None is number = none (one_text-rows (found_of m) id ∙ is)
    go (Some t) is number = read t r number.0 number.1 (value t (one_text-rows (found_of m) id ∙ is))

-- `get_flag`
pub flag_given : (m : ArgMatches) (id : Text) (r : Bool) → IsFlagAt id (entries_of m)
    → (one_text (found_of m) id ≡ None → r ≡ false) → (one_text (found_of m) id ≡ Some (codes "true") → r ≡ true)
    → (one_text (found_of m) id ≡ Some (codes "false") → r ≡ false) → r ≡ is_set id (entries_of m)
flag_given m id r flag none set unset = go (one_of id (entries_of m)) refl flag
  where
    go : (o : Option Text) → one_of id (entries_of m) ≡ o → IfSome o (λ t. (t ≡ codes "true") ⊎ (t ≡ codes "false"))
        → r ≡ option_map_or (λ t. bytes_eq t (codes "true")) o false
    go None is flag = none (one_text-rows (found_of m) id ∙ is)
    go (Some t) is (inl e) = set (one_text-rows (found_of m) id ∙ is ∙ ap (λ u. Some u) e) ∙ ap (λ u. bytes_eq u (codes "true")) (sym e)
    go (Some t) is (inr e) = unset (one_text-rows (found_of m) id ∙ is ∙ ap (λ u. Some u) e) ∙ ap (λ u. bytes_eq u (codes "true")) (sym e)

-- `get_strs`
pub values_given : (m : ArgMatches) (id : Text) (vs : Option (List Text)) → vs ≡ option_map raw_values (matched_of (found_of m) id)
    → values_at id (entries_of m) ≡ unwrap_or vs []
values_given m id vs is = ap (λ (o : Option (List Text)). unwrap_or o []) (sym (raw_values-rows (found_of m) id) ∙ sym is)

-- `get_str`
pub pick_given : (m : ArgMatches) (name : Option Text) → name ≡ first_value (found_of m) (codes "type") → pick_of (entries_of m) ≡ option_map_or Named name Preferred
pick_given m name is = ap (λ o. option_map_or Named o Preferred) (sym (first_value-rows (found_of m) (codes "type")) ∙ sym is)

pub format_given : (m : ArgMatches) (name : Option Text) → name ≡ first_value (found_of m) (codes "format")
    → (asked_format (entries_of m) ≡ option_and_then named_format name)
    × (knows_format (entries_of m) ≡ option_map_or (λ n. is_some (named_format n)) name true)
format_given m name is =
    let read = sym (first_value-rows (found_of m) (codes "format")) ∙ sym is in (
      ap (option_and_then named_format) read,
      ap (λ o. option_map_or (λ n. is_some (named_format n)) o true) read,
    )

pub unit_given : (m : ArgMatches) (name : Option Text) → name ≡ first_value (found_of m) (codes "unit")
    → (asked_unit (entries_of m) ≡ option_and_then named_unit name)
    × (knows_unit (entries_of m) ≡ option_map_or (λ n. is_some (named_unit n)) name true)
unit_given m name is =
    let read = sym (first_value-rows (found_of m) (codes "unit")) ∙ sym is in (
      ap (option_and_then named_unit) read,
      ap (λ o. option_map_or (λ n. is_some (named_unit n)) o true) read,
    )

pub order_given : (m : ArgMatches) (name : Option Text) → name ≡ first_value (found_of m) (codes "by")
    → (order_of (entries_of m) ≡ unwrap_or (option_and_then named_order name) Own)
    × (knows_order (entries_of m) ≡ option_map_or (λ n. is_some (named_order n)) name true)
order_given m name is =
    let read = sym (first_value-rows (found_of m) (codes "by")) ∙ sym is in (
      ap (λ o. unwrap_or (option_and_then named_order o) Own) read,
      ap (λ o. option_map_or (λ n. is_some (named_order n)) o true) read,
    )

pub first_given : (m : ArgMatches) (id : Text) (value : Option Text) → value ≡ first_value (found_of m) id → first_of id (entries_of m) ≡ value
first_given m id value is = sym (first_value-rows (found_of m) id) ∙ sym is

pub function_given : (m : ArgMatches) (name : Option Text) → name ≡ first_value (found_of m) (codes "function") → function_of (entries_of m) ≡ unwrap_or name []
function_given m name is = ap (λ o. unwrap_or o []) (sym (first_value-rows (found_of m) (codes "function")) ∙ sym is)

-- `contains_id`
pub used_given : (m : ArgMatches) (id : Text) (r : Bool) → r ≡ is_some (matched_of (found_of m) id) → r ≡ is_used id (entries_of m)
used_given m id r is = is ∙ mapped (matched_of (found_of m) id) ∙ ap is_some (raw_values-rows (found_of m) id)
  where
    mapped : (o : Option MatchedArg) → is_some o ≡ is_some (option_map raw_values o)
    mapped None = refl
    mapped (Some a) = refl

-- `get_str`, of the first source
pub beside_given : (m : ArgMatches) (file : Option Text) → file ≡ first_value (found_of m) (codes "file")
    → option_map (λ file. file ++ codes ".svg") (first_of (codes "file") (entries_of m)) ≡ option_map (λ file. file ++ codes ".svg") file
beside_given m file is = ap (option_map (λ (file : Text). file ++ codes ".svg")) (first_given m (codes "file") file is)

pub path_given : (entries : List Row) → is_used (codes "output") entries ≡ true → picture_path entries ≡ first_of (codes "output") entries
path_given entries used = rw used refl

pub path_beside : (entries : List Row) → is_used (codes "output") entries ≡ false → picture_path entries ≡ option_map (λ file. file ++ codes ".svg") (first_of (codes "file") entries)
path_beside entries unused = rw unused refl

-- ---- pages and pictures

pub paged : (name : Text) (entries : List Row) → is_set (codes "page") entries ≡ true → form_of name entries ≡ form.Page (page_of entries)
paged name entries set = rw set refl

pub pictured : (name : Text) (entries : List Row) → is_set (codes "page") entries ≡ false → is_set (codes "svg") entries ≡ true → form_of name entries ≡ form.Picture (picture_of entries)
pictured name entries unset set = rw (unset, set) refl

pub written : (name : Text) (entries : List Row) → is_set (codes "page") entries ≡ false → is_set (codes "svg") entries ≡ false → form_of name entries ≡ text_form name entries
written name entries unset unpictured = rw (unset, unpictured) refl

-- what a picture excludes
pub no_picture : (entries : List Row) → is_set (codes "svg") entries ≡ false → has_picture_conflict entries ≡ false
no_picture entries unset = rw unset refl

pub with_page : (entries : List Row) → is_set (codes "svg") entries ≡ true → is_set (codes "page") entries ≡ true → has_picture_conflict entries ≡ true
with_page entries svg page = rw (svg, page) refl

pub with_every : (entries : List Row) → is_set (codes "svg") entries ≡ true → is_set (codes "page") entries ≡ false → is_used (codes "every") entries ≡ true → has_picture_conflict entries ≡ true
with_every entries svg page every = rw (svg, page, every) refl

pub by_least : (entries : List Row) → is_set (codes "svg") entries ≡ true → is_set (codes "page") entries ≡ false → is_used (codes "every") entries ≡ false
    → has_picture_conflict entries ≡ is_used (codes "least") entries
by_least entries svg page every = rw (svg, page, every) refl

-- pages and another output
pub with_two_files : (entries : List Row) → has_two_files entries ≡ true → has_conflict entries ≡ true
with_two_files entries two = rw two refl

pub with_one_file : (entries : List Row) → has_two_files entries ≡ false → has_conflict entries ≡ has_picture_conflict entries
with_one_file entries one = rw one refl

pub paged_in_a_file : (entries : List Row) → is_used (codes "pages") entries ≡ true → has_two_files entries ≡ is_used (codes "output") entries
paged_in_a_file entries used = rw used refl

pub without_pages : (entries : List Row) → is_used (codes "pages") entries ≡ false → has_two_files entries ≡ false
without_pages entries unused = rw unused refl

-- what is said of a page or a picture alone
pub asked_page : (entries : List Row) → is_set (codes "page") entries ≡ true → has_its_page entries ≡ true
asked_page entries set = rw set refl

pub by_no_page : (entries : List Row) → is_set (codes "page") entries ≡ false → has_its_page entries ≡ not (is_used (codes "least") entries)
by_no_page entries unset = rw unset refl

pub asked_picture : (name : Text) (entries : List Row) → bytes_eq name (codes "svg") ≡ true → has_its_form name entries ≡ true
asked_picture name entries svg = rw svg refl

pub asked_form : (name : Text) (entries : List Row) → bytes_eq name (codes "svg") ≡ false → is_drawn entries ≡ true → has_its_form name entries ≡ true
asked_form name entries other drawn = rw (other, drawn) refl

pub titled_alone : (name : Text) (entries : List Row) → bytes_eq name (codes "svg") ≡ false → is_drawn entries ≡ false → is_used (codes "title") entries ≡ true → has_its_form name entries ≡ false
titled_alone name entries other undrawn title = rw (other, undrawn, title) refl

pub below_alone : (name : Text) (entries : List Row) → bytes_eq name (codes "svg") ≡ false → is_drawn entries ≡ false → is_used (codes "title") entries ≡ false
    → is_root_below entries ≡ true → has_its_form name entries ≡ false
below_alone name entries other undrawn title below = rw (other, undrawn, title, below) refl

pub shared_alone : (name : Text) (entries : List Row) → bytes_eq name (codes "svg") ≡ false → is_drawn entries ≡ false → is_used (codes "title") entries ≡ false
    → is_root_below entries ≡ false → has_its_form name entries ≡ not (draws_shares name entries)
shared_alone name entries other undrawn title below = rw (other, undrawn, title, below) refl

pub drawn_by_page : (entries : List Row) → is_set (codes "page") entries ≡ true → is_drawn entries ≡ true
drawn_by_page entries page = rw page refl

pub drawn_by_picture : (entries : List Row) → is_set (codes "page") entries ≡ false → is_drawn entries ≡ is_set (codes "svg") entries
drawn_by_picture entries unset = rw unset refl

pub boxed : (entries : List Row) → is_set (codes "boxes") entries ≡ true → shows_boxes entries ≡ true
boxed entries boxes = rw boxes refl

pub boxed_by_drawing : (entries : List Row) → is_set (codes "boxes") entries ≡ false → shows_boxes entries ≡ is_drawn entries
boxed_by_drawing entries unset = rw unset refl
