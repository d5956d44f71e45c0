-- Values that are refused though `clap` takes them, where help is asked for behind them.
use Rattle.std.specs.Prelude.{◌||◌, Bool, false, List, [], ◌∷◌, Option, Some, None, codes, drop, if◌then◌else◌, is_some, length, map, nat_eq, not, slice_get}
use Rattle.std.specs.List.{starts_with}
use Rattle.std.specs.Option.{option_map_or}
use Rattle.std.specs.Str.{bytes_eq}
use Rattle.clap.specs.Kinds.{Kinds}
use Rattle.clap.specs.Walk.{Text}
use Rattle.clap.specs.declared.error.kind.ErrorKind.{ErrorKind}
use Rattle.clap.specs.declared.error.kind.ErrorKind.TheVariants as kind
use Rattle.run_options.specs.Formats.{named_format}
use Rattle.run_options.specs.Orders.{named_order}
use Rattle.command_line.specs.Units.{named_unit}

-- where `clap` answers with help, the first of these words is the wish for it
abbrev pub asks_for_help : Text → Bool
asks_for_help word = bytes_eq word (codes "--help") || starts_with nat_eq word (codes "-h")

-- what stands behind the front of a word
abbrev pub behind : Text → Text → Option Text
behind front word =
    if starts_with nat_eq word front then Some (drop (length front) word) else None

-- the value that the first of the words gives an option: the next word, or what stands behind the front, as `--format=`
abbrev pub value_in : Text → Text → List Text → Option Text
value_in option front [] = None
value_in option front (word ∷ rest) =
    if bytes_eq word option then slice_get rest 0 else behind front word

-- the first of the words gives a format, an order or a unit that there is not
abbrev pub gives_unknown : List Text → Bool
gives_unknown words = option_map_or (λ name. not (is_some (named_format name)))
    (value_in (codes "--format") (codes "--format=") words) false
    || (option_map_or (λ name. not (is_some (named_order name)))
    (value_in (codes "--by") (codes "--by=") words) false
    || option_map_or (λ name. not (is_some (named_unit name)))
    (value_in (codes "--unit") (codes "--unit=") words) false)

-- such a value stands before the wish for help
unfoldable pub refuses_before_help : List Text → Bool
refuses_before_help [] = false
refuses_before_help (word ∷ rest) =
    if asks_for_help word then false
    else gives_unknown (word ∷ rest) || refuses_before_help rest

-- then it is refused, and no help is shown
abbrev pub told_kind : List Text → ErrorKind → ErrorKind
told_kind words kind.DisplayHelp =
    if refuses_before_help words then kind.InvalidValue else kind.DisplayHelp
told_kind words other = other

abbrev pub told_kinds : List Text → Kinds → Kinds
told_kinds words kinds = map (told_kind words) kinds
