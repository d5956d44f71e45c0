-- What builders make of a command, and of a command line.
use Rattle.std.proofs.Common.{◌≡◌, ◌∙◌, ◌<◌, ◌+◌, ℕ, Bool, List, [], ◌∷◌, ◌++◌, true, false, not, ap, append-nil, append_assoc, ap₂, get_or, length, map, refl, sym, is_some, take}
use Rattle.std.specs.List.{flat_map, fold}
use Rattle.std.proofs.lemmas.Grind.{flat_map-append}
use Rattle.std.proofs.lemmas.List.{map-append, take_more}
use Rattle.std.proofs.lemmas.List.Sums.{fold-append}
use Rattle.clap.proofs.WalkLemmas.{both}
use Rattle.clap.specs.Built.{AddsArg, AddsSubcommand}
use Rattle.clap.specs.Simple.{App, Shape, app_of, app_of_fields, shape_of, with_rule, with_subcommand}
use Rattle.clap.specs.Walk.{Rule, Text, is_empty, is_simple_arg, rule_of}
use Rattle.clap.specs.declared.builder.arg.Arg.{Arg}
use Rattle.clap.specs.declared.builder.command.Command.{Command}
use Rattle.clap.specs.declared.builder.command.Command.TheViews.{out-Command}
use Rattle.command_line.specs.CommandLine.{command}
use Rattle.command_line.specs.checked.Apps.{as_app}
use Rattle.command_line.specs.checked.Commands.{rule_at, shape_at}
use Rattle.command_line.specs.declared.argument_lists.Argument.{Argument}
use Rattle.command_line.specs.declared.argument_lists.Argument.TheVariants as argument
use Rattle.command_line.specs.declared.commands.Subcommand.{Subcommand}
use Rattle.command_line.specs.declared.commands.Subcommand.TheVariants as subcommand

is_no : (b : Bool) → not b ≡ true → b ≡ false
is_no false e = refl
is_no true e = sym e

simple_is_local : (a : Arg) → is_simple_arg a ≡ true → a.global ≡ false
simple_is_local a e =
    let defaults = both (is_empty a.overrides.items) _ e in
    let groups = both (is_empty a.default_vals_ifs.items) _ defaults.1 in
    let delimiter = both (is_empty a.groups.items) _ groups.1 in
    let terminator = both (not (is_some a.val_delim)) _ delimiter.1 in
    let hyphens = both (not (is_some a.terminator)) _ terminator.1 in
    let numbers = both (not a.allow_hyphen_values) _ hyphens.1 in
    let equals = both (not a.allow_negative_numbers) _ numbers.1 in
    let last = both (not a.require_equals) _ equals.1 in
    let global = both (not a.last) _ last.1 in
    is_no a.global global.1

simple_rule_is_local : (a : Arg) (r : Rule) → rule_of a ≡ r → r.is_simple ≡ true → a.global ≡ false
simple_rule_is_local a r is simple = simple_is_local a (ap (λ (x : Rule). x.is_simple) is ∙ simple)

-- `Command::arg`, of an argument with that rule
with_argument : (old new : Command) (a : Arg) (app : App) (r : Rule) → AddsArg old a new
    → app_of old ≡ app → rule_of a ≡ r → r.is_simple ≡ true → app_of new ≡ with_rule app r
with_argument old new a app r added start is simple =
    added.shape (simple_rule_is_local a r is simple) ∙ ap₂ with_rule start is

argument_is_simple : (a : Argument) → (rule_at a).is_simple ≡ true
argument_is_simple argument.Width = refl
argument_is_simple argument.Type = refl
argument_is_simple argument.Format = refl
argument_is_simple argument.Focus = refl
argument_is_simple argument.Hide = refl
argument_is_simple argument.From = refl
argument_is_simple argument.Omit = refl
argument_is_simple argument.Ring = refl
argument_is_simple argument.Every = refl
argument_is_simple argument.LiveEvery = refl
argument_is_simple argument.Lines = refl
argument_is_simple argument.Boxes = refl
argument_is_simple argument.Rows = refl
argument_is_simple argument.By = refl
argument_is_simple argument.Json = refl
argument_is_simple argument.Exact = refl
argument_is_simple argument.Share = refl
argument_is_simple argument.FailOver = refl
argument_is_simple argument.Unit = refl
argument_is_simple argument.Strict = refl
argument_is_simple argument.LiveStrict = refl
argument_is_simple argument.Output = refl
argument_is_simple argument.Quiet = refl
argument_is_simple argument.Page = refl
argument_is_simple argument.LivePage = refl
argument_is_simple argument.Svg = refl
argument_is_simple argument.Title = refl
argument_is_simple argument.RootBelow = refl
argument_is_simple argument.FormShare = refl
argument_is_simple argument.Least = refl
argument_is_simple argument.Function = refl
argument_is_simple argument.Files = refl
argument_is_simple argument.Streams = refl
argument_is_simple argument.Before = refl
argument_is_simple argument.After = refl
argument_is_simple argument.Profile = refl

-- `Command::arg`, of the next of further arguments
pub with_next_argument : (old new : Command) (built : Arg) (name : Text) (rules : List Rule) (arguments : List Argument) (at : ℕ) (d : Argument)
    → at < length arguments → AddsArg old built new → app_of old ≡ as_app (command name (rules ++ map rule_at (take at arguments)))
    → rule_of built ≡ rule_at (get_or arguments at d)
    → app_of new ≡ as_app (command name (rules ++ map rule_at (take (at + 1) arguments)))
with_next_argument old new built name rules arguments at d below added start is =
    let a = get_or arguments at d in
    let before = map rule_at (take at arguments) in
    with_argument old new built (as_app (command name (rules ++ before))) (rule_at a) added start is (argument_is_simple a)
    ∙ ap (λ (rules : List Rule). as_app (command name rules))
    (append_assoc rules before (rule_at a ∷ []) ∙ sym (ap (λ (items : List Argument). rules ++ map rule_at items) (take_more arguments at d below) ∙ ap (λ (more : List Rule). rules ++ more) (map-append rule_at (take at arguments) (a ∷ []))))

-- with the next of the parts of its arguments
pub with_next_part : {P : Type 0} (new : Command) (name : Text) (parts : List P) (rules : P → List Rule) (at : ℕ) (d : P)
    → at < length parts → app_of new ≡ as_app (command name (flat_map rules (take at parts) ++ rules (get_or parts at d)))
    → app_of new ≡ as_app (command name (flat_map rules (take (at + 1) parts)))
with_next_part new name parts rules at d below made =
    let part = get_or parts at d in
    made ∙ ap (λ (all : List Rule). as_app (command name all))
    (sym (ap (flat_map rules) (take_more parts at d below) ∙ flat_map-append rules (take at parts) (part ∷ [])
    ∙ ap (λ (more : List Rule). flat_map rules (take at parts) ++ more) (append-nil (rules part))))

pub with_all_arguments : (s : Subcommand) → command (shape_at s).name (shape_at s).rules ≡ shape_at s
with_all_arguments subcommand.Fold = refl
with_all_arguments subcommand.Graph = refl
with_all_arguments subcommand.Chart = refl
with_all_arguments subcommand.Svg = refl
with_all_arguments subcommand.Live = refl
with_all_arguments subcommand.Compare = refl
with_all_arguments subcommand.Top = refl
with_all_arguments subcommand.Diff = refl
with_all_arguments subcommand.Callers = refl
with_all_arguments subcommand.Callees = refl
with_all_arguments subcommand.Peek = refl
with_all_arguments subcommand.Types = refl

-- `Command::bin_name`, of whose clause `P` is the rest
pub with_bin_name : (old new : Command) (app : App) (P : Type 0) → app_of old ≡ app
    → ((out-Command new ≡ record (out-Command old) { bin_name = (out-Command new).bin_name }) × P) → app_of new ≡ app
with_bin_name old new app P is named = ap app_of_fields named.0 ∙ is

plain_is_local : (c : Command) → (shape_of c).is_plain ≡ true → (out-Command c).has_globals ≡ false
plain_is_local c e =
    let groups = both (is_empty (out-Command c).groups.items) _ e in
    let external = both (not (out-Command c).allow_external_subcommands) _ groups.1 in
    let globals = both (not (out-Command c).has_globals) _ external.1 in
    is_no (out-Command c).has_globals globals.0

command_is_plain : (s : Subcommand) → (shape_at s).is_plain ≡ true
command_is_plain subcommand.Fold = refl
command_is_plain subcommand.Graph = refl
command_is_plain subcommand.Chart = refl
command_is_plain subcommand.Svg = refl
command_is_plain subcommand.Live = refl
command_is_plain subcommand.Compare = refl
command_is_plain subcommand.Top = refl
command_is_plain subcommand.Diff = refl
command_is_plain subcommand.Callers = refl
command_is_plain subcommand.Callees = refl
command_is_plain subcommand.Peek = refl
command_is_plain subcommand.Types = refl

-- `Command::subcommand`, of one of the commands
pub with_command : (old new sub : Command) (s : Subcommand) → app_of sub ≡ as_app (shape_at s) → AddsSubcommand old sub new
    → app_of new ≡ with_subcommand (app_of old) (shape_at s)
with_command old new sub s made added =
    let same : shape_of sub ≡ shape_at s = ap (λ (a : App). a.top) made in
    added.shape (plain_is_local sub (ap (λ (x : Shape). x.is_plain) same ∙ command_is_plain s)) ∙ ap (with_subcommand (app_of old)) same

-- with the next of the commands
pub with_next_command : (old new : Command) (app : App) (commands : List Subcommand) (at : ℕ) (d : Subcommand)
    → at < length commands → app_of new ≡ with_subcommand (app_of old) (shape_at (get_or commands at d))
    → app_of old ≡ fold with_subcommand app (map shape_at (take at commands))
    → app_of new ≡ fold with_subcommand app (map shape_at (take (at + 1) commands))
with_next_command old new app commands at d below added start =
    let s = get_or commands at d in
    let shapes = ap (map shape_at) (take_more commands at d below) ∙ map-append shape_at (take at commands) (s ∷ []) in
    added
    ∙ ap (λ (a : App). with_subcommand a (shape_at s)) start
    ∙ sym (ap (fold with_subcommand app) shapes ∙ fold-append with_subcommand app (map shape_at (take at commands)) (shape_at s ∷ []))
