-- What `clap` reads of each argument and of each command.
use Rattle.std.specs.Prelude.{codes}
use Rattle.clap.specs.Simple.{Shape}
use Rattle.clap.specs.Walk.{Rule}
use Rattle.command_line.specs.CommandLine.{any_files, boxes_flag, by_option, callees_command, callers_command, chart_command, compare_command, diff_command, every_option, exact_flag, fail_over_option, focus_option, fold_command, format_option, from_option, graph_command, hide_option, json_flag, least_option, lines_flag, live_command, omit_option, one_value, output_option, page_flag, pages_option, peek_command, quiet_flag, ring_option, root_below_flag, rows_option, share_flag, strict_flag, svg_command, svg_flag, title_option, top_command, type_option, types_command, unit_option, width_option}
use Rattle.command_line.specs.declared.argument_lists.Argument.{Argument}
use Rattle.command_line.specs.declared.argument_lists.Argument.TheVariants as argument
use Rattle.command_line.specs.declared.commands.Subcommand.{Subcommand}
use Rattle.command_line.specs.declared.commands.Subcommand.TheVariants as subcommand

abbrev pub rule_at : Argument → Rule
rule_at argument.Width = width_option
rule_at argument.Type = type_option
rule_at argument.Format = format_option
rule_at argument.Focus = focus_option
rule_at argument.Hide = hide_option
rule_at argument.From = from_option
rule_at argument.Omit = omit_option
rule_at argument.Ring = ring_option
rule_at argument.Every = every_option
rule_at argument.LiveEvery = every_option
rule_at argument.Lines = lines_flag
rule_at argument.Boxes = boxes_flag
rule_at argument.Rows = rows_option
rule_at argument.By = by_option
rule_at argument.Json = json_flag
rule_at argument.Exact = exact_flag
rule_at argument.Share = share_flag
rule_at argument.FailOver = fail_over_option
rule_at argument.Unit = unit_option
rule_at argument.Strict = strict_flag
rule_at argument.LiveStrict = strict_flag
rule_at argument.Output = output_option
rule_at argument.Quiet = quiet_flag
rule_at argument.Page = page_flag
rule_at argument.LivePage = pages_option
rule_at argument.Svg = svg_flag
rule_at argument.Title = title_option
rule_at argument.RootBelow = root_below_flag
rule_at argument.FormShare = share_flag
rule_at argument.Least = least_option
rule_at argument.Function = one_value (codes "function")
rule_at argument.Files = any_files (codes "file")
rule_at argument.Streams = any_files (codes "file")
rule_at argument.Before = one_value (codes "before")
rule_at argument.After = one_value (codes "after")
rule_at argument.Profile = one_value (codes "file")

abbrev pub shape_at : Subcommand → Shape
shape_at subcommand.Fold = fold_command
shape_at subcommand.Graph = graph_command
shape_at subcommand.Chart = chart_command
shape_at subcommand.Svg = svg_command
shape_at subcommand.Live = live_command
shape_at subcommand.Compare = compare_command
shape_at subcommand.Top = top_command
shape_at subcommand.Diff = diff_command
shape_at subcommand.Callers = callers_command
shape_at subcommand.Callees = callees_command
shape_at subcommand.Peek = peek_command
shape_at subcommand.Types = types_command
