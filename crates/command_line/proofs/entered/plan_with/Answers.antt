use Rattle.std.proofs.Common.{None, codes}
use Rattle.command_line.proofs.ReadEntries.{flag_given}
use Rattle.command_line.proofs.entered.plan_with.Goals as goal

pub returns : goal.returns
returns c =
    let strict = flag_given c.args.entries.now (codes "strict") c.get_flag.result c.requires.strict c.get_flag.ensures.none c.get_flag.ensures.value c.get_flag.ensures.other in
    let quiet = flag_given c.args.entries.now (codes "quiet") c.get_flag-2.result c.requires.quiet c.get_flag-2.ensures.none c.get_flag-2.ensures.value c.get_flag-2.ensures.other in
    λ i. record {
      view = c.args.view;
      options = c.in_ok-options.ensures i;
      from = c.in_ok-first.ensures i;
      omit = c.in_ok-values.ensures i;
      output = c.in_ok-first-2.ensures i;
      pages = None;
      format = c.format.ensures i;
      files = c.in_ok-files.ensures i;
      form = c.in_ok-form.ensures i;
      is_strict = strict i;
      is_quiet = quiet i;
      unit = c.unit.ensures i;
    }
