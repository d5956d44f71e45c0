use Rattle.std.proofs.Common.{◌≡◌, [], None, Some, codes, rules, true}
use Rattle.run_options.specs.declared.formats.Format.TheVariants.{Folded}
use Rattle.command_line.specs.declared.plans.Form.TheVariants as form
use Rattle.command_line.specs.declared.plans.View.TheVariants.{Graph}
use Rattle.command_line.proofs.ReadEntries.{flag_given}
use Rattle.command_line.proofs.entered.live_plan.Goals as goal

pub returns : goal.returns
returns c =
    let strict = flag_given c.args.entries.now (codes "strict") c.get_flag-is_strict.result c.requires.strict c.get_flag-is_strict.ensures.none c.get_flag-is_strict.ensures.value c.get_flag-is_strict.ensures.other in
    let omit : c.of.result ≡ [] = search rules in
    λ i. record {
      view = Graph (c.width.ensures i);
      options = c.live_options.ensures i;
      from = None;
      omit = omit i;
      output = c.in_ok-first.ensures i;
      pages = c.in_ok-first-2.ensures i;
      format = Some Folded;
      files = c.in_ok-files.ensures i;
      form = form.Live;
      is_strict = strict i;
      is_quiet = true;
      unit = None;
    }
