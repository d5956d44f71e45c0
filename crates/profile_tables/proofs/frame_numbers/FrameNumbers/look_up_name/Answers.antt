use Rattle.std.proofs.Common.{rules, Some, sym, ap, ◌∙◌, subst}
use Rattle.stack_core.specs.Prefixes.{IsPrefixOf}
use Rattle.profile_tables.specs.checked.Frames.{name_in_place}
use Rattle.call_tree.proofs.NameNumbers.{IsPrefixOf-with_name}
use Rattle.profile_tables.proofs.NumberLemmas.{known-again, kept-grown}
use Rattle.profile_tables.proofs.frame_numbers.FrameNumbers.look_up_name.Goals as goal

pub returns-in-Some : goal.returns-in-Some
returns-in-Some c = record {
  known = search rules;
  names = known-again c.args.self.now.table (name_in_place c.args.frames.now c.args.place) c.in-Some.number (c.requires.known c.args.place c.in-Some.number c.in-Some.ensures);
  number = search rules;
  frames = search rules;
  refused = search rules;
}

pub returns : goal.returns
returns c =
    let names = name_in_place c.args.frames.now in
    let old = c.args.self.now.table in
    let grown : IsPrefixOf old c.intern.new.self =
    subst (IsPrefixOf old) (sym c.in_ok-number.ensures.names) (IsPrefixOf-with_name old c.plain_name.result.now) in
    record {
      known = c.keep.ensures names c.intern.new.self (kept-grown names old c.intern.new.self c.args.self.now.names.numbers.items grown c.requires.known)
          (c.in_ok-number.ensures.number ∙ ap Some c.plain_name.ensures);
      names = search rules;
      number = search rules;
      frames = search rules;
      refused = search rules;
    }
