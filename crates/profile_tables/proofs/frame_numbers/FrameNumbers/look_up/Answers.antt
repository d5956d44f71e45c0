use Rattle.std.proofs.Common.{rules}
use Rattle.profile_tables.specs.checked.Frames.{name_in_place}
use Rattle.profile_tables.proofs.NumberLemmas.{grown-by, kept-grown}
use Rattle.profile_tables.proofs.frame_numbers.FrameNumbers.look_up.Goals as goal

pub returns-in_ok-name-in-None : goal.returns-in_ok-name-in-None
returns-in_ok-name-in-None c =
    let old = c.args.self.now.table in
    record {
      known = kept-grown (name_in_place c.args.frames.now) old c.intern.new.self c.args.self.now.names.numbers.items
          (grown-by c.intern.result old c.intern.new.self c.as_str.result.now c.intern.ensures.names c.intern.ensures.err) c.requires.known;
      names = search rules;
      number = search rules;
      frames = search rules;
      refused = search rules;
    }
