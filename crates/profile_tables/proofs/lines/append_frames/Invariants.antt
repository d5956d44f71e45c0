use Rattle.std.proofs.Common.{◌≡◌, ◌++◌, ℕ, List, map, take}
use Rattle.run_options.specs.declared.choices.Naming.{Naming}
use Rattle.profile_tables.specs.checked.Frames.{text_of, name_in, frame_named}
use Rattle.profile_tables.proofs.lines.append_frames.Given as goal

abbrev pub invariant-loop-line : goal.invariant-loop-line
invariant-loop-line l = (naming : Naming) (texts : List (List ℕ)) →
    map (text_of texts naming) l.all.items
    ≡ map (text_of texts naming) l.fn.all.items ++ map (frame_named (name_in l.functions l.names texts) naming l.address) (take l.line-index l.lines)
