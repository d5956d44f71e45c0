use Rattle.std.proofs.Common.{append-nil, sym}
use Rattle.std.proofs.lemmas.List.{map-append}
use Rattle.std.specs.Borrow.{Bor}
use Rattle.clap.specs.Walk.{Text}
use Rattle.command_line.proofs.ReadEntries.{values_given}
use Rattle.command_line.proofs.entries.add_values.Goals as goal

pub returns-in_ok-extend_from_slice : goal.returns-in_ok-extend_from_slice
returns-in_ok-extend_from_slice c =
    let values = values_given c.args.entries.now c.args.id.now _ c.in-Some.ensures in
    rw (values, c.in_ok-extend_from_slice.ensures.items)
    (map-append (λ (s : Bor Text). s.now) c.args.paths.now.items c.in-Some.values.now)

pub returns-in_default : goal.returns-in_default
returns-in_default c =
    let values = values_given c.args.entries.now c.args.id.now _ c.in_default.ensures in
    rw values (sym (append-nil _))
