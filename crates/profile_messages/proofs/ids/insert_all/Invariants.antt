use Rattle.std.proofs.Common.{◌≡◌, [], take, drop, map}
use Rattle.profile_messages.specs.Message.{first}
use Rattle.profile_messages.specs.Tables.{id_faults}
use Rattle.profile_messages.specs.SeenIndex.{IsIndexOf}
use Rattle.profile_messages.proofs.IndexLemmas.{ids_of}
use Rattle.profile_messages.proofs.ids.insert_all.Given as goal

abbrev pub invariant-loop-place : goal.invariant-loop-place
invariant-loop-place g l = record {
  faults : first (id_faults (ids_of g.E.Entry.id_of (take l.place l.table)) (map g.E.Entry.id_of (drop l.place l.table))) ≡ first (id_faults [] (map g.E.Entry.id_of l.table));
  places : IsIndexOf g.E.Entry.id_of (take l.place l.table) l.index;
}
