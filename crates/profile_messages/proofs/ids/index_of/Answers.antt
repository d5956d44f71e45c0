use Rattle.std.proofs.Common.{rules}
use Rattle.profile_messages.proofs.IndexLemmas.{empty_index}
use Rattle.profile_messages.proofs.ids.index_of.Goals as goal

pub insert_all-requires : goal.insert_all-requires
insert_all-requires g c =
    empty_index g.E.Entry.id_of _ c.saturating_add.result (c.in_ok-vec.ensures.items_if_clones_equal (search rules)) c.new.ensures.empty
