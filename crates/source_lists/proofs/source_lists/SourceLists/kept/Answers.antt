use Rattle.std.proofs.Common.{◌∙◌, map, sym}
use Rattle.ring_collect.specs.Collection.{seen_as_rest}
use Rattle.source_lists.proofs.KeptLemmas.{kept_everything}
use Rattle.source_lists.proofs.source_lists.SourceLists.kept.Goals as goal

pub returns-then-is_everything : goal.returns-then-is_everything
returns-then-is_everything c =
    kept_everything c.args.filter.now (sym c.is_everything.ensures ∙ c.if-is_everything.true) (map seen_as_rest c.args.self.lists)
