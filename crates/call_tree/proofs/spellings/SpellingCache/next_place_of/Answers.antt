use Rattle.std.proofs.Common.{rules}
use Rattle.call_tree.proofs.spellings.SpellingCache.next_place_of.Goals as goal

pub returns-then-is_at : goal.returns-then-is_at
returns-then-is_at c = search rules
