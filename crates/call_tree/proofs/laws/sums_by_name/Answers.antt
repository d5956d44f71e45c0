use Rattle.call_tree.proofs.ByName.{total_of-named, own_of-named}
use Rattle.call_tree.proofs.laws.sums_by_name.Goals as goal

pub returns : goal.returns
returns c = record {
  total = λ names samples path distinct. total_of-named names distinct samples path;
  own = λ names samples path distinct. own_of-named names distinct samples path;
}
