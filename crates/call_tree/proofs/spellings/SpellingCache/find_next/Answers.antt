use Rattle.std.proofs.Common.{◌≡◌, List, get_or, ◌∙◌, ap, subst}
use Rattle.std.specs.List.{slice_range}
use Rattle.call_tree.specs.SpellingCache.{Spelling}
use Rattle.call_tree.specs.checked.Spellings.{IsSpelledAt}
use Rattle.call_tree.proofs.KnownSpellings.{IsRowOf_place}
use Rattle.call_tree.proofs.spellings.SpellingCache.find_next.Goals as goal

pub returns-clause-row : goal.returns-clause-row
returns-clause-row c =
    let there = subst (λ (known : List Spelling). IsSpelledAt known c.args.text.now (slice_range c.args.text.now c.args.start c.args.end) c.in_ok-place.place) c.self.view_is c.in_ok-place.ensures in
    let row : (none : Spelling) → c.row_at-row.result ≡ (get_or c.args.self.now c.in_ok-place.place none).row =
    λ none. c.row_at-row.ensures none ∙ ap (λ (known : List Spelling). (get_or known c.in_ok-place.place none).row) c.self.view_is in
    IsRowOf_place c.args.self.now c.args.text.now c.args.start c.args.end c.in_ok-place.place c.row_at-row.result there row
