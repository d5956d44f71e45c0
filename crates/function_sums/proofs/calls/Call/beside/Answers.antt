use Rattle.std.proofs.Common.{◌≡◌, ◌+◌, ◌-◌, ◌<◌, ◌∷◌, ◌++◌, ◌∙◌, [], List, ℕ, All, ap, drop, length, map, sym, subst, arith}
use Rattle.std.specs.Str.{bytes_eq}
use Rattle.std.proofs.lemmas.List.Elements.{All-push}
use Rattle.sample_tables.specs.Rows.{name_at}
use Rattle.function_sums.specs.Calls.{beside_in}
use Rattle.function_sums.proofs.FoundCalls.{found_all, found_more, found_same}
use Rattle.function_sums.proofs.calls.Call.beside.Goals as goal
use Rattle.function_sums.proofs.calls.Call.beside.Goals.{then-eq+in_ok-push, else-eq}

pub name_of-requires : goal.name_of-requires
name_of-requires c = (c.pair-named.ensures.known (length c.args.merged.now.names) (c.requires (c.loop-at.at - 1) 0 (omega (arith, c.loop-at-test.true))) (c.requires c.loop-at.at 0 c.loop-at-test.true)).0

pub loop-at-preserved : goal.loop-at-preserved
loop-at-preserved c =
    let names = c.args.merged.now.names in
    let call = c.args.self.now in
    let ranks = c.args.ranks.now in
    let at = c.loop-at.at in
    let found = c.loop-at.found.items in
    let other = c.pair-named.result.1 in
    let below = c.pair-named.ensures.known (length names) (c.requires (at - 1) 0 (omega (arith, c.loop-at-test.true))) (c.requires at 0 c.loop-at-test.true) in
    let is = c.pair-named.ensures.other (name_at names) call.name.now in
    let same : c.eq.result ≡ bytes_eq call.name.now (name_at names c.pair-named.result.0) = c.eq.ensures ∙ ap (bytes_eq call.name.now) c.name_of.ensures in
    elim c.if-eq.branch [
      | then-eq+in_ok-push w ↦
          let all : c.if-eq.found.items ≡ found ++ other ∷ [] = (λ i. (w.found-is i).items) ∙ w.in_ok-push.ensures.items in
          record {
            known = subst (λ (xs : List ℕ). All (λ rank. rank < length names) xs) (sym all) (All-push (λ rank. rank < length names) found other c.loop-at.invariant.known below.1);
            names =
                ap (λ xs. map (name_at names) xs ++ beside_in call.side call.name.now (map (name_at names) (drop (at + 1 - 1) ranks))) all
                ∙ found_more names call.side call.name.now ranks at other found (bytes_eq call.name.now (name_at names c.pair-named.result.0)) c.loop-at.auto.at c.loop-at-test.true is (sym same ∙ w.if-eq.true) c.loop-at.invariant.names;
          }
      | else-eq w ↦
          let all : c.if-eq.found.items ≡ found = λ i. (w.found-is i).items in
          record {
            known = subst (λ (xs : List ℕ). All (λ rank. rank < length names) xs) (sym all) c.loop-at.invariant.known;
            names =
                ap (λ xs. map (name_at names) xs ++ beside_in call.side call.name.now (map (name_at names) (drop (at + 1 - 1) ranks))) all
                ∙ found_same names call.side call.name.now ranks at other found (bytes_eq call.name.now (name_at names c.pair-named.result.0)) c.loop-at.auto.at c.loop-at-test.true is (sym same ∙ w.if-eq.false) c.loop-at.invariant.names;
          }
    ]

pub returns-clause-names : goal.returns-clause-names
returns-clause-names c =
    found_all c.args.merged.now.names c.args.self.now.side c.args.self.now.name.now c.args.ranks.now c.loop-at.at c.loop-at.found.items c.loop-at.auto.at c.loop-at-test.false c.loop-at.invariant.names
