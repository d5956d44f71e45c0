use Rattle.std.proofs.lemmas.Grind.{common_steps}
use borrow.Author.Rules.{rules}
use Rattle.std.proofs.Common.{◌∷◌, [], ◌++◌, List, ℕ, refl, sym, ap, subst, ◌∙◌, append_assoc, arith}
use Rattle.stack_core.specs.Prefixes.{IsPrefixOf}
use Rattle.stack_core.specs.Records.{names_at}
use Rattle.call_tree.proofs.NameNumbers.{IsPrefixOf-refl, IsPrefixOf-trans, IsPrefixOf-with_name}
use Rattle.folded_lines.specs.checked.Telling.{IsNumbered}
use Rattle.folded_lines.proofs.Cuts.{names_left}
use Rattle.folded_lines.proofs.RowLemmas.{IsNumbered-push, names_left-first}
use Rattle.folded_lines.proofs.SharedFronts.{IsNumbered-known}
use Rattle.folded_lines.proofs.numbering.number_parts.Goals as goal

pub loop-rest-preserved : goal.loop-rest-preserved
loop-rest-preserved c =
    let before = c.loop-rest.table in
    let after = c.intern.new.self in
    let stack = names_at before c.loop-rest.frames.items in
    let name = c.first_name.result.0.now in
    let rest = c.first_name.result.1 in
    let frames = c.push.new.self.items in
    let pushed : IsNumbered (stack ++ name ∷ []) c.args.table.now after frames =
    IsNumbered-push stack c.args.table.now before after c.loop-rest.frames.items frames name c.in_ok-number.number
    c.loop-rest.invariant.numbered c.in_ok-number.ensures.names c.in_ok-number.ensures.number c.in_ok-number.ensures.below c.in_ok-push.ensures.items in
    let prefix : IsPrefixOf before after = subst (IsPrefixOf before) (sym c.in_ok-number.ensures.names) (IsPrefixOf-with_name before name) in
    record {
      numbered = subst (λ (names : List (List ℕ)). IsNumbered names c.args.table.now after frames) (sym pushed.named) pushed;
      same =
          ap (λ (names : List (List ℕ)). names ++ names_left rest) pushed.named ∙ append_assoc stack (name ∷ []) (names_left rest)
          ∙ ap (λ (names : List (List ℕ)). stack ++ names) (sym (names_left-first c.in-Some.text.now name rest c.first_name.ensures.split))
          ∙ ap (λ r. stack ++ names_left r) (sym c.in-Some.is) ∙ c.loop-rest.invariant.same;
      grows = IsPrefixOf-trans c.args.table.now before after c.loop-rest.invariant.grows prefix;
    }

pub loop-rest-init : goal.loop-rest-init
loop-rest-init c = record { numbered = IsNumbered-known c.args.table.now c.args.frames.now.items c.requires; same = refl; grows = IsPrefixOf-refl c.args.table.now }

pub first_name-requires-text-text : goal.first_name-requires-text-text
first_name-requires-text-text c = search rules

pub intern-requires-text-name : goal.intern-requires-text-name
intern-requires-text-name c = search rules

pub returns-in_err-number : goal.returns-in_err-number
returns-in_err-number c = search rules

pub returns-in_err-push-clause-ok : goal.returns-in_err-push-clause-ok
returns-in_err-push-clause-ok c = search rules

pub returns-in_err-push-clause-grows : goal.returns-in_err-push-clause-grows
returns-in_err-push-clause-grows c = grind (arith, common_steps)

pub loop-rest-smaller : goal.loop-rest-smaller
loop-rest-smaller c = search rules

pub returns : goal.returns
returns c = search rules
