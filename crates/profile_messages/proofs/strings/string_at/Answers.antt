use Rattle.std.proofs.Common.{sym, ◌∙◌, ap}
use Rattle.profile_messages.specs.declared.message.Content.{Content}
use Rattle.profile_messages.proofs.TableLemmas.{nowhere, text-at}
use Rattle.profile_messages.proofs.strings.string_at.Goals as goal

pub returns-in-Some : goal.returns-in-Some
returns-in-Some c = ap (λ (text : Content). text.bytes.now) (c.in-Some.ensures.lookup.3.1 nowhere) ∙ sym (text-at c.args.strings.now c.args.index)
