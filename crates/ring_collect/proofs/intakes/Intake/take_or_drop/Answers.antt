use Rattle.std.proofs.Common.{refl, true≢false, ◌∙◌, sym, ap}
use Rattle.ring_collect.specs.checked.Records.{close_after}
use Rattle.ring_collect.proofs.IntakeLemmas.{brings_dropped, brings_taken, takes_close}
use Rattle.ring_collect.proofs.intakes.Intake.take_or_drop.Goals as goal

pub returns-clause-close : goal.returns-clause-close
returns-clause-close g c = takes_close c.take_record-self.ensures.taken ∙ ap (λ close. close_after close c.args.popped) c.requires.unclosed

pub returns-clause-brings : goal.returns-clause-brings
returns-clause-brings g c = brings_taken c.args.self.now refl c.requires.unclosed (c.if-not-is_taking.ensures.0 refl) c.take_record-self.ensures.taken

pub returns-then-not-is_taking-clause-brings : goal.returns-then-not-is_taking-clause-brings
returns-then-not-is_taking-clause-brings g c =
    brings_dropped c.args.self.now c.args.popped (λ taking. true≢false (sym (c.if-not-is_taking.ensures.1 taking)))
    (c.note_close.ensures ∙ ap (λ close. close_after close c.args.popped) c.requires.unclosed)
