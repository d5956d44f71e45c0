use Rattle.std.proofs.Common.{◌∙◌, arith, ap, length, map}
use Rattle.std.proofs.lemmas.List.{length-map}
use Rattle.std.specs.Arc.{arc_value}
use Rattle.ring_collect.specs.checked.RunningSources.{ArePromised}
use Rattle.ring_collect.specs.checked.Ends.{Held, held}
use Rattle.ring_collect.specs.checked.Rounds.{HasGained}
use Rattle.ring_collect.proofs.RunLemmas.{nothing_gained, still_promised, as_many, hears_closes, hears_first, hears_some, unfinishes, gains_allowed, gains_first, rests_of, runs_whole, where_ok}
use Rattle.ring_collect.proofs.room.Room.run_sources.Goals as goal

abbrev start : (g : _) (c : goal.After-refusal g) → Held
start g c = held (g.F.Feed.taken c.args.sink.now) (g.F.Feed.setting c.args.sink.now)

gained : (g : _) (c : goal.After-refusal g) → HasGained c.args.self.keeps (start g c) (map (λ running. running.intake) c.drain.new.self.sources.items) (held (g.F.Feed.taken c.drain.new.sink) (g.F.Feed.setting c.drain.new.sink)) c.drain.new.self.order.items c.drain.new.self.refused
gained g c = c.drain.ensures.goes.gained c.args.self.keeps (start g c) (nothing_gained _ _ _ _ _ c.new-order.ensures.items c.start_all-started.ensures.fresh)

promised : (g : _) (c : goal.After-refusal g) → ArePromised (arc_value c.args.gate.now) c.args.readers.items (map (λ running. running.handle.promise) c.drain.new.self.sources.items)
promised g c = still_promised c.start_all-started.new.sources.items c.drain.new.self.sources.items c.drain.ensures.goes.handles c.start_all-started.ensures.promised

pub returns-clause-gains : goal.returns-clause-gains
returns-clause-gains g c =
    let promised = promised g c in
    let settled = c.in_default-settle_all.ensures.settled in
    let gained = gained g c in
    let chosen = rests_of promised settled gained c.requires.readers.possible in
    record {
      rests = chosen.rests;
      are_given = chosen.are_given;
      holds = (
        gains_first promised settled gained chosen,
        λ is.
            let none = c.refusal.ensures.none is in
            runs_whole promised settled gained chosen none.0
            (as_many c.start_all-started.new.sources.items c.drain.new.self.sources.items c.drain.ensures.goes.handles ∙ where_ok c.start_all-started.result none.1 c.start_all-started.ensures.all),
        λ few.
            let no_more = promised.no_more in
            let known = ap (λ kept. kept.known) c.drain.ensures.goes.setting in
            let count = length-map c.drain.new.self.sources.items (λ s. s.handle.promise) in
            hears_first promised settled gained chosen (omega arith) c.in_default-settle_all.ensures.closes,
      );
    }

pub returns-clause-popped : goal.returns-clause-popped
returns-clause-popped g c = gains_allowed (promised g c) c.in_default-settle_all.ensures.settled (gained g c)

pub returns-in-Some : goal.returns-in-Some
returns-in-Some g c = record {
  gains = tt;
  popped = tt;
  refused = tt;
  unfinished = unfinishes _ c.in-Some.source (still_promised c.start_all-started.new.sources.items c.drain.new.self.sources.items c.drain.ensures.goes.handles c.start_all-started.ensures.promised)
      (c.drain.ensures.goes.gained c.args.self.keeps (held (g.F.Feed.taken c.args.sink.now) (g.F.Feed.setting c.args.sink.now)) (nothing_gained _ _ _ _ _ c.new-order.ensures.items c.start_all-started.ensures.fresh))
      c.in-Some.ensures.unfinished;
  heard = λ few. tt;
  heard_some = λ few.
      let no_more = (still_promised c.start_all-started.new.sources.items c.drain.new.self.sources.items c.drain.ensures.goes.handles c.start_all-started.ensures.promised).no_more in
      let known = ap (λ kept. kept.known) c.drain.ensures.goes.setting in
      let count = length-map c.drain.new.self.sources.items (λ s. s.handle.promise) in
      let as_many = length-map c.drain.new.self.sources.items (λ s. s.intake) in
      hears_some (length c.args.readers.items) (omega arith)
      ((c.drain.ensures.goes.gained c.args.self.keeps (held (g.F.Feed.taken c.args.sink.now) (g.F.Feed.setting c.args.sink.now)) (nothing_gained _ _ _ _ _ c.new-order.ensures.items c.start_all-started.ensures.fresh)).heard (omega arith));
  setting = c.drain.ensures.goes.setting;
}

pub returns-clause-heard : goal.returns-clause-heard
returns-clause-heard g c = λ few is.
    let no_more = (promised g c).no_more in
    let known = ap (λ kept. kept.known) c.drain.ensures.goes.setting in
    let count = length-map c.drain.new.self.sources.items (λ s. s.handle.promise) in
    hears_closes (promised g c) c.in_default-settle_all.ensures.settled (gained g c) (c.refusal.ensures.none is).0 (omega arith) c.in_default-settle_all.ensures.closes

pub returns-clause-heard_some : goal.returns-clause-heard_some
returns-clause-heard_some g c = λ few.
    let sources = c.drain.new.self.sources.items in
    let no_more = (promised g c).no_more in
    let known = ap (λ kept. kept.known) c.drain.ensures.goes.setting in
    let count = length-map sources (λ s. s.handle.promise) in
    let as_many = length-map sources (λ s. s.intake) in
    hears_some (length c.args.readers.items) (omega arith) ((gained g c).heard (omega arith))

pub returns-clause-refused : goal.returns-clause-refused
returns-clause-refused g c = c.refusal.ensures.finished

pub returns-clause-setting : goal.returns-clause-setting
returns-clause-setting g c = c.drain.ensures.goes.setting

pub settle_all-requires : goal.settle_all-requires
settle_all-requires g c =
    let few = c.requires.readers.few in
    let room = c.requires.ledgers.1 in
    let started = as_many c.start_all-started.new.sources.items c.drain.new.self.sources.items c.drain.ensures.goes.handles in
    let promised = c.start_all-started.ensures.promised.no_more in
    let count = length-map c.start_all-started.new.sources.items (λ s. s.handle.promise) in
    record { few = omega arith; closed = c.drain.ensures.closed; room = omega arith; none = c.requires.ledgers.0 }
