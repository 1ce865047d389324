use Rattle.std.proofs.Common.{ap, ◌≡◌, ◌+◌, ◌∙◌, arith, leb, refl, sym, true}
use Rattle.std.proofs.lemmas.Bool.{and_from, le-leb}
use Rattle.rv_history.specs.declared.stops.Stops.{Stops}
use Rattle.rv_gdb_protocol.specs.declared.request.Stoppoint.TheVariants as trap
use Rattle.rv_session.specs.Stoppoints.{can_be_set, has_byte, with_watches}
use Rattle.rv_session.proofs.Trapping.{set_already, set_now, too_many, watch_added}
use Rattle.rv_session.proofs.stoppoints.with_watch.Goals as goal

pub returns-then-has_watch : goal.returns-then-has_watch
returns-then-has_watch c =
    let bus = c.args.bus.now in
    let range = c.args.range in
    let low = le-leb (range.address + range.count) 4294967296 (omega arith) in
    let can : can_be_set bus (trap.Watch c.args.kind range) ≡ true =
    and_from (leb (range.address + range.count) 4294967296) (has_byte bus range) low (sym c.has_byte.ensures ∙ c.if-not-has_byte.false) in
    set_already c.args.stops.now c.in_ok-same.same bus (trap.Watch c.args.kind range) can (sym c.has_watch.ensures ∙ c.if-has_watch.true)
    c.in_ok-same.ensures

pub returns-then-is_full : goal.returns-then-is_full
returns-then-is_full c =
    let bus = c.args.bus.now in
    let range = c.args.range in
    let low = le-leb (range.address + range.count) 4294967296 (omega arith) in
    let can : can_be_set bus (trap.Watch c.args.kind range) ≡ true =
    and_from (leb (range.address + range.count) 4294967296) (has_byte bus range) low (sym c.has_byte.ensures ∙ c.if-not-has_byte.false) in
    too_many c.args.stops.now bus (trap.Watch c.args.kind range) can (sym c.has_watch.ensures ∙ c.if-has_watch.false)
    (sym c.is_full.ensures ∙ c.if-is_full.true)

pub returns : goal.returns
returns c =
    let bus = c.args.bus.now in
    let range = c.args.range in
    let low = le-leb (range.address + range.count) 4294967296 (omega arith) in
    let can : can_be_set bus (trap.Watch c.args.kind range) ≡ true =
    and_from (leb (range.address + range.count) 4294967296) (has_byte bus range) low (sym c.has_byte.ensures ∙ c.if-not-has_byte.false) in
    set_now c.args.stops.now c.with_watches.result bus (trap.Watch c.args.kind range) can (sym c.has_watch.ensures ∙ c.if-has_watch.false)
    (sym c.is_full.ensures ∙ c.if-is_full.false) (record {
      watches = c.push.new.self.items;
      added = watch_added _ _ _ _ _ range (c.in_ok-watches.ensures.items ∙ c.watches_of.ensures) c.in_ok-push.ensures.items refl
          refl refl;
      next_is = c.with_watches.ensures
          ∙ ap (λ (s : Stops). with_watches s c.args.kind c.push.new.self.items) c.in_ok-next.ensures;
    })
