use Rattle.std.proofs.Common.{rules, ◌≡◌, ◌-◌, ◌+◌, Some, ap, ◌∙◌, slice_get, arith}
use Rattle.rdb_types.specs.declared.keys.Dbkey.{Dbkey}
use Rattle.line_view.specs.Held.{knows}
use Rattle.statement_view.specs.Over.{room_at, seen_of}
use Rattle.statement_view.proofs.Steps.{passed, left_from, goes_past, goes_on, room_is, one_more_written}
use Rattle.statement_view.proofs.changed.Changed.known_number.Goals as goal
use Rattle.statement_view.proofs.changed.Changed.known_number.Goals.{then-not-is_written+else-left-eq0, else-not-is_written}

pub loop-nth-init : goal.loop-nth-init
loop-nth-init c = record {
  left = passed (knows c.args.self.now.base) c.args.self.now.lines c.args.room.area c.args.room.class c.args.room.nth c.passed_rooms-nth.result (search (rules, arith)) c.passed_rooms-nth.ensures;
  first = λ none. (none, c.passed_rooms-nth.ensures);
}

pub loop-nth-preserved : goal.loop-nth-preserved
loop-nth-preserved c =
    let self = c.args.self.now in
    let area = c.args.room.area in
    let class = c.args.room.class in
    let key : Dbkey = c.in_ok-key.key in
    let behind = left_from (4294967295 - (c.loop-nth.nth + 1)) (knows self.base) self.lines area class (c.loop-nth.nth + 1) in
    let room : (knows self.base).room (room_at area class c.loop-nth.nth) ≡ Some key = room_is self (seen_of c.self.inside.sees_areas c.self.inside.known.now) area class c.loop-nth.nth key (ap (λ o. o.base) c.self.view_is) (search rules) in
    elim c.if-not-is_written.branch [
      | then-not-is_written+else-left-eq0 w ↦ record {
        left = ap (λ n. slice_get behind n) w.left-is ∙ goes_on (knows self.base) self.lines area class c.loop-nth.nth c.loop-nth.left _ key (search rules) room (c.loop-nth.left - 1) (search rules) (search rules) c.loop-nth.invariant.left;
        first = λ none. let left = (c.loop-nth.invariant.first none).0 in let bad : ⊥ = search (rules, left) in absurd bad;
      }
      | else-not-is_written w ↦ record {
        left = ap (λ n. slice_get behind n) w.left-is ∙ goes_past (knows self.base) self.lines area class c.loop-nth.nth c.loop-nth.left _ key (search rules) room (search rules) c.loop-nth.invariant.left;
        first = λ none. let before = c.loop-nth.invariant.first none in (w.left-is ∙ before.0, one_more_written (knows self.base) self.lines area class c.loop-nth.nth key before.1 room (search rules));
      }
    ]
