use Rattle.std.proofs.Common.{◌≡◌, List, true, take, drop}
use Rattle.std.specs.FinMap.Entries.{is_sorted}
use Rattle.rdb_types.specs.Order.{dbkey_order}
use Rattle.lock_needs.specs.declared.need.Need.{Need}
use Rattle.line_view.specs.Knowledge.{Lines, Agrees}
use Rattle.line_view.specs.Held.{knows, without_rooms}
use Rattle.kept_apart.specs.Alike.{IsGuarded}
use Rattle.given_rooms.specs.Given.{with_given}
use Rattle.given_rooms.proofs.Learning.{AreBefore}
use Rattle.given_rooms.proofs.rooms.Rooms.learn.Given as goal

abbrev pub invariant-loop-entry : goal.invariant-loop-entry
invariant-loop-entry l = record {
  apart : AreBefore (drop l.entry-index l.given) l.known.rooms;
  sorted : is_sorted dbkey_order (drop l.entry-index l.given) ≡ true;
  is : l.known ≡ with_given (take l.entry-index l.given) (without_rooms l.fn.known);
  agrees : (all : Lines) → Agrees (knows l.fn.known) all → Agrees (knows l.known) all;
  guarded : (got : List Need) → IsGuarded got (knows l.fn.known) → IsGuarded got (knows l.known);
}
