use Rattle.std.proofs.Common.{rules, arith, ◌≡◌, ◌+◌, ◌-◌, ◌≤◌, inl, refl, length, subst}
use Rattle.rdb_outside.specs.Runs.{no_calls}
use Rattle.area_files.specs.Areas.{IsDataPage}
use Rattle.line_moves.proofs.Runs.{writes_none}
use Rattle.line_moves.proofs.OnlyPut.{some_page}
use Rattle.line_moves.specs.stable_lines.Slots.{area_file}
use Rattle.line_seat.proofs.GroupSlots.{got_at}
use Rattle.line_seat.proofs.CommitSteps.{may_still, entered_still, none_imaged, put_all, place_there}
use Rattle.line_seat.proofs.RoomOnPages.{is_page, all_fit}
use Rattle.line_seat.proofs.commit.change_page.Goals as goal

pub write_page-requires-clause-place : goal.write_page-requires-clause-place
write_page-requires-clause-place g c = place_there c.args.lines.now c.args.at _ c.in-Some.place (got_at c.args.lines.now c.args.at c.index-lines-at.result (search rules)) c.in-Some.ensures.found

pub write_page-requires-clause-class : goal.write_page-requires-clause-class
write_page-requires-clause-class g c =
    (c.requires.allowed c.args.at _ _ (got_at c.args.lines.now c.args.at c.index-lines-at.result (search rules)) (got_at c.args.classes.now c.args.at _ (search rules))).class

pub returns-then-at-lines-clause-goes_on : goal.returns-then-at-lines-clause-goes_on
returns-then-at-lines-clause-goes_on g c = let old = g.D.Disk.view c.args.disk.now in λ t now group flight stands.
    let past : length c.args.lines.now ≤ c.args.at = search rules in
    record { facts = stands.facts; done = (put_all old.content c.args.lines.now c.args.at past stands.done.2, none_imaged old.content now flight) }

pub returns-then-at-lines-clause-keeps : goal.returns-then-at-lines-clause-keeps
returns-then-at-lines-clause-keeps g c = λ t now group flight stands. stands.facts

pub returns-in_err-next-clause-keeps : goal.returns-in_err-next-clause-keeps
returns-in_err-next-clause-keeps g c = λ t now group flight stands.
    let there = place_there c.args.lines.now c.args.at _ c.in-Some.place (got_at c.args.lines.now c.args.at c.index-lines-at.result (search rules)) c.in-Some.ensures.found in
    c.write_page.ensures.keeps t now stands.facts stands.done.0 (λ unused line is. stands.done.1 c.args.at line c.in-Some.place is (there line is))

pub returns-clause-keeps : goal.returns-clause-keeps
returns-clause-keeps g c = λ t now group flight stands.
    let there = place_there c.args.lines.now c.args.at _ c.in-Some.place (got_at c.args.lines.now c.args.at c.index-lines-at.result (search rules)) c.in-Some.ensures.found in
    c.write_page.ensures.keeps t now stands.facts stands.done.0 (λ unused line is. stands.done.1 c.args.at line c.in-Some.place is (there line is))

pub returns-clause-goes_on : goal.returns-clause-goes_on
returns-clause-goes_on g c = let v = g.D.Disk.view in λ t now group flight stands.
    let old = v c.args.disk.now in let new = v c.write_page.new.disk in
    let got = got_at c.args.lines.now c.args.at c.index-lines-at.result (search rules) in
    let there = place_there c.args.lines.now c.args.at _ c.in-Some.place got c.in-Some.ensures.found in
    record {
      facts = c.write_page.ensures.keeps t now stands.facts stands.done.0 (λ unused line is. stands.done.1 c.args.at line c.in-Some.place is (there line is));
      done = (
        may_still old new c.in-Some.place t c.write_page.ensures.writes now c.args.lines.now stands.done.0,
        entered_still old new c.in-Some.place t c.write_page.ensures.writes (there _ got).is_data c.args.lines.now stands.done.1,
        c.in_ok-next.ensures.put t now stands.facts stands.done.2,
      );
    }

pub unreachable-requires : goal.unreachable-requires
unreachable-requires g c =
    let there = c.requires.placed c.args.at _ (got_at c.args.lines.now c.args.at c.index-lines-at.result (search rules)) in
    c.in_default.ensures.none there.0 there.1

pub returns-then-at-lines-clause-writes : goal.returns-then-at-lines-clause-writes
returns-then-at-lines-clause-writes g c = let old = g.D.Disk.view c.args.disk.now in (1, 1, some_page, writes_none (area_file 1) 1 old old (no_calls old))

pub returns-then-at-lines-clause-changes : goal.returns-then-at-lines-clause-changes
returns-then-at-lines-clause-changes g c = λ t now was key. inl refl

pub returns-in_err-next-clause-writes : goal.returns-in_err-next-clause-writes
returns-in_err-next-clause-writes g c =
    let plain = (c.in-Some.ensures.found).is_data in let first = plain.is_page.first in
    let slot : c.in-Some.place.page ≡ c.in-Some.place.page - 1 + 1 = omega (arith, first) in
    (c.in-Some.place.file, c.in-Some.place.page - 1, subst IsDataPage slot plain, c.write_page.ensures.writes)

pub returns-in_err-next-clause-changes : goal.returns-in_err-next-clause-changes
returns-in_err-next-clause-changes g c = λ t now was. c.write_page.ensures.changes t now was

pub returns-clause-writes : goal.returns-clause-writes
returns-clause-writes g c =
    let plain = (c.in-Some.ensures.found).is_data in let first = plain.is_page.first in
    let slot : c.in-Some.place.page ≡ c.in-Some.place.page - 1 + 1 = omega (arith, first) in
    (c.in-Some.place.file, c.in-Some.place.page - 1, subst IsDataPage slot plain, c.write_page.ensures.writes)

pub returns-clause-changes : goal.returns-clause-changes
returns-clause-changes g c = λ t now was. c.write_page.ensures.changes t now was

pub returns-then-at-lines-clause-classes : goal.returns-then-at-lines-clause-classes
returns-then-at-lines-clause-classes g c = λ t now was by_area its had. had

pub returns-in_err-next-clause-classes : goal.returns-in_err-next-clause-classes
returns-in_err-next-clause-classes g c = λ t now was by_area its had.
    c.write_page.ensures.classes t now was by_area (λ line is. its c.args.at line _ is (got_at c.args.classes.now c.args.at _ (search rules))) had

pub returns-clause-classes : goal.returns-clause-classes
returns-clause-classes g c = λ t now was by_area its had.
    c.write_page.ensures.classes t now was by_area (λ line is. its c.args.at line _ is (got_at c.args.classes.now c.args.at _ (search rules))) had

pub returns-then-at-lines-clause-owners : goal.returns-then-at-lines-clause-owners
returns-then-at-lines-clause-owners g c = λ t now was there area is_file is_data lies may. may

pub returns-in_err-next-clause-owners : goal.returns-in_err-next-clause-owners
returns-in_err-next-clause-owners g c = λ t now was there area is_file is_data lies. c.write_page.ensures.owners t now was there area is_file is_data lies

pub returns-clause-owners : goal.returns-clause-owners
returns-clause-owners g c = λ t now was there area is_file is_data lies. c.write_page.ensures.owners t now was there area is_file is_data lies

pub returns-in_err-next-clause-bad : goal.returns-in_err-next-clause-bad
returns-in_err-next-clause-bad g c = let v = g.D.Disk.view c.args.disk.now in λ file slot is t now o group flight by_area stands bears small room.
    let got = got_at c.args.lines.now c.args.at c.index-lines-at.result (search rules) in
    let got_class = got_at c.args.classes.now c.args.at _ (search rules) in
    let names = place_there c.args.lines.now c.args.at _ c.in-Some.place got c.in-Some.ensures.found _ got in
    let left = g.met.D.Disk.content_left c.args.disk.now v.moment t (omega arith) in
    let entered = stands.done.1 c.args.at _ c.in-Some.place got names in
    c.write_page.ensures.bad file slot (search rules) t
    (is_page v left now stands.facts o c.args.lines.now c.args.classes.now by_area room c.requires.allowed bears small c.requires.classes c.args.at _ _ got got_class c.in-Some.place names entered)
    (all_fit v left now stands.facts o c.args.lines.now c.args.classes.now by_area room c.requires.allowed bears small c.requires.classes c.args.at _ _ got got_class c.in-Some.place names entered)
