use Rattle.std.proofs.Common.{rules, arith, ◌≤◌, ◌∙◌, ℕ, length, refl, ap, sym, subst, slice_get}
use Rattle.rdb_outside.specs.Runs.{no_calls}
use Rattle.disk_seats.specs.stable_lines.Slots.{area_file}
use Rattle.disk_seats.proofs.of_line_moves.Runs.{writes_none}
use Rattle.disk_seats.proofs.of_line_seat.GroupSlots.{got_at}
use Rattle.member_steps.proofs.Journals.{spaces_there}
use Rattle.member_steps.proofs.OwnersSaid.{may_still, none_owned, owned_all}
use Rattle.member_steps.proofs.committing.enter_next.Goals as goal

pub unreachable-requires : goal.unreachable-requires
unreachable-requires g c =
    let there = c.requires.placed c.args.at _ (got_at c.args.lines.now c.args.at c.index-lines-at.result (search rules)) in
    c.in_default.ensures.none there.0 there.1

pub returns-then-at-lines-clause-keeps : goal.returns-then-at-lines-clause-keeps
returns-then-at-lines-clause-keeps g c = let old = g.D.Disk.view c.args.disk.now in λ t ledger plan was same facts. (was, (facts.0, none_owned old.content plan.lines))

pub returns-then-at-lines-clause-goes_on : goal.returns-then-at-lines-clause-goes_on
returns-then-at-lines-clause-goes_on g c = let old = g.D.Disk.view c.args.disk.now in λ t ledger plan was same facts.
    let past : length c.args.lines.now ≤ c.args.at = search rules in
    (was, (facts.0, owned_all old.content plan.lines c.args.at (let long = ap (λ l. length l) same in omega (arith, past, long)) facts.1))

pub returns-in_err-enter-clause-keeps : goal.returns-in_err-enter-clause-keeps
returns-in_err-enter-clause-keeps g c = let v = g.D.Disk.view in λ t ledger plan was same facts.
    let old = v c.args.disk.now in let new = v c.enter.new.disk in let place = c.in-Some.place in
    let got = ap (λ l. slice_get l c.args.at) same ∙ got_at c.args.lines.now c.args.at c.index-lines-at.result (search rules) in
    let names = c.in-Some.ensures.found in let may = facts.0 in (
      c.enter.ensures.keeps t ledger was may.alone (may.for_area c.args.at _ place got names) (subst (λ (n : ℕ). n ≤ ledger.base.limits.pages) (sym names.page) (may.within c.args.at _ got)),
      (may_still old new place.file _ place.page ledger plan t names.is_data refl c.enter.ensures.writes may, none_owned new.content plan.lines),
    )

pub returns-clause-keeps : goal.returns-clause-keeps
returns-clause-keeps g c = let v = g.D.Disk.view in λ t ledger plan was same facts.
    let old = v c.args.disk.now in let new = v c.enter.new.disk in let place = c.in-Some.place in
    let got = ap (λ l. slice_get l c.args.at) same ∙ got_at c.args.lines.now c.args.at c.index-lines-at.result (search rules) in
    let names = c.in-Some.ensures.found in let may = facts.0 in (
      c.enter.ensures.keeps t ledger was may.alone (may.for_area c.args.at _ place got names) (subst (λ (n : ℕ). n ≤ ledger.base.limits.pages) (sym names.page) (may.within c.args.at _ got)),
      (may_still old new place.file _ place.page ledger plan t names.is_data refl c.enter.ensures.writes may, none_owned new.content plan.lines),
    )

pub returns-clause-goes_on : goal.returns-clause-goes_on
returns-clause-goes_on g c = let v = g.D.Disk.view in λ t ledger plan was same facts.
    let old = v c.args.disk.now in let new = v c.enter.new.disk in let place = c.in-Some.place in
    let got = ap (λ l. slice_get l c.args.at) same ∙ got_at c.args.lines.now c.args.at c.index-lines-at.result (search rules) in
    let names = c.in-Some.ensures.found in let may = facts.0 in (
      c.enter.ensures.keeps t ledger was may.alone (may.for_area c.args.at _ place got names) (subst (λ (n : ℕ). n ≤ ledger.base.limits.pages) (sym names.page) (may.within c.args.at _ got)),
      (
        may_still old new place.file _ place.page ledger plan t names.is_data refl c.enter.ensures.writes may,
        c.in_ok-enter.ensures.owned t plan.lines c.args.at _ got names refl may.one_area facts.1,
      ),
    )

pub returns-then-at-lines-clause-writes : goal.returns-then-at-lines-clause-writes
returns-then-at-lines-clause-writes g c = let old = g.D.Disk.view c.args.disk.now in (1, 1, writes_none (area_file 1) 1 old old (no_calls old))

pub returns-in_err-enter-clause-bad : goal.returns-in_err-enter-clause-bad
returns-in_err-enter-clause-bad g c = let v = g.D.Disk.view c.args.disk.now in λ file slot is t ledger was.
    c.enter.ensures.bad file slot (search rules) t (spaces_there v ledger (g.met.D.Disk.content_left c.args.disk.now v.moment t (omega arith)) was _ c.in-Some.place c.in-Some.ensures.found)
