use Rattle.std.proofs.Common.{rules, false, ap}
use Rattle.line_view.specs.Held.{knows}
use Rattle.rdo_bind.specs.Acting.{act_of, written_act}
use Rattle.rdo_acts.proofs.ActEnds.{act_done, act_stopped, finishes_ordered, finishes_named, stops_ordered, stops_named, act_done_for, act_stopped_for, lacks_still}
use Rattle.rdo_acts.proofs.Lacking.{act_done_among, act_stopped_among}
use Rattle.rdo_acts.proofs.Wanting.{act_done_wanted, act_stopped_wanted}
use Rattle.rdo_acts.proofs.WantedBehind.{finishes_behind}
use Rattle.rdo_acts.proofs.acting.act_over.Goals as goal

pub returns-in-Ok-clause-comes : goal.returns-in-Ok-clause-comes
returns-in-Ok-clause-comes c =
    act_done c.args.given.now (written_act c.args.action.now) c.args.known.now false c.without_areas.result c.new-work.result c.without_areas.ensures.value c.without_areas.ensures.stands c.new-work.ensures
    c.begin.new.work c.finished.result c.finished.ensures c.in-Ok.ensures.runs

pub returns-in-Ok-clause-ordered : goal.returns-in-Ok-clause-ordered
returns-in-Ok-clause-ordered c =
    finishes_ordered c.finished.result c.begin.new.work c.finished.ensures

pub returns-in-Ok-clause-needs : goal.returns-in-Ok-clause-needs
returns-in-Ok-clause-needs c =
    finishes_named c.finished.result c.begin.new.work (knows c.args.known.now) c.finished.ensures

pub returns-in-Ok-clause-areas : goal.returns-in-Ok-clause-areas
returns-in-Ok-clause-areas c =
    act_done_for c.args.given.now (written_act c.args.action.now) c.args.known.now false c.without_areas.result c.new-work.result c.without_areas.ensures.value c.without_areas.ensures.stands c.new-work.ensures
    c.begin.new.work c.finished.result c.finished.ensures c.in-Ok.ensures.areas

pub returns-in-Ok-clause-lacks : goal.returns-in-Ok-clause-lacks
returns-in-Ok-clause-lacks c =
    act_done_among c.args.given.now (act_of c.args.action.now) c.args.known.now c.without_areas.result c.new-work.result (ap (λ o. o.lines) c.without_areas.ensures.value) c.without_areas.ensures.stands c.new-work.ensures
    c.begin.new.work c.finished.result c.finished.ensures

pub returns-in-Ok-clause-wants : goal.returns-in-Ok-clause-wants
returns-in-Ok-clause-wants c =
    act_done_wanted c.args.given.now (act_of c.args.action.now) c.args.known.now c.without_areas.result c.new-work.result (ap (λ o. o.lines) c.without_areas.ensures.value) c.without_areas.ensures.stands c.new-work.ensures
    c.begin.new.work c.finished.result c.finished.ensures

pub returns-else-misses_known_area-clause-comes : goal.returns-else-misses_known_area-clause-comes
returns-else-misses_known_area-clause-comes c =
    act_stopped c.args.given.now (written_act c.args.action.now) c.args.known.now false c.without_areas.result c.new-work.result c.without_areas.ensures.value c.without_areas.ensures.stands c.new-work.ensures
    c.begin.new.work c.abandoned.result c.in-Err.stop c.abandoned.ensures.stops (lacks_still c.args.known.now c.in-Err.stop (c.misses_known_area.ensures (search rules))) c.in-Err.ensures.runs

pub returns-else-misses_known_area-clause-ordered : goal.returns-else-misses_known_area-clause-ordered
returns-else-misses_known_area-clause-ordered c =
    stops_ordered c.abandoned.result c.in-Err.stop c.begin.new.work.given (knows c.args.known.now) c.abandoned.ensures.stops

pub returns-else-misses_known_area-clause-needs : goal.returns-else-misses_known_area-clause-needs
returns-else-misses_known_area-clause-needs c =
    stops_named c.abandoned.result c.in-Err.stop c.begin.new.work.given (knows c.args.known.now) c.abandoned.ensures.stops

pub returns-else-misses_known_area-clause-areas : goal.returns-else-misses_known_area-clause-areas
returns-else-misses_known_area-clause-areas c =
    act_stopped_for c.args.given.now (written_act c.args.action.now) c.args.known.now false c.without_areas.result c.new-work.result c.without_areas.ensures.value c.without_areas.ensures.stands c.new-work.ensures
    c.begin.new.work c.abandoned.result c.in-Err.stop c.abandoned.ensures.stops c.in-Err.ensures.areas

pub returns-else-misses_known_area-clause-lacks : goal.returns-else-misses_known_area-clause-lacks
returns-else-misses_known_area-clause-lacks c =
    act_stopped_among c.args.given.now (act_of c.args.action.now) c.args.known.now c.without_areas.result c.new-work.result (ap (λ o. o.lines) c.without_areas.ensures.value) c.without_areas.ensures.stands c.new-work.ensures
    (knows c.args.known.now) c.begin.new.work.given c.abandoned.result c.in-Err.stop c.abandoned.ensures.stops c.in-Err.ensures.lacks

pub returns-else-misses_known_area-clause-wants : goal.returns-else-misses_known_area-clause-wants
returns-else-misses_known_area-clause-wants c =
    act_stopped_wanted c.args.given.now (act_of c.args.action.now) c.args.known.now c.without_areas.result c.new-work.result (ap (λ o. o.lines) c.without_areas.ensures.value) c.without_areas.ensures.stands c.new-work.ensures
    (knows c.args.known.now) c.begin.new.work.given c.abandoned.result c.in-Err.stop c.abandoned.ensures.stops c.in-Err.ensures.wants

pub returns-in-Ok-clause-behind : goal.returns-in-Ok-clause-behind
returns-in-Ok-clause-behind c = finishes_behind (act_of c.args.action.now) (knows c.args.known.now) c.args.given.now c.finished.result c.begin.new.work c.finished.ensures
