use Rattle.std.proofs.Common.{◌++◌, List, map, sym, subst}
use Rattle.rdo_ast.specs.declared.syntax.Range.{Range}
use Rattle.rdo_bind.specs.Acting.{Act, act_of, acts_of, IsBoundAct}
use Rattle.rdo_values.specs.Views.{ranging_of}
use Rattle.rdo_values.specs.Places.{ranges_in, IsBoundRanging}
use Rattle.rdo_select.specs.declared.crossing.Found.{Found}
use Rattle.rdo_select.specs.Stops.{HaveValues}
use Rattle.served_selections.specs.Ranges.{chosen_in_ranging}
use Rattle.index_ahead.specs.Added.{AddsOnly}
use Rattle.rdo_acts.specs.Looking.{IsReadBy}
use Rattle.rdo_acts.specs.Selections.{chosen_in_act, chosen_in_acts}
use Rattle.index_ahead.proofs.Added.{kept, then_added}
use Rattle.rdo_acts.proofs.Arms.{is_for, is_print}
use Rattle.rdo_acts.proofs.Writing.{acts_at}
use Rattle.rdo_acts.proofs.LookedThrough.{if_ok, left_read, right_read, act_read, tuple_at}
use Rattle.rdo_acts.proofs.looking.+acting.Goals as goal

-- ---- a body

pub look_at_body-loop-action-init : goal.look_at_body-loop-action-init
look_at_body-loop-action-init t c ta vs shown bound own = kept (IsReadBy ta c.args.sight.sources.now.entries (chosen_in_acts (acts_of (map act_of c.args.body.now)) vs)) c.args.keys.now.keys

pub look_at_body-loop-action-preserved : goal.look_at_body-loop-action-preserved
look_at_body-loop-action-preserved t c ta vs shown bound own =
    let sources = c.args.sight.sources.now.entries in
    let body = c.args.body.now in
    let i = c.loop-action.action-index in
    let x = c.action-item.result in
    let within = c.loop-action-test.true in
    then_added (IsReadBy ta sources (chosen_in_acts (acts_of (map act_of body)) vs)) c.args.keys.now.keys c.loop-action.keys.keys c.look_at.new.keys.keys (c.loop-action.invariant ta vs shown bound own)
    (act_read ta sources vs body i x c.loop-action.keys.keys c.look_at.new.keys.keys within c.action-item.is
    (c.in_ok-look_at.ensures ta vs shown (acts_at body i x ta vs bound within c.action-item.is) own))

-- ---- the tuples of a FOR

pub look_within-returns-then-not-selects_any : goal.look_within-returns-then-not-selects_any
look_within-returns-then-not-selects_any t c ta vs shown selects bound own = kept (IsReadBy ta c.args.sight.sources.now.entries (chosen_in_acts (acts_of (map act_of c.args.body.now)) (vs ++ ranges_in (ranging_of c.args.selection.now.inner)))) c.args.keys.now.keys

pub look_within-returns-in_default : goal.look_within-returns-in_default
look_within-returns-in_default t c ta vs shown selects bound own = kept (IsReadBy ta c.args.sight.sources.now.entries (chosen_in_acts (acts_of (map act_of c.args.body.now)) (vs ++ ranges_in (ranging_of c.args.selection.now.inner)))) c.args.keys.now.keys

pub look_within-loop-tuple-init : goal.look_within-loop-tuple-init
look_within-loop-tuple-init t c ta vs shown selects bound own = kept (IsReadBy ta c.args.sight.sources.now.entries (chosen_in_acts (acts_of (map act_of c.args.body.now)) (vs ++ ranges_in (ranging_of c.args.selection.now.inner)))) c.args.keys.now.keys

pub look_within-loop-tuple-preserved : goal.look_within-loop-tuple-preserved
look_within-loop-tuple-preserved t c ta vs shown selects bound own =
    let sources = c.args.sight.sources.now.entries in
    let body = acts_of (map act_of c.args.body.now) in
    let ss = ranges_in (ranging_of c.args.selection.now.inner) in
    let tuples = c.as_slice-tuple-items.result.now in
    let x = c.tuple-item.result in
    let have : HaveValues ss ta own.scope tuples =
    subst (λ (fs : List Found). HaveValues ss ta own.scope fs) (sym c.as_slice-tuple-items.ensures)
    (c.in-Ok.ensures.values ta own.scope shown (subst (λ (l : List Range). IsBoundRanging (ranging_of c.args.selection.now.inner) ta l) (sym own.variables) selects.0) own.row) in
    then_added (IsReadBy ta sources (chosen_in_acts body (vs ++ ss))) c.args.keys.now.keys c.loop-tuple.keys.keys c.look_at_body.new.keys.keys (c.loop-tuple.invariant ta vs shown selects bound own)
    (c.in_ok-look_at_body.ensures ta (vs ++ ss) shown bound (tuple_at ta vs ss c.args.before.now own tuples c.loop-tuple.tuple-index x have c.loop-tuple-test.true c.tuple-item.is))

-- ---- an action

pub look_at-returns-in-Print : goal.look_at-returns-in-Print
look_at-returns-in-Print t c ta vs shown bound own =
    let sources = c.args.sight.sources.now.entries in
    let is = is_print c.args.action.now c.in-Print.items c.as_slice-in-Print.result.now c.in-Print.is c.as_slice-in-Print.ensures in
    let placed = subst (λ (a : Act). IsBoundAct a ta vs) is bound in
    if_ok c.look_at_items.result _ _
    (λ added. subst (λ (a : Act). AddsOnly (IsReadBy ta sources (chosen_in_act a vs)) c.args.keys.now.keys c.look_at_items.new.keys.keys) (sym is) added)
    (c.look_at_items.ensures ta vs shown placed own)

pub look_at-returns-in_ok-look_into-in-For : goal.look_at-returns-in_ok-look_into-in-For
look_at-returns-in_ok-look_into-in-For t c ta vs shown bound own =
    let sources = c.args.sight.sources.now.entries in
    let s = c.in-For.selection in
    let body = c.as_slice.result.now in
    let is = is_for c.args.action.now s c.in-For.body body c.in-For.is c.as_slice.ensures in
    let placed = subst (λ (a : Act). IsBoundAct a ta vs) is bound in
    let here = chosen_in_ranging (ranging_of s.inner) vs in
    let later = chosen_in_acts (acts_of (map act_of body)) (vs ++ ranges_in (ranging_of s.inner)) in
    let old = c.args.keys.now.keys in
    let mid = c.look_into.new.keys.keys in
    let new = c.look_within.new.keys.keys in
    if_ok c.look_within.result _ _
    (λ added. subst (λ (a : Act). AddsOnly (IsReadBy ta sources (chosen_in_act a vs)) old new) (sym is)
    (then_added (IsReadBy ta sources (here ++ later)) old mid new
    (left_read ta sources here later old mid (c.in_ok-look_into-in-For.ensures ta vs shown placed.0.0 own))
    (right_read ta sources here later mid new added)))
    (c.look_within.ensures ta vs shown placed.0 placed.1 own)

pub look_at-returns-in-Store : goal.look_at-returns-in-Store
look_at-returns-in-Store t c ta vs shown bound own = kept (IsReadBy ta c.args.sight.sources.now.entries (chosen_in_act (act_of c.args.action.now) vs)) c.args.keys.now.keys

pub look_at-returns-in-Store-2 : goal.look_at-returns-in-Store-2
look_at-returns-in-Store-2 t c ta vs shown bound own = kept (IsReadBy ta c.args.sight.sources.now.entries (chosen_in_act (act_of c.args.action.now) vs)) c.args.keys.now.keys

pub look_at-returns-in-Store-3 : goal.look_at-returns-in-Store-3
look_at-returns-in-Store-3 t c ta vs shown bound own = kept (IsReadBy ta c.args.sight.sources.now.entries (chosen_in_act (act_of c.args.action.now) vs)) c.args.keys.now.keys
