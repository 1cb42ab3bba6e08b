use Rattle.std.proofs.Common.{[], List, refl, sym, subst}
use Rattle.rdb_types.specs.declared.keys.Dbkey.{Dbkey}
use Rattle.rdo_bind.specs.Acting.{act_of}
use Rattle.index_ahead.specs.Added.{AddsOnly}
use Rattle.rdo_acts.specs.Looking.{IsReadBy, AreValuesOf}
use Rattle.rdo_acts.specs.Selections.{chosen_in_act}
use Rattle.index_ahead.proofs.Added.{all_added}
use Rattle.rdo_acts.proofs.looking.lines_ahead.Goals as goal

pub returns : goal.returns
returns c ta shown bound =
    let Is = IsReadBy ta c.args.sight.sources.now.entries (chosen_in_act (act_of c.args.action.now) []) in
    let nothing : AreValuesOf ta [] c.new-nothing.result = record { scope = []; variables = refl; row = sym c.new-nothing.ensures } in
    all_added Is c.look_at.new.keys.keys (subst (λ (ks : List Dbkey). AddsOnly Is ks c.look_at.new.keys.keys) c.new-keys.ensures.empty (c.in_ok-look_at.ensures ta [] shown bound nothing))
