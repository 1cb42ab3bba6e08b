use Rattle.std.proofs.Common.{rules, ◌∙◌, List, ℕ, inl, inr, sym, subst}
use Rattle.rdb_page.specs.Whole.{IsPageOf}
use Rattle.line_moves.proofs.KeyPlaces.{area_is, place_content}
use Rattle.line_moves.proofs.Runs.{on_ok, still_tells}
use Rattle.guarded_root.proofs.Adding.{adds_more, adds_on}
use Rattle.guarded_root.proofs.Sweeping.{run_on}
use Rattle.guarded_lines.specs.Laying.{IsArea, HasRoom, BearsLine, IsEntrySlot, IsLineSlot, IsLaidSlot}
use Rattle.guarded_lines.proofs.Laid.{lays_on, lays, entered_page, page_still}
use Rattle.guarded_lines.proofs.laying.lay_line.Goals as goal

pub enter_owner-requires : goal.enter_owner-requires
enter_owner-requires g c = record { file = area_is c.args.key c.args.place c.requires.place; page = c.requires.place.is_data }

pub returns-in_err-enter_owner-clause-bad : goal.returns-in_err-enter_owner-clause-bad
returns-in_err-enter_owner-clause-bad g c = λ file slot is t space page room allowed. c.enter_owner.ensures.bad file slot (search rules) t space

pub returns-clause-bad : goal.returns-clause-bad
returns-clause-bad g c = let v = g.D.Disk.view in let old = v c.args.disk.now in let mid = v c.enter_owner.new.disk in
    let key = c.args.key in let place = c.args.place in
    λ file slot is t space page room allowed.
    let still = entered_page key place old.content mid.content c.requires.place (c.in_ok-enter_owner.ensures.entered t) in
    c.put.ensures.bad file slot is (still_tells old mid c.enter_owner.ensures.runs.told t) (subst (λ (b : List ℕ). IsPageOf place.file place.page b) still page) (subst (λ (b : List ℕ). HasRoom key c.args.class b) still room) allowed

pub returns-clause-slots : goal.returns-clause-slots
returns-clause-slots g c = let v = g.D.Disk.view in let old = v c.args.disk.now in let mid = v c.enter_owner.new.disk in let new = v c.put.new.disk in
    let key = c.args.key in let place = c.args.place in let names = c.requires.place in
    on_ok _ _ c.put.result (λ put t page room.
    let entered = c.in_ok-enter_owner.ensures.entered t in
    let still = entered_page key place old.content mid.content names entered in
    lays_on key place c.args.class c.args.value.now old.content mid.content new.content names entered
    (put (still_tells old mid c.enter_owner.ensures.runs.told t) (subst (λ (b : List ℕ). IsPageOf place.file place.page b) still page) (subst (λ (b : List ℕ). HasRoom key c.args.class b) still room))) c.put.ensures.put

pub returns-in_err-enter_owner-clause-adds : goal.returns-in_err-enter_owner-clause-adds
returns-in_err-enter_owner-clause-adds g c = let v = g.D.Disk.view in let old = v c.args.disk.now in
    λ t page room. adds_more (IsEntrySlot old.content c.args.place c.args.key.area) (IsLaidSlot old.content c.args.key c.args.place c.args.class c.args.value.now) old (v c.enter_owner.new.disk) (λ f i x is. inl is) (c.enter_owner.ensures.adds t)

pub returns-clause-adds : goal.returns-clause-adds
returns-clause-adds g c = let v = g.D.Disk.view in let old = v c.args.disk.now in let mid = v c.enter_owner.new.disk in let new = v c.put.new.disk in
    let key = c.args.key in let place = c.args.place in
    λ t page room.
    let still = entered_page key place old.content mid.content c.requires.place (c.in_ok-enter_owner.ensures.entered t) in
    let put = c.put.ensures.adds (still_tells old mid c.enter_owner.ensures.runs.told t) (subst (λ (b : List ℕ). IsPageOf place.file place.page b) still page) (subst (λ (b : List ℕ). HasRoom key c.args.class b) still room) in
    adds_on (IsLaidSlot old.content key place c.args.class c.args.value.now) old mid new
    (adds_more (IsEntrySlot old.content place key.area) (IsLaidSlot old.content key place c.args.class c.args.value.now) old mid (λ f i x is. inl is) (c.enter_owner.ensures.adds t))
    (adds_more (IsLineSlot mid.content key place c.args.class c.args.value.now) (IsLaidSlot old.content key place c.args.class c.args.value.now) mid new
    (λ f i x is. inr (is.0, is.1, subst (λ (b : List ℕ). BearsLine key place c.args.class c.args.value.now b x) (sym still) is.2)) put)

pub returns-clause-laid : goal.returns-clause-laid
returns-clause-laid g c = let v = g.D.Disk.view in let old = v c.args.disk.now in let mid = v c.enter_owner.new.disk in let new = v c.put.new.disk in
    let key = c.args.key in let place = c.args.place in let names = c.requires.place in
    on_ok _ _ c.put.result (λ put t pages was within room.
    let entered = c.in_ok-enter_owner.ensures.entered t in
    let still = page_still key place old.content mid.content names entered in
    let page = subst (λ (b : List ℕ). IsPageOf place.file place.page b) (place_content old.content key place names ∙ still) (was.page place.file place.page (area_is key place names) names.is_data) in
    lays pages key place c.args.class c.args.value.now old.content mid.content new.content names within was entered
    (put (still_tells old mid c.enter_owner.ensures.runs.told t) page (subst (λ (b : List ℕ). HasRoom key c.args.class b) still room))) c.put.ensures.put

pub returns-clause-runs : goal.returns-clause-runs
returns-clause-runs g c = let v = g.D.Disk.view in
    run_on IsArea (v c.args.disk.now) (v c.enter_owner.new.disk) (v c.put.new.disk) c.enter_owner.ensures.runs c.put.ensures.runs
