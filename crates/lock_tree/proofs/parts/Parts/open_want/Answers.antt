use Rattle.std.proofs.Common.{◌≡◌, List, length, sym, ◌∙◌, ap, subst, true, false, refl, arith}
use Rattle.std.proofs.lemmas.Bool.{false≢true}
use Rattle.std.specs.Prelude.{Option, is_some}
use Rattle.lock_needs.specs.declared.need.Need.{Need}
use Rattle.lock_needs.specs.declared.party.OpenWant.{OpenWant}
use Rattle.lock_needs.specs.declared.party.Asked.{Asked}
use Rattle.lock_needs.specs.Party.{Party}
use Rattle.lock_needs.specs.Nodes.{is_on}
use Rattle.lock_needs.specs.Needs.{is_covered}
use Rattle.lock_tree_laws.specs.LockTable.{granted_at, sought_at}
use Rattle.lock_tree_laws.specs.Parties.{IsKept, wanting, unasked}
use Rattle.lock_tree_laws.specs.Order.{StandsByNeeds, asked_of_want, asked_last}
use Rattle.lock_tree_laws.specs.Forest.{State, open_asks, party_of}
use Rattle.lock_tree.specs.States.{state_of}
use Rattle.lock_tree_laws.specs.Wanted.{MayTakeWhole, GotWhole, needs_of, Answered}
use Rattle.lock_tree_laws.proofs.Outcomes.{on_err-any}
use Rattle.lock_tree_laws.proofs.Trails.{asks-opening, never-asked}
use Rattle.lock_tree_laws.proofs.Wanting.{opens}
use Rattle.lock_tree_laws.proofs.Whole.{least-of, whole-served}
use Rattle.lock_tree_laws.proofs.WayMade.{way-none}
use Rattle.lock_tree_laws.proofs.StepsInOrder.{stands-opens}
use Rattle.lock_tree_laws.proofs.OpenAsks.{opened-opens, cut-fresh}
use Rattle.lock_tree_laws.proofs.Opened.{as-resting, whole-same}
use Rattle.lock_tree_laws.proofs.KeptPlaces.{places-opened}
use Rattle.lock_tree.proofs.RoomKept.{room-opened, room-start, each-as-before}
use Rattle.lock_tree.proofs.AtOnce.{opened-trail}
use Rattle.lock_tree_laws.specs.Rule.{Finishes, GoesDown, entered}
use Rattle.lock_tree_laws.proofs.ByRule.{goes-none, goes-then}
use Rattle.lock_tree.proofs.parts.Parts.open_want.Goals as goal

pub returns-in_err-open_for-clause-whole : goal.returns-in_err-open_for-clause-whole
returns-in_err-open_for-clause-whole c =
    let r : State = record { table = c.args.self.now.locks; parties = c.open_for.new.parties.entries; trail = c.args.self.now.trail.items } in
    whole-same (state_of c.args.self.now) r c.args.owner c.requires.whole refl (c.in_err-open_for.ensures.err ∙ c.admit.ensures.same c.args.owner) (λ u d. c.open_for.ensures.others u d ∙ c.admit.ensures.same u) refl

pub returns-in_err-open_for-clause-err : goal.returns-in_err-open_for-clause-err
returns-in_err-open_for-clause-err c =
    on_err-any _ c.from_residual-in_err-open_for.result (record {
      table = refl;
      parties = each-as-before c.args.owner c.args.self.now.parties.entries c.open_for.new.parties.entries (c.in_err-open_for.ensures.err ∙ c.admit.ensures.same c.args.owner) (λ u d. c.open_for.ensures.others u d ∙ c.admit.ensures.same u);
      trail = refl;
    })

pub go_down-requires-clause-room : goal.go_down-requires-clause-room
go_down-requires-clause-room c =
    room-start c.args.owner (record { locks = c.args.self.now.locks; parties = c.open_for.new.parties; trail = c.cut_asks.new.trail }) c.opening-want.result.here.level
    (room-opened c.args.owner c.args.self.now (record { locks = c.args.self.now.locks; parties = c.open_for.new.parties; trail = c.cut_asks.new.trail })
    (ap (λ (p : Party). p.needs) c.in_ok-open_for.ensures.own ∙ ap (λ (p : Party). p.needs) (c.admit.ensures.same c.args.owner))
    (places-opened c.args.owner c.args.self.now.parties.entries c.open_for.new.parties.entries (λ u d. c.open_for.ensures.others u d ∙ c.admit.ensures.same u) c.requires.owner
    (ap (λ (p : Party). p.needs) c.in_ok-open_for.ensures.own ∙ ap (λ (p : Party). p.needs) (c.admit.ensures.same c.args.owner)))
    refl c.cut_asks.ensures.bound c.cut_asks.ensures.capacity c.requires.room)

pub go_down-requires-clause-whole : goal.go_down-requires-clause-whole
go_down-requires-clause-whole c =
    let s : State = state_of c.args.self.now in
    let r : State = record { table = c.args.self.now.locks; parties = c.open_for.new.parties.entries; trail = c.cut_asks.new.trail.items } in
    let ws = needs_of s c.args.owner in
    let w : OpenWant = c.opening-want.result in
    let rests = as-resting (party_of s.parties c.args.owner) c.requires.resting in
    let never = never-asked c.opening-want.result c.opening-want.ensures.unasked c.opening-want.ensures.top in
    let shut : is_some (party_of s.parties c.args.owner).opened ≡ false = ap (λ (o : Option OpenWant). is_some o) c.requires.resting in
    whole-served s r c.args.owner (wanting ws w) c.requires.whole c.requires.whole.intents (λ u q d k. k)
    (c.in_ok-open_for.ensures.own ∙ ap (λ (p : Party). wanting p.needs w) (c.admit.ensures.same c.args.owner))
    (subst (λ (v : OpenWant). IsKept c.args.self.now.locks c.args.owner (wanting ws v)) (sym c.opening-want.ensures.unasked)
    (opens (granted_at c.args.self.now.locks c.args.owner) (sought_at c.args.self.now.locks c.args.owner) ws w c.opening-want.ensures.top
    (subst (λ (n : Need). is_on w.here n.node ≡ true) (sym c.opening-want.ensures.need) c.opening-want.ensures.way)
    (subst (IsKept c.args.self.now.locks c.args.owner) rests (c.requires.whole.kept c.args.owner))))
    (λ u d. c.open_for.ensures.others u d ∙ c.admit.ensures.same u)
    (asks-opening c.args.owner w s.trail c.cut_asks.new.trail.items c.opening-want.ensures.unasked c.opening-want.ensures.top c.cut_asks.ensures.own)
    c.cut_asks.ensures.others
    (way-none c.args.owner c.args.self.now.locks)
    (subst (λ (v : OpenWant). StandsByNeeds s.table c.args.owner (wanting ws v)) (sym c.opening-want.ensures.unasked) (stands-opens s.table c.args.owner ws (unasked w) (subst (StandsByNeeds s.table c.args.owner) rests (least-of s c.args.owner c.requires.whole))))
    (λ n. refl) (λ n. never n ∙ sym (ap (λ (o : Option OpenWant). asked_of_want o n) c.requires.resting))
    (ap (open_asks r.parties) (c.cut_asks.ensures.cut ∙ cut-fresh c.args.owner c.opening-want.result never s.trail)
    ∙ opened-opens (party_of s.parties) (party_of r.parties) c.args.owner (λ u d. c.open_for.ensures.others u d ∙ c.admit.ensures.same u) shut s.trail)
    (λ f. absurd (false≢true (sym f ∙ c.requires.owner)))
    (omega (
      arith,
      places-opened c.args.owner s.parties r.parties (λ u d. c.open_for.ensures.others u d ∙ c.admit.ensures.same u) c.requires.owner
          (ap (λ (p : Party). p.needs) c.in_ok-open_for.ensures.own ∙ ap (λ (p : Party). p.needs) (c.admit.ensures.same c.args.owner)),
      c.requires.room.table,
    ))

pub returns-clause-others : goal.returns-clause-others
returns-clause-others c = λ u d. c.go_down.ensures.others u d ∙ (c.open_for.ensures.others u d ∙ c.admit.ensures.same u)

pub returns-clause-covered : goal.returns-clause-covered
returns-clause-covered c = λ h.
    let w : OpenWant = c.opening-want.result in
    let got = c.go_down.ensures.covered (subst (λ (n : Need). is_covered (granted_at c.args.self.now.locks c.args.owner) n ≡ true) (sym c.opening-want.ensures.need) h) in
    record {
      got = got.0;
      table = ap (λ t. t.entries) got.1;
      asks = ap (λ v. v.items) got.2 ∙ opened-trail (state_of c.args.self.now) c.args.owner w c.cut_asks.new.trail.items c.requires.resting c.cut_asks.ensures.cut (never-asked w c.opening-want.ensures.unasked c.opening-want.ensures.top);
    }

pub returns-clause-strong : goal.returns-clause-strong
returns-clause-strong c = λ bare may.
    let s : State = state_of c.args.self.now in
    let o = c.args.owner in
    let w : OpenWant = c.opening-want.result in
    let got = c.go_down.ensures.strong (subst (λ (n : Need). is_covered (granted_at s.table o) n ≡ false) (sym c.opening-want.ensures.need) bare) (subst (MayTakeWhole s.table o) (sym c.opening-want.ensures.value) may) in
    subst (λ (v : OpenWant). GotWhole o v s (state_of c.go_down.new.self) c.go_down.result) c.opening-want.ensures.value (record {
      got = got.0;
      raised = got.1;
      asks = got.2 ∙ ap (λ trail. asked_last trail o w.here) (opened-trail s o w c.cut_asks.new.trail.items c.requires.resting c.cut_asks.ensures.cut (never-asked w c.opening-want.ensures.unasked c.opening-want.ensures.top));
    })

pub returns-clause-answer : goal.returns-clause-answer
returns-clause-answer c =
    let r = state_of c.go_down.new.self in
    subst (λ (n : Need). Answered (needs_of (state_of c.args.self.now) c.args.owner) r c.args.owner n c.args.wait c.go_down.result) c.opening-want.ensures.need
    (subst (λ (ws : List Need). Answered ws r c.args.owner c.opening-want.result.need c.args.wait c.go_down.result)
    (ap (λ (p : Party). p.needs) c.in_ok-open_for.ensures.own ∙ ap (λ (p : Party). p.needs) (c.admit.ensures.same c.args.owner)) c.go_down.ensures.answer)

pub returns-clause-went : goal.returns-clause-went
returns-clause-went c =
    let s : State = state_of c.args.self.now in
    let w : OpenWant = c.opening-want.result in
    let m : State = record { table = s.table; parties = c.open_for.new.parties.entries; trail = c.cut_asks.new.trail.items } in
    goes-then c.args.owner c.args.need c.args.wait _ (entered s c.args.owner) m (state_of c.go_down.new.self)
    (ap (λ (p : Party). p.needs) c.in_ok-open_for.ensures.own ∙ ap (λ (p : Party). p.needs) (c.admit.ensures.same c.args.owner))
    (goes-none c.args.owner c.args.need c.args.wait _ (entered s c.args.owner) m
    (opened-trail s c.args.owner w c.cut_asks.new.trail.items c.requires.resting c.cut_asks.ensures.cut (never-asked w c.opening-want.ensures.unasked c.opening-want.ensures.top)) refl)
    (subst (λ (n : Need). GoesDown c.args.owner n c.args.wait (Finishes c.args.owner c.go_down.result) m (state_of c.go_down.new.self)) c.opening-want.ensures.need c.go_down.ensures.went)

pub returns-clause-few : goal.returns-clause-few
returns-clause-few c =
    let cut = ap (λ (trail : List Asked). length trail) (opened-trail (state_of c.args.self.now) c.args.owner c.opening-want.result c.cut_asks.new.trail.items c.requires.resting c.cut_asks.ensures.cut (never-asked c.opening-want.result c.opening-want.ensures.unasked c.opening-want.ensures.top)) in
    omega (arith, cut, c.go_down.ensures.few)
