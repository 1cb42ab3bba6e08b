use Rattle.std.proofs.Common.{◌≡◌, refl, ◌∙◌, ap, sym, subst, true, false}
use Rattle.std.specs.Prelude.{Bool, OnOk, OnErr, unwrap_or, if◌then◌else◌, Some, None}
use Rattle.std.proofs.lemmas.Bool.{false≢true}
use Rattle.lock_needs.specs.Party.{Party}
use Rattle.lock_needs.specs.Keeping.{is_excess}
use Rattle.lock_needs.specs.Wants.{kept_at}
use Rattle.lock_tree_laws.specs.LockTable.{granted_at, KeepsLocks}
use Rattle.lock_tree_laws.specs.Forest.{State, IsWhole, idle, party_of}
use Rattle.lock_tree_laws.specs.Inner.Answering.{ComesDown}
use Rattle.lock_tree_laws.specs.Room.{IsAsBefore}
use Rattle.lock_tree_laws.specs.Progress.{is_spare, Falls, IsServedAt, LeavesLocks}
use Rattle.lock_tree_laws.proofs.MeasureFalls.{served-falls, way-leaves}
use Rattle.lock_tree_laws.proofs.Opened.{whole-kept}
use Rattle.lock_tree_laws.proofs.Outcomes.{on_ok-more, on_err-more}
use Rattle.lock_tree_laws.proofs.ServedAt.{nothing-due}
use Rattle.rdb_types.specs.declared.node.Node.{Node}
use Rattle.vms_queues.specs.Modes.{at_most}
use Rattle.lock_needs.specs.Nodes.{same_node, is_on}
use Rattle.lock_tree_laws.proofs.ByRule.{keeps-way}
use Rattle.lock_tree.proofs.tree.Tree.deliver_notice.Goals as goal

pub returns-in-Some-clause-least : goal.returns-in-Some-clause-least
returns-in-Some-clause-least c =
    subst (λ (s : State). OnOk c.answer_notice.result (is_excess (granted_at s.table c.args.to c.args.node) (kept_at (granted_at s.table c.args.to) (party_of s.parties c.args.to) c.args.node) ≡ true
    → granted_at c.answer_notice.new.locks c.args.to c.args.node ≡ kept_at (granted_at s.table c.args.to) (party_of s.parties c.args.to) c.args.node)) c.self.view_is
    (subst (λ (p : Party). OnOk c.answer_notice.result (is_excess (granted_at c.self.inside.parts.locks c.args.to c.args.node) (kept_at (granted_at c.self.inside.parts.locks c.args.to) p c.args.node) ≡ true
    → granted_at c.answer_notice.new.locks c.args.to c.args.node ≡ kept_at (granted_at c.self.inside.parts.locks c.args.to) p c.args.node)) (ap (λ x. unwrap_or x idle) c.in-Some.ensures.value)
    c.answer_notice.ensures.least)

pub returns-in-Some-clause-unchanged : goal.returns-in-Some-clause-unchanged
returns-in-Some-clause-unchanged c =
    on_ok-more (is_excess (granted_at c.self.inside.parts.locks c.args.to c.args.node) (kept_at (granted_at c.self.inside.parts.locks c.args.to) c.in-Some.party.now c.args.node) ≡ false → c.answer_notice.new.locks ≡ c.self.inside.parts.locks)
    _ c.answer_notice.result c.answer_notice.ensures.unchanged
    (λ f e. ap (λ t. record { table = t; parties = c.self.inside.parts.parties.entries; trail = c.self.inside.parts.trail.items })
    (f (subst (λ (p : Party). is_excess (granted_at c.self.inside.parts.locks c.args.to c.args.node) (kept_at (granted_at c.self.inside.parts.locks c.args.to) p c.args.node) ≡ false) (sym (ap (λ x. unwrap_or x idle) c.in-Some.ensures.value))
    (subst (λ (s : State). is_excess (granted_at s.table c.args.to c.args.node) (kept_at (granted_at s.table c.args.to) (party_of s.parties c.args.to) c.args.node) ≡ false) (sym c.self.view_is) e)))
    ∙ c.self.view_is)

pub invariant_of-self : goal.invariant_of-self
invariant_of-self c =
    let s : State = record { table = c.self.inside.parts.locks; parties = c.self.inside.parts.parties.entries; trail = c.self.inside.parts.trail.items } in
    let r : State = record { table = c.answer_notice.new.locks; parties = c.self.inside.parts.parties.entries; trail = c.self.inside.parts.trail.items } in
    whole-kept s r c.args.to c.self.invariant
    (subst (λ (p : Party). ComesDown c.args.to p s.table r.table) (ap (λ x. unwrap_or x idle) c.in-Some.ensures.value) (record {
      way = c.answer_notice.ensures.way;
      stands = c.answer_notice.ensures.stands;
      kept = c.answer_notice.ensures.kept;
      intents = c.answer_notice.ensures.intents;
      others = c.answer_notice.ensures.others;
    }))
    refl (λ u d. refl) refl (c.answer_notice.ensures.room c.self.invariant.room)

pub returns-in-Some-clause-err : goal.returns-in-Some-clause-err
returns-in-Some-clause-err c =
    subst (λ (s : State). OnErr c.answer_notice.result (IsAsBefore s (record { table = c.answer_notice.new.locks; parties = c.self.inside.parts.parties.entries; trail = c.self.inside.parts.trail.items }))) c.self.view_is
    (on_err-more _ _ c.answer_notice.result c.answer_notice.ensures.err (λ e. record { table = e; parties = λ u. refl; trail = refl }))

pub returns-in-Some-clause-falls : goal.returns-in-Some-clause-falls
returns-in-Some-clause-falls c =
    let s : State = record { table = c.self.inside.parts.locks; parties = c.self.inside.parts.parties.entries; trail = c.self.inside.parts.trail.items } in
    let r : State = record { table = c.answer_notice.new.locks; parties = c.self.inside.parts.parties.entries; trail = c.self.inside.parts.trail.items } in
    let is : c.in-Some.party.now ≡ party_of s.parties c.args.to = ap (λ x. unwrap_or x idle) c.in-Some.ensures.value in
    let after : IsWhole r = whole-kept s r c.args.to c.self.invariant
    (subst (λ (p : Party). ComesDown c.args.to p s.table r.table) is (record {
      way = c.answer_notice.ensures.way;
      stands = c.answer_notice.ensures.stands;
      kept = c.answer_notice.ensures.kept;
      intents = c.answer_notice.ensures.intents;
      others = c.answer_notice.ensures.others;
    }))
    refl (λ u d. refl) refl (c.answer_notice.ensures.room c.self.invariant.room) in
    subst (λ (z : State). OnOk c.answer_notice.result (is_spare (granted_at z.table c.args.to) (party_of z.parties c.args.to) c.args.node ≡ true → Falls c.args.to z r)) c.self.view_is
    (on_ok-more (IsServedAt c.args.to c.in-Some.party.now c.args.node s.table r.table) _ c.answer_notice.result c.answer_notice.ensures.served
    (λ f x. served-falls s r c.args.to c.args.node c.self.invariant after (λ u. refl) (subst (λ (p : Party). IsServedAt c.args.to p c.args.node s.table r.table) is f) x))

pub returns-in-None-clause-answer : goal.returns-in-None-clause-answer
returns-in-None-clause-answer c =
    sym (ap (λ (b : Bool). if b then Some (record { from = granted_at c.args.self.now.table c.args.to c.args.node; to = kept_at (granted_at c.args.self.now.table c.args.to) (party_of c.args.self.now.parties c.args.to) c.args.node }) else None)
    (nothing-due _ c.args.self.now c.args.to c.args.node c.self.view_is (ap (λ x. unwrap_or x idle) c.in-None.ensures.value) c.self.invariant))

pub returns-in-None-clause-least : goal.returns-in-None-clause-least
returns-in-None-clause-least c = λ h. absurd (false≢true (sym (nothing-due _ c.args.self.now c.args.to c.args.node c.self.view_is (ap (λ x. unwrap_or x idle) c.in-None.ensures.value) c.self.invariant) ∙ h))

pub returns-in-None-clause-falls : goal.returns-in-None-clause-falls
returns-in-None-clause-falls c = λ h. absurd (false≢true (sym (nothing-due _ c.args.self.now c.args.to c.args.node c.self.view_is (ap (λ x. unwrap_or x idle) c.in-None.ensures.value) c.self.invariant) ∙ h))

pub returns-in-Some-clause-below : goal.returns-in-Some-clause-below
returns-in-Some-clause-below c =
    let old = c.self.inside.parts.locks in
    let new = c.answer_notice.new.locks in
    subst (λ (s : State). OnOk c.answer_notice.result ((n : Node) → same_node n c.args.node ≡ false → at_most (granted_at s.table c.args.to n) (granted_at new c.args.to n) ≡ true)) c.self.view_is
    (on_ok-more (IsServedAt c.args.to c.in-Some.party.now c.args.node old new) _ c.answer_notice.result c.answer_notice.ensures.served (λ f. f.rises))

pub returns-in-Some-clause-elsewhere : goal.returns-in-Some-clause-elsewhere
returns-in-Some-clause-elsewhere c =
    let old = c.self.inside.parts.locks in
    let new = c.answer_notice.new.locks in
    subst (λ (s : State). OnOk c.answer_notice.result ((n : Node) → is_on c.args.node n ≡ false → granted_at new c.args.to n ≡ granted_at s.table c.args.to n)) c.self.view_is
    (on_ok-more (IsServedAt c.args.to c.in-Some.party.now c.args.node old new) _ c.answer_notice.result c.answer_notice.ensures.served (λ f. f.elsewhere))

pub returns-in-Some-clause-locks : goal.returns-in-Some-clause-locks
returns-in-Some-clause-locks c =
    let old = c.self.inside.parts.locks in
    let new = c.answer_notice.new.locks in
    subst (λ (s : State). OnOk c.answer_notice.result (KeepsLocks c.args.to s.table new)) c.self.view_is
    (on_ok-more (IsServedAt c.args.to c.in-Some.party.now c.args.node old new) _ c.answer_notice.result c.answer_notice.ensures.served (λ f. keeps-way c.args.to old new f.way))

pub returns-in-Some-clause-no_weaker : goal.returns-in-Some-clause-no_weaker
returns-in-Some-clause-no_weaker c =
    let old = c.self.inside.parts.locks in
    let new = c.answer_notice.new.locks in
    subst (λ (s : State). OnOk c.answer_notice.result (LeavesLocks c.args.to s.table new)) c.self.view_is
    (on_ok-more (IsServedAt c.args.to c.in-Some.party.now c.args.node old new) _ c.answer_notice.result c.answer_notice.ensures.served (λ f. way-leaves old new c.args.to c.self.invariant.intents f.way))
