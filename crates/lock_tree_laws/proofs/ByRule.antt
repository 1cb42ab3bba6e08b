-- How a want goes down by the rule, step by step, and what it leaves of the locks of others.
use Rattle.std.proofs.Common.{◌≡◌, ℕ, Bool, true, List, [], ◌∷◌, ◌++◌, map, refl, sym, ap, subst, ◌∙◌, append-nil, append_assoc, inl, inr, false}
use Rattle.std.specs.Prelude.{◌&&◌, if◌then◌else◌}
use Rattle.std.specs.List.{AllByRecursion}
use Rattle.std.proofs.lemmas.List.{map-append}
use Rattle.rdb_types.specs.declared.node.Node.{Node}
use Rattle.vms_queues.specs.Queues.{Queues}
use Rattle.vms_locks.specs.Table.{Table}
use Rattle.vms_locks.specs.declared.answer.Enq.{Enq}
use Rattle.vms_locks.specs.declared.answer.Enq.TheVariants.{Granted, Asleep as Queued, NotQueued, Deadlock as Closes}
use Rattle.lock_needs.specs.declared.need.Need.{Need}
use Rattle.lock_needs.specs.declared.party.OpenWant.{OpenWant}
use Rattle.lock_needs.specs.declared.party.Asked.{Asked}
use Rattle.lock_needs.specs.Nodes.{same_node, is_on}
use Rattle.lock_tree_laws.specs.LockTable.{granted_at, sought_at, RaisedAt, KeepsLocks}
use Rattle.lock_tree_laws.specs.Forest.{State}
use Rattle.vms_queues.specs.declared.lock_mode.Mode.{Mode}
use Rattle.lock_tree_laws.specs.Asking.{AnswersAt}
use Rattle.lock_tree_laws.specs.Order.{MakesWay}
use Rattle.lock_tree_laws.specs.LockTable.{HasIntents}
use Rattle.lock_tree_laws.specs.Progress.{LeavesLocks}
use Rattle.lock_tree_laws.specs.Parties.{IsKept, unasked}
use Rattle.lock_tree_laws.specs.Forest.{opened_of, party_of}
use Rattle.lock_tree_laws.specs.Asking.{whole_mode}
use Rattle.lock_tree_laws.specs.Inner.Answering.{AsksAt}
use Rattle.lock_tree_laws.proofs.Opened.{as-open}
use Rattle.lock_needs.specs.Party.{Party}
use Rattle.lock_needs.specs.Needs.{is_covered}
use Rattle.lock_needs.specs.Wants.{kept_at}
use Rattle.lock_needs.proofs.ModeTables.{at_most-refl}
use Rattle.vms_queues.specs.Modes.{at_most}
use Rattle.std.specs.Prelude.{Some}
use Rattle.lock_tree_laws.specs.Wanted.{MayTakeWhole, AddsAsks, asks_for, needs_of}
use Rattle.lock_tree_laws.specs.Rule.{IsByRule, Visit, AreByRule, Finishes, GoesDown, come_to}
use Rattle.lock_tree_laws.specs.declared.answer.Want.{Want}
use Rattle.lock_tree_laws.specs.declared.answer.Want.TheVariants.{Got, NoticeTo, Asleep, Conflict, Deadlock}
use Rattle.lock_tree_laws.proofs.Added.{way-append}
use Rattle.lock_tree_laws.proofs.Respared.{with_spare, same-entries, way-spare}
use Rattle.lock_tree_laws.proofs.WayMade.{way-none}

-- ---- whatever places are spare

may-spare : (t : Table) (k : ℕ) (owner : ℕ) (w : OpenWant) → MayTakeWhole (with_spare t k) owner w → MayTakeWhole t owner w
may-spare t k owner w m = record { clear = m.clear; free = m.free }

may-spared : (t : Table) (k : ℕ) (owner : ℕ) (w : OpenWant) → MayTakeWhole t owner w → MayTakeWhole (with_spare t k) owner w
may-spared t k owner w m = record { clear = m.clear; free = m.free }

rule-spare : (t u : Table) (k : ℕ) (owner : ℕ) (ws : List Need) (w : OpenWant) (wait : Bool) → IsByRule owner ws w wait (with_spare t k) u → IsByRule owner ws w wait t u
rule-spare t u k owner ws w wait r = record {
  uncovered = r.uncovered;
  asked = elim r.asked [
    | inl h ↦ inl (record { may = may-spare t k owner w h.may; raised = record { granted = h.raised.granted; sought = h.raised.sought } })
    | inr h ↦ inr (record {
      not_whole = λ m. h.not_whole (may-spared t k owner w m);
      before = h.before;
      way = way-spare owner t h.before k h.way;
      elsewhere = h.elsewhere;
      kept = h.kept;
      least = h.least;
      answer = h.answer;
      exact = h.exact;
      left = h.left;
    })
  ];
}

rule-same : (old mid new : Table) (owner : ℕ) (ws : List Need) (w : OpenWant) (wait : Bool) → mid.entries ≡ old.entries → IsByRule owner ws w wait mid new → IsByRule owner ws w wait old new
rule-same old mid new owner ws w wait e r = rule-spare old new mid.spare owner ws w wait (subst (λ (t : Table). IsByRule owner ws w wait t new) (same-entries old mid e) r)

-- ---- one visit after the other

visits-then : (owner : ℕ) (ws : List Need) (need : Need) (wait : Bool) (xs ys : List Visit) (a b c : Table) → AreByRule owner ws need wait xs a b → AreByRule owner ws need wait ys b c → AreByRule owner ws need wait (xs ++ ys) a c
visits-then owner ws need wait [] [] a b c x y = y ∙ x
visits-then owner ws need wait [] (v ∷ ys) a b c x y = (rule-same a b v.left owner ws (come_to need v.node) wait x y.0, y.1)
visits-then owner ws need wait (v ∷ xs) ys a b c x y = (x.0, visits-then owner ws need wait xs ys v.left b c x.1 y)

pub goes-none : (owner : ℕ) (need : Need) (wait : Bool) (ends : Table → Table → Type 0) (s r : State) → r.trail ≡ s.trail → ends s.table r.table → GoesDown owner need wait ends s r
goes-none owner need wait ends s r trail h = record {
  visits = [];
  trail = trail ∙ sym (append-nil s.trail);
  way = tt;
  last = s.table;
  by_rule = refl;
  finish = h;
}

pub goes-one : (owner : ℕ) (need : Need) (wait : Bool) (ends : Table → Table → Type 0) (s r : State) (n : Node) (t : Table) → is_on n need.node ≡ true → r.trail ≡ s.trail ++ (record { owner = owner; node = n }) ∷ []
    → IsByRule owner (needs_of s owner) (come_to need n) wait s.table t → ends t r.table → GoesDown owner need wait ends s r
goes-one owner need wait ends s r n t on trail rule h = record {
  visits = (record { node = n; left = t }) ∷ [];
  trail = trail;
  way = (on, tt);
  last = t;
  by_rule = (rule, refl);
  finish = h;
}

-- the first went as far as the second begins
pub goes-then : (owner : ℕ) (need : Need) (wait : Bool) (ends : Table → Table → Type 0) (s m r : State) → needs_of m owner ≡ needs_of s owner
    → GoesDown owner need wait (λ last new. new.entries ≡ last.entries) s m → GoesDown owner need wait ends m r → GoesDown owner need wait ends s r
goes-then owner need wait ends s m r same x y =
    let node : Visit → Node = λ v. v.node in
    let note : List Node → List Asked = asks_for owner in
    record {
      visits = x.visits ++ y.visits;
      trail = y.trail ∙ (ap (λ l. l ++ note (map node y.visits)) x.trail ∙ (append_assoc s.trail (note (map node x.visits)) (note (map node y.visits))
          ∙ ap (λ l. s.trail ++ l) (sym (map-append (λ n. record { owner = owner; node = n }) (map node x.visits) (map node y.visits)) ∙ ap note (sym (map-append node x.visits y.visits)))));
      way = subst (AllByRecursion (λ n. is_on n need.node ≡ true)) (sym (map-append node x.visits y.visits)) (way-append need (map node x.visits) (map node y.visits) x.way y.way);
      last = y.last;
      by_rule = visits-then owner (needs_of s owner) need wait x.visits y.visits s.table m.table y.last
          (visits-end x.visits s.table x.last m.table x.by_rule x.finish)
          (subst (λ (ws : List Need). AreByRule owner ws need wait y.visits m.table y.last) same y.by_rule);
      finish = y.finish;
    }
  where
    visits-end : (vs : List Visit) (a b c : Table) → AreByRule owner (needs_of s owner) need wait vs a b → c.entries ≡ b.entries → AreByRule owner (needs_of s owner) need wait vs a c
    visits-end [] a b c h e = e ∙ h
    visits-end (v ∷ vs) a b c h e = (h.0, visits-end vs v.left b c h.1 e)

-- the entries that the trail gained
pub goes-adds : (owner : ℕ) (need : Need) (wait : Bool) (ends : Table → Table → Type 0) (s r : State) → GoesDown owner need wait ends s r → AddsAsks owner need s.trail r.trail
goes-adds owner need wait ends s r g = record { nodes = map (λ (v : Visit). v.node) g.visits; added = g.trail; way = g.way }

-- where the table is as it was, whatever is answered
pub finishes-same : (owner : ℕ) (last new : Table) → new ≡ last → (answer : Want) → Finishes owner answer last new
finishes-same owner last new e Got = ap (λ (t : Table). t.entries) e
finishes-same owner last new e (Asleep t) = ap (λ (t : Table). t.entries) e
finishes-same owner last new e (NoticeTo t n mode) = subst (MakesWay owner last) (sym e) (way-none owner last)
finishes-same owner last new e (Conflict t) = subst (MakesWay owner last) (sym e) (way-none owner last)
finishes-same owner last new e (Deadlock cycle) = subst (MakesWay owner last) (sym e) (way-none owner last)

-- ---- the locks of others

pub keeps-same : (owner : ℕ) (old new : Table) → new.entries ≡ old.entries → KeepsLocks owner old new
keeps-same owner old new e = record {
  granted = λ u n d. inl (ap (λ (es : List (Node × Queues)). granted_at (record { entries = es; spare = 0 }) u n) e);
  sought = λ u n d. ap (λ (es : List (Node × Queues)). sought_at (record { entries = es; spare = 0 }) u n) e;
}

pub keeps-way : (owner : ℕ) (old new : Table) → MakesWay owner old new → KeepsLocks owner old new
keeps-way owner old new w = record { granted = w.granted; sought = w.sought }

pub keeps-then : (owner : ℕ) (a b c : Table) → KeepsLocks owner a b → KeepsLocks owner b c → KeepsLocks owner a c
keeps-then owner a b c x y = record {
  granted = λ u n d. elim (y.granted u n d) [
    | inl e ↦ elim (x.granted u n d) [ inl f ↦ inl (e ∙ f) | inr f ↦ inr (e ∙ f) ]
    | inr e ↦ inr (e ∙ x.sought u n d)
  ];
  sought = λ u n d. y.sought u n d ∙ x.sought u n d;
}

keeps-raised : (owner : ℕ) (old new : Table) (n : Node) (mode : Mode) → RaisedAt old new owner n mode → KeepsLocks owner old new
keeps-raised owner old new n mode r = record {
  granted = λ u x d. inl (r.granted u x ∙ ap (λ (b : Bool). if b && same_node x n then mode else granted_at old u x) d);
  sought = λ u x d. r.sought u x ∙ ap (λ (b : Bool). if b && same_node x n then mode else sought_at old u x) d;
}

keeps-answer : (owner : ℕ) (old new : Table) (n : Node) (mode : Mode) (wait : Bool) (answer : Enq) → AnswersAt old new owner n mode wait answer → KeepsLocks owner old new
keeps-answer owner old new n mode wait Granted h = keeps-raised owner old new n mode h
keeps-answer owner old new n mode wait Queued h = record {
  granted = λ u x d. inl (h.1.granted u x);
  sought = λ u x d. h.1.sought u x ∙ ap (λ (b : Bool). if b && same_node x n then mode else sought_at old u x) d;
}
keeps-answer owner old new n mode wait (NotQueued b) h = keeps-same owner old new (ap (λ (t : Table). t.entries) h.1)
keeps-answer owner old new n mode wait (Closes c) h = keeps-same owner old new (ap (λ (t : Table). t.entries) h.1)

keeps-rule : (owner : ℕ) (ws : List Need) (w : OpenWant) (wait : Bool) (old new : Table) → IsByRule owner ws w wait old new → KeepsLocks owner old new
keeps-rule owner ws w wait old new r = elim r.asked [
  | inl h ↦ keeps-raised owner old new w.here _ h.raised
  | inr h ↦ keeps-then owner old h.before new (keeps-way owner old h.before h.way) (keeps-answer owner h.before new w.here _ wait h.answer h.left)
]

keeps-visits : (owner : ℕ) (ws : List Need) (need : Need) (wait : Bool) (vs : List Visit) (old new : Table) → AreByRule owner ws need wait vs old new → KeepsLocks owner old new
keeps-visits owner ws need wait [] old new h = keeps-same owner old new h
keeps-visits owner ws need wait (v ∷ vs) old new h =
    keeps-then owner old v.left new (keeps-rule owner ws (come_to need v.node) wait old v.left h.0) (keeps-visits owner ws need wait vs v.left new h.1)

keeps-finish : (owner : ℕ) (old new : Table) (answer : Want) → Finishes owner answer old new → KeepsLocks owner old new
keeps-finish owner old new Got h = keeps-same owner old new h
keeps-finish owner old new (Asleep t) h = keeps-same owner old new h
keeps-finish owner old new (NoticeTo t n mode) h = keeps-way owner old new h
keeps-finish owner old new (Conflict t) h = keeps-way owner old new h
keeps-finish owner old new (Deadlock cycle) h = keeps-way owner old new h

pub goes-keeps : (owner : ℕ) (need : Need) (wait : Bool) (answer : Want) (s r : State) → GoesDown owner need wait (Finishes owner answer) s r → KeepsLocks owner s.table r.table
goes-keeps owner need wait answer s r g =
    keeps-then owner s.table g.last r.table (keeps-visits owner (needs_of s owner) need wait g.visits s.table g.last g.by_rule) (keeps-finish owner g.last r.table answer g.finish)

-- where nothing held was more than what was asked, no lock is weaker
pub keeps-leaves : (owner : ℕ) (old new : Table) → HasIntents old → KeepsLocks owner old new → LeavesLocks owner old new
keeps-leaves owner old new intents k u x d = elim (k.granted u x d) [
  | inl e ↦ subst (λ y. at_most (granted_at old u x) y ≡ true) (sym e) (at_most-refl (granted_at old u x))
  | inr e ↦ subst (λ y. at_most (granted_at old u x) y ≡ true) (sym e) (intents.ascends u x)
]

-- ---- what a want does at its node

pub took-rule : (s : State) (owner : ℕ) (w : OpenWant) (wait : Bool) (new : Table) → is_covered (granted_at s.table owner) w.need ≡ false → MayTakeWhole s.table owner w
    → RaisedAt s.table new owner w.here (whole_mode s.table owner w) → IsByRule owner (needs_of s owner) (come_to w.need w.here) wait s.table new
took-rule s owner w wait new bare may raised = record {
  uncovered = bare;
  asked = inl (record { may = record { clear = may.clear; free = may.free }; raised = raised });
}

pub asked-rule : (s : State) (owner : ℕ) (w : OpenWant) (wait : Bool) (new : Table) (answer : Enq) → opened_of s owner ≡ Some (unasked w) → is_covered (granted_at s.table owner) w.need ≡ false
    → (MayTakeWhole s.table owner w → ⊥) → AsksAt s.parties owner w wait s.table new answer → IsByRule owner (needs_of s owner) (come_to w.need w.here) wait s.table new
asked-rule s owner w wait new answer opened bare none a =
    let is = as-open (party_of s.parties owner) (unasked w) opened in
    record {
      uncovered = bare;
      asked = inr (record {
        not_whole = λ m. none (record { clear = m.clear; free = m.free });
        before = a.before;
        way = a.down.way;
        elsewhere = a.served.elsewhere;
        kept = subst (IsKept a.before owner) is a.down.kept;
        least = subst (λ (p : Party). at_most (granted_at a.before owner w.here) (kept_at (granted_at a.before owner) p w.here) ≡ true) is a.least;
        answer = answer;
        exact = a.exact;
        left = a.left;
      });
    }
