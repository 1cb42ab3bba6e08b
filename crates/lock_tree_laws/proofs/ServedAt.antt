-- A notice that was served, by what the table was left.
use Rattle.std.proofs.Common.{◌≡◌, ℕ, ◌+◌, ◌≤◌, Bool, true, false, sym, ◌∙◌, ap, subst, inl, inr, refl, List, arith}
use Rattle.std.proofs.lemmas.Bool.{false≢true, cases_Bool, or_parts}
use Rattle.rdb_types.specs.declared.node.Node.{Node}
use Rattle.vms_queues.specs.declared.lock_mode.Mode.{Mode}
use Rattle.vms_locks.specs.Table.{Table}
use Rattle.lock_needs.specs.declared.need.Need.{Need}
use Rattle.lock_needs.specs.Party.{Party}
use Rattle.lock_needs.specs.Nodes.{same_node, contains, is_on}
use Rattle.lock_needs.specs.Keeping.{is_excess}
use Rattle.lock_needs.specs.Wants.{kept_at}
use Rattle.lock_needs.proofs.NodeLaws.{same_node-sym}
use Rattle.lock_needs.proofs.ModeTables.{at_most-refl}
use Rattle.vms_queues.specs.Modes.{at_most}
use Rattle.lock_tree_laws.specs.LockTable.{granted_at}
use Rattle.lock_tree_laws.specs.Inner.Lowering.{BroughtDown}
use Rattle.lock_tree_laws.specs.Parties.{IsKept}
use Rattle.lock_tree_laws.specs.Forest.{State, IsWhole, idle, party_of}
use Rattle.lock_tree_laws.specs.Order.{MakesWay}
use Rattle.lock_tree_laws.specs.Progress.{is_spare, IsServedAt}
use Rattle.lock_tree_laws.specs.Inner.Spare.{UsesSpare}
use Rattle.vms_queues.specs.Queues.{Queues}
use Rattle.lock_tree_laws.proofs.Respared.{way-same}
use Rattle.lock_tree_laws.proofs.WayMade.{way-none}

-- a lock that came down changed at its node, and others of its owner under it
pub brought-elsewhere : (old new : Table) (owner : ℕ) (n : Node) (keep : Mode) (needs : List Need) → BroughtDown owner n keep needs old new → (x : Node) → is_on n x ≡ false → granted_at new owner x ≡ granted_at old owner x
brought-elsewhere old new owner n keep needs b x f =
    let p = or_parts (same_node n x) (contains n x) f in
    b.lowered.elsewhere owner x (elim (cases_Bool (same_node x n)) [
      | inr d ↦ d
      | inl s ↦ absurd (false≢true (sym p.0 ∙ same_node-sym x n s))
    ])
    ∙ b.taken.elsewhere x p.1

-- whether a lock is stronger than it has to be, as the code finds it
pub excess-is : (held keep h k : Mode) (b v : Bool) → held ≡ h → keep ≡ k → b ≡ is_excess held keep → b ≡ v → is_excess h k ≡ v
excess-is held keep h k b v eh ek eb t = ap (is_excess h) (sym ek) ∙ (ap (λ (m : Mode). is_excess m keep) (sym eh) ∙ (sym eb ∙ t))

-- there was nothing to do
pub served-nothing : (t : Table) (owner : ℕ) (p : Party) (n : Node) → is_spare (granted_at t owner) p n ≡ false → IsServedAt owner p n t t
served-nothing t owner p n f = record {
  way = way-none owner t;
  elsewhere = λ x e. refl;
  rises = λ x d. at_most-refl (granted_at t owner x);
  least = λ h. absurd (false≢true (sym f ∙ h));
  unchanged = λ h. refl;
}

-- the lock came down
pub served-lock : (old new : Table) (owner : ℕ) (p : Party) (n : Node) (keep : Mode) (needs : List Need) → keep ≡ kept_at (granted_at old owner) p n → is_spare (granted_at old owner) p n ≡ true → MakesWay owner old new → BroughtDown owner n keep needs old new → IsServedAt owner p n old new
served-lock old new owner p n keep needs is excess way b = record {
  way = way;
  elsewhere = brought-elsewhere old new owner n keep needs b;
  rises = λ x d. subst (λ (m : Mode). at_most (granted_at old owner x) m ≡ true) (sym (b.lowered.elsewhere owner x d)) (b.taken.more x);
  least = λ h. b.lowered.own ∙ is;
  unchanged = λ h. absurd (false≢true (sym h ∙ excess));
}

-- room was made before
pub served-roomy : (old mid new : Table) (owner : ℕ) (p : Party) (n : Node) → mid.entries ≡ old.entries → (is_spare (granted_at old owner) p n ≡ false → mid ≡ old) → IsServedAt owner p n mid new → IsServedAt owner p n old new
served-roomy old mid new owner p n e same h = record {
  way = way-same owner old mid new e h.way;
  elsewhere = λ x f. subst (λ (es : List (Node × Queues)). granted_at new owner x ≡ granted_at (record { entries = es; spare = mid.spare }) owner x) e (h.elsewhere x f);
  rises = λ x d. subst (λ (es : List (Node × Queues)). at_most (granted_at (record { entries = es; spare = mid.spare }) owner x) (granted_at new owner x) ≡ true) e (h.rises x d);
  least = subst (λ (es : List (Node × Queues)). is_spare (granted_at (record { entries = es; spare = mid.spare }) owner) p n ≡ true → granted_at new owner n ≡ kept_at (granted_at (record { entries = es; spare = mid.spare }) owner) p n) e h.least;
  unchanged = λ f.
      h.unchanged (subst (λ (es : List (Node × Queues)). is_spare (granted_at (record { entries = es; spare = mid.spare }) owner) p n ≡ false) (sym e) f) ∙ same f;
}

-- the room beside is there still, whether the notice was due or not
pub room-served : (old mid new : Table) (needs beside : ℕ) (due : Bool) → (due ≡ true → needs + beside ≤ mid.spare) → old.spare ≤ mid.spare → (due ≡ false → new ≡ mid) → UsesSpare needs mid new → beside ≤ old.spare → beside ≤ new.spare
room-served old mid new needs beside true room more same used kept = let r = room refl in omega (arith, r, used)
room-served old mid new needs beside false room more same used kept =
    let spare : new.spare ≡ mid.spare = ap (λ (t : Table). t.spare) (same refl) in
    omega (arith, kept, more, spare)

-- who has and wants nothing is due no notice
pub nothing-due : (s r : State) (owner : ℕ) (n : Node) → s ≡ r → idle ≡ party_of s.parties owner → IsWhole s → is_spare (granted_at r.table owner) (party_of r.parties owner) n ≡ false
nothing-due s r owner n is e whole =
    subst (λ (z : State). is_spare (granted_at z.table owner) (party_of z.parties owner) n ≡ false) is
    (subst (λ (p : Party). is_spare (granted_at s.table owner) p n ≡ false) e (bare (subst (IsKept s.table owner) (sym e) (whole.kept owner))))
  where
    bare : IsKept s.table owner idle → is_spare (granted_at s.table owner) idle n ≡ false
    bare k = elim (k.no_stray n refl) [
      | inl none ↦ subst (λ (m : Mode). is_excess m (kept_at (granted_at s.table owner) idle n) ≡ false) (sym none) refl
      | inr r ↦ elim r [ inl f ↦ absurd (false≢true (sym f)) | inr y ↦ absurd (false≢true y) ]
    ]
