-- No notice is due at the journal: whose lock stands there has to keep it.
use Rattle.std.proofs.Common.{◌≡◌, ℕ, ◌&&◌, ◌||◌, not, if◌then◌else◌, Bool, true, false, List, [], ◌∷◌, refl, ◌∙◌, sym, ap, subst, arith, Option, Some, None, ◌⊎◌, inl, inr}
use Rattle.std.specs.List.{list_all}
use Rattle.std.proofs.lemmas.Bool.{false≢true, and_parts, or_cases}
use Rattle.rdb_types.specs.declared.node.Level.TheVariants.{Journal}
use Rattle.rdb_types.specs.declared.node.Node.{Node}
use Rattle.vms_queues.specs.declared.lock_mode.Mode.{Mode}
use Rattle.vms_queues.specs.declared.lock_mode.Mode.TheVariants.{NL, CR, CW, PR, PW, EX}
use Rattle.vms_queues.specs.Modes.{at_most, least_above}
use Rattle.lock_needs.specs.declared.need.Need.{Need}
use Rattle.lock_needs.specs.declared.party.OpenWant.{OpenWant}
use Rattle.lock_needs.specs.Party.{Party}
use Rattle.lock_needs.specs.Nodes.{same_node, contains, is_on}
use Rattle.lock_needs.specs.Needs.{Holding}
use Rattle.lock_needs.specs.Keeping.{below, needed_on, is_excess}
use Rattle.lock_needs.specs.Wants.{mode_for, has_granted, opened_at, kept_at, IsOnWay}
use Rattle.lock_needs.proofs.ModeTables.{at_most-trans, join-left, join-right}
use Rattle.lock_needs.proofs.NodeLaws.{same_node-true}
use Rattle.lock_tree_laws.specs.LockTable.{granted_at}
use Rattle.lock_tree_laws.specs.Parties.{is_needed, HasReason}
use Rattle.lock_tree_laws.specs.Forest.{State, IsWhole, party_of}
use Rattle.lock_tree_laws.specs.Wanted.{Answered}
use Rattle.lock_tree_laws.specs.declared.answer.Want.TheVariants.{NoticeTo}
use Rattle.journal_waits.specs.Holders.{is_exclusive_on, WantsExclusively, KeepsTo, OthersKeepTo}
use Rattle.journal_waits.proofs.Chains.{alone-over, alone-under}

-- EX is the most
pub most : (m : Mode) → at_most m EX ≡ true
most NL = refl
most CR = refl
most CW = refl
most PR = refl
most PW = refl
most EX = refl

pub least : (m : Mode) → at_most NL m ≡ true
least NL = refl
least CR = refl
least CW = refl
least PR = refl
least PW = refl
least EX = refl

-- what is on the journal is the journal
pub on-it : (n m : Node) → n.level ≡ Journal → is_on n m ≡ true → same_node n m ≡ true
on-it n m e h = elim (or_cases (same_node n m) (contains n m) h) [
  | inl k ↦ k
  | inr k ↦ absurd (false≢true (sym (alone-under n m e) ∙ k))
]

implied : (a b : Bool) → (not a || b) ≡ true → a ≡ true → b ≡ true
implied a b h k = grind arith

-- needs there are for EX
needed-whole : (n : Node) (ws : List Need) → n.level ≡ Journal → list_all (is_exclusive_on n) ws ≡ true → is_needed ws n ≡ true → at_most EX (needed_on ws n) ≡ true
needed-whole n [] e whole h = absurd (false≢true h)
needed-whole n (w ∷ ws) e whole h =
    let parts = and_parts (is_exclusive_on n w) (list_all (is_exclusive_on n) ws) whole in
    by parts.0 (λ k. needed-whole n ws e parts.1 k) (or_cases (is_on n w.node) (is_needed ws n) h)
  where
    rest : at_most EX (needed_on ws n) ≡ true → (b : Bool) → at_most EX (if b then least_above w.mode (needed_on ws n) else needed_on ws n) ≡ true
    rest k true = at_most-trans EX (needed_on ws n) (least_above w.mode (needed_on ws n)) k (join-right w.mode (needed_on ws n))
    rest k false = k

    here : same_node n w.node ≡ true → at_most EX w.mode ≡ true → at_most EX (if same_node n w.node then least_above w.mode (needed_on ws n) else needed_on ws n) ≡ true
    here s k = rw s (at_most-trans EX w.mode (least_above w.mode (needed_on ws n)) k (join-left w.mode (needed_on ws n)))

    by : is_exclusive_on n w ≡ true → (is_needed ws n ≡ true → at_most EX (needed_on ws n) ≡ true) → (is_on n w.node ≡ true) ⊎ (is_needed ws n ≡ true) →
        at_most EX (if same_node n w.node then least_above w.mode (needed_on ws n) else needed_on ws n) ≡ true
    by own behind (inl k) = here (on-it n w.node e k) (implied (is_on n w.node) (at_most EX w.mode) own k)
    by own behind (inr k) = rest (behind k) (same_node n w.node)

-- what an open want was granted there is EX
opened-whole : (held : Holding) (n : Node) (x : Option OpenWant) → n.level ≡ Journal → ((w : OpenWant) → x ≡ Some w → is_on w.here w.need.node ≡ true) → WantsExclusively n x → at_most (opened_at held x n) NL ≡ false → at_most EX (opened_at held x n) ≡ true
opened-whole held n None e way whole h = absurd (false≢true (sym h))
opened-whole held n (Some w) e way whole h = by (has_granted held w n) refl h
  where
    there : has_granted held w n ≡ true → same_node n w.here ≡ true
    there g = elim (or_cases (contains n w.here) (same_node n w.here && _) g) [
      | inl k ↦ absurd (false≢true (sym (alone-under n w.here e) ∙ k))
      | inr k ↦ (and_parts (same_node n w.here) _ k).0
    ]

    target : same_node n w.here ≡ true → is_on n w.need.node ≡ true
    target s = subst (λ (x : Node). is_on x w.need.node ≡ true) (sym (same_node-true n w.here s)) (way w refl)

    mode-is : is_on n w.need.node ≡ true → at_most EX (mode_for w.need n) ≡ true
    mode-is k = rw (on-it n w.need.node e k) (implied (is_on n w.need.node) (at_most EX w.need.mode) whole k)

    by : (b : Bool) → has_granted held w n ≡ b → at_most (if b then mode_for w.need n else NL) NL ≡ false → at_most EX (if b then mode_for w.need n else NL) ≡ true
    by true g k = mode-is (target (there g))
    by false g k = absurd (false≢true (sym k))

-- so nobody's lock there is stronger than it has to be
none-spare : (s : State) (t : ℕ) (n : Node) → n.level ≡ Journal → IsWhole s → KeepsTo n (party_of s.parties t) → at_most (granted_at s.table t n) (kept_at (granted_at s.table t) (party_of s.parties t) n) ≡ true
none-spare s t n e whole keeps = by ((whole.kept t).no_stray n refl)
  where
    p : Party
    p = party_of s.parties t

    held : Holding
    held = granted_at s.table t

    full : at_most EX (kept_at held p n) ≡ true → at_most (held n) (kept_at held p n) ≡ true
    full k = at_most-trans (held n) EX (kept_at held p n) (most (held n)) k

    way : (x : Option OpenWant) → p.opened ≡ x → (w : OpenWant) → x ≡ Some w → is_on w.here w.need.node ≡ true
    way x is w e = subst (λ (y : Option OpenWant). IsOnWay y) (is ∙ e) (whole.kept t).way

    by : HasReason held p n (held n) → at_most (held n) (kept_at held p n) ≡ true
    by (inl k) = subst (λ (m : Mode). at_most m (kept_at held p n) ≡ true) (sym k) (least (kept_at held p n))
    by (inr (inl k)) =
        full (at_most-trans EX (opened_at held p.opened n) (kept_at held p n) (opened-whole held n p.opened e (way p.opened refl) keeps.want k)
        (join-left (opened_at held p.opened n) (least_above (below p.needs n) (needed_on p.needs n))))
    by (inr (inr k)) =
        full (at_most-trans EX (needed_on p.needs n) (kept_at held p n) (needed-whole n p.needs e keeps.needs k)
        (at_most-trans (needed_on p.needs n) (least_above (below p.needs n) (needed_on p.needs n)) (kept_at held p n) (join-right (below p.needs n) (needed_on p.needs n))
        (join-right (opened_at held p.opened n) (least_above (below p.needs n) (needed_on p.needs n)))))

no-excess : (held keep : Mode) → at_most held keep ≡ true → is_excess held keep ≡ true → ⊥
no-excess held keep h k = by (at_most keep held) (at_most held keep) h k
  where
    by : (a b : Bool) → b ≡ true → (a && not b) ≡ true → ⊥
    by a b h k = grind arith

pub no-notice : (s : ℕ) (n : Need) (new : State) (wait : Bool) (t : ℕ) (m : Node) (mode : Mode) (ws : List Need) → n.node.level ≡ Journal → IsWhole new → OthersKeepTo new s n.node → Answered ws new s n wait (NoticeTo t m mode) → ⊥
no-notice s n new wait t m mode ws level whole keep answer =
    let w : OpenWant = answer.0 in
    let due = answer.5 in
    let on : is_on w.here n.node ≡ true = subst (λ (x : Need). is_on w.here x.node ≡ true) answer.2 (subst (λ (p : Party). IsOnWay p.opened) answer.1 (whole.kept s).way) in
    let here : w.here ≡ n.node = at w.here on in
    no-excess (granted_at new.table t w.here) (kept_at (granted_at new.table t) (party_of new.parties t) w.here)
    (none-spare new t w.here (ap (λ (x : Node). x.level) here ∙ level) whole (subst (λ (x : Node). KeepsTo x (party_of new.parties t)) (sym here) (keep t due.other)))
    due.excess
  where
    at : (h : Node) → is_on h n.node ≡ true → h ≡ n.node
    at h on = elim (or_cases (same_node h n.node) (contains h n.node) on) [
      | inl k ↦ same_node-true h n.node k
      | inr k ↦ absurd (false≢true (sym (alone-over n.node h level) ∙ k))
    ]
