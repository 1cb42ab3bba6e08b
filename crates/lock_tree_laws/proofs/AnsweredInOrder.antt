-- What an open want is answered at its node keeps the order, and names only those for whom its owner waits by needs.
use Rattle.std.proofs.Common.{◌≡◌, ℕ, ◌∷◌, [], Bool, true, false, refl, sym, ◌∙◌, ap, subst, inl, inr, List}
use Rattle.std.specs.Prelude.{◌&&◌, ◌==◌, not, if◌then◌else◌, Option, Some, None, unwrap_or, map}
use Rattle.std.specs.List.{filter}
use Rattle.std.proofs.lemmas.Bool.{false≢true, cases_Bool, eqb-true, and_parts, and_from, not_from_false}
use Rattle.rdb_types.specs.declared.node.Node.{Node}
use Rattle.vms_queues.specs.declared.lock_mode.Mode.{Mode}
use Rattle.vms_queues.specs.declared.lock_mode.Mode.TheVariants.{NL}
use Rattle.vms_queues.specs.declared.held.Held.{Held}
use Rattle.vms_queues.specs.Modes.{may_share, at_most, least_above}
use Rattle.vms_queues.specs.Queues.{Queues, has_owner, mode_in, blocks, blockers, fits}
use Rattle.vms_queues.proofs.ModeLaws.{may_share-comm}
use Rattle.vms_locks.specs.Table.{Table, queues_at, ChangesAt, IsLive}
use Rattle.vms_locks.specs.Answers.{Answers, asking, converting}
use Rattle.vms_locks.specs.declared.answer.Enq.{Enq}
use Rattle.vms_locks.specs.declared.answer.Enq.TheVariants.{Granted, Asleep, NotQueued, Deadlock}
use Rattle.lock_needs.specs.declared.need.Need.{Need}
use Rattle.lock_needs.specs.declared.party.OpenWant.{OpenWant}
use Rattle.lock_needs.specs.declared.party.Asked.{Asked}
use Rattle.lock_needs.specs.Party.{Party}
use Rattle.lock_needs.specs.Wants.{mode_for}
use Rattle.lock_needs.proofs.ModeTables.{join-left}
use Rattle.lock_tree_laws.specs.LockTable.{granted_at, sought_at, BarsNobody, RaisedAt}
use Rattle.lock_tree_laws.specs.Forest.{Parties, party_of}
use Rattle.lock_tree_laws.specs.Asking.{exceeds_at, first_excess}
use Rattle.lock_tree_laws.specs.Parties.{IsKept, wanting, asked_at}
use Rattle.lock_tree_laws.specs.Order.{MayAsk, AnswersByNeeds, KeepsParty, MakesWay, asked_last, requesting, NoneInExcess}
use Rattle.lock_tree_laws.proofs.HeldModes.{option-cases, one-mode, nothing-shares}
use Rattle.lock_tree_laws.proofs.QueueModes.{mode-absent}
use Rattle.lock_tree_laws.proofs.Changes.{shares-live, quiet-at}
use Rattle.lock_tree_laws.proofs.Conditions.{absent-quiet, asked-law, converted-law}
use Rattle.lock_tree_laws.proofs.Answered.{request-answered, conversion-answered}
use Rattle.lock_tree_laws.proofs.Arrivals.{mode-of}
use Rattle.lock_tree_laws.proofs.WantAsked.{raised-asked, want-kept}
use Rattle.lock_tree_laws.proofs.Ordered.{flip, fits-shares}
use Rattle.lock_tree_laws.proofs.OrderedRequests.{asked-order, raised-order}
use Rattle.lock_tree_laws.proofs.WayMade.{way-raised}
use Rattle.lock_tree_laws.proofs.AskedInOrder.{own-quiet, queued-in_order, granted-in_order}
use Rattle.lock_tree_laws.proofs.Refusals.{queued-needed, refused-first, refused-cycle}

-- ---- nobody is found in the way in excess

module _ (t : Table) (ps : Parties) (n : Node) (owner : ℕ) (mode : Mode) where
  none-in : (hs : List Held) → first_excess t ps n (blockers owner mode hs) ≡ None → (u : ℕ) (k : Mode) → mode_in u hs ≡ Some k → (u == owner) ≡ false → may_share k mode ≡ false → exceeds_at t ps n u ≡ false
  none-in [] e u k m d f = absurd (false≢true (ap (λ (x : Option Mode). elim x [ None ↦ false | Some k ↦ true ]) m))
  none-in (h ∷ hs) e u k m d f =
      elim (cases_Bool (h.owner == u)) [
        | inl s ↦
            let is : h.owner ≡ u = eqb-true h.owner u s in
            let same : h.mode ≡ k = one-mode h.mode k (sym (ap (λ (b : Bool). if b then Some h.mode else mode_in u hs) s) ∙ m) in
            let blocked : blocks owner mode h ≡ true =
            and_from (not (h.owner == owner)) (not (may_share h.mode mode)) (not_from_false (h.owner == owner) (subst (λ (z : ℕ). (z == owner) ≡ false) (sym is) d))
            (not_from_false (may_share h.mode mode) (subst (λ (y : Mode). may_share y mode ≡ false) (sym same) f)) in
            let named : (if exceeds_at t ps n h.owner then Some h.owner else first_excess t ps n (blockers owner mode hs)) ≡ None =
            sym (ap (λ (b : Bool). first_excess t ps n (map (λ (h : Held). h.owner) (if b then h ∷ filter (blocks owner mode) hs else filter (blocks owner mode) hs))) blocked) ∙ e in
            subst (λ (z : ℕ). exceeds_at t ps n z ≡ false) is (calm (exceeds_at t ps n h.owner) h.owner (first_excess t ps n (blockers owner mode hs)) named).0
        | inr s ↦ none-in hs
            (elim (cases_Bool (blocks owner mode h)) [
              | inr g ↦ sym (ap (λ (b : Bool). first_excess t ps n (map (λ (h : Held). h.owner) (if b then h ∷ filter (blocks owner mode) hs else filter (blocks owner mode) hs))) g) ∙ e
              | inl g ↦ (calm (exceeds_at t ps n h.owner) h.owner (first_excess t ps n (blockers owner mode hs))
                  (sym (ap (λ (b : Bool). first_excess t ps n (map (λ (h : Held). h.owner) (if b then h ∷ filter (blocks owner mode) hs else filter (blocks owner mode) hs))) g) ∙ e)).1
            ])
            u k (sym (ap (λ (b : Bool). if b then Some h.mode else mode_in u hs) s) ∙ m) d f
      ]
    where
      calm : (b : Bool) (x : ℕ) (rest : Option ℕ) → (if b then Some x else rest) ≡ None → (b ≡ false) × (rest ≡ None)
      calm true x rest h = absurd (false≢true (sym (ap (λ (x : Option ℕ). elim x [ None ↦ false | Some k ↦ true ]) h)))
      calm false x rest h = (refl, h)

  pub none-due : first_excess t ps n (blockers owner mode (queues_at t n).granted) ≡ None → NoneInExcess t (party_of ps) owner n mode
  none-due e u d f =
      elim (option-cases (mode_in u (queues_at t n).granted)) [
        | inr x ↦ none-in (queues_at t n).granted e u x.0 x.1 d (sym (ap (λ (y : Option Mode). may_share (unwrap_or y NL) mode) x.1) ∙ f)
        | inl none ↦ absurd (false≢true (sym f ∙ (ap (λ (y : Option Mode). may_share (unwrap_or y NL) mode) none ∙ nothing-shares mode)))
      ]

-- ---- the want is asked

module _ (old : Table) (party : ℕ → Party) (asks : List Asked) (o : ℕ) (ws : List Need) (w : OpenWant) (m : MayAsk old party asks o ws w)
    (next : ℕ → Party) (asked : next o ≡ wanting ws (asked_at w w.here)) (others : KeepsParty o party next) where
  abbrev mode : Mode
  mode = least_above (granted_at old o w.here) (mode_for w.need w.here)

  abbrev here : Queues
  here = queues_at old w.here

  quiet : (x : Node) → sought_at old o x ≡ granted_at old o x
  quiet = own-quiet old party asks m.live m.intents m.kept m.order o ws w m.own m.real

  raised-law : (new : Table) (wait : Bool) → Answers old new o w.here wait (requesting here o mode) Granted → RaisedAt old new o w.here mode
  raised-law new wait h = elim (cases_Bool (has_owner o here.granted)) [
    | inl t ↦
        let held = mode-of o here.granted t in
        conversion-answered old new o w.here mode wait m.live quiet held.0 held.1
        (subst (λ (x : Option Mode). at_most (unwrap_or x NL) mode ≡ true) held.1 (join-left (granted_at old o w.here) (mode_for w.need w.here)))
        Granted (subst (λ (b : Bool). Answers old new o w.here wait (if b then converting here o mode else asking here o mode) Granted) t h)
    | inr t ↦ request-answered old new o w.here mode wait m.live quiet (mode-absent o here.granted t) Granted (subst (λ (b : Bool). Answers old new o w.here wait (if b then converting here o mode else asking here o mode) Granted) t h)
  ]

  pub answered-by_needs : (new : Table) → IsLive (queues_at new) → (wait : Bool) (answer : Enq) → Answers old new o w.here wait (requesting here o mode) answer → AnswersByNeeds new next (asked_last asks o w.here) o answer
  answered-by_needs new now wait Granted h =
      let law : RaisedAt old new o w.here mode = raised-law new wait h in
      granted-in_order old party asks m.live m.intents m.kept m.order o ws w m.own m.real next asked others new h.1 h.0 law
      (shares-live new new o w.here now)
      (want-kept old new o ws w mode refl (subst (IsKept old o) m.own (m.kept o)) m.least (raised-asked old new o w.here mode law) m.intents)
  answered-by_needs new now wait Asleep h = (
    queued-in_order old party asks m.live m.intents m.kept m.order o ws w m.own m.real next asked others new h.3 m.none_due,
    λ b. queued-needed old party asks m.live m.intents m.kept m.order o ws w m.own m.real m.least next asked others new h.3 m.none_due o b,
  )
  answered-by_needs new now wait (NotQueued b) h = refused-first old party asks m.live m.intents m.kept m.order o ws w m.own m.real m.least next asked others m.none_due b h.2
  answered-by_needs new now wait (Deadlock cycle) h = refused-cycle old party asks m.live m.intents m.kept m.order o ws w m.own m.real m.least next asked others m.none_due cycle h.2

-- ---- a whole need is granted where nothing is queued

module _ (old new : Table) (o : ℕ) (n : Node) (mode : Mode) (live : IsLive (queues_at old)) (calm : (u : ℕ) → sought_at old u n ≡ granted_at old u n) (used : at_most mode NL ≡ false) (ascends : at_most (granted_at old o n) mode ≡ true)
    (free : (requesting (queues_at old n) o mode).grantable ≡ true) (changes : ChangesAt old new n (requesting (queues_at old n) o mode).granted) (after : IsLive (queues_at new)) where
  fit : fits o mode (queues_at old n).granted ≡ true
  fit = elim (cases_Bool (has_owner o (queues_at old n).granted)) [
    | inl t ↦ subst (λ (b : Bool). (if b then converting (queues_at old n) o mode else asking (queues_at old n) o mode).grantable ≡ true) t free
    | inr t ↦ (and_parts (fits o mode (queues_at old n).granted) (fits o mode (queues_at old n).converting && fits o mode (queues_at old n).waiting)
        (subst (λ (b : Bool). (if b then converting (queues_at old n) o mode else asking (queues_at old n) o mode).grantable ≡ true) t free)).0
  ]

  bars : BarsNobody old o n mode
  bars u d h = ap (may_share mode) (calm u) ∙ elim (option-cases (mode_in u (queues_at old n).granted)) [
    | inr x ↦ ap (λ (y : Option Mode). may_share mode (unwrap_or y NL)) x.1 ∙ (may_share-comm mode x.0 ∙ fits-shares o mode (queues_at old n).granted u x.0 fit d x.1)
    | inl none ↦ ap (λ (y : Option Mode). may_share mode (unwrap_or y NL)) none ∙ (may_share-comm mode NL ∙ nothing-shares mode)
  ]

  pub whole-way : MakesWay o old new
  whole-way = elim (cases_Bool (has_owner o (queues_at old n).granted)) [
    | inl t ↦
        let held = mode-of o (queues_at old n).granted t in
        let now = subst (λ (b : Bool). ChangesAt old new n (if b then converting (queues_at old n) o mode else asking (queues_at old n) o mode).granted) t changes in
        way-raised o old new n mode
        (raised-order old new o n live mode held.0 held.1 fit used (calm o) (λ a d. bars a (flip o a d)) now)
        (λ l. after)
        (converted-law old new o n mode live (quiet-at old old o n live (calm o)) held.0 held.1
        (subst (λ (x : Option Mode). at_most (unwrap_or x NL) mode ≡ true) held.1 ascends) fit now)
        bars
    | inr t ↦
        let now = subst (λ (b : Bool). ChangesAt old new n (if b then converting (queues_at old n) o mode else asking (queues_at old n) o mode).granted) t changes in
        let grantable = subst (λ (b : Bool). (if b then converting (queues_at old n) o mode else asking (queues_at old n) o mode).grantable ≡ true) t free in
        let off = quiet-at old old o n live (calm o) in
        way-raised o old new n mode
        (asked-order old new o n live mode (absent-quiet old old o n mode live off (mode-absent o (queues_at old n).granted t)) grantable used now)
        (λ l. after)
        (asked-law old new o n mode live off (mode-absent o (queues_at old n).granted t) now)
        bars
  ]
