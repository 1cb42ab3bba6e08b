-- An open want that is asked at its node, by the tree's state: it keeps the order, and waits and refusals are by needs.
use Rattle.std.proofs.Common.{◌≡◌, ℕ, Bool, true, false, List, refl, sym, ◌∙◌, ap, subst, inl, inr}
use Rattle.std.specs.Prelude.{◌==◌, ◌&&◌, if◌then◌else◌, Option, Some, None}
use Rattle.std.proofs.lemmas.Bool.{false≢true, cases_Bool, eq-eqb, eqb-true, or_parts}
use Rattle.vms_queues.specs.declared.lock_mode.Mode.TheVariants.{NL}
use Rattle.vms_queues.specs.Modes.{at_most}
use Rattle.vms_locks.specs.Table.{Table, queues_at, IsLive, WaitsIn}
use Rattle.vms_locks.specs.Walks.{IsCycle}
use Rattle.vms_locks.specs.declared.answer.Enq.{Enq}
use Rattle.vms_locks.specs.declared.answer.Enq.TheVariants.{NotQueued, Deadlock}
use Rattle.lock_needs.specs.declared.need.Need.{Need}
use Rattle.lock_needs.specs.declared.party.OpenWant.{OpenWant}
use Rattle.lock_needs.specs.declared.party.Asked.{Asked}
use Rattle.lock_needs.specs.Party.{Party}
use Rattle.lock_needs.specs.Needs.{Holding, is_covered, covered_above}
use Rattle.lock_needs.specs.Wants.{kept_at}
use Rattle.lock_needs.specs.Waits.{is_behind, has_asked, wanted}
use Rattle.lock_needs.proofs.ModeTables.{at_most-trans}
use Rattle.lock_needs.proofs.Joins.{nothing}
use Rattle.lock_tree_laws.specs.LockTable.{granted_at}
use Rattle.lock_tree_laws.specs.Parties.{wanting, unasked, asked_at}
use Rattle.lock_tree_laws.specs.Forest.{State, IsWhole, open_asks, party_of, opened_of}
use Rattle.lock_tree_laws.specs.Inner.Answering.{AsksAt}
use Rattle.lock_tree_laws.specs.Asking.{asked_mode}
use Rattle.lock_tree_laws.specs.Wanted.{needs_of}
use Rattle.lock_tree_laws.specs.Order.{AreKept, KeepsParty, asked_last, waits_with, waits_by_needs}
use Rattle.lock_tree_laws.proofs.NeedsInWay.{waits-in_needed}
use Rattle.lock_tree_laws.proofs.Refusals.{cycle-more}
use Rattle.lock_tree_laws.specs.Order.{MayAsk, AnswersByNeeds}
use Rattle.lock_tree_laws.proofs.AnsweredInOrder.{none-due, answered-by_needs}
use Rattle.lock_tree_laws.proofs.WayMade.{stays-live}
use Rattle.lock_tree_laws.proofs.StepsInOrder.{served-in_order}
use Rattle.lock_tree_laws.proofs.Whole.{live-of, order-of, least-of, after-kept}
use Rattle.lock_tree_laws.proofs.Opened.{as-open}

-- a need that isn't covered is for something
pub need-used : (held : Holding) (w : Need) → is_covered held w ≡ false → at_most w.mode NL ≡ false
need-used held w bare = elim (cases_Bool (at_most w.mode NL)) [
  | inr f ↦ f
  | inl t ↦ absurd (false≢true (sym (or_parts (at_most w.mode (held w.node)) (covered_above held w) bare).0 ∙ at_most-trans w.mode NL (held w.node) t (nothing (held w.node))))
]

-- who waits, waits by needs
pub waiter-needed : (s : State) → IsWhole s → (a b : ℕ) → WaitsIn (queues_at s.table) a b → waits_by_needs (party_of s.parties) (open_asks s.parties s.trail) a b ≡ true
waiter-needed s whole = waits-in_needed s.table (party_of s.parties) (open_asks s.parties s.trail) (λ n. (live-of s whole).sound n) whole.intents whole.kept (order-of s whole)

-- ---- waits by needs look at needs alone

abbrev by-wanted : List Asked → ℕ → Option Need → ℕ → List Need → Option Need → Bool
by-wanted asks a None b ws v = false
by-wanted asks a (Some n) b ws v = has_asked a asks && is_behind asks a n b ws v

with-wanted : (asks : List Asked) (a : ℕ) (o : Option OpenWant) (b : ℕ) (p : Party) → waits_with asks a o b p ≡ by-wanted asks a (wanted o) b p.needs (wanted p.opened)
with-wanted asks a None b p = refl
with-wanted asks a (Some w) b p = refl

module _ (party next : ℕ → Party) (needs : (u : ℕ) → (next u).needs ≡ (party u).needs) (wants : (u : ℕ) → wanted (next u).opened ≡ wanted (party u).opened) where
  needs-alike : (asks : List Asked) (a b : ℕ) → waits_by_needs next asks a b ≡ waits_by_needs party asks a b
  needs-alike asks a b =
      with-wanted asks a (next a).opened b (next b)
      ∙ (ap (λ (o : Option Need). by-wanted asks a o b (next b).needs (wanted (next b).opened)) (wants a)
      ∙ (ap (λ (ws : List Need). by-wanted asks a (wanted (party a).opened) b ws (wanted (next b).opened)) (needs b)
      ∙ (ap (λ (o : Option Need). by-wanted asks a (wanted (party a).opened) b (party b).needs o) (wants b)
      ∙ sym (with-wanted asks a (party a).opened b (party b)))))

-- ---- the want is asked

module _ (s : State) (owner : ℕ) (w : OpenWant) (whole : IsWhole s) (opened : opened_of s owner ≡ Some (unasked w)) (real : at_most w.need.mode NL ≡ false) (wait : Bool) (new : Table) where
  own : party_of s.parties owner ≡ wanting (needs_of s owner) (unasked w)
  own = as-open (party_of s.parties owner) (unasked w) opened

  module _ (answer : Enq) (a : AsksAt s.parties owner w wait s.table new answer) where
    abbrev between : State
    between = record { table = a.before; parties = s.parties; trail = s.trail }

    kept-between : AreKept a.before (party_of s.parties)
    kept-between = after-kept s between owner (party_of s.parties owner) whole a.down.intents a.down.others refl a.down.kept (λ u d. refl) (whole.asks owner) (λ u n d. refl)

    live-between : IsLive (queues_at a.before)
    live-between = stays-live owner s.table a.before a.down.way (live-of s whole)

    may-ask : MayAsk a.before (party_of s.parties) (open_asks s.parties s.trail) owner (needs_of s owner) w
    may-ask = record {
      live = live-between;
      intents = a.down.intents;
      kept = kept-between;
      order = served-in_order s.table a.before (party_of s.parties) (party_of s.parties) (open_asks s.parties s.trail) owner a.down.way live-between whole.kept kept-between (λ u d. refl)
          (a.down.stands (least-of s owner whole)) (order-of s whole) (λ n. refl) (λ n. refl);
      own = own;
      real = real;
      least = subst (λ (p : Party). at_most (granted_at a.before owner w.here) (kept_at (granted_at a.before owner) p w.here) ≡ true) own a.least;
      none_due = none-due a.before s.parties w.here owner (asked_mode a.before owner w) a.none_due;
    }

    pub asked-by_needs : (next : ℕ → Party) → next owner ≡ wanting (needs_of s owner) (asked_at w w.here) → KeepsParty owner (party_of s.parties) next
        → AnswersByNeeds new next (asked_last (open_asks s.parties s.trail) owner w.here) owner answer
    asked-by_needs next asked others =
        answered-by_needs a.before (party_of s.parties) (open_asks s.parties s.trail) owner (needs_of s owner) w may-ask next asked others new a.live wait answer a.exact

  -- ---- it is refused

  abbrev once-asked : ℕ → Party
  once-asked u = if u == owner then wanting (needs_of s owner) (asked_at w w.here) else party_of s.parties u

  once-own : once-asked owner ≡ wanting (needs_of s owner) (asked_at w w.here)
  once-own = ap (λ (b : Bool). if b then wanting (needs_of s owner) (asked_at w w.here) else party_of s.parties owner) (eq-eqb owner owner refl)

  once-others : KeepsParty owner (party_of s.parties) once-asked
  once-others u d = ap (λ (b : Bool). if b then wanting (needs_of s owner) (asked_at w w.here) else party_of s.parties u) d

  once-alike : (asks : List Asked) (a b : ℕ) → waits_by_needs once-asked asks a b ≡ waits_by_needs (party_of s.parties) asks a b
  once-alike = needs-alike (party_of s.parties) once-asked
      (λ u. elim (cases_Bool (u == owner)) [
        | inr d ↦ ap (λ (p : Party). p.needs) (once-others u d)
        | inl e ↦ subst (λ (z : ℕ). (once-asked z).needs ≡ (party_of s.parties z).needs) (sym (eqb-true u owner e)) (ap (λ (p : Party). p.needs) once-own)
      ])
      (λ u. elim (cases_Bool (u == owner)) [
        | inr d ↦ ap (λ (p : Party). wanted p.opened) (once-others u d)
        | inl e ↦ subst (λ (z : ℕ). wanted (once-asked z).opened ≡ wanted (party_of s.parties z).opened) (sym (eqb-true u owner e))
            (ap (λ (p : Party). wanted p.opened) once-own ∙ sym (ap (λ (p : Party). wanted p.opened) own))
      ])

  module _ (trail : List Asked) (is : trail ≡ s.trail) where
    pub blocker-needed : (b : ℕ) → AsksAt s.parties owner w wait s.table new (NotQueued b) → waits_by_needs (party_of s.parties) (asked_last (open_asks s.parties trail) owner w.here) owner b ≡ true
    blocker-needed b a =
        subst (λ (t : List Asked). waits_by_needs (party_of s.parties) (asked_last (open_asks s.parties t) owner w.here) owner b ≡ true) (sym is)
        (sym (once-alike (asked_last (open_asks s.parties s.trail) owner w.here) owner b) ∙ asked-by_needs (NotQueued b) a once-asked once-own once-others)

    pub cycle-needed : (cycle : List ℕ) → AsksAt s.parties owner w wait s.table new (Deadlock cycle) → IsCycle (λ a b. waits_by_needs (party_of s.parties) (asked_last (open_asks s.parties trail) owner w.here) a b ≡ true) owner cycle
    cycle-needed cycle a =
        subst (λ (t : List Asked). IsCycle (λ a b. waits_by_needs (party_of s.parties) (asked_last (open_asks s.parties t) owner w.here) a b ≡ true) owner cycle) (sym is)
        (cycle-more (λ a b. waits_by_needs once-asked (asked_last (open_asks s.parties s.trail) owner w.here) a b ≡ true) (λ a b. waits_by_needs (party_of s.parties) (asked_last (open_asks s.parties s.trail) owner w.here) a b ≡ true)
        (λ a b h. sym (once-alike (asked_last (open_asks s.parties s.trail) owner w.here) a b) ∙ h) owner cycle
        (asked-by_needs (Deadlock cycle) a once-asked once-own once-others))
