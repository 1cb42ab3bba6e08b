-- What a call of a want answers, as the account has it behind the call's events.
use Rattle.std.proofs.Common.{◌≡◌, ℕ, ◌++◌, ◌∷◌, [], ◌==◌, cond, Bool, true, false, List, refl, ◌∙◌, sym, ap, subst, Option, Some, None, ◌⊎◌, inl, inr}
use Rattle.std.specs.Prelude.{is_some}
use Rattle.std.proofs.lemmas.Bool.{cases_Bool, or_from}
use Rattle.std.proofs.lemmas.List.Elements.{filter-append}
use Rattle.rdb_types.specs.declared.node.Node.{Node}
use Rattle.rdo_ast.specs.declared.reply.Reply.TheVariants as r
use Rattle.lock_needs.specs.declared.need.Need.{Need}
use Rattle.lock_needs.specs.declared.party.OpenWant.{OpenWant}
use Rattle.lock_needs.specs.declared.party.Asked.{Asked}
use Rattle.lock_needs.specs.Party.{Party}
use Rattle.lock_needs.specs.Waits.{wanted, has_asked}
use Rattle.lock_tree_laws.specs.Forest.{State, Parties, party_of, open_asks, opened_of}
use Rattle.lock_tree_laws.specs.Order.{asked_last}
use Rattle.lock_tree_laws.specs.Wanted.{IsOf, IsWanting, Ended, IsBarredBy, ClosesCycle, SleepsFor, needs_of}
use Rattle.rdb_account.specs.Places.{Opening, Place, Transaction, place_from, wanting}
use Rattle.rdb_account.specs.Lawful.{waits, has_cause, is_nowait}
use Rattle.lock_ties.specs.Ties.{AreTied, IsTiedTo, IsCall, wanted_at}
use Rattle.lock_ties.proofs.Places.{at-same, number}
use Rattle.lock_ties.proofs.Causes.{tree-waits, tree-conflict, tree-deadlock}
use Rattle.lock_ties.proofs.Trails.{open-grown, tied-opens, wants-tied, asked-once, once-place}

-- who has no want open has no entry
pub closed-unasked : (ps : Parties) (s : ℕ) (trail : List Asked) → (party_of ps s).opened ≡ None → has_asked s (open_asks ps trail) ≡ false
closed-unasked ps s [] e = refl
closed-unasked ps s (a ∷ rest) e =
    elim (cases_Bool (a.owner == s)) [
      | inl k ↦ ap (λ b. has_asked s (cond b (a ∷ open_asks ps rest) (open_asks ps rest))) (subst (λ (u : ℕ). is_some (party_of ps u).opened ≡ false) (sym (number a.owner s k)) (ap is_some e)) ∙ closed-unasked ps s rest e
      | inr k ↦ elim (is_some (party_of ps a.owner).opened) as (λ b. has_asked s (cond b (a ∷ open_asks ps rest) (open_asks ps rest)) ≡ false) [
        | true ↦ or_from (a.owner == s) (has_asked s (open_asks ps rest)) k (closed-unasked ps s rest e)
        | false ↦ closed-unasked ps s rest e
      ]
    ]

-- The events of the call leave the session's transaction open, and of its kind.
pub nowait-still : (o : Opening) (p : Place) (s : ℕ) (x : Transaction) (n : Need) (nodes : List Node) → p.transaction s ≡ Some x → is_nowait (p.transaction s) ≡ true →
    is_nowait ((place_from o p (wanted_at s n nodes)).transaction s) ≡ true
nowait-still o p s x n [] is_open h = h
nowait-still o p s x n (node ∷ nodes) is_open h =
    let q = asked-once p s x n node in
    let stays = at-same s (Some (wanting n x)) p.transaction in
    subst (λ (r : Place). is_nowait ((place_from o r (wanted_at s n nodes)).transaction s) ≡ true) (sym (once-place o p s x n node is_open))
    (nowait-still o q s (wanting n x) n nodes stays (ap is_nowait stays ∙ subst (λ (y : Option Transaction). is_nowait y ≡ true) is_open h))

module _ (o : Opening) (p : Place) (s : ℕ) (need : Need) (x : Transaction) (is_open : p.transaction s ≡ Some x) where
  abbrev pub behind : (old new : State) → IsCall s need old new → Place
  behind old new c = place_from o p (wanted_at s need c.asks.nodes)

  -- while the want is open, the account is tied to the tree behind its Wanted events
  pub asked-tied : (old mid : State) (want : OpenWant) → IsTiedTo p old → (c : IsCall s need old mid) → IsWanting mid s (needs_of old s) want → want.need ≡ need →
      IsTiedTo (behind old mid c) mid
  asked-tied old mid want tied c stands is =
      subst (AreTied (behind old mid c) (party_of mid.parties))
      (sym (open-grown old mid s c.others (ap (λ (q : Party). is_some q.opened) stands) need c.asks))
      (wants-tied o p s x need c.asks.nodes (party_of mid.parties) (open_asks old.parties old.trail) is_open (ap (λ (q : Party). wanted q.opened) stands ∙ ap Some is)
      (tied-opens p (party_of old.parties) (party_of mid.parties) (open_asks old.parties old.trail) s tied
      (λ t. by-needs t (t == s) refl) (λ t other. ap (λ (q : Party). q.opened) (c.others t other)) (how (opened_of old s) refl c.same)))
    where
      by-needs : (t : ℕ) (b : Bool) → (t == s) ≡ b → (party_of mid.parties t).needs ≡ (party_of old.parties t).needs
      by-needs t true e = subst (λ u. (party_of mid.parties u).needs ≡ (party_of old.parties u).needs) (sym (number t s e)) (ap (λ (q : Party). q.needs) stands)
      by-needs t false e = ap (λ (q : Party). q.needs) (c.others t e)

      how : (w : Option OpenWant) → opened_of old s ≡ w → IsOf need w → (has_asked s (open_asks old.parties old.trail) ≡ false) ⊎ (wanted (party_of mid.parties s).opened ≡ wanted (party_of old.parties s).opened)
      how None e h = inl (closed-unasked old.parties s old.trail e)
      how (Some v) e h = inr (ap (λ (q : Party). wanted q.opened) stands ∙ (ap Some (is ∙ sym h) ∙ sym (ap wanted e)))

  -- ---- asleep

  pub sleeper-waits : (old new : State) (want : OpenWant) (t : ℕ) → IsTiedTo p old → (c : IsCall s need old new) → IsWanting new s (needs_of old s) want → want.need ≡ need → SleepsFor new s want t →
      waits (behind old new c) s t ≡ true
  sleeper-waits old new want t tied c stands is sleeps =
      tree-waits (behind old new c) (party_of new.parties) (open_asks new.parties new.trail) s t (asked-tied old new want tied c stands is) sleeps.by_needs

  -- ---- refused

  -- the state just before the want ended, with what was asked in the call
  abbrev just-before : State → State → State
  just-before before new = record { table = before.table; parties = before.parties; trail = new.trail }

  asked-now : (before : State) (want : OpenWant) (trail : List Asked) → is_some (party_of before.parties s).opened ≡ true → trail ≡ asked_last before.trail s want.here →
      open_asks before.parties trail ≡ asked_last (open_asks before.parties before.trail) s want.here
  asked-now before want trail opened is =
      ap (open_asks before.parties) is
      ∙ (filter-append (λ (a : Asked). is_some (party_of before.parties a.owner).opened) before.trail ((record { owner = s; node = want.here }) ∷ [])
      ∙ ap (λ b. open_asks before.parties before.trail ++ cond b ((record { owner = s; node = want.here }) ∷ []) []) opened)

  -- the call, as it was just before the want ended
  abbrev call-before : (old new before : State) → IsCall s need old new → ((u : ℕ) → (u == s) ≡ false → party_of new.parties u ≡ party_of before.parties u) → IsCall s need old (just-before before new)
  call-before old new before c others = record { same = c.same; others = λ u d. sym (others u d) ∙ c.others u d; asks = c.asks }

  tied-before : (old new before : State) (want : OpenWant) → IsTiedTo p old → (c : IsCall s need old new) → ((u : ℕ) → (u == s) ≡ false → party_of new.parties u ≡ party_of before.parties u) →
      IsWanting before s (needs_of old s) want → want.need ≡ need → AreTied (behind old new c) (party_of before.parties) (open_asks before.parties new.trail)
  tied-before old new before want tied c others stood same = asked-tied old (just-before before new) want tied (call-before old new before c others) stood same

  pub deadlock-lawful : (old new : State) (cycle : List ℕ) → IsTiedTo p old → (c : IsCall s need old new) → Ended new s (needs_of old s) need (ClosesCycle new.trail s cycle) →
      has_cause o (behind old new c) s (r.Deadlock cycle) ≡ true
  deadlock-lawful old new cycle tied c ended =
      let before = ended.before in
      let asks = asked-now before ended.want new.trail (ap (λ (q : Party). is_some q.opened) ended.stood) ended.why.2 in
      tree-deadlock o (behind old new c) (party_of before.parties) (asked_last (open_asks before.parties before.trail) s ended.want.here) s cycle
      (subst (AreTied (behind old new c) (party_of before.parties)) asks (tied-before old new before ended.want tied c ended.others ended.stood ended.same)) ended.why.1

  pub conflict-lawful : (old new : State) (t : ℕ) → IsTiedTo p old → (c : IsCall s need old new) → Ended new s (needs_of old s) need (IsBarredBy new.trail s t) → is_nowait (p.transaction s) ≡ true →
      has_cause o (behind old new c) s (r.LockConflict t) ≡ true
  conflict-lawful old new t tied c ended nowait =
      let before = ended.before in
      let opened = ap (λ (q : Party). is_some q.opened) ended.stood in
      let never = nowait-still o p s x need c.asks.nodes is_open nowait in
      let tied_then = tied-before old new before ended.want tied c ended.others ended.stood ended.same in
      elim ended.why [
        | inl h ↦ tree-conflict o (behind old new c) (party_of before.parties) (asked_last (open_asks before.parties before.trail) s ended.want.here) s t
            (subst (AreTied (behind old new c) (party_of before.parties)) (asked-now before ended.want new.trail opened h.2) tied_then) never h.1
        | inr h ↦ tree-conflict o (behind old new c) (party_of before.parties) (open_asks before.parties before.trail) s t
            (subst (AreTied (behind old new c) (party_of before.parties)) (ap (open_asks before.parties) h.1) tied_then) never h.0.by_needs
      ]
