-- One session comes to stand otherwise, and all others stand as they did.
use Rattle.std.proofs.Common.{◌≡◌, ℕ, zero, suc, ◌∷◌, [], ◌==◌, Bool, true, false, List, refl, ◌∙◌, sym, ap, subst, arith, Option, Some, None, slice_get, slice_set, is_some, ◌⊎◌, inl, inr}
use Rattle.std.proofs.lemmas.Bool.{false≢true}
use Rattle.std.proofs.lemmas.Option.{none-some}
use Rattle.lock_needs.specs.Party.{Party}
use Rattle.lock_ties.proofs.Places.{number}
use Rattle.lock_tree_laws.specs.Forest.{State, Parties, KeepsParties, NeedsAreApart, idle, party_of}
use Rattle.lock_tree_laws.specs.Wanted.{needs_of}
use Rattle.kept_apart.specs.Guards.{may_write}
use Rattle.kept_apart.proofs.Apart.{guarded-apart, write-guards}
use Rattle.line_view.specs.declared.writes.Write.{Write}
use Rattle.session_states.specs.line_steps.Images.{journal_node}
use Rattle.journal_waits.specs.Holders.{WantsExclusively, KeepsTo}
use Rattle.line_store.specs.Seats.{Seat, outside, in_flight}
use Rattle.line_store.specs.Sights.{Sight, StandsAlone, bare}
use Rattle.session_states.specs.declared.stage.Phase.{Phase}
use Rattle.session_states.specs.declared.stage.Phase.TheVariants.{Outside}
use Rattle.session_states.specs.declared.stage.Life.{Life}
use Rattle.session_states.specs.declared.stage.Life.TheVariants.{Alive, Dead, Gone}
use Rattle.session_states.specs.declared.stage.Member.{Member}
use Rattle.session_states.specs.Fits.{WantsAtMost}
use Rattle.session_stands.specs.Seated.{IsStandOf, lock_in, NeedsFit, IsSeated, LivesAt}
use Rattle.session_stands.specs.Sessions.{AreSeated, FlyWithJournal, member_at}
use Rattle.session_stands.proofs.Flying.{flies, flies-bare, life-flies}
use Rattle.session_stands.proofs.Journal.{idle-keeps, life-keeps}

-- ---- the session at a number, where one has changed

differ : (j i : ℕ) → (j == i) ≡ false → (suc j == suc i) ≡ false
differ j i h = grind arith

pub set-get : {A : Type 0} (xs : List A) (i j : ℕ) (x y : A) → slice_get (slice_set xs i x) j ≡ Some y → ((j ≡ i) × (x ≡ y)) ⊎ (((j == i) ≡ false) × (slice_get xs j ≡ Some y))
set-get [] i j x y h = inr (grind arith, h)
set-get (z ∷ zs) zero zero x y h = inl (refl, grind arith)
set-get (z ∷ zs) zero (suc j) x y h = inr (grind arith, h)
set-get (z ∷ zs) (suc i) zero x y h = inr (grind arith, h)
set-get (z ∷ zs) (suc i) (suc j) x y h = elim (set-get zs i j x y h) [
  | inl e ↦ inl (ap suc e.0, e.1)
  | inr e ↦ inr (differ j i e.0, e.1)
]

set-none : {A : Type 0} (xs : List A) (i j : ℕ) (x : A) → slice_get (slice_set xs i x) j ≡ None → slice_get xs j ≡ None
set-none [] i j x h = h
set-none (z ∷ zs) zero zero x h = absurd (none-some x (sym h))
set-none (z ∷ zs) zero (suc j) x h = h
set-none (z ∷ zs) (suc i) zero x h = absurd (none-some z (sym h))
set-none (z ∷ zs) (suc i) (suc j) x h = set-none zs i j x h

none-differs : (ms : List Member) (i t : ℕ) (m : Member) → slice_get ms i ≡ Some m → member_at ms t ≡ None → (t == suc i) ≡ false
none-differs ms i t m found none = by (t == suc i) refl
  where
    by : (b : Bool) → (t == suc i) ≡ b → (t == suc i) ≡ false
    by false e = e
    by true e = absurd (none-some m (sym none ∙ (ap (member_at ms) (number t (suc i) e) ∙ found)))

member-none : (ms : List Member) (i t : ℕ) (x : Member) → member_at (slice_set ms i x) t ≡ None → member_at ms t ≡ None
member-none ms i zero x h = refl
member-none ms i (suc j) x h = set-none ms i j x h

-- ---- one who stays

lives-on : (stand there : ℕ → Seat) (locks behind : State) (t : ℕ) (x : Phase) (life : Life) → bare (there t) ≡ bare (stand t) → party_of behind.parties t ≡ party_of locks.parties t → LivesAt stand locks t x life → LivesAt there behind t x life
lives-on stand there locks behind t x Alive at party f = record {
  seat = subst (λ (y : Seat). IsStandOf x y) (sym at) f.seat;
  wants = subst (λ (p : Party). WantsAtMost (lock_in x) p.opened) (sym party) f.wants;
  beside = subst (λ (p : Party). WantsExclusively journal_node p.opened) (sym party) f.beside;
  needs = subst (λ (p : Party). NeedsFit x p.needs) (sym party) f.needs;
  statement = f.statement;
}
lives-on stand there locks behind t x Dead at party f = record {
  seat = at ∙ f.seat;
  wants = subst (λ (p : Party). WantsAtMost (lock_in x) p.opened) (sym party) f.wants;
  beside = subst (λ (p : Party). WantsExclusively journal_node p.opened) (sym party) f.beside;
  needs = subst (λ (p : Party). NeedsFit x p.needs) (sym party) f.needs;
}
lives-on stand there locks behind t x Gone at party f = record {
  seat = at ∙ f.seat;
  wants = ap (λ (p : Party). p.opened) party ∙ f.wants;
  needs = ap (λ (p : Party). p.needs) party ∙ f.needs;
}

-- ---- all sessions

module _ (stand there : ℕ → Seat) (locks behind : State) (members : List Member) (i : ℕ) (m n : Member) (k : AreSeated stand locks members) (found : slice_get members i ≡ Some m)
    (others : (t : ℕ) → (t == suc i) ≡ false → bare (there t) ≡ bare (stand t)) (parties : KeepsParties (suc i) locks.parties behind.parties) (mine : LivesAt there behind (suc i) n.phase n.life) where
  each-at : (j : ℕ) (y : Member) → slice_get (slice_set members i n) j ≡ Some y → LivesAt there behind (suc j) y.phase y.life
  each-at j y h = elim (set-get members i j n y h) [
    | inl e ↦ subst (λ (u : ℕ). LivesAt there behind (suc u) y.phase y.life) (sym e.0) (subst (λ (z : Member). LivesAt there behind (suc i) z.phase z.life) e.1 mine)
    | inr e ↦ lives-on stand there locks behind (suc j) y.phase y.life (others (suc j) (differ j i e.0)) (parties (suc j) (differ j i e.0)) (k.each (suc j) y e.1)
  ]

  each : (t : ℕ) (y : Member) → member_at (slice_set members i n) t ≡ Some y → LivesAt there behind t y.phase y.life
  each zero y h = absurd (none-some y h)
  each (suc j) y h = each-at j y h

  pub seated : AreSeated there behind (slice_set members i n)
  seated = record {
    each = each;
    outsiders = λ t none. let was : member_at members t ≡ None = member-none members i t n none in others t (none-differs members i t m found was) ∙ k.outsiders t was;
    nobodys = λ t none. let was : member_at members t ≡ None = member-none members i t n none in parties t (none-differs members i t m found was) ∙ k.nobodys t was;
  }

-- ---- what follows for each

pub keep-to : (stand : ℕ → Seat) (locks : State) (members : List Member) → AreSeated stand locks members → (t : ℕ) → KeepsTo journal_node (party_of locks.parties t)
keep-to stand locks members k t = by (member_at members t) refl
  where
    by : (x : Option Member) → member_at members t ≡ x → KeepsTo journal_node (party_of locks.parties t)
    by None e = idle-keeps (party_of locks.parties t) (k.nobodys t e)
    by (Some m) e = life-keeps stand locks t m.phase m.life (k.each t m e)

pub flies-with : (stand : ℕ → Seat) (locks : State) (members : List Member) → AreSeated stand locks members → (t : ℕ) → flies (stand t) ≡ true → may_write (needs_of locks t) journal_node ≡ true
flies-with stand locks members k t h = by (member_at members t) refl
  where
    by : (x : Option Member) → member_at members t ≡ x → may_write (needs_of locks t) journal_node ≡ true
    by None e = absurd (false≢true (sym (ap flies (k.outsiders t e)) ∙ (flies-bare (stand t) ∙ h)))
    by (Some m) e = life-flies stand locks t m.phase m.life (k.each t m e) h

pub flies-all : (stand : ℕ → Seat) (locks : State) (members : List Member) → AreSeated stand locks members → FlyWithJournal stand locks
flies-all stand locks members k t ws e = flies-with stand locks members k t (ap is_some e)

pub alone : (sight : Sight) (locks : State) (s : ℕ) → FlyWithJournal sight.stand locks → NeedsAreApart locks → may_write (needs_of locks s) journal_node ≡ true → StandsAlone s sight
alone sight locks s all apart mine t other = by (in_flight (sight.stand t)) refl
  where
    by : (x : Option (List Write)) → in_flight (sight.stand t) ≡ x → in_flight (sight.stand t) ≡ None
    by None e = e
    by (Some ws) e = absurd (guarded-apart (needs_of locks s) (needs_of locks t) journal_node (apart s t other) (write-guards (needs_of locks s) journal_node mine) (all t ws e))

-- ---- the beginning

pub began : (stand : ℕ → Seat) (locks : State) (members : List Member) → locks.parties ≡ [] → ((t : ℕ) → bare (stand t) ≡ outside) → ((i : ℕ) (m : Member) → slice_get members i ≡ Some m → (m.phase ≡ Outside) × (m.life ≡ Alive)) → AreSeated stand locks members
began stand locks members none outside_all fresh = record {
  each = each-fresh;
  outsiders = λ t h. outside_all t;
  nobodys = λ t h. idle-all t;
}
  where
    idle-all : (t : ℕ) → party_of locks.parties t ≡ idle
    idle-all t = ap (λ (ps : Parties). party_of ps t) none

    fresh-at : (t : ℕ) → IsSeated stand locks t Outside
    fresh-at t = record {
      seat = outside_all t;
      wants = ap (λ (p : Party). p.opened) (idle-all t);
      beside = subst (λ (p : Party). WantsExclusively journal_node p.opened) (sym (idle-all t)) tt;
      needs = ap (λ (p : Party). p.needs) (idle-all t);
      statement = tt;
    }

    each-fresh : (t : ℕ) (m : Member) → member_at members t ≡ Some m → LivesAt stand locks t m.phase m.life
    each-fresh zero m h = absurd (none-some m h)
    each-fresh (suc i) m h = let e = fresh i m h in
        subst (λ (l : Life). LivesAt stand locks (suc i) m.phase l) (sym e.1) (subst (λ (x : Phase). IsSeated stand locks (suc i) x) (sym e.0) (fresh-at (suc i)))
