-- Where no event of a legal account is a death, nobody has died.
use Rattle.std.proofs.Common.{◌≡◌, ◌&&◌, ◌||◌, ◌==◌, ℕ, Bool, true, false, List, [], ◌∷◌, refl, ◌∙◌, sym, ap, Option, Some, None}
use Rattle.std.proofs.lemmas.Bool.{false≢true, and_parts}
use Rattle.rdo_ast.specs.Tree.{Uttered}
use Rattle.rdb_account.specs.Events.{Event, Began, Wanted, Got, Demoted, Said, Committed, RolledBack, Died, Recovered}
use Rattle.rdb_account.specs.Places.{Opening, Place, Transaction, Life, living, over, dead, gone, Due, nothing, commit_reply, rollback_reply, rolls_back, at, after, behind_roll_back, changed, committed_by, ended, is_writer, next_item, place, place_from, start}
use Rattle.rdb_account.specs.Legal.{AreWhole, IsLegal, May, MayFollow, has_not_died, is_dead, is_free}
use Rattle.line_cluster.specs.Turned.{HaveAllEnded, is_session}
use Rattle.line_drive.specs.Turns.{has_deaths, is_death}

abbrev HaveLived : Place → Type 0
HaveLived p = (t : ℕ) → has_not_died (p.life t) ≡ true

changed-life : (s : ℕ) (f : Transaction → Transaction) (t : Option Transaction) (p : Place) → (changed s f t p).life ≡ p.life
changed-life s f (Some t) p = refl
changed-life s f None p = refl

committed-life : (word : List ℕ) (s moment : ℕ) (t : Option Transaction) (p : Place) → (committed_by word s moment t p).life ≡ p.life
committed-life word s moment None p = refl
committed-life word s moment (Some t) p = by (is_writer t.kind) refl
  where
    by : (b : Bool) → is_writer t.kind ≡ b → (committed_by word s moment (Some t) p).life ≡ p.life
    by true e = rw e refl
    by false e = rw e refl

lived-as : (p q : Place) → q.life ≡ p.life → HaveLived p → HaveLived q
lived-as p q same all t = ap (λ (l : ℕ → Life). has_not_died (l t)) same ∙ all t

-- another life, in which it hasn't died, at one session
lived-at : (s : ℕ) (x : Life) (lives : ℕ → Life) → has_not_died x ≡ true → ((t : ℕ) → has_not_died (lives t) ≡ true) → (t : ℕ) → has_not_died (at s x lives t) ≡ true
lived-at s x lives here all t = by (t == s) refl
  where
    by : (b : Bool) → (t == s) ≡ b → has_not_died (at s x lives t) ≡ true
    by true e = rw e here
    by false e = rw e (all t)

rolled-back : (s : ℕ) (due : Due) (next : Option Uttered) (p : Place) → HaveLived p → HaveLived (behind_roll_back s due next (ended s p))
rolled-back s (rolls_back t) next p all = all
rolled-back s nothing (Some item) p all = all
rolled-back s nothing None p all = lived-at s over p.life refl all
rolled-back s (commit_reply t) (Some item) p all = all
rolled-back s (commit_reply t) None p all = lived-at s over p.life refl all
rolled-back s (rollback_reply t) (Some item) p all = all
rolled-back s (rollback_reply t) None p all = lived-at s over p.life refl all

not-both : (l : Life) → has_not_died l ≡ true → is_dead l ≡ true → ⊥
not-both living h d = false≢true d
not-both over h d = false≢true d
not-both dead h d = false≢true h
not-both gone h d = false≢true h

neither : (a b : Bool) → (a || b) ≡ false → (a ≡ false) × (b ≡ false)
neither true b h = absurd (false≢true (sym h))
neither false b h = (refl, h)

module _ (o : Opening) where
  lived-on : (p : Place) (e : Event) → May o p e → is_death e ≡ false → HaveLived p → HaveLived (after o p e)
  lived-on p (Began s kind) may none all = all
  lived-on p (Wanted s n asked) may none all = lived-as p (after o p (Wanted s n asked)) (changed-life s _ (p.transaction s) p) all
  lived-on p (Got s n) may none all = lived-as p (after o p (Got s n)) (changed-life s _ (p.transaction s) p) all
  lived-on p (Demoted s n from to) may none all = all
  lived-on p (Said s item choices reply) may none all = lived-as p (after o p (Said s item choices reply)) (changed-life s _ (p.transaction s) p) all
  lived-on p (Committed s moment) may none all = lived-as p (after o p (Committed s moment)) (committed-life o.word s moment (p.transaction s) p) all
  lived-on p (RolledBack s) may none all = rolled-back s p.due (next_item o p s) p all
  lived-on p (Died s c) may none all = absurd (false≢true (sym none))
  lived-on p (Recovered s committed moment) may none all = absurd (not-both (p.life s) (all s) (and_parts (is_free p.due) (is_dead (p.life s)) may.0).1)

  lived-through : (p : Place) (es : List Event) → MayFollow o p es → has_deaths es ≡ false → HaveLived p → HaveLived (place_from o p es)
  lived-through p [] may none all = all
  lived-through p (e ∷ es) may none all = let parts = neither (is_death e) (has_deaths es) none in lived-through (after o p e) es may.1 parts.1 (lived-on p e may.0 parts.0 all)

  pub nobody-died : (sessions : ℕ) (events : List Event) → IsLegal o events → has_deaths events ≡ false → HaveAllEnded o sessions events → AreWhole (is_session sessions) o events
  nobody-died sessions events legal none h s is = h.whole s (both (is_session sessions s) (has_not_died ((place o events).life s)) is (lived-through (start o) events legal.steps none (λ t. refl) s))
    where
      both : (a b : Bool) → a ≡ true → b ≡ true → (a && b) ≡ true
      both a b e f = ap (λ (x : Bool). x && b) e ∙ f
