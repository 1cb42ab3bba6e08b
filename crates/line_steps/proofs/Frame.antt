-- An event of one session leaves the others as they stand.
use Rattle.std.proofs.Common.{◌≡◌, ℕ, ◌∷◌, [], ◌==◌, Bool, true, false, List, refl, ◌∙◌, Option, Some, None}
use Rattle.rdo_ast.specs.Tree.{Uttered}
use Rattle.rdb_account.specs.Events.{Event, Began, Wanted, Got, Demoted, Said, Committed, RolledBack, Died, Recovered}
use Rattle.rdb_account.specs.Places.{Opening, Place, gone, Transaction, Due, nothing, commit_reply, rollback_reply, rolls_back, after, place_from, changed, ended, committed_by, behind_roll_back, recovered_by, next_item, is_writer}
use Rattle.lock_ties.proofs.Places.{at-other}
use Rattle.line_steps.specs.Steps.{IsOf, AreOf}

pub record Same (p q : Place) (t : ℕ) : Type 0 where
  pub transaction : q.transaction t ≡ p.transaction t
  pub said : q.said t ≡ p.said t
  pub life : q.life t ≡ p.life t

changed-same : (s : ℕ) (f : Transaction → Transaction) (x : Option Transaction) (p : Place) (t : ℕ) → (t == s) ≡ false → Same p (changed s f x p) t
changed-same s f (Some x) p t h = record { transaction = at-other s t (Some (f x)) p.transaction h; said = refl; life = refl }
changed-same s f None p t h = record { transaction = refl; said = refl; life = refl }

committed-by : (word : List ℕ) (s m : ℕ) (x : Transaction) (w : Bool) (p : Place) (t : ℕ) → is_writer x.kind ≡ w → (t == s) ≡ false → Same p (committed_by word s m (Some x) p) t
committed-by word s m x true p t e h = record { transaction = rw e (at-other s t None p.transaction h); said = rw e refl; life = rw e refl }
committed-by word s m x false p t e h = record { transaction = rw e (at-other s t None p.transaction h); said = rw e refl; life = rw e refl }

committed-same : (word : List ℕ) (s m : ℕ) (x : Option Transaction) (p : Place) (t : ℕ) → (t == s) ≡ false → Same p (committed_by word s m x p) t
committed-same word s m (Some x) p t h = committed-by word s m x (is_writer x.kind) p t refl h
committed-same word s m None p t h = record { transaction = refl; said = refl; life = refl }

rolled-same : (s : ℕ) (due : Due) (next : Option Uttered) (p : Place) (t : ℕ) → (t == s) ≡ false → Same p (behind_roll_back s due next (ended s p)) t
rolled-same s (rolls_back u) next p t h = record { transaction = at-other s t None p.transaction h; said = refl; life = refl }
rolled-same s nothing (Some i) p t h = record { transaction = at-other s t None p.transaction h; said = refl; life = refl }
rolled-same s (commit_reply u) (Some i) p t h = record { transaction = at-other s t None p.transaction h; said = refl; life = refl }
rolled-same s (rollback_reply u) (Some i) p t h = record { transaction = at-other s t None p.transaction h; said = refl; life = refl }
rolled-same s nothing None p t h = record { transaction = at-other s t None p.transaction h; said = refl; life = at-other s t _ p.life h }
rolled-same s (commit_reply u) None p t h = record { transaction = at-other s t None p.transaction h; said = refl; life = at-other s t _ p.life h }
rolled-same s (rollback_reply u) None p t h = record { transaction = at-other s t None p.transaction h; said = refl; life = at-other s t _ p.life h }

recovered-same : (word : List ℕ) (s : ℕ) (c : Bool) (m : ℕ) (p : Place) (t : ℕ) → (t == s) ≡ false → Same p (recovered_by word s c m p) t
recovered-same word s true m p t h = committed-same word s m (p.transaction s) p t h
recovered-same word s false m p t h = record { transaction = at-other s t None p.transaction h; said = refl; life = refl }

pub after-same : (o : Opening) (p : Place) (e : Event) (s t : ℕ) → IsOf s e → (t == s) ≡ false → Same p (after o p e) t
after-same o p (Began u k) s t e h = record { transaction = at-other u t _ p.transaction (rw e h); said = refl; life = refl }
after-same o p (Wanted u n a) s t e h = let c = changed-same u _ (p.transaction u) p t (rw e h) in record { transaction = c.transaction; said = c.said; life = c.life }
after-same o p (Got u n) s t e h = let c = changed-same u _ (p.transaction u) p t (rw e h) in record { transaction = c.transaction; said = c.said; life = c.life }
after-same o p (Demoted u n f v) s t e h = record { transaction = refl; said = refl; life = refl }
after-same o p (Said u i c r) s t e h = let k = changed-same u _ (p.transaction u) p t (rw e h) in record { transaction = k.transaction; said = at-other u t _ p.said (rw e h); life = k.life }
after-same o p (Committed u m) s t e h = let c = committed-same o.word u m (p.transaction u) p t (rw e h) in record { transaction = c.transaction; said = c.said; life = c.life }
after-same o p (RolledBack u) s t e h = rolled-same u p.due (next_item o p u) p t (rw e h)
after-same o p (Died u c) s t e h = record { transaction = refl; said = refl; life = at-other u t _ p.life (rw e h) }
after-same o p (Recovered u c m) s t e h = let k = recovered-same o.word u c m p t (rw e h) in record { transaction = k.transaction; said = k.said; life = at-other u t gone p.life (rw e h) }

pub place-same : (o : Opening) (p : Place) (es : List Event) (s t : ℕ) → AreOf s es → (t == s) ≡ false → Same p (place_from o p es) t
place-same o p [] s t of h = record { transaction = refl; said = refl; life = refl }
place-same o p (e ∷ es) s t of h =
    let one = after-same o p e s t of.0 h in
    let rest = place-same o (after o p e) es s t of.1 h in
    record { transaction = rest.transaction ∙ one.transaction; said = rest.said ∙ one.said; life = rest.life ∙ one.life }
