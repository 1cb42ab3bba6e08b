-- The commits of a place, behind events of which each commits at one moment.
use Rattle.std.proofs.Common.{◌≡◌, ◌≤◌, ℕ, zero, suc, ◌++◌, ◌∷◌, [], Bool, true, false, List, length, refl, ◌∙◌, sym, ap, subst, arith, Option, Some, None, slice_get, ◌⊎◌, inl, inr, append_assoc, append-nil}
use Rattle.std.specs.List.{AllByRecursion}
use Rattle.std.proofs.lemmas.Option.{none-some, same_Some}
use Rattle.rdo_ast.specs.Tree.{Uttered}
use Rattle.rdb_account.specs.Events.{Event, Began, Wanted, Got, Demoted, Said, Committed, RolledBack, Died, Recovered}
use Rattle.rdb_account.specs.Places.{Opening, Place, Transaction, Commit, Due, nothing, commit_reply, rollback_reply, rolls_back, after, place_from, changed, ended, committed_by, behind_roll_back, recovered_by, next_item, is_writer, retold}
use Rattle.session_states.specs.Steps.{IsAt, AreAt}

-- there are more, each of this moment
record Adds (time : ℕ) (old new : List Commit) : Type 0 where
  pub more : List Commit
  pub is : new ≡ old ++ more
  pub at : AllByRecursion (λ (c : Commit). c.moment ≡ time) more

none-more : (time : ℕ) (old new : List Commit) → new ≡ old → Adds time old new
none-more time old new same = record { more = []; is = same ∙ sym (append-nil old); at = tt }

both-all : (time : ℕ) (xs ys : List Commit) → AllByRecursion (λ (c : Commit). c.moment ≡ time) xs → AllByRecursion (λ (c : Commit). c.moment ≡ time) ys → AllByRecursion (λ (c : Commit). c.moment ≡ time) (xs ++ ys)
both-all time [] ys a b = b
both-all time (x ∷ xs) ys a b = (a.0, both-all time xs ys a.1 b)

both-add : (time : ℕ) (a b c : List Commit) → Adds time a b → Adds time b c → Adds time a c
both-add time a b c f g = record {
  more = f.more ++ g.more;
  is = g.is ∙ (ap (λ xs. xs ++ g.more) f.is ∙ append_assoc a f.more g.more);
  at = both-all time f.more g.more f.at g.at;
}

-- ---- one event

changed-none : (s : ℕ) (f : Transaction → Transaction) (x : Option Transaction) (p : Place) → (changed s f x p).commits ≡ p.commits
changed-none s f (Some x) p = refl
changed-none s f None p = refl

committed-as : (word : List ℕ) (s m time : ℕ) (x : Transaction) (w : Bool) (p : Place) → is_writer x.kind ≡ w → m ≡ time → Adds time p.commits (committed_by word s m (Some x) p).commits
committed-as word s m time x true p e h = record { more = record { moment = m; tables = (retold word p.tables x.lines).tables } ∷ []; is = rw e refl; at = (h, tt) }
committed-as word s m time x false p e h = none-more time p.commits _ (rw e refl)

committed-adds : (word : List ℕ) (s m time : ℕ) (x : Option Transaction) (p : Place) → m ≡ time → Adds time p.commits (committed_by word s m x p).commits
committed-adds word s m time (Some x) p h = committed-as word s m time x (is_writer x.kind) p refl h
committed-adds word s m time None p h = none-more time p.commits p.commits refl

rolled-none : (s : ℕ) (due : Due) (next : Option Uttered) (p : Place) → (behind_roll_back s due next p).commits ≡ p.commits
rolled-none s (rolls_back u) next p = refl
rolled-none s nothing (Some i) p = refl
rolled-none s (commit_reply u) (Some i) p = refl
rolled-none s (rollback_reply u) (Some i) p = refl
rolled-none s nothing None p = refl
rolled-none s (commit_reply u) None p = refl
rolled-none s (rollback_reply u) None p = refl

recovered-adds : (word : List ℕ) (s : ℕ) (b : Bool) (m time : ℕ) (p : Place) → m ≡ time → Adds time p.commits (recovered_by word s b m p).commits
recovered-adds word s true m time p h = committed-adds word s m time (p.transaction s) p h
recovered-adds word s false m time p h = none-more time p.commits p.commits refl

-- (of the commits alone, whatever else the place has)
as-it-was : (time : ℕ) (old new : List Commit) (q : List Commit) → q ≡ new → Adds time old new → Adds time old q
as-it-was time old new q e a = record { more = a.more; is = e ∙ a.is; at = a.at }

after-adds : (o : Opening) (p : Place) (e : Event) (time : ℕ) → IsAt time e → Adds time p.commits (after o p e).commits
after-adds o p (Began s k) time h = none-more time p.commits p.commits refl
after-adds o p (Wanted s n a) time h = none-more time p.commits (after o p (Wanted s n a)).commits (changed-none s _ (p.transaction s) p)
after-adds o p (Got s n) time h = none-more time p.commits (after o p (Got s n)).commits (changed-none s _ (p.transaction s) p)
after-adds o p (Demoted s n f t) time h = none-more time p.commits p.commits refl
after-adds o p (Said s i c r) time h = none-more time p.commits (after o p (Said s i c r)).commits (changed-none s _ (p.transaction s) p)
after-adds o p (Committed s m) time h = as-it-was time p.commits (committed_by o.word s m (p.transaction s) p).commits (after o p (Committed s m)).commits refl (committed-adds o.word s m time (p.transaction s) p h)
after-adds o p (RolledBack s) time h = none-more time p.commits (after o p (RolledBack s)).commits (rolled-none s p.due (next_item o p s) (ended s p))
after-adds o p (Died s c) time h = none-more time p.commits p.commits refl
after-adds o p (Recovered s b m) time h = as-it-was time p.commits (recovered_by o.word s b m p).commits (after o p (Recovered s b m)).commits refl (recovered-adds o.word s b m time p h)

place-adds : (o : Opening) (p : Place) (es : List Event) (time : ℕ) → AreAt time es → Adds time p.commits (place_from o p es).commits
place-adds o p [] time h = none-more time p.commits p.commits refl
place-adds o p (e ∷ es) time h = both-add time p.commits (after o p e).commits (place_from o (after o p e) es).commits (after-adds o p e time h.0) (place-adds o (after o p e) es time h.1)

-- ---- as the images look at them

among : (time : ℕ) (xs : List Commit) (k : ℕ) (c : Commit) → AllByRecursion (λ (x : Commit). x.moment ≡ time) xs → slice_get xs k ≡ Some c → c.moment ≡ time
among time [] k c all found = absurd (none-some c found)
among time (x ∷ xs) zero c all found = sym (ap (λ (y : Commit). y.moment) (same_Some x c found)) ∙ all.0
among time (x ∷ xs) (suc k) c all found = among time xs k c all.1 found

in-both : (time : ℕ) (xs ys : List Commit) (k : ℕ) (c : Commit) → AllByRecursion (λ (x : Commit). x.moment ≡ time) ys → slice_get (xs ++ ys) k ≡ Some c → (slice_get xs k ≡ Some c) ⊎ (c.moment ≡ time)
in-both time [] ys k c all found = inr (among time ys k c all found)
in-both time (x ∷ xs) ys zero c all found = inl found
in-both time (x ∷ xs) ys (suc k) c all found = in-both time xs ys k c all found

as-long : (xs ys : List Commit) → length xs ≤ length (xs ++ ys)
as-long [] ys = omega arith
as-long (x ∷ xs) ys = let h = as-long xs ys in omega (arith, h)

pub is-new : (o : Opening) (p : Place) (es : List Event) (time : ℕ) → AreAt time es → (k : ℕ) (c : Commit) → slice_get (place_from o p es).commits k ≡ Some c → (slice_get p.commits k ≡ Some c) ⊎ (c.moment ≡ time)
is-new o p es time h k c found = let a = place-adds o p es time h in in-both time p.commits a.more k c a.at (ap (λ xs. slice_get xs k) (sym a.is) ∙ found)

pub no-fewer : (o : Opening) (p : Place) (es : List Event) (time : ℕ) → AreAt time es → length p.commits ≤ length (place_from o p es).commits
no-fewer o p es time h = let a = place-adds o p es time h in subst (λ xs. length p.commits ≤ length xs) (sym a.is) (as-long p.commits a.more)
