-- Sessions that have said nothing are sound.
use Rattle.std.proofs.Common.{◌≡◌, ◌≤◌, ℕ, zero, suc, ◌∷◌, [], Bool, List, length, map, refl, ◌∙◌, sym, ap, subst, arith, Some, None, slice_get, inl, inr, false}
use Rattle.std.proofs.lemmas.Bool.{false≢true}
use Rattle.std.proofs.lemmas.Option.{none-some, same_Some}
use Rattle.rdo_ast.specs.Views.{uttered_of}
use Rattle.rdb_account.specs.Places.{Opening}
use Rattle.line_view.specs.Knowledge.{Lines}
use Rattle.line_store.specs.Seats.{outside, in_flight}
use Rattle.line_store.specs.Shelves.{Shelf}
use Rattle.line_store.specs.Calls.{MayStand}
use Rattle.line_store.specs.Sights.{Agrees, Stands, bare, MayBeOpened}
use Rattle.session_jobs.specs.Records.{Model, IsOrderly}
use Rattle.session_states.specs.declared.item_queue.WholeScript.{WholeScript}
use Rattle.session_states.specs.declared.stage.Member.{Member}
use Rattle.session_states.specs.declared.stage.Phase.TheVariants.{Outside}
use Rattle.session_states.specs.declared.stage.Life.TheVariants.{Alive}
use Rattle.session_states.specs.Kept.{AreKept}
use Rattle.session_measure.specs.Nearer.{is_broken}
use Rattle.session_states.proofs.Opened.{opened}
use Rattle.line_account.specs.session_stands.Sessions.{AreSeated, IsTold, dead_in, sharing}
use Rattle.line_account.proofs.of_session_stands.Seating.{began}
use Rattle.line_account.proofs.of_session_stands.Seats.{outside-seat}
use Rattle.line_account.specs.stage_steps.Scenes.{Scene}
use Rattle.rdb_account.specs.Events.{event_of}
use Rattle.rdb_account.specs.declared.event.Event.{Event as Declared}
use Rattle.line_cluster.proofs.Stepping.{told-images}
use Rattle.line_cluster.specs.Sound.{AreWhole, IsSound, AreSound, FollowsScripts, IsOpenedBy, MayFail, fresh_member, stop_of}
use Rattle.line_cluster.proofs.Faults.{rose-none}
use Rattle.line_cluster.proofs.Room.{lives-few}

map-got : {A B : Type 0} (f : A → B) (xs : List A) (i : ℕ) (y : B) → slice_get (map f xs) i ≡ Some y → (x : A) × (slice_get xs i ≡ Some x) × (f x ≡ y)
map-got f [] i y h = absurd (none-some y h)
map-got f (x ∷ xs) zero y h = (x, refl, same_Some (f x) y h)
map-got f (x ∷ xs) (suc i) y h = map-got f xs i y h

as-long : {A B : Type 0} (f : A → B) (xs : List A) → length (map f xs) ≡ length xs
as-long f [] = refl
as-long f (x ∷ xs) = ap suc (as-long f xs)

none-dead : (scripts : List WholeScript) → dead_in (map fresh_member scripts) ≡ 0
none-dead [] = refl
none-dead (x ∷ more) = let e = none-dead more in omega (arith, e)

pub begins : (M : Model) (orderly : IsOrderly M) (told : Type 0) (o : Opening) (faults : ℕ) (c : Scene) (scripts : List WholeScript) → Agrees c.sight → Stands c.sight → MayBeOpened c.sight → ((s : ℕ) → c.sight.stand s ≡ outside) → c.locks.parties ≡ [] → c.locks.trail ≡ [] →
    FollowsScripts o scripts → (told → IsOpenedBy M o faults c.word c.sight) → IsSound M told o faults c (map fresh_member scripts) [] None
begins M orderly told o faults c scripts agrees stands openable away parties trail follows opens = record {
  legal = λ t. (tells t).kept.right.legal;
  seated = λ none. sits;
  kept = λ none t. tells t;
  images = λ t. told-images M orderly o c.word c.sight stands c.locks (map fresh_member scripts) [] sits (tells t);
  causes = λ t. let is : IsOpenedBy M o faults c.word c.sight = opens t in record { shelf = is.shelf; shown = is.shown; rose = rose-none faults is.shelf.clock.faults is.no_fewer };
  agrees = λ t. refl;
  spent = λ t over. absurd (false≢true over);
}
  where
    fresh-phase : (i : ℕ) (m : Member) → slice_get (map fresh_member scripts) i ≡ Some m → (m.phase ≡ Outside) × (m.life ≡ Alive)
    fresh-phase i m h = let at = map-got fresh_member scripts i m h in (sym (ap (λ (y : Member). y.phase) at.2), sym (ap (λ (y : Member). y.life) at.2))

    sits : AreSeated c.sight.stand c.locks (map fresh_member scripts)
    sits = began c.sight.stand c.locks (map fresh_member scripts) parties (λ s. ap bare (away s)) fresh-phase

    -- nobody's commit is under way
    now : (h : Shelf) → c.sight.shows h → M h.now o.tables → (lines : Lines) → MayStand h lines → M lines o.tables
    now h shown m lines (inl is) = subst (λ (x : Lines). M x o.tables) (sym is) m
    now h shown m lines (inr (s, ws, flies, is)) = absurd (none-some ws (sym (ap in_flight (outside-seat (h.seat s) (sym (agrees h shown s) ∙ ap bare (away s)))) ∙ flies))

    tells : told → IsTold M o c.word c.sight c.locks (map fresh_member scripts) []
    tells t = let is : IsOpenedBy M o faults c.word c.sight = opens t in record {
      shelf = is.shelf;
      shown = is.shown;
      kept = subst (λ (d : ℕ). AreKept M o (sharing c.word is.shelf c.locks d) (map fresh_member scripts) []) (sym (none-dead scripts))
          (opened M orderly o (sharing c.word is.shelf c.locks 0) (map fresh_member scripts) (is.opened c.locks parties trail) (λ i m h. let at = map-got fresh_member scripts i m h in record {
            left = at.0.items;
            all = length at.0.items;
            is = sym at.2;
            script = (follows i at.0 at.1).0;
            total = as-long uttered_of at.0.items;
            seat = outside-seat (is.shelf.seat (suc i)) (sym (agrees is.shelf is.shown (suc i)) ∙ ap bare (away (suc i)));
          }));
      images = record {
        began = is.shelf.clock.time;
        openable = openable is.shelf is.shown;
        opened = (is.opened c.locks parties trail).past;
        going = omega arith;
        opening = λ lines l. record {
          before = [];
          behind = [];
          is = refl;
          enough = omega arith;
          stood = record { tables = o.tables; stands = now is.shelf is.shown (is.opened c.locks parties trail).stands lines (stands is.shelf is.shown lines l); among = inl refl };
        };
        later = λ k x found. absurd (none-some x found);
        past = λ k x found. absurd (none-some x found);
        each = λ k x found. absurd (none-some x found);
      };
      backups = record { copiers = is.copiers; each = λ n x found. absurd (none-some x found) };
    }

-- nobody has begun anything
whole-fresh : (scripts : List WholeScript) → AreWhole (map fresh_member scripts)
whole-fresh scripts i m found alive = let at = map-got fresh_member scripts i m found in subst (λ (x : Member). is_broken x.phase ≡ false) at.2 refl

pub starts : (M : Model) (orderly : IsOrderly M) (told : Type 0) (o : Opening) (faults sessions : ℕ) (c : Scene) (scripts : List WholeScript) (members : List Member) (events : List Declared) (stops : List Bool) (spare : ℕ) → Agrees c.sight → Stands c.sight → MayBeOpened c.sight → ((s : ℕ) → c.sight.stand s ≡ outside) →
    c.locks.parties ≡ [] → c.locks.trail ≡ [] → FollowsScripts o scripts → (told → IsOpenedBy M o faults c.word c.sight) → members ≡ map fresh_member scripts → stops ≡ map stop_of scripts → events ≡ [] → length scripts ≡ sessions → sessions ≤ 16 → MayFail o → 32 ≤ spare →
    AreSound M told o faults sessions c members (map event_of events) None stops spare
starts M orderly told o faults sessions c scripts members events stops spare agrees stands openable away parties trail follows opens are ends none count few mortal room = record {
  sound = subst (λ (ms : List Member). IsSound M told o faults c ms (map event_of events) None) (sym are) (subst (λ (es : List Declared). IsSound M told o faults c (map fresh_member scripts) (map event_of es) None) (sym none)
      (begins M orderly told o faults c scripts agrees stands openable away parties trail follows opens));
  whole = λ going. subst AreWhole (sym are) (whole-fresh scripts);
  count = ap length are ∙ (as-long fresh_member scripts ∙ count);
  few = few;
  mortal = mortal;
  ends = record {
    count = ap length ends ∙ (as-long stop_of scripts ∙ count);
    each = λ i b found. let at = map-got stop_of scripts i b (ap (λ (bs : List Bool). slice_get bs i) (sym ends) ∙ found) in sym at.2 ∙ sym (follows i at.0 at.1).1;
  };
  room = let most = lives-few members in let as-many = ap length are ∙ (as-long fresh_member scripts ∙ count) in omega (arith, most, as-many, few, room);
}
