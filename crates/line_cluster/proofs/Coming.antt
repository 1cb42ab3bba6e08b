-- What a turn comes to.
use Rattle.std.proofs.Common.{◌≡◌, ◌≤◌, ◌<◌, ◌-◌, ℕ, zero, suc, ◌+◌, ◌++◌, ◌∷◌, [], List, true, false, refl, ◌∙◌, sym, ap, subst, arith, map, Option, Some, None, slice_get, slice_set, append-nil, append_assoc, inl, inr, ◌⊎◌, Bool, is_some, IfSome, Result, Ok, Err}
use Rattle.std.proofs.lemmas.Bool.{false≢true}
use Rattle.std.proofs.lemmas.List.{map-append}
use Rattle.std.proofs.lemmas.Option.{same_Some}
use Rattle.rdb_drive.specs.Boards.{Mark, Says, Does, Other, AllOf, AllNobodys, answers}
use Rattle.rdb_account.specs.declared.event.Event.{Event as Declared}
use Rattle.rdb_account.specs.Events.{Event, Died, event_of}
use Rattle.session_states.specs.declared.stage.Life.{Life}
use Rattle.session_states.specs.declared.stage.Life.TheVariants.{Alive, Dead, Gone}
use Rattle.rdb_types.specs.declared.session.Cause.{Cause}
use Rattle.rdb_types.specs.declared.session.Cause.TheVariants.{Memory}
use Rattle.session_states.specs.declared.stage.Member.{Member}
use Rattle.line_account.specs.session_stands.Sessions.{dead_in, one_dead}
use Rattle.line_cluster.specs.declared.behind.Notice.{Notice}
use Rattle.line_cluster.specs.Behind.{IsNoticed}
use Rattle.line_cluster.specs.Deaths.{is_own}
use Rattle.lent_members.specs.Going.{IsDeadAt, is_alive_life, is_dead_life, is_over, with_life}
use Rattle.rdb_account.specs.Places.{Opening}
use Rattle.line_store.specs.declared.answers.Fault.{Fault}
use Rattle.line_account.specs.stage_steps.declared.dying.Recovery.{Recovery}
use Rattle.line_account.specs.stage_steps.declared.dying.Recovery.TheVariants.{More, Done}
use Rattle.line_account.specs.stage_steps.Deaths.{life_behind, recovery_events}
use Rattle.line_account.specs.stage_steps.declared.happening.Happening.{Happening}
use Rattle.line_account.specs.stage_steps.Happenings.{events_of}
use Rattle.line_cluster.specs.declared.sessions.Turn.{Turn}
use Rattle.line_cluster.specs.declared.sessions.Turn.TheVariants as turn
use Rattle.line_cluster.specs.Turned.{Sessions, Came, GoesFurther, GoesOn, Grows, GrowsQuietly, HasFallen, IsAnother, IsDeath, IsRecovery, Rests, mark_of}
use Rattle.line_cluster.proofs.Marks.{IsOf, all-append, answers-append, noticed-marks, step-marks}
use Rattle.lent_members.proofs.Places.{set-same, set-set}

-- nothing happened
pub still : (stops : ℕ → Bool) (s : ℕ) (c d : Sessions) → d.members ≡ c.members → d.events ≡ c.events → GoesFurther stops s c d
still stops s c d members events = record {
  members = inl members;
  events = record { more = []; grown = ap (λ es. map event_of es) events ∙ sym (append-nil (map event_of c.events)); of_s = tt; one = omega arith };
}

pub grows : (s : ℕ) (old new : List Declared) (es : List Event) → map event_of new ≡ map event_of old ++ es → IsOf s es → Grows s old new
grows s old new es grown of = record { more = es; grown = grown; of_s = of.0; one = of.1 }

one-of : (l : Life) → is_dead_life l ≡ true → one_dead l ≡ 1
one-of Alive h = absurd (false≢true h)
one-of Dead h = refl
one-of Gone h = absurd (false≢true h)

-- a session that is found dead is one of the dead
dead-at : (ms : List Member) (i : ℕ) (m : Member) → slice_get ms i ≡ Some m → is_dead_life m.life ≡ true → 0 < dead_in ms
dead-at [] i m found h = cc found
dead-at (x ∷ ms) zero m found h =
    let e : one_dead x.life ≡ 1 = one-of x.life (ap (λ (y : Member). is_dead_life y.life) (same_Some x m found) ∙ h) in
    omega (arith, e)
dead-at (x ∷ ms) (suc i) m found h = let more = dead-at ms i m found h in omega (arith, more)

pub some-dead : (ms : List Member) (i : ℕ) → IsDeadAt ms i → 0 < dead_in ms
some-dead ms i d = dead-at ms i d.member d.found d.dead

pub some-found : (ms slice : List Member) (r : Option ℕ) → slice ≡ ms → IfSome r (λ at. IsDeadAt slice at) → is_some r ≡ true → 0 < dead_in ms
some-found ms slice None e f h = absurd (false≢true h)
some-found ms slice (Some at) e f h = subst (λ (xs : List Member). 0 < dead_in xs) e (some-dead slice at f)

-- where the session doesn't rest, nothing is said of the locks before
pub came-from : (stops : ℕ → Bool) (s : ℕ) (old then new : Sessions) (t : Turn) → then.members ≡ old.members → then.events ≡ old.events → GoesOn t → Came stops s then new t → Came stops s old new t
came-from stops s old then new t e f on came = by t on came
  where
    further : GoesFurther stops s then new → GoesFurther stops s old new
    further g = record {
      members = subst (λ (ms : List Member). (new.members ≡ ms) ⊎ IsAnother stops s ms new.members) e g.members;
      events = subst (λ (es : List Declared). Grows s es new.events) f g.events;
    }

    fell : HasFallen stops s then new → HasFallen stops s old new
    fell g = record {
      cause = g.cause;
      own = g.own;
      before = g.before;
      found = subst (λ (ms : List Member). slice_get ms (s - 1) ≡ Some g.before) e g.found;
      going = g.going;
      behind = g.behind;
      died = g.died;
      is = subst (λ (ms : List Member). new.members ≡ slice_set ms (s - 1) g.behind) e g.is;
      asked = g.asked;
      alone = g.alone;
      of_s = g.of_s;
      silent = g.silent;
      grown = subst (λ (es : List Declared). map event_of new.events ≡ map event_of es ++ (g.asked ++ Died s g.cause ∷ [])) f g.grown;
    }

    by : (t : Turn) → GoesOn t → Came stops s then new t → Came stops s old new t
    by turn.Moved on g = further g
    by turn.Stopped on g = (g.0, further g.1)
    by turn.Died on g = fell g
    by (turn.Asleep u) on g = absurd on
    by turn.Frozen on g = absurd on
    by turn.Ended on g = absurd on

pub on-rests : (o : Opening) (s : ℕ) (c : Sessions) (t : Turn) → GoesOn t → Rests o s c t
on-rests o s c turn.Moved on = tt
on-rests o s c turn.Stopped on = tt
on-rests o s c turn.Died on = tt
on-rests o s c (turn.Asleep u) on = absurd on
on-rests o s c turn.Frozen on = absurd on
on-rests o s c turn.Ended on = absurd on

-- a session took a step
pub went : (stops : ℕ → Bool) (s at : ℕ) (old new : Sessions) (m n : Member) (h : Happening) → at ≡ s - 1 → slice_get old.members at ≡ Some m → is_over (stops s) m m.life ≡ false → n.life ≡ m.life →
    new.members ≡ slice_set old.members at n → map event_of new.events ≡ map event_of old.events ++ events_of s h → GoesFurther stops s old new
went stops s at old new m n h is found going lives put grown = record {
  members = inr (record {
    before = m;
    found = subst (λ (i : ℕ). slice_get old.members i ≡ Some m) is found;
    going = going;
    behind = n;
    lives = lives;
    is = subst (λ (i : ℕ). new.members ≡ slice_set old.members i n) is put;
  });
  events = grows s old.events new.events (events_of s h) grown (step-marks s h);
}

pub none-from : {A : Type 0} (h : Option A) → is_some h ≡ false → h ≡ None
none-from None e = refl
none-from (Some x) e = absurd (false≢true (sym e))

-- who is found is the one that was looked at
pub looked : (stops : Bool) (ms : List Member) (i : ℕ) (m n : Member) (b : Bool) → slice_get ms i ≡ Some m → is_over stops m m.life ≡ b → slice_get ms i ≡ Some n → is_over stops n n.life ≡ b
looked stops ms i m n b found is there = subst (λ (x : Member). is_over stops x x.life ≡ b) (same_Some m n (sym found ∙ there)) is

-- ---- and a notice was served

nobodys-of : (s : ℕ) (ms : List Mark) → AllNobodys ms → AllOf s ms × (answers ms ≡ 0)
nobodys-of s [] h = (tt, refl)
nobodys-of s (Says t ∷ ms) h = absurd h.0
nobodys-of s (Does t ∷ ms) h = absurd h.0
nobodys-of s (Other ∷ ms) h = let more = nobodys-of s ms h.1 in let none = more.1 in ((tt, more.0), omega (arith, none))

pub went-served : (stops : ℕ → Bool) (s : ℕ) (old mid new : Sessions) → GoesFurther stops s old mid → new.members ≡ mid.members → GrowsQuietly mid.events new.events → GoesFurther stops s old new
went-served stops s old mid new g same quiet =
    let marks : map mark_of ((g.events).more ++ quiet.more) ≡ map mark_of (g.events).more ++ map mark_of quiet.more = map-append mark_of (g.events).more quiet.more in
    let none = nobodys-of s (map mark_of quiet.more) quiet.nobodys in
    record {
      members = subst (λ (ms : List Member). (ms ≡ old.members) ⊎ IsAnother stops s old.members ms) (sym same) g.members;
      events = record {
        more = (g.events).more ++ quiet.more;
        grown = quiet.grown ∙ (ap (λ (es : List Event). es ++ quiet.more) (g.events).grown ∙ append_assoc (map event_of old.events) (g.events).more quiet.more);
        of_s = subst (λ (xs : List Mark). AllOf s xs) (sym marks) (all-append s (map mark_of (g.events).more) (map mark_of quiet.more) (g.events).of_s none.0);
        one = subst (λ (xs : List Mark). answers xs ≤ 1) (sym marks) (let both = answers-append (map mark_of (g.events).more) (map mark_of quiet.more) in let one = (g.events).one in let zero_ = none.1 in omega (arith, both, one, zero_));
      };
    }

-- ---- deaths

-- a session took a step, of which it died
pub fell : (stops : ℕ → Bool) (s at : ℕ) (cause : Cause) (old new : Sessions) (put : List Member) (m n : Member) → is_own cause ≡ true → at ≡ s - 1 → slice_get old.members at ≡ Some m → is_over (stops s) m m.life ≡ false → put ≡ slice_set old.members at n →
    new.members ≡ slice_set put at (with_life Dead n) → map event_of new.events ≡ map event_of old.events ++ Died s cause ∷ [] → HasFallen stops s old new
fell stops s at cause old new put m n own is found going put-is died grown = record {
  cause = cause;
  own = own;
  before = m;
  found = subst (λ (i : ℕ). slice_get old.members i ≡ Some m) is found;
  going = going;
  behind = with_life Dead n;
  died = refl;
  is = subst (λ (i : ℕ). new.members ≡ slice_set old.members i (with_life Dead n)) is
      (died ∙ (ap (λ (ms : List Member). slice_set ms at (with_life Dead n)) put-is ∙ set-set old.members at n (with_life Dead n)));
  asked = [];
  alone = λ other. refl;
  of_s = tt;
  silent = refl;
  grown = grown;
}

-- a notice to another was due in its step: it was served, or the session died for want of memory
pub came-served : (stops : ℕ → Bool) (s at : ℕ) (old mid new : Sessions) (m n : Member) (h : Happening) (notice : Notice) (t : Turn) → (t ≡ turn.Moved) ⊎ (t ≡ turn.Died) → IsNoticed notice h → at ≡ s - 1 → slice_get old.members at ≡ Some m → is_over (stops s) m m.life ≡ false → n.life ≡ m.life →
    mid.members ≡ slice_set old.members at n → map event_of mid.events ≡ map event_of old.events ++ events_of s h → (t ≡ turn.Moved → new.members ≡ mid.members) → (t ≡ turn.Moved → GrowsQuietly mid.events new.events) →
    (t ≡ turn.Died → new.members ≡ slice_set mid.members at (with_life Dead n)) → (t ≡ turn.Died → map event_of new.events ≡ map event_of mid.events ++ Died s Memory ∷ []) → Came stops s old new t
came-served stops s at old mid new m n h notice t (inl moved) noticed is found going lives put grown same quiet died death =
    subst (λ (u : Turn). Came stops s old new u) (sym moved) (went-served stops s old mid new (went stops s at old mid m n h is found going lives put grown) (same moved) (quiet moved))
came-served stops s at old mid new m n h notice t (inr fallen) noticed is found going lives put grown same quiet died death =
    let marks = noticed-marks s notice h noticed in
    subst (λ (u : Turn). Came stops s old new u) (sym fallen) (record {
      cause = Memory;
      own = refl;
      before = m;
      found = subst (λ (i : ℕ). slice_get old.members i ≡ Some m) is found;
      going = going;
      behind = with_life Dead n;
      died = refl;
      is = subst (λ (i : ℕ). new.members ≡ slice_set old.members i (with_life Dead n)) is
          (died fallen ∙ (ap (λ (ms : List Member). slice_set ms at (with_life Dead n)) put ∙ set-set old.members at n (with_life Dead n)));
      asked = events_of s h;
      alone = λ other. absurd (false≢true (sym other));
      of_s = marks.0;
      silent = marks.1;
      grown = death fallen ∙ (ap (λ (es : List Event). es ++ Died s Memory ∷ []) grown ∙ append_assoc (map event_of old.events) (events_of s h) (Died s Memory ∷ []));
    })

-- a session died where it stood, in its turn
pub died-here : (stops : ℕ → Bool) (s at : ℕ) (cause : Cause) (old new : Sessions) (m : Member) → is_own cause ≡ true → at ≡ s - 1 → slice_get old.members at ≡ Some m → is_over (stops s) m m.life ≡ false →
    new.members ≡ slice_set old.members at (with_life Dead m) → map event_of new.events ≡ map event_of old.events ++ Died s cause ∷ [] → HasFallen stops s old new
died-here stops s at cause old new m own is found going put grown = record {
  cause = cause;
  own = own;
  before = m;
  found = subst (λ (i : ℕ). slice_get old.members i ≡ Some m) is found;
  going = going;
  behind = with_life Dead m;
  died = refl;
  is = subst (λ (i : ℕ). new.members ≡ slice_set old.members i (with_life Dead m)) is put;
  asked = [];
  alone = λ other. refl;
  of_s = tt;
  silent = refl;
  grown = grown;
}

-- of what happened in it there is no answer
pub fallen-grows : (stops : ℕ → Bool) (s : ℕ) (old new : Sessions) → HasFallen stops s old new → Grows s old.events new.events
fallen-grows stops s old new d =
    let marks : map mark_of (d.asked ++ Died s d.cause ∷ []) ≡ map mark_of d.asked ++ Does s ∷ [] = map-append mark_of d.asked (Died s d.cause ∷ []) in
    record {
      more = d.asked ++ Died s d.cause ∷ [];
      grown = d.grown;
      of_s = subst (λ (xs : List Mark). AllOf s xs) (sym marks) (all-append s (map mark_of d.asked) (Does s ∷ []) d.of_s (refl, tt));
      one = subst (λ (xs : List Mark). answers xs ≤ 1) (sym marks) (let both = answers-append (map mark_of d.asked) (Does s ∷ []) in let none = d.silent in omega (arith, both, none));
    }

pub has-died : (stops : ℕ → Bool) (s at : ℕ) (cause : Cause) (old new : Sessions) (m : Member) → old.halted ≡ false → at ≡ s - 1 → slice_get old.members at ≡ Some m → is_over (stops s) m m.life ≡ false →
    new.members ≡ slice_set old.members at (with_life Dead m) → map event_of new.events ≡ map event_of old.events ++ Died s cause ∷ [] → IsDeath stops s cause old new
has-died stops s at cause old new m going is found unfinished put grown = record {
  going = going;
  before = m;
  found = subst (λ (i : ℕ). slice_get old.members i ≡ Some m) is found;
  unfinished = unfinished;
  is = subst (λ (i : ℕ). new.members ≡ slice_set old.members i (with_life Dead m)) is put;
  grown = grown;
}

-- no step of a recovery gives life back
lives-not : (r : Result Recovery Fault) → is_alive_life (life_behind r) ≡ false
lives-not (Ok (Done committed moment)) = refl
lives-not (Ok More) = refl
lives-not (Err fault) = refl

nobodys-marks : (s : ℕ) (r : Result Recovery Fault) → AllNobodys (map mark_of (recovery_events s r))
nobodys-marks s (Ok (Done committed moment)) = (tt, tt)
nobodys-marks s (Ok More) = tt
nobodys-marks s (Err fault) = tt

pub has-recovered-on : (at : ℕ) (old new : Sessions) (m : Member) (r : Result Recovery Fault) → slice_get old.members at ≡ Some m → m.life ≡ Dead → new.members ≡ slice_set old.members at (with_life (life_behind r) m) →
    map event_of new.events ≡ map event_of old.events ++ recovery_events (at + 1) r → IsRecovery old new
has-recovered-on at old new m r found died put grown = record {
  at = at;
  before = m;
  found = found;
  died = died;
  life = life_behind r;
  dead = lives-not r;
  is = put;
  more = recovery_events (at + 1) r;
  grown = grown;
  nobodys = nobodys-marks (at + 1) r;
}

-- who was put back as it was
pub put-back : (ms : List Member) (at : ℕ) (m : Member) → slice_get ms at ≡ Some m → m.life ≡ Dead → slice_set ms at (with_life Dead m) ≡ ms
put-back ms at m found died = set-same ms at (with_life Dead m) (found ∙ ap (λ (l : Life). Some (with_life l m)) died)
