-- At the opening nobody has begun anything.
use Rattle.std.proofs.Common.{◌≡◌, ℕ, zero, suc, ◌+◌, ◌∷◌, [], List, true, false, length, refl, ◌∙◌, sym, ap, subst, arith, map, Some, None, slice_get}
use Rattle.std.proofs.lemmas.Option.{none-some, same_Some}
use Rattle.lock_needs.specs.declared.party.Asked.{Asked}
use Rattle.lock_tree_laws.specs.Forest.{Parties, idle, open_asks, party_of}
use Rattle.rdb_account.specs.Places.{Opening, start}
use Rattle.line_view.specs.Held.{knows, nothing}
use Rattle.line_steps.specs.session_jobs.Records.{Model, IsOrderly}
use Rattle.line_store.specs.Seats.{Seat, outside, beginning, writing, changing, broken, prepared, committing, rolling_back, closing, reading, copying, dead, in_flight, set_aside, lines_written}
use Rattle.line_steps.specs.lock_ties.Ties.{AreTied, IsTiedTo}
use Rattle.journal_waits.specs.Holders.{KeepsTo}
use Rattle.line_steps.specs.Images.{journal_node}
use Rattle.session_states.proofs.Journal.{keeps-none}
use Rattle.line_steps.specs.Members.{Member as Seen}
use Rattle.line_steps.specs.Right.{Ground, Stands}
use Rattle.session_states.specs.declared.stage.Member.{Member}
use Rattle.session_states.specs.States.{seen}
use Rattle.session_states.specs.Shared.{Shared}
use Rattle.session_states.specs.Fits.{LifeFits}
use Rattle.store_counts.proofs.Kept.{counted-start}
use Rattle.session_states.specs.Kept.{IsFresh, IsOpened, AreKept}

map-got : {A B : Type 0} (f : A → B) (xs : List A) (i : ℕ) (y : B) → slice_get (map f xs) i ≡ Some y → (x : A) × (slice_get xs i ≡ Some x) × (f x ≡ y)
map-got f [] i y h = absurd (none-some y h)
map-got f (x ∷ xs) zero y h = (x, refl, same_Some (f x) y h)
map-got f (x ∷ xs) (suc i) y h = map-got f xs i y h

some-aside : (n : ℕ) → 1 + n ≡ 0 → ⊥
some-aside n h = omega (arith, h)

-- nobody has or wants anything
none-tied : (o : Opening) (c : Shared) → c.locks.parties ≡ [] → c.locks.trail ≡ [] → IsTiedTo (start o) c.locks
none-tied o c parties trail =
    subst (λ (ps : Parties). AreTied (start o) (party_of ps) (open_asks ps c.locks.trail)) (sym parties)
    (subst (λ (asks : List Asked). AreTied (start o) (party_of []) (open_asks [] asks)) (sym trail)
    (record { needs = λ s. refl; asks = refl; wants = λ s. refl }))

-- for whom nothing is set aside, no commit is under way
idle-flies : (seat : Seat) → set_aside seat ≡ 0 → in_flight seat ≡ None
idle-flies outside h = refl
idle-flies beginning h = refl
idle-flies (writing ws) h = refl
idle-flies (changing ws) h = refl
idle-flies (broken ws) h = refl
idle-flies (prepared ws) h = refl
idle-flies (committing ws) h = absurd (some-aside (lines_written ws) h)
idle-flies (rolling_back ws) h = refl
idle-flies closing h = refl
idle-flies (reading start) h = refl
idle-flies (copying number start) h = refl
idle-flies (dead true ws) h = absurd (some-aside (lines_written ws) h)
idle-flies (dead false ws) h = refl

module _ (M : Model) (orderly : IsOrderly M) where
  abbrev opened_ground : Shared → Ground
  opened_ground c = record { now = c.shelf.now; desk = λ t. record { known = knows nothing; writes = []; start = c.shelf.now }; time = c.shelf.clock.time; dead = c.dead }

  fresh-stands : (o : Opening) (c : Shared) (s : ℕ) (m : Member) → IsFresh o c s m → Stands M o (start o) (opened_ground c) s (seen m)
  fresh-stands o c s m f = subst (λ (n : Member). Stands M o (start o) (opened_ground c) s (seen n)) (sym f.is)
      (record { answered = []; script = f.script; total = ap length f.script ∙ f.total; count = refl; lives = refl; state = refl })

  fresh-fits : (o : Opening) (c : Shared) (s : ℕ) (m : Member) → c.locks.parties ≡ [] → IsFresh o c s m → LifeFits M (start o) (opened_ground c) c s m.left m.phase m.life
  fresh-fits o c s m parties f = subst (λ (n : Member). LifeFits M (start o) (opened_ground c) c s n.left n.phase n.life) (sym f.is) (f.seat, ap (λ (ps : Parties). (party_of ps s).opened) parties)

  pub opened : (o : Opening) (c : Shared) (members : List Member) → IsOpened M o c → ((i : ℕ) (m : Member) → slice_get members i ≡ Some m → IsFresh o c (suc i) m) → AreKept M o c members []
  opened o c members is fresh = record {
    ground = opened_ground c;
    word = is.word;
    right = record {
      legal = record { steps = tt; settled = refl };
      fit = record { dead = sym is.dead; past = is.past; order = orderly c.shelf.now o.tables is.stands; stands = is.stands; apart = λ a b other. refl };
      each = λ i y e. let at = map-got seen members i y e in subst (λ (n : Seen). Stands M o (start o) (opened_ground c) (suc i) n) at.2 (fresh-stands o c (suc i) at.0 (fresh i at.0 at.1));
    };
    is_ground = record { now = refl; time = refl; dead = refl };
    tied = none-tied o c is.parties is.trail;
    phases = λ i m e. fresh-fits o c (suc i) m is.parties (fresh i m e);
    counted = counted-start o c.shelf is.counted;
    flies = λ t ws e. absurd (none-some ws (sym (idle-flies (c.shelf.seat t) (is.counted.idle t)) ∙ e));
    journal = λ t. subst (λ (ps : Parties). KeepsTo journal_node (party_of ps t)) (sym is.parties) (keeps-none idle refl refl);
  }
